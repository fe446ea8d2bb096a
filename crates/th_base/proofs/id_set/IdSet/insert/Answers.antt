use Rattle.std.proofs.Common.{sym, ap, not}
use Rattle.th_base.proofs.Ascending.{found, found_present, found_absent, found_place, inserted_present, IsAscending-inserted}
use Rattle.th_base.proofs.id_set.IdSet.insert.Goals as goal

pub invariant_of-self-in-Err : goal.invariant_of-self-in-Err
invariant_of-self-in-Err c =
    let ascending = rw (← c.as_slice.ensures.value) at c.self.invariant in
    let place = found c.as_slice.result.now c.args.id c.binary_search.result c.binary_search.ensures.position ascending in
    let new = found_place c.as_slice.result.now c.args.id c.binary_search.result place c.in-Err.at c.in-Err.is in
    rw (c.in_ok-insert-in-Err.ensures.items, ← c.as_slice.ensures.value, new) (IsAscending-inserted c.args.id c.as_slice.result.now ascending)

pub returns-in-Ok-clause-ok : goal.returns-in-Ok-clause-ok
returns-in-Ok-clause-ok c =
    let ascending = rw (← c.as_slice.ensures.value) at c.self.invariant in
    let place = found c.as_slice.result.now c.args.id c.binary_search.result c.binary_search.ensures.position ascending in
    rw (← c.self.view_is, ← c.as_slice.ensures.value)
    (sym (inserted_present c.args.id c.as_slice.result.now ascending
    (found_present c.as_slice.result.now c.args.id c.binary_search.result place c.in-Ok.field-0 c.in-Ok.is)))

pub returns-in-Ok-clause-new : goal.returns-in-Ok-clause-new
returns-in-Ok-clause-new c =
    let ascending = rw (← c.as_slice.ensures.value) at c.self.invariant in
    let place = found c.as_slice.result.now c.args.id c.binary_search.result c.binary_search.ensures.position ascending in
    rw (← c.self.view_is, ← c.as_slice.ensures.value)
    (ap not (sym (found_present c.as_slice.result.now c.args.id c.binary_search.result place c.in-Ok.field-0 c.in-Ok.is)))

pub returns-in_ok-insert-in-Err-clause-ok : goal.returns-in_ok-insert-in-Err-clause-ok
returns-in_ok-insert-in-Err-clause-ok c =
    let ascending = rw (← c.as_slice.ensures.value) at c.self.invariant in
    let place = found c.as_slice.result.now c.args.id c.binary_search.result c.binary_search.ensures.position ascending in
    rw (c.in_ok-insert-in-Err.ensures.items, ← c.self.view_is, ← c.as_slice.ensures.value)
    (found_place c.as_slice.result.now c.args.id c.binary_search.result place c.in-Err.at c.in-Err.is)

pub returns-in_ok-insert-in-Err-clause-new : goal.returns-in_ok-insert-in-Err-clause-new
returns-in_ok-insert-in-Err-clause-new c =
    let ascending = rw (← c.as_slice.ensures.value) at c.self.invariant in
    let place = found c.as_slice.result.now c.args.id c.binary_search.result c.binary_search.ensures.position ascending in
    rw (← c.self.view_is, ← c.as_slice.ensures.value)
    (ap not (sym (found_absent c.as_slice.result.now c.args.id c.binary_search.result place c.in-Err.at c.in-Err.is)))

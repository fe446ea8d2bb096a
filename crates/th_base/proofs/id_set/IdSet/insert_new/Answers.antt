use Rattle.std.proofs.Common.{◌≡◌, ◌∙◌, ap}
use Rattle.th_base.specs.IdSet.{IsAscending, union_of, intersection_of, difference_of}
use Rattle.th_base.proofs.Ascending.{IsAscending-union_of}
use Rattle.th_base.proofs.Sieve.{difference_apart, union_of-difference_of}
use Rattle.th_base.proofs.id_set.IdSet.insert_new.Goals as goal

pub merge_into-requires-clause-apart : goal.merge_into-requires-clause-apart
merge_into-requires-clause-apart c =
    let set : c.make_room.new.items.items ≡ c.args.self.now = cc in
    let fresh : c.ids-2.result.now ≡ difference_of c.args.news.now c.args.self.now = cc in
    let ascending : IsAscending c.args.self.now = rw (← c.self.view_is) c.self.invariant in
    rw (set, fresh) (difference_apart c.args.self.now c.args.news.now ascending)

pub invariant_of-self-3 : goal.invariant_of-self-3
invariant_of-self-3 c =
    let set : c.make_room.new.items.items ≡ c.args.self.now = cc in
    let ascending : IsAscending c.args.self.now = rw (← c.self.view_is) c.self.invariant in
    rw (c.merge_into.ensures, set) (IsAscending-union_of c.args.self.now c.ids-2.result.now ascending)

pub returns-clause-ok : goal.returns-clause-ok
returns-clause-ok c =
    let set : c.make_room.new.items.items ≡ c.args.self.now = cc in
    let fresh : c.ids-2.result.now ≡ difference_of c.args.news.now c.args.self.now = cc in
    let ascending : IsAscending c.args.self.now = rw (← c.self.view_is) c.self.invariant in
    c.merge_into.ensures ∙ ap (λ l. union_of l c.ids-2.result.now) set ∙ ap (λ l. union_of c.args.self.now l) fresh
    ∙ union_of-difference_of c.args.self.now c.args.news.now ascending

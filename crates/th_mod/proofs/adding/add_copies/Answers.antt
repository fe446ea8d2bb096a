use Rattle.std.proofs.Common.{◌<◌, length, get_or, sym, ap, subst}
use Rattle.std.proofs.lemmas.List.Elements.{Contains-get_or}
use Rattle.th_incl.specs.declared.constraints.Inclusion.{Inclusion}
use Rattle.th_mod.proofs.adding.add_copies.Goals as goal

pub add_copy-requires-clause-from : goal.add_copy-requires-clause-from
add_copy-requires-clause-from c =
    let none : Inclusion = record { from = 0; to = 0; filter = 0 } in
    let j : Inclusion = get_or c.args.copies.now c.loop-at.at none in
    let known = c.requires.sets j (Contains-get_or c.args.copies.now c.loop-at.at none c.loop-at-test.true) in
    subst (λ n. j.from < n) (sym (ap (λ s. s.sets) c.loop-at.invariant)) known.0

pub add_copy-requires-clause-to : goal.add_copy-requires-clause-to
add_copy-requires-clause-to c =
    let none : Inclusion = record { from = 0; to = 0; filter = 0 } in
    let j : Inclusion = get_or c.args.copies.now c.loop-at.at none in
    let known = c.requires.sets j (Contains-get_or c.args.copies.now c.loop-at.at none c.loop-at-test.true) in
    subst (λ n. j.to < n) (sym (ap (λ s. s.sets) c.loop-at.invariant)) known.1

pub add_copy-requires-clause-filter : goal.add_copy-requires-clause-filter
add_copy-requires-clause-filter c =
    let none : Inclusion = record { from = 0; to = 0; filter = 0 } in
    let j : Inclusion = get_or c.args.copies.now c.loop-at.at none in
    let known = c.requires.filters j (Contains-get_or c.args.copies.now c.loop-at.at none c.loop-at-test.true) in
    subst (λ l. j.filter < length l) (sym (ap (λ s. s.filters) c.loop-at.invariant)) known

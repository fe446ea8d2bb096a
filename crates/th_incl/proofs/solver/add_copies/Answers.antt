use Rattle.std.proofs.Common.{◌<◌, length, sym, ap, ◌∙◌, subst, get_or}
use Rattle.std.specs.List.{Contains}
use Rattle.std.proofs.lemmas.List.Elements.{Contains-get_or}
use Rattle.th_incl.specs.declared.constraints.Inclusion.{Inclusion}
use Rattle.th_incl.proofs.Through.{no_inclusion}
use Rattle.th_incl.proofs.solver.add_copies.Goals as goal

pub add_copy-requires-clause-from : goal.add_copy-requires-clause-from
add_copy-requires-clause-from c =
    let v = c.loop-inclusion.invariant in
    let j : Inclusion = get_or c.as_slice-inclusion-items.result.now c.loop-inclusion.inclusion-index no_inclusion in
    let one = Contains-get_or c.as_slice-inclusion-items.result.now c.loop-inclusion.inclusion-index no_inclusion c.loop-inclusion-test.true in
    let inside = c.requires.range.copies j (subst (λ l. Contains l j) v.items one) in
    subst (λ n. j.from < n) (sym (ap (λ s. s.constraints.sets) v.solver ∙ c.requires.sets)) inside.0

pub add_copy-requires-clause-to : goal.add_copy-requires-clause-to
add_copy-requires-clause-to c =
    let v = c.loop-inclusion.invariant in
    let j : Inclusion = get_or c.as_slice-inclusion-items.result.now c.loop-inclusion.inclusion-index no_inclusion in
    let one = Contains-get_or c.as_slice-inclusion-items.result.now c.loop-inclusion.inclusion-index no_inclusion c.loop-inclusion-test.true in
    let inside = c.requires.range.copies j (subst (λ l. Contains l j) v.items one) in
    subst (λ n. j.to < n) (sym (ap (λ s. s.constraints.sets) v.solver ∙ c.requires.sets)) inside.1

pub add_copy-requires-clause-filter : goal.add_copy-requires-clause-filter
add_copy-requires-clause-filter c =
    let v = c.loop-inclusion.invariant in
    let j : Inclusion = get_or c.as_slice-inclusion-items.result.now c.loop-inclusion.inclusion-index no_inclusion in
    let one = Contains-get_or c.as_slice-inclusion-items.result.now c.loop-inclusion.inclusion-index no_inclusion c.loop-inclusion-test.true in
    let inside = c.requires.range.copies j (subst (λ l. Contains l j) v.items one) in
    subst (λ l. j.filter < length l) (sym (ap (λ s. s.constraints.filters) v.solver ∙ c.requires.filters)) inside.2

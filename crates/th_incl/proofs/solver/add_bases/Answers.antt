use Rattle.std.proofs.Common.{ℕ, ◌<◌, get_or, sym, ap, ◌∙◌, subst}
use Rattle.std.specs.List.{Contains}
use Rattle.std.proofs.lemmas.List.Elements.{Contains-get_or}
use Rattle.th_incl.proofs.solver.add_bases.Goals as goal

pub add_base-requires : goal.add_base-requires
add_base-requires c =
    let v = c.loop-set.invariant in
    let p : ℕ × ℕ = get_or c.as_slice-set-items.result.now c.loop-set.set-index (0, 0) in
    let one = Contains-get_or c.as_slice-set-items.result.now c.loop-set.set-index (0, 0) c.loop-set-test.true in
    let inside = c.requires.range.base p.0 p.1 (subst (λ l. Contains l p) v.items one) in
    subst (λ n. p.0 < n) (sym (ap (λ s. s.constraints.sets) v.solver ∙ c.requires.sets)) inside

use Rattle.std.proofs.Common.{◌≡◌, ℕ, ◌<◌, List, length, Some, true, sym, subst, arith, ◌∙◌}
use Rattle.std.specs.List.{AllByRecursion}
use Rattle.th_base.specs.IdSet.{has}
use Rattle.th_incl.specs.Least.{set_at}
use Rattle.th_incl.proofs.Through.{read_at}
use Rattle.th_ir.specs.Sites.{launch_class}
use Rattle.th_points_to.specs.declared.place.Place.TheVariants.{Register}
use Rattle.th_points_to.specs.Places.{Gives}
use Rattle.th_points_to.proofs.Adding.{adds_as, adds_none}
use Rattle.th_points_to.proofs.Pairs.{all_has, all_by_has}
use Rattle.th_points_to.proofs.nodes.pick.Goals as goal

pub returns-then-at-launched : goal.returns-then-at-launched
returns-then-at-launched c =
    let l = c.args.layout in
    let p = c.args.program.now in
    let h = c.args.hierarchy.now in
    let k = c.args.class.0 in
    let row = c.args.launched.now in
    let within : k < length row = c.if-at-launched.true in
    let inside : k < length h = omega (arith, within, c.requires.launched.len) in
    let sites = c.as_slice.result.now in
    let is : sites ≡ set_at row k = c.as_slice.ensures ∙ read_at row k c.index-launched-at.result c.index-launched-at.is within in
    adds_as l p c.args.found.now c.give_all.new.found (λ t. AllByRecursion (λ (s : ℕ). Gives l t (Register c.args.dst) s) sites)
    (λ t. k < length h → (s : ℕ) → launch_class p s ≡ Some k → Gives l t (Register c.args.dst) s)
    (λ t gives. all_by_has (λ (s : ℕ). Gives l t (Register c.args.dst) s) sites (λ s e. gives inside s (c.requires.launched.only k s (subst (λ (xs : List ℕ). has xs s ≡ true) is e))))
    (λ t range all there s e.
    all_has (λ (s : ℕ). Gives l t (Register c.args.dst) s) sites s all (subst (λ (xs : List ℕ). has xs s ≡ true) (sym is) (c.requires.launched.all k s inside e)))
    (c.in_ok-give_all.ensures p)

pub returns : goal.returns
returns c =
    adds_none c.args.layout c.args.program.now c.args.found.now _ c.requires.laid (λ t range inside. absurd (omega (arith, inside, c.if-at-launched.false, c.requires.launched.len)))

use Rattle.std.proofs.Common.{◌≡◌, ◌<◌, ◌++◌, List, ℕ, Some, length, get_or, sym, ap, subst, arith, append_assoc, ◌∙◌}
use Rattle.std.specs.Prelude.{codes, option_to_list}
use Rattle.std.specs.Option.{option_map}
use Rattle.th_base.specs.declared.class.MethodInfo.{MethodInfo}
use Rattle.th_base.specs.Hierarchy.{declared_method}
use Rattle.th_flow.specs.Inverted.{initialisers_along}
use Rattle.th_flow.proofs.Upward.{IsClass, line_from, super_is_class, walk, standing}
use Rattle.th_flow.proofs.initialising.initialisers_of.Goals as goal

pub loop-next-smaller : goal.loop-next-smaller
loop-next-smaller c =
    let h = c.args.hierarchy.now in
    let at = c.in-Some.at in
    let info = c.index-classes-at.result in
    let inside : at.0 < length h = subst (IsClass h) c.in-Some.is c.loop-next.invariant.inside in
    let acyclic = c.classes-classes.ensures.acyclic in
    let stands = standing h c.classes-classes.result.now at.0 info c.classes-classes.ensures.value c.index-classes-at.is inside in
    let above = get_or c.classes-classes.result.now at.0 info in
    let line = walk h at info c.loop-next.next above.super_id (c.lineage_goes_up.ensures h at.0 acyclic inside) stands c.in-Some.is (ap (λ k. k.super_id) (sym c.index-classes-at.is)) in
    let long = ap (λ (l : List ℕ). length l) line in
    omega (arith, long)

pub loop-next-preserved : goal.loop-next-preserved
loop-next-preserved c =
    let h = c.args.hierarchy.now in
    let at = c.in-Some.at in
    let info = c.index-classes-at.result in
    let inside : at.0 < length h = subst (IsClass h) c.in-Some.is c.loop-next.invariant.inside in
    let acyclic = c.classes-classes.ensures.acyclic in
    let stands = standing h c.classes-classes.result.now at.0 info c.classes-classes.ensures.value c.index-classes-at.is inside in
    let above = get_or c.classes-classes.result.now at.0 info in
    let same = ap (λ k. k.super_id) (sym c.index-classes-at.is) in
    let line = walk h at info c.loop-next.next above.super_id (c.lineage_goes_up.ensures h at.0 acyclic inside) stands c.in-Some.is same in
    let found : List ℕ = c.loop-next.found.items in
    let own : List ℕ = option_to_list (option_map (λ (i : MethodInfo). i.id.0) (declared_method h (codes "<clinit>") (codes "()V") at.0)) in
    let rest : List ℕ = initialisers_along h (line_from h above.super_id) in
    record {
      inside = subst (IsClass h) (sym same) (super_is_class h at.0 info acyclic stands);
      rest = c.loop-next.invariant.rest ∙ ap (λ l. found ++ initialisers_along h l) line ∙ sym (append_assoc found own rest) ∙ ap (λ (l : List ℕ). l ++ rest) (sym c.in_ok-add_own.ensures);
    }

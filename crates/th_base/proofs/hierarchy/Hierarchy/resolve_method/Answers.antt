use Rattle.std.proofs.Common.{◌≡◌, false, sym, ap, subst, ◌∙◌}
use Rattle.std.specs.Option.{option_or}
use Rattle.std.specs.Prelude.{codes}
use Rattle.std.specs.Str.{bytes_eq}
use Rattle.th_base.specs.Ancestors.{AreAncestors}
use Rattle.th_base.specs.Hierarchy.{IsAcyclic, first_method, superinterfaces_of}
use Rattle.th_base.proofs.Looked.{line_is, line_inside, superinterfaces_serve, method_served, resolved_upwards}
use Rattle.th_base.proofs.hierarchy.Hierarchy.resolve_method.Goals as goal

pub method_on-requires : goal.method_on-requires
method_on-requires c =
    let cs = c.args.self.now in
    let rows = c.self.inside.above.items in
    let at = c.args.class.0 in
    let above : AreAncestors cs rows = subst (λ k. AreAncestors k rows) c.self.view_is c.self.invariant.above in
    let acyclic : IsAcyclic cs = subst IsAcyclic c.self.view_is c.self.invariant.acyclic in
    let line = line_is cs rows at c.index-above.result.now c.as_slice.result.now above c.requires c.index-above.ensures c.as_slice.ensures in
    line_inside cs at c.as_slice.result.now acyclic c.requires line

pub method_on-requires-in-None : goal.method_on-requires-in-None
method_on-requires-in-None c =
    let cs = c.args.self.now in
    let rows = c.self.inside.above.items in
    let at = c.args.class.0 in
    let above : AreAncestors cs rows = subst (λ k. AreAncestors k rows) c.self.view_is c.self.invariant.above in
    let acyclic : IsAcyclic cs = subst IsAcyclic c.self.view_is c.self.invariant.acyclic in
    (superinterfaces_serve cs rows at c.index-above.result.now c.as_slice-in-None.result.now above c.requires c.index-above.ensures c.as_slice-in-None.ensures).inside

pub returns-in-Some : goal.returns-in-Some
returns-in-Some c =
    let cs = c.args.self.now in
    let rows = c.self.inside.above.items in
    let at = c.args.class.0 in
    let above : AreAncestors cs rows = subst (λ k. AreAncestors k rows) c.self.view_is c.self.invariant.above in
    let acyclic : IsAcyclic cs = subst IsAcyclic c.self.view_is c.self.invariant.acyclic in
    let line = line_is cs rows at c.index-above.result.now c.as_slice.result.now above c.requires c.index-above.ensures c.as_slice.ensures in
    let name = c.args.name.now in
    let descriptor = c.args.descriptor.now in
    let other : bytes_eq name (codes "<init>") ≡ false = ap (λ l. bytes_eq name l) (sym c.as_bytes.ensures.value) ∙ sym c.if-eq.ensures in
    sym (resolved_upwards cs at name descriptor other
    ∙ ap (λ o. option_or o (first_method cs name descriptor (superinterfaces_of cs at))) (ap (first_method cs name descriptor) (sym line) ∙ sym c.in-Some.ensures))

pub returns-in-None : goal.returns-in-None
returns-in-None c =
    let cs = c.args.self.now in
    let rows = c.self.inside.above.items in
    let at = c.args.class.0 in
    let above : AreAncestors cs rows = subst (λ k. AreAncestors k rows) c.self.view_is c.self.invariant.above in
    let acyclic : IsAcyclic cs = subst IsAcyclic c.self.view_is c.self.invariant.acyclic in
    let line = line_is cs rows at c.index-above.result.now c.as_slice.result.now above c.requires c.index-above.ensures c.as_slice.ensures in
    let name = c.args.name.now in
    let descriptor = c.args.descriptor.now in
    let other : bytes_eq name (codes "<init>") ≡ false = ap (λ l. bytes_eq name l) (sym c.as_bytes.ensures.value) ∙ sym c.if-eq.ensures in
    let serves = superinterfaces_serve cs rows at c.index-above.result.now c.as_slice-in-None.result.now above c.requires c.index-above.ensures c.as_slice-in-None.ensures in
    c.method_on-in-None.ensures ∙ method_served cs at c.as_slice-in-None.result.now name descriptor serves
    ∙ sym (resolved_upwards cs at name descriptor other
    ∙ ap (λ o. option_or o (first_method cs name descriptor (superinterfaces_of cs at))) (ap (first_method cs name descriptor) (sym line) ∙ sym c.in-None.ensures))

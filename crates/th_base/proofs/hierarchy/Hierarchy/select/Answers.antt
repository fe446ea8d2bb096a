use Rattle.std.proofs.Common.{◌≡◌, ◌<◌, ℕ, cond, Some, None, length, sym, ap, subst, ◌∙◌}
use Rattle.std.specs.Option.{option_map, option_copied}
use Rattle.th_base.specs.declared.class.MethodInfo.{MethodInfo}
use Rattle.th_base.specs.Ancestors.{AreAncestors}
use Rattle.th_base.specs.Hierarchy.{IsAcyclic, overriding_along, lineage_of}
use Rattle.th_base.proofs.Looked.{line_is, line_inside, selected_by}
use Rattle.th_base.proofs.hierarchy.Hierarchy.select.Goals as goal

pub overriding_along-method-requires-clause-inside : goal.overriding_along-method-requires-clause-inside
overriding_along-method-requires-clause-inside c =
    let cs = c.args.self.now in
    let rows = c.self.inside.above.items in
    let at = c.args.class.0 in
    let above : AreAncestors cs rows = subst (λ k. AreAncestors k rows) c.self.view_is c.self.invariant.above in
    let acyclic : IsAcyclic cs = subst IsAcyclic c.self.view_is c.self.invariant.acyclic in
    let line = line_is cs rows at c.index.result.now c.as_slice-3.result.now above c.requires c.index.ensures c.as_slice-3.ensures in
    λ x h. subst (λ k. x < length k) (sym (c.as_slice.ensures ∙ c.self.view_is)) (line_inside cs at c.as_slice-3.result.now acyclic c.requires line x h)

pub returns-in-Some : goal.returns-in-Some
returns-in-Some c =
    let cs = c.args.self.now in
    let rows = c.self.inside.above.items in
    let at = c.args.class.0 in
    let above : AreAncestors cs rows = subst (λ k. AreAncestors k rows) c.self.view_is c.self.invariant.above in
    let acyclic : IsAcyclic cs = subst IsAcyclic c.self.view_is c.self.invariant.acyclic in
    let line = line_is cs rows at c.index.result.now c.as_slice-3.result.now above c.requires c.index.ensures c.as_slice-3.ensures in
    let name = c.args.name.now in
    let descriptor = c.args.descriptor.now in
    let same : overriding_along c.as_slice.result.now c.as_bytes.result.now c.as_bytes-2.result.now c.as_slice-3.result.now ≡ overriding_along cs name descriptor (lineage_of cs at) =
    ap (λ k. overriding_along k c.as_bytes.result.now c.as_bytes-2.result.now c.as_slice-3.result.now) (c.as_slice.ensures ∙ c.self.view_is)
    ∙ ap (λ k. overriding_along cs k c.as_bytes-2.result.now c.as_slice-3.result.now) c.as_bytes.ensures
    ∙ ap (λ k. overriding_along cs name k c.as_slice-3.result.now) c.as_bytes-2.ensures
    ∙ ap (overriding_along cs name descriptor) line in
    let found = ap (option_map (λ (f : ℕ × MethodInfo). f.1)) same in
    let method = c.in-Some.found.now in
    sym (selected_by (overriding_along cs name descriptor (lineage_of cs at)) (Some method) (c.in-Some.ensures ∙ found) ∙ ap (λ b. cond b None (Some method.id)) c.if-not-found.true)

pub returns-in_default : goal.returns-in_default
returns-in_default c =
    let cs = c.args.self.now in
    let rows = c.self.inside.above.items in
    let at = c.args.class.0 in
    let above : AreAncestors cs rows = subst (λ k. AreAncestors k rows) c.self.view_is c.self.invariant.above in
    let acyclic : IsAcyclic cs = subst IsAcyclic c.self.view_is c.self.invariant.acyclic in
    let line = line_is cs rows at c.index.result.now c.as_slice-3.result.now above c.requires c.index.ensures c.as_slice-3.ensures in
    let name = c.args.name.now in
    let descriptor = c.args.descriptor.now in
    let same : overriding_along c.as_slice.result.now c.as_bytes.result.now c.as_bytes-2.result.now c.as_slice-3.result.now ≡ overriding_along cs name descriptor (lineage_of cs at) =
    ap (λ k. overriding_along k c.as_bytes.result.now c.as_bytes-2.result.now c.as_slice-3.result.now) (c.as_slice.ensures ∙ c.self.view_is)
    ∙ ap (λ k. overriding_along cs k c.as_bytes-2.result.now c.as_slice-3.result.now) c.as_bytes.ensures
    ∙ ap (λ k. overriding_along cs name k c.as_slice-3.result.now) c.as_bytes-2.ensures
    ∙ ap (overriding_along cs name descriptor) line in
    let found = ap (option_map (λ (f : ℕ × MethodInfo). f.1)) same in
    let method = c.in-Some.found.now in
    sym (selected_by (overriding_along cs name descriptor (lineage_of cs at)) (Some method) (c.in-Some.ensures ∙ found) ∙ ap (λ b. cond b None (Some method.id)) c.if-not-found.false)

pub returns-in_default-2 : goal.returns-in_default-2
returns-in_default-2 c =
    let cs = c.args.self.now in
    let rows = c.self.inside.above.items in
    let at = c.args.class.0 in
    let above : AreAncestors cs rows = subst (λ k. AreAncestors k rows) c.self.view_is c.self.invariant.above in
    let acyclic : IsAcyclic cs = subst IsAcyclic c.self.view_is c.self.invariant.acyclic in
    let line = line_is cs rows at c.index.result.now c.as_slice-3.result.now above c.requires c.index.ensures c.as_slice-3.ensures in
    let name = c.args.name.now in
    let descriptor = c.args.descriptor.now in
    let same : overriding_along c.as_slice.result.now c.as_bytes.result.now c.as_bytes-2.result.now c.as_slice-3.result.now ≡ overriding_along cs name descriptor (lineage_of cs at) =
    ap (λ k. overriding_along k c.as_bytes.result.now c.as_bytes-2.result.now c.as_slice-3.result.now) (c.as_slice.ensures ∙ c.self.view_is)
    ∙ ap (λ k. overriding_along cs k c.as_bytes-2.result.now c.as_slice-3.result.now) c.as_bytes.ensures
    ∙ ap (λ k. overriding_along cs name k c.as_slice-3.result.now) c.as_bytes-2.ensures
    ∙ ap (overriding_along cs name descriptor) line in
    let found = ap (option_map (λ (f : ℕ × MethodInfo). f.1)) same in
    sym (selected_by (overriding_along cs name descriptor (lineage_of cs at)) None (ap option_copied (sym c.in_default.is) ∙ c.overriding_along-method.ensures ∙ found))

use Rattle.std.proofs.Common.{rules, ◌≡◌, ℕ, true, false, Some, None, sym, ◌∙◌}
use Rattle.std.specs.Option.{option_map}
use Rattle.th_base.specs.declared.number.MethodId.{MethodId}
use Rattle.th_base.specs.Hierarchy.{numbered_method, supertypes_of}
use Rattle.th_base.specs.IdSet.{has}
use Rattle.th_ir.specs.Sites.{site_class}
use Rattle.th_points_to.proofs.NumberedMethods.{target_unknown, target_apart, target_found}
use Rattle.th_points_to.proofs.TargetLemmas.{site_class_inside}
use Rattle.th_points_to.proofs.targets.site_target.Goals as goal

pub is_class_subtype-requires : goal.is_class_subtype-requires
is_class_subtype-requires c =
    let class : site_class c.args.hierarchy.now c.args.program.now c.args.site.0 ≡ Some c.in_ok-class.class.0 = search rules in
    site_class_inside c.args.hierarchy.now c.args.program.now c.args.site.0 c.in_ok-class.class.0 class

pub target_by-requires : goal.target_by-requires
target_by-requires c =
    let class : site_class c.args.hierarchy.now c.args.program.now c.args.site.0 ≡ Some c.in_ok-class.class.0 = search rules in
    site_class_inside c.args.hierarchy.now c.args.program.now c.args.site.0 c.in_ok-class.class.0 class

pub returns-in_err-declared : goal.returns-in_err-declared
returns-in_err-declared c = λ are.
    let class : site_class c.args.hierarchy.now c.args.program.now c.args.site.0 ≡ Some c.in_ok-class.class.0 = search rules in
    let found : numbered_method c.args.hierarchy.now c.args.method.0 ≡ None = search rules in
    let none : option_map {T = MethodId} {U = ℕ} (λ to. to.0) c.from_residual-in_err-declared.result ≡ None = search rules in
    none ∙ target_unknown c.args.hierarchy.now c.args.program.now c.args.kind c.args.method.0 c.args.site.0 c.in_ok-class.class.0 are class found

pub returns-then-not-is_class_subtype : goal.returns-then-not-is_class_subtype
returns-then-not-is_class_subtype c = λ are.
    let class : site_class c.args.hierarchy.now c.args.program.now c.args.site.0 ≡ Some c.in_ok-class.class.0 = search rules in
    let found : numbered_method c.args.hierarchy.now c.args.method.0 ≡ Some (c.in_ok-declared.declared.0.0, c.in_ok-declared.declared.1.now) = search rules in
    let no : has (supertypes_of c.args.hierarchy.now c.in_ok-class.class.0) c.in_ok-declared.declared.0.0 ≡ false = sym c.is_class_subtype.ensures ∙ c.if-not-is_class_subtype.true in
    target_apart c.args.hierarchy.now c.args.program.now c.args.kind c.args.method.0 c.args.site.0 c.in_ok-class.class.0 (c.in_ok-declared.declared.0.0, c.in_ok-declared.declared.1.now) are class found no

pub returns : goal.returns
returns c = λ are.
    let class : site_class c.args.hierarchy.now c.args.program.now c.args.site.0 ≡ Some c.in_ok-class.class.0 = search rules in
    let found : numbered_method c.args.hierarchy.now c.args.method.0 ≡ Some (c.in_ok-declared.declared.0.0, c.in_ok-declared.declared.1.now) = search rules in
    let yes : has (supertypes_of c.args.hierarchy.now c.in_ok-class.class.0) c.in_ok-declared.declared.0.0 ≡ true = sym c.is_class_subtype.ensures ∙ c.if-not-is_class_subtype.false in
    c.target_by.ensures
    ∙ target_found c.args.hierarchy.now c.args.program.now c.args.kind c.args.method.0 c.args.site.0 c.in_ok-class.class.0 (c.in_ok-declared.declared.0.0, c.in_ok-declared.declared.1.now) are class found yes

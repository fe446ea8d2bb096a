use Rattle.std.proofs.Common.{rules, ◌≡◌, ℕ, Some, None, ◌∙◌}
use Rattle.std.specs.Option.{option_map}
use Rattle.th_base.specs.declared.number.MethodId.{MethodId}
use Rattle.th_base.specs.Hierarchy.{numbered_method}
use Rattle.th_points_to.proofs.NumberedMethods.{static_unknown, static_found}
use Rattle.th_points_to.proofs.targets.static_target.Goals as goal

pub returns-in_err-declared : goal.returns-in_err-declared
returns-in_err-declared c = λ are.
    let found : numbered_method c.args.hierarchy.now c.args.method.0 ≡ None = search rules in
    let none : option_map {T = MethodId} {U = ℕ} (λ to. to.0) c.from_residual.result ≡ None = search rules in
    none ∙ static_unknown c.args.hierarchy.now c.args.method.0 are found

pub returns : goal.returns
returns c = λ are.
    let found : numbered_method c.args.hierarchy.now c.args.method.0 ≡ Some (c.in_ok-declared.declared.0.0, c.in_ok-declared.declared.1.now) = search rules in
    c.with_code.ensures ∙ static_found c.args.hierarchy.now c.args.method.0 (c.in_ok-declared.declared.0.0, c.in_ok-declared.declared.1.now) are found

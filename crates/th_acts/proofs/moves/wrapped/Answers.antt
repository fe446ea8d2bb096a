use Rattle.std.proofs.Common.{◌≡◌, ◌∙◌, ap, rules, to_z, of_z, w64}
use Rattle.std.specs.Prelude.{pos}
use Rattle.std.proofs.Math.IntN.{+ℤ_idr}
use Rattle.th_wrap.specs.Arithmetic.{sum_of}
use Rattle.th_wrap.specs.TwosComplement.{wrapped_value}
use Rattle.th_acts.proofs.moves.wrapped.Goals as goal

pub returns : goal.returns
returns c =
    let given : to_z w64 (of_z w64 c.args.n) ≡ c.args.n = search rules in
    let made : to_z w64 (of_z w64 c.add64.result) ≡ c.add64.result = search rules in
    made ∙ c.add64.ensures ∙ ap (λ m. sum_of 64 m (pos 0)) given ∙ ap (wrapped_value 64) (+ℤ_idr c.args.n)

use Rattle.std.proofs.Common.{refl, sym, ◌∙◌, arith}
use Rattle.std.specs.Prelude.{◌==◌}
use Rattle.th_harness.specs.Script.{is_bad_line}
use Rattle.th_harness.proofs.Lines.{line_within}
use Rattle.th_harness.proofs.script.check_form.Goals as goal

pub overflow_cast-result : goal.overflow_cast-result
overflow_cast-result c =
    let within = line_within (λ b. b == 10) is_bad_line c.args.bytes.now 0 c.in-Some.place refl (sym c.first_bad_line.ensures ∙ c.in-Some.is) in
    omega (arith, within)

pub overflow_add-result : goal.overflow_add-result
overflow_add-result c =
    let within = line_within (λ b. b == 10) is_bad_line c.args.bytes.now 0 c.in-Some.place refl (sym c.first_bad_line.ensures ∙ c.in-Some.is) in
    omega (arith, within)

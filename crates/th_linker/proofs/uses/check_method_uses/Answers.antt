use Rattle.std.proofs.Common.{◌≡◌, List, [], Option, Some, sym, subst, ap}
use Rattle.std.specs.List.{flat_map}
use Rattle.std.specs.Option.{option_map_or}
use Rattle.th_syntax.specs.declared.class_file.Code.{Code}
use Rattle.th_syntax.specs.Flow.{reached_code}
use Rattle.th_syntax.specs.LinkChecks.{instr_refusals}
use Rattle.th_linker.specs.Checking.{Checks}
use Rattle.th_linker.proofs.uses.check_method_uses.Goals as goal

pub returns-in-Some : goal.returns-in-Some
returns-in-Some c =
    let refused = instr_refusals c.args.program.now c.args.class.now in
    let of_code = subst (λ instrs. Checks c.check_code.result (flat_map refused (reached_code instrs))) c.as_slice.ensures c.check_code.ensures in
    subst (λ (o : Option Code). Checks c.check_code.result (option_map_or (λ (k : Code). flat_map refused (reached_code k.instrs)) o [])) (sym c.in-Some.is) of_code

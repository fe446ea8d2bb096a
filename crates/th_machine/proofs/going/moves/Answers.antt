use Rattle.std.proofs.Common.{◌<◌, length, arith, subst}
use Rattle.std.specs.Prelude.{IfOk}
use Rattle.std.specs.Prelude.{◌≡◌}
use Rattle.th_syntax.specs.declared.machine.State.{State}
use Rattle.th_machine.specs.Standing.{slots_needed}
use Rattle.th_machine.proofs.Short.{short_ends}
use Rattle.th_machine.proofs.going.moves.Goals as goal

pub returns-then-len-slots_needed : goal.returns-then-len-slots_needed
returns-then-len-slots_needed c =
    let less : length c.args.frame.stack < slots_needed c.args.op = omega arith in
    subst (λ (x : State). IfOk c.ended.result (λ s. s ≡ x)) (short_ends c.args.program.now c.args.world c.args.frame c.args.op less) c.ended.ensures

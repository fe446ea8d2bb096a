use Rattle.std.proofs.Common.{arith, subst}
use Rattle.std.specs.Prelude.{IfSome}
use Rattle.th_base.specs.declared.number.ClassId.{ClassId}
use Rattle.th_base.specs.Cycles.{IsFirstBack}
use Rattle.th_base.proofs.Climbing.{on_cycle, no_cycle}
use Rattle.th_base.proofs.cycle.first_cycle.Goals as goal

pub returns-in-Some-clause-some : goal.returns-in-Some-clause-some
returns-in-Some-clause-some c =
    let back : IsFirstBack c.args.classes.now c.loop-number.number c.in-Some.supertype.0 =
    subst (λ o. IfSome o (λ (s : ClassId). IsFirstBack c.args.classes.now c.loop-number.number s.0)) c.in-Some.is c.in_ok-supertype.ensures.some in
    record { on_cycle = on_cycle c.args.classes.now c.loop-number.number c.in-Some.supertype.0 back; first = c.loop-number.invariant; supertype = back }

pub returns-clause-none : goal.returns-clause-none
returns-clause-none c = no_cycle c.args.classes.now c.loop-number.number (omega (arith, c.loop-number-test.false)) c.loop-number.invariant

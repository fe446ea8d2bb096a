use Rattle.std.proofs.Common.{◌≡◌, ◌≤◌, length, arith, ap}
use Rattle.th_machine.proofs.Happened.{absent_class}
use Rattle.th_machine.proofs.happening.launches_in.Goals as goal

pub returns-then-class-classes : goal.returns-then-class-classes
returns-then-class-classes c =
    let size : length c.classes.result.now ≡ length c.args.hierarchy.now = ap length c.classes.ensures.value in
    let past : length c.args.hierarchy.now ≤ c.args.class.0 = omega arith in
    absent_class c.args.hierarchy.now c.args.class.0 past

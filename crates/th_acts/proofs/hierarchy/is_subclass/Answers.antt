use Rattle.std.proofs.Common.{arith, sym, ap, length}
use Rattle.th_acts.proofs.Ranges.{above_past}
use Rattle.th_acts.proofs.hierarchy.is_subclass.Goals as goal

pub returns-then-above-count : goal.returns-then-above-count
returns-then-above-count c =
    let size = ap length c.classes-count.ensures.value in
    sym (above_past c.args.hierarchy.now c.args.class.0 c.args.above.0 c.classes-count.ensures.acyclic (omega arith) (omega arith))

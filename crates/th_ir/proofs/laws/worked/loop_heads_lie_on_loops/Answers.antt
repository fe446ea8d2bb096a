use Rattle.th_ir.proofs.WorkedLoops.{loop_head, meeting, no_way_back, no_copy}
use Rattle.th_ir.proofs.laws.worked.loop_heads_lie_on_loops.Goals as goal

pub returns : goal.returns
returns c = record { head = loop_head; meeting = meeting; no_way_back = no_way_back; no_copy = no_copy }

use Rattle.th_machine.proofs.Entries.{no_next}
use Rattle.th_machine.proofs.returning.next_at.Goals as goal

pub returns-in-None : goal.returns-in-None
returns-in-None c = no_next c.args.resolved.now c.args.method.0 c.args.offset c.in-None.ensures

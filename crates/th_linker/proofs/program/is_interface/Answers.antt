use Rattle.th_linker.proofs.Known.{interface_known}
use Rattle.th_linker.proofs.program.is_interface.Goals as goal

pub returns : goal.returns
returns c = interface_known c.args.program.now c.args.class.0 c.info_at.result.now c.info_at.ensures

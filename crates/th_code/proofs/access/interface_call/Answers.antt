use Rattle.th_code.proofs.Members.{interface_read, interface_fails}
use Rattle.th_code.proofs.access.interface_call.Goals as goal

pub returns-in-Ok : goal.returns-in-Ok
returns-in-Ok c =
    interface_read c.args.pool.now c.args.pc c.args.place.at c.args.place.rest.now _ _ _ _ _ _ _ _ _ _ _ _ c.is_zero-sound.result _ c.in_ok-index.ensures c.in_ok-place.ensures c.in_ok-last.ensures c.is_zero-sound.ensures c.in-Ok.ensures

pub returns-in-Err : goal.returns-in-Err
returns-in-Err c =
    interface_fails c.args.pool.now c.args.pc c.args.place.at c.args.place.rest.now _ _ _ _ _ _ _ _ _ _ _ _ c.is_zero-sound.result c.in-Err.fail c.in_ok-index.ensures c.in_ok-place.ensures c.in_ok-last.ensures c.is_zero-sound.ensures c.in-Err.ensures

use Rattle.th_steps.proofs.Knowing.{known_whole}
use Rattle.th_steps.proofs.known.are_known.Goals as goal

pub returns : goal.returns
returns c = known_whole c.args.query.now _ _ _ _ _ _ c.as_slice.ensures c.as_slice-2.ensures c.as_slice-3.ensures c.as_slice-4.ensures c.len.ensures c.are_below.ensures

use Rattle.th_canonical.proofs.Pairing.{frames_unequal}
use Rattle.th_canonical.proofs.subsumption.match_frames.Goals as goal

pub returns-then-frames-others : goal.returns-then-frames-others
returns-then-frames-others c = frames_unequal c.args.query.now c.args.by.now c.args.frames.now c.args.others.now c.args.matching.now c.if-frames-others.true

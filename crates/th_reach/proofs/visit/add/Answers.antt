use Rattle.th_reach.proofs.Visits.{adds_one}
use Rattle.th_reach.proofs.visit.add.Goals as goal

pub returns : goal.returns
returns c = adds_one c.args.found.now.keys c.insert.new.self.keys c.args.offset c.in_ok-insert.ensures.keys

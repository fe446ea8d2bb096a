use Rattle.th_kinds.proofs.Placing.{offsets_ascend, all_there}
use Rattle.th_kinds.proofs.listing.Listing.new.Goals as goal

pub returns-clause-ready : goal.returns-clause-ready
returns-clause-ready c = record {
  offsets = c.in_ok-offsets.ensures;
  rows = c.in_ok-rows.ensures;
  ascending = offsets_ascend c.args.instrs.now c.in_ok-offsets.offsets.items c.requires c.in_ok-offsets.ensures;
  there = λ k inside. all_there c.args.instrs.now c.in_ok-offsets.offsets.items c.requires c.in_ok-offsets.ensures k inside;
}

use Rattle.th_reader.proofs.Counted.{part_fits}
use Rattle.th_reader.proofs.layout.read_part.Goals as goal

pub invariant_of-result : goal.invariant_of-result
invariant_of-result c = record {
  in_range = part_fits c.args.place.at c.args.count c.in-Ok.after.at c.args.place.rest.now c.in-Ok.rest.now c.in-Ok.after.rest.now c.in-Ok.after.in_range c.in-Ok.ensures.read;
}

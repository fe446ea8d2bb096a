use Rattle.th_pure.proofs.Relations.{bounded_le}
use Rattle.th_pure.proofs.refutation.decide.Goals as goal

pub eliminate_all-requires : goal.eliminate_all-requires
eliminate_all-requires c = rw (c.in_ok-push_ranges.ensures, c.in_ok-bounds.ensures) (bounded_le c.args.ranges.now c.args.facts c.as_slice-2.result.now)

use Rattle.th_pure.proofs.Indexed.{indexed_more}
use Rattle.th_pure.proofs.distinct.DistinctFacts.with.Goals as goal

pub invariant_of-result : goal.invariant_of-result
invariant_of-result c =
    let within = rw c.as_slice.ensures.value at c.first_place-at.ensures.within in
    let below = rw c.as_slice.ensures.value at c.first_place-at.ensures.below in
    let above = rw c.as_slice.ensures.value at c.first_place-at.ensures.above in
    rw (c.in_ok-push.ensures, c.in_ok-insert.ensures.items, c.len-place.ensures)
    (indexed_more c.self.inside.facts c.self.inside.entries.items c.first_place-at.result c.key_of-key.result c.args.fact c.self.invariant c.key_of-key.ensures within below above)

use Rattle.th_steps.proofs.Pruning.{pruned_whole}
use Rattle.th_steps.proofs.limits.prune.Goals as goal

pub returns : goal.returns
returns c =
    pruned_whole c.args.query _ _ _ _ _ _ _ c.as_slice.ensures c.as_slice-2.ensures c.as_slice-3.ensures c.as_slice-4.ensures c.into_vec.ensures c.named_pairs-kept.ensures c.from_vec.ensures

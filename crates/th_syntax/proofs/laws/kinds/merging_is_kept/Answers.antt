use Rattle.th_syntax.proofs.KindsBehind.{after_merged}
use Rattle.th_syntax.proofs.MergingKinds.{at_self, at_comm, at_assoc}
use Rattle.th_syntax.proofs.laws.kinds.merging_is_kept.Goals as goal

pub returns : goal.returns
returns c = record { twice = at_self; order = at_comm; grouping = at_assoc; kept = after_merged }

use Rattle.std.proofs.Common.{sym, subst}
use Rattle.th_coarse.specs.Coarse.{coarse_alarms}
use Rattle.th_coarse.specs.Safety.{AreAllJoined}
use Rattle.th_coarse.proofs.Joining.{all_joined}
use Rattle.th_coarse.proofs.Judging.{all_survive}
use Rattle.th_coarse.proofs.laws.joined_pairs_are_alarms.Goals as goal

pub returns : goal.returns
returns c = record {
  alarms = all_joined c.verified_runs_keep.ensures c.coarse_alarms_are_listed.ensures;
  survivors = λ lifecycle files verified.
      subst (AreAllJoined lifecycle files) (sym (all_survive (coarse_alarms files))) (all_joined c.verified_runs_keep.ensures c.coarse_alarms_are_listed.ensures lifecycle files verified);
}

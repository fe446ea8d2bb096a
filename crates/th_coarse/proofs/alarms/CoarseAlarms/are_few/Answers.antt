use Rattle.std.proofs.Common.{ap, ◌∙◌, ◌*◌, length}
use Rattle.std.specs.Prelude.{nat_le}
use Rattle.th_coarse.specs.declared.alarms.TheConstants.{MOST_ALARMS}
use Rattle.th_coarse.specs.Coarse.{are_few}
use Rattle.th_coarse.proofs.Judging.{alarms_counted}
use Rattle.th_coarse.proofs.alarms.CoarseAlarms.are_few.Goals as goal

pub returns : goal.returns
returns c =
    c.is_few.ensures
    ∙ ap (λ fs. nat_le (length fs * length c.as_slice-2.result.now) MOST_ALARMS) c.as_slice.ensures.value
    ∙ ap (λ ks. nat_le (length c.self.inside.fields.items * length ks) MOST_ALARMS) c.as_slice-2.ensures.value
    ∙ alarms_counted c.self.inside.fields.items c.self.inside.classes.items
    ∙ ap are_few c.self.view_is

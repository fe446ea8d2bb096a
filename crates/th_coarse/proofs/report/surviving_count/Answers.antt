use Rattle.std.proofs.Common.{refl, sym, ap, ◌∙◌, ◌+◌}
use Rattle.std.specs.Prelude.{not}
use Rattle.std.proofs.lemmas.List.{take_all}
use Rattle.std.proofs.lemmas.List.Filters.{length-filter_both}
use Rattle.th_coarse.specs.Report.{filtered_count, survives, surviving_count}
use Rattle.th_coarse.proofs.report.surviving_count.Goals as goal

pub returns-clause-others : goal.returns-clause-others
returns-clause-others c =
    sym (length-filter_both survives (λ j. not (survives j)) (λ j. refl) c.args.alarms.now)
    ∙ ap (λ n. n + filtered_count c.args.alarms.now) (sym (c.loop-alarm.invariant.counted ∙ ap surviving_count (take_all c.loop-alarm.alarm-index c.args.alarms.now c.loop-alarm-test.false)))

use Rattle.std.proofs.Common.{ap, ◌∙◌, map}
use Rattle.std.proofs.lemmas.List.{take_all}
use Rattle.th_coarse.specs.Coarse.{pairs_of}
use Rattle.th_coarse.specs.Report.{all_surviving}
use Rattle.th_coarse.proofs.Judging.{one_field_on}
use Rattle.th_coarse.proofs.alarms.surviving_pairs.Goals as goal

pub loop-field-preserved : goal.loop-field-preserved
loop-field-preserved c =
    one_field_on c.args.fields.now (map (λ k. k.0) c.args.classes.now) c.loop-field.field-index _ c.loop-field.judged.items c.add_surviving.new.judged.items c.loop-field-test.true
    c.loop-field.invariant c.in_ok-add_surviving.ensures

pub returns : goal.returns
returns c =
    c.loop-field.invariant
    ∙ ap (λ fs. all_surviving (pairs_of (map (λ f. f.0) fs) (map (λ k. k.0) c.args.classes.now))) (take_all c.loop-field.field-index c.args.fields.now c.loop-field-test.false)

use Rattle.std.proofs.Common.{ap, ◌∙◌, map}
use Rattle.std.specs.Prelude.{filter, flat_map}
use Rattle.std.proofs.lemmas.List.{take_all}
use Rattle.th_machine.specs.Reaching.{is_static_reference}
use Rattle.th_machine.proofs.StaticReferences.{in_one}
use Rattle.th_machine.proofs.reached.references_in.Goals as goal

pub returns : goal.returns
returns c =
    c.loop-class.invariant
    ∙ ap (flat_map (λ k. map (λ f. f.id.0) (filter is_static_reference k.fields))) (take_all c.loop-class.class-index c.args.classes.now c.loop-class-test.false)
    ∙ in_one c.args.classes.now

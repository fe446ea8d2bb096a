use Rattle.std.proofs.Common.{◌∙◌, map}
use Rattle.th_machine.proofs.StaticReferences.{references_are}
use Rattle.th_machine.proofs.reached.static_references.Goals as goal

pub returns : goal.returns
returns c =
    references_are c.args.program.now c.classes.result.now (map (λ f. f.0) c.in_ok-fields.fields.items) (c.classes.ensures.value ∙ c.hierarchy.ensures) c.in_ok-fields.ensures

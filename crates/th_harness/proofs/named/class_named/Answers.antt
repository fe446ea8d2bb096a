use Rattle.std.proofs.Common.{◌∙◌, ap}
use Rattle.th_base.specs.Subtype.{class_named}
use Rattle.th_harness.proofs.Names.{named_as, named_within}
use Rattle.th_harness.proofs.named.class_named.Goals as goal

pub returns-clause-value : goal.returns-clause-value
returns-clause-value c =
    named_as c.args.program.now c.args.name.now c.find_class.result (c.find_class.ensures ∙ ap (λ h. class_named h c.args.name.now) c.hierarchy.ensures)

pub returns-clause-within : goal.returns-clause-within
returns-clause-within c =
    named_within c.args.program.now c.args.name.now c.find_class.result (c.find_class.ensures ∙ ap (λ h. class_named h c.args.name.now) c.hierarchy.ensures)

use Rattle.std.proofs.Common.{◌≡◌, ap, ◌∙◌}
use Rattle.th_base.specs.Subtype.{class_named}
use Rattle.th_linker.proofs.Known.{hierarchy_named, found_inside}
use Rattle.th_linker.proofs.program.find_class.Goals as goal

pub returns-clause-value : goal.returns-clause-value
returns-clause-value c = c.find_class.ensures ∙ ap (λ h. class_named h c.args.name.now) c.hierarchy.ensures ∙ hierarchy_named c.args.program.now c.args.name.now

pub returns-clause-inside : goal.returns-clause-inside
returns-clause-inside c =
    found_inside c.args.program.now c.args.name.now c.find_class.result
    (c.find_class.ensures ∙ ap (λ h. class_named h c.args.name.now) c.hierarchy.ensures ∙ hierarchy_named c.args.program.now c.args.name.now)

use Rattle.std.proofs.Common.{sym, ◌∙◌, ap}
use Rattle.std.specs.Prelude.{option_map}
use Rattle.th_base.specs.Launchable.{is_launchable}
use Rattle.th_harness.proofs.Names.{launched_yes, launched_no, launched_none}
use Rattle.th_harness.proofs.script.launched_class.Goals as goal

pub returns-then-is_launchable : goal.returns-then-is_launchable
returns-then-is_launchable c =
    launched_yes c.args.program.now c.args.name.now c.in-Some.class (ap (option_map (λ k. k.0)) (sym c.in-Some.is) ∙ c.class_named.ensures.value)
    (sym (c.is_launchable.ensures ∙ ap (λ h. is_launchable h c.in-Some.class.0) c.hierarchy.ensures) ∙ c.if-is_launchable.true)

pub returns-else-is_launchable : goal.returns-else-is_launchable
returns-else-is_launchable c =
    launched_no c.args.program.now c.args.name.now c.in-Some.class (ap (option_map (λ k. k.0)) (sym c.in-Some.is) ∙ c.class_named.ensures.value)
    (sym (c.is_launchable.ensures ∙ ap (λ h. is_launchable h c.in-Some.class.0) c.hierarchy.ensures) ∙ c.if-is_launchable.false)

pub returns-in-None : goal.returns-in-None
returns-in-None c = launched_none c.args.program.now c.args.name.now (ap (option_map (λ k. k.0)) (sym c.in-None.is) ∙ c.class_named.ensures.value)

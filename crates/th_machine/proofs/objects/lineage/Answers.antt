use Rattle.std.proofs.Common.{sym, ◌∙◌}
use Rattle.th_base.specs.Hierarchy.{lineage_of}
use Rattle.th_machine.proofs.Lineages.{climbs, tops}
use Rattle.th_machine.proofs.objects.lineage.Goals as goal

pub returns-in-None : goal.returns-in-None
returns-in-None c =
    tops c.args.classes.now (lineage_of c.args.classes.now c.args.class) c.loop-step.line.items c.push.new.self.items c.loop-step._step c.loop-step.current
    c.loop-step-test.true c.in_ok-push.ensures.items (sym c.in-None.is ∙ c.superclass.ensures) c.loop-step.invariant

pub loop-step-preserved : goal.loop-step-preserved
loop-step-preserved c =
    climbs c.args.classes.now (lineage_of c.args.classes.now c.args.class) c.loop-step.line.items c.push.new.self.items c.loop-step._step c.loop-step.current c.in-Some.above
    c.loop-step-test.true c.in_ok-push.ensures.items (sym c.in-Some.is ∙ c.superclass.ensures) c.loop-step.invariant

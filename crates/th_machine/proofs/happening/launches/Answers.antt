use Rattle.std.proofs.Common.{List, ap, ◌∙◌}
use Rattle.th_base.specs.declared.class.ClassInfo.{ClassInfo}
use Rattle.th_base.specs.Launchable.{is_launchable}
use Rattle.th_syntax.specs.Program.{hierarchy_of}
use Rattle.th_machine.proofs.happening.launches.Goals as goal

pub returns : goal.returns
returns c = c.launches_in.ensures ∙ ap (λ (hs : List ClassInfo). is_launchable hs c.args.class.0) (c.hierarchy.ensures ∙ ap hierarchy_of c.program.ensures)

use Rattle.std.proofs.Common.{ℕ, List, ap, ◌∙◌}
use Rattle.th_base.specs.declared.class.ClassInfo.{ClassInfo}
use Rattle.th_base.specs.Hierarchy.{selected_method}
use Rattle.th_syntax.specs.Program.{hierarchy_of}
use Rattle.th_machine.proofs.happening.selected.Goals as goal

pub returns : goal.returns
returns c =
    c.selected_in.ensures
    ∙ ap (λ (hs : List ClassInfo). selected_method hs c.args.class.0 c.in_ok-called.called c.in_ok-typed.typed) (c.hierarchy.ensures ∙ ap hierarchy_of c.program.ensures)
    ∙ ap (λ (n : List ℕ). selected_method (hierarchy_of c.args.resolved.now) c.args.class.0 n c.in_ok-typed.typed) c.in_ok-called.ensures
    ∙ ap (λ (d : List ℕ). selected_method (hierarchy_of c.args.resolved.now) c.args.class.0 c.args.name.now d) c.in_ok-typed.ensures

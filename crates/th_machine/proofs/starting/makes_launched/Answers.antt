use Rattle.std.proofs.Common.{◌≡◌, List, sym, ap, ◌∙◌, subst}
use Rattle.std.specs.Prelude.{IfOk}
use Rattle.th_syntax.specs.declared.class_file.ClassFile.{ClassFile}
use Rattle.th_syntax.specs.declared.machine.State.{State}
use Rattle.th_syntax.specs.Initial.{new_object}
use Rattle.th_machine.proofs.Advances.{launch_makes}
use Rattle.th_machine.proofs.starting.makes_launched.Goals as goal

pub returns-in_ok-object-in-Some : goal.returns-in_ok-object-in-Some
returns-in_ok-object-in-Some c =
    subst (λ (x : State). IfOk c.launched.result (λ s. s ≡ x))
    (launch_makes c.args.resolved.now c.args.world c.args.class c.len-place.result c.in_ok-object-in-Some.object c.in-Some.frame c.len-place.ensures
    (c.in_ok-object-in-Some.ensures ∙ ap (λ (files : List ClassFile). new_object files c.args.class.0) c.program.ensures) (sym c.in-Some.is ∙ c.in_ok-frame.ensures))
    c.launched.ensures

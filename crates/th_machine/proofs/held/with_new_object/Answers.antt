use Rattle.std.proofs.Common.{◌≡◌, ◌+◌, ℕ, List, ap, ◌∙◌, subst}
use Rattle.std.specs.Prelude.{IfOk}
use Rattle.th_syntax.specs.declared.class_file.ClassFile.{ClassFile}
use Rattle.th_syntax.specs.Held.{object_size}
use Rattle.th_syntax.specs.Initial.{new_object}
use Rattle.th_machine.proofs.held.with_new_object.Goals as goal

pub returns : goal.returns
returns c =
    subst (λ (x : ℕ). IfOk c.sum.result (λ n. n ≡ x))
    (ap (λ n. c.args.held + n)
    (c.in_ok-size.ensures ∙ ap object_size (c.in_ok-object.ensures ∙ ap (λ (files : List ClassFile). new_object files c.args.class.0) c.program.ensures)))
    c.sum.ensures

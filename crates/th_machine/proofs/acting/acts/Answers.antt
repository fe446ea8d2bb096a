use Rattle.std.proofs.Common.{◌≡◌, List, drop, sym, ap, ◌∙◌, subst}
use Rattle.std.specs.Prelude.{IfOk}
use Rattle.th_syntax.specs.declared.class_file.ClassFile.{ClassFile}
use Rattle.th_syntax.specs.declared.machine.Object.{Object}
use Rattle.th_syntax.specs.declared.machine.State.{State}
use Rattle.th_syntax.specs.Effects.{Makes}
use Rattle.th_syntax.specs.Initial.{new_object}
use Rattle.th_acts.specs.Acts.{means}
use Rattle.th_acts.specs.declared.act.Act.{Act}
use Rattle.th_machine.specs.Standing.{state_after, top_in}
use Rattle.th_machine.proofs.acting.acts.Goals as goal

pub returns-in_ok-object-in-MakesObject : goal.returns-in_ok-object-in-MakesObject
returns-in_ok-object-in-MakesObject c =
    let files = c.args.resolved.now in
    let w = c.args.world in
    let f = c.args.frame in
    subst (λ (x : State). IfOk c.makes.result (λ s. s ≡ x))
    (ap (λ (fs : List ClassFile). state_after fs w f (Makes c.in_ok-object-in-MakesObject.object f.stack)) c.program-program.ensures
    ∙ ap (λ (o : Object). state_after files w f (Makes o f.stack))
    (c.in_ok-object-in-MakesObject.ensures ∙ ap (λ (fs : List ClassFile). new_object fs c.in-MakesObject.class.0) c.program-program.ensures)
    ∙ ap (λ (a : Act). state_after files w f (means files (top_in w f) a)) (sym c.in-MakesObject.is))
    c.makes.ensures

pub returns-in_ok-array-in-MakesArray : goal.returns-in_ok-array-in-MakesArray
returns-in_ok-array-in-MakesArray c =
    let files = c.args.resolved.now in
    let w = c.args.world in
    let f = c.args.frame in
    subst (λ (x : State). IfOk c.makes-in-MakesArray.result (λ s. s ≡ x))
    (ap (λ (fs : List ClassFile). state_after fs w f (Makes c.in_ok-array-in-MakesArray.array (drop c.in-MakesArray.taken f.stack))) c.program-program.ensures
    ∙ ap (λ (o : Object). state_after files w f (Makes o (drop c.in-MakesArray.taken f.stack))) c.in_ok-array-in-MakesArray.ensures
    ∙ ap (λ (a : Act). state_after files w f (means files (top_in w f) a)) (sym c.in-MakesArray.is))
    c.makes-in-MakesArray.ensures

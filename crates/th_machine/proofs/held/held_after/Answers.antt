use Rattle.std.proofs.Common.{◌≡◌, ◌+◌, ℕ, sym, ap, ◌∙◌, subst}
use Rattle.std.specs.Prelude.{IfOk}
use Rattle.th_syntax.specs.Held.{object_size, values_held}
use Rattle.th_syntax.specs.Initial.{new_object}
use Rattle.th_acts.specs.Acts.{means}
use Rattle.th_acts.specs.declared.act.Act.{Act}
use Rattle.th_acts.specs.declared.act.Act.TheVariants as act
use Rattle.th_machine.specs.Standing.{top_in, state_after}
use Rattle.th_machine.proofs.Holding.{made_held, quiet_held}
use Rattle.th_machine.proofs.held.held_after.Goals as goal

pub returns-in-Some : goal.returns-in-Some
returns-in-Some c =
    let files = c.args.resolved.now in
    let w = c.args.world.now in
    let f = c.args.frame.now in
    let object = new_object files c.in-MakesObject.class.0 in
    subst (λ (x : ℕ). IfOk c.with_new_object.result (λ n. n ≡ x))
    (ap (λ n. n + object_size object) c.requires.held
    ∙ made_held files w f object f.stack c.in-Some.field-0 (sym c.in-Some.is ∙ c.requires.next)
    ∙ ap (λ (a : Act). values_held files (state_after files w f (means files (top_in w f) a))) (sym c.in-MakesObject.is))
    c.with_new_object.ensures

pub returns-in-SetsField : goal.returns-in-SetsField
returns-in-SetsField c =
    let files = c.args.resolved.now in
    let w = c.args.world.now in
    let f = c.args.frame.now in
    c.requires.held ∙ quiet_held files w f (act.SetsField c.in-SetsField.object c.in-SetsField.field c.in-SetsField.taken c.in-SetsField.value) tt
    ∙ ap (λ (a : Act). values_held files (state_after files w f (means files (top_in w f) a))) (sym c.in-SetsField.is)

pub returns-in-SetsElement : goal.returns-in-SetsElement
returns-in-SetsElement c =
    let files = c.args.resolved.now in
    let w = c.args.world.now in
    let f = c.args.frame.now in
    c.requires.held ∙ quiet_held files w f (act.SetsElement c.in-SetsElement.array c.in-SetsElement.index c.in-SetsElement.taken c.in-SetsElement.value) tt
    ∙ ap (λ (a : Act). values_held files (state_after files w f (means files (top_in w f) a))) (sym c.in-SetsElement.is)

use Rattle.std.proofs.Common.{◌≡◌, Option, Some, None, slice_get, refl, sym, subst, ◌∙◌}
use Rattle.std.specs.Option.{option_and_then}
use Rattle.th_base.specs.declared.number.Reg.{Reg}
use Rattle.th_ir.specs.declared.program.Method.{Method}
use Rattle.th_ir.proofs.Plain.{same_found}
use Rattle.th_points_to.specs.declared.place.Place.TheVariants.{Register}
use Rattle.th_points_to.specs.Asked.{ReceiverGoes}
use Rattle.th_points_to.specs.Places.{Gives}
use Rattle.th_points_to.proofs.Adding.{adds_as}
use Rattle.th_points_to.proofs.nodes.give_receiver.Goals as goal

first_param : (o : Option Method) (q : Reg) → option_and_then (λ method. slice_get method.params 0) o ≡ Some q → (m : Method) × (o ≡ Some m) × (slice_get m.params 0 ≡ Some q)
first_param None q e = absurd cc
first_param (Some m) q e = (m, refl, e)

pub returns-in_ok-give-in-Some : goal.returns-in_ok-give-in-Some
returns-in_ok-give-in-Some c =
    let p = c.args.program.now in
    let l = c.args.layout in
    let receiver : Reg = c.in-Some.receiver in
    let first = first_param (slice_get p.methods c.args.to.0) receiver (sym c.receiver_of.ensures ∙ c.in-Some.is) in
    adds_as l p c.args.found.now c.give.new.found (λ t. Gives l t (Register receiver) c.args.site.0) (λ t. ReceiverGoes l p t c.args.to.0 c.args.site.0)
    (λ t goes. goes first.0 receiver first.1 first.2)
    (λ t range gives method q at param.
    (let same : first.0 ≡ method = same_found (slice_get p.methods c.args.to.0) first.0 method first.1 at in
    subst (λ (r : Reg). Gives l t (Register r) c.args.site.0)
    (same_found (slice_get method.params 0) receiver q (subst (λ (m : Method). slice_get m.params 0 ≡ Some receiver) same first.2) param) gives))
    (c.in_ok-give-in-Some.ensures p)

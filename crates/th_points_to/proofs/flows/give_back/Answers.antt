use Rattle.std.proofs.Common.{◌≡◌, ℕ, ◌<◌, List, length, Option, Some, true, sym, subst, arith, ◌∙◌}
use Rattle.std.specs.List.{AllByRecursion}
use Rattle.th_base.specs.IdSet.{has}
use Rattle.th_base.specs.declared.number.Reg.{Reg}
use Rattle.th_incl.specs.Least.{set_at}
use Rattle.th_incl.proofs.Through.{read_at}
use Rattle.th_points_to.specs.declared.place.Place.TheVariants.{Register}
use Rattle.th_points_to.specs.Asked.{ResultGoes}
use Rattle.th_points_to.specs.Found.{Adds}
use Rattle.th_points_to.specs.Places.{Includes}
use Rattle.th_points_to.specs.Tables.{Returns}
use Rattle.th_points_to.proofs.Adding.{adds_as}
use Rattle.th_points_to.proofs.Pairs.{all_has, all_by_has}
use Rattle.th_points_to.proofs.flows.give_back.Goals as goal

pub returns-then-at-returned : goal.returns-then-at-returned
returns-then-at-returned c =
    let l = c.args.layout in
    let p = c.args.program.now in
    let to = c.args.to.0 in
    let dst = c.in-Some.dst in
    let row = c.args.returned.now in
    let within : to < length row = c.if-at-returned.true in
    let inside : to < length p.methods = omega (arith, within, c.requires.returned.len) in
    let sources = c.as_slice.result.now in
    let is : sources ≡ set_at row to = c.as_slice.ensures ∙ read_at row to c.index-returned-at.result c.index-returned-at.is within in
    subst (λ (d : Option Reg). Adds l p c.args.found.now c.take_all.new.found (λ t. ResultGoes l p t d to)) (sym c.in-Some.is)
    (adds_as l p c.args.found.now c.take_all.new.found (λ t. AllByRecursion (λ (r : ℕ). Includes l t (Register record { 0 = r }) (Register dst)) sources) (λ t. ResultGoes l p t (Some dst) to)
    (λ t goes. all_by_has (λ (r : ℕ). Includes l t (Register record { 0 = r }) (Register dst)) sources
    (λ r h. let one : Returns p to r = c.requires.returned.only to r (subst (λ (xs : List ℕ). has xs r ≡ true) is h) in goes inside one.place one.node record { 0 = r } one.stands one.within one.is))
    (λ t range all there n node src at in_method returns.
    all_has (λ (r : ℕ). Includes l t (Register record { 0 = r }) (Register dst)) sources src.0 all
    (subst (λ (xs : List ℕ). has xs src.0 ≡ true) (sym is) (c.requires.returned.all to src.0 inside record { place = n; node = node; stands = at; within = in_method; is = returns })))
    (c.in_ok-take_all-in-Some.ensures p))

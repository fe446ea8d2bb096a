use Rattle.std.proofs.Common.{[], sym, ◌∙◌, subst, refl}
use Rattle.std.specs.Prelude.{OnOk}
use Rattle.std.specs.Option.{option_map_or}
use Rattle.th_syntax.specs.Flow.{successors_of}
use Rattle.th_reach.specs.Visit.{Adds}
use Rattle.th_reach.proofs.Visits.{place_is, no_place, successors_from, adds_none}
use Rattle.th_reach.proofs.visit.add_successors.Goals as goal

pub add_from-requires : goal.add_from-requires
add_from-requires c = (place_is c.in-Some.place c.args.offset c.args.instrs.now (sym (c.requires c.args.offset) ∙ sym c.in-Some.ensures)).inside

pub returns-in-Some : goal.returns-in-Some
returns-in-Some c =
    let at = place_is c.in-Some.place c.args.offset c.args.instrs.now (sym (c.requires c.args.offset) ∙ sym c.in-Some.ensures) in
    subst (λ xs. OnOk c.add_from.result (Adds c.args.found.now.keys c.add_from.new.found.keys xs)) (sym (successors_from c.args.instrs.now c.args.offset c.in-Some.place at)) c.add_from.ensures

pub returns-in-None : goal.returns-in-None
returns-in-None c =
    let none = no_place 0 c.args.offset c.args.instrs.now (sym (c.requires c.args.offset) ∙ sym c.in-None.ensures) in
    subst (λ o. Adds c.args.found.now.keys c.args.found.now.keys (option_map_or (successors_of c.args.instrs.now) o [])) (sym none) (adds_none c.args.found.now.keys c.args.found.now.keys refl)

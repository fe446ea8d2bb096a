use Rattle.std.proofs.Common.{List, sym, subst}
use Rattle.std.specs.List.{AllByRecursion}
use Rattle.th_base.specs.declared.number.Reg.{Reg}
use Rattle.th_ir.specs.declared.stmt.Stmt.{Stmt}
use Rattle.th_points_to.specs.declared.place.Place.TheVariants.{Register}
use Rattle.th_points_to.specs.Asked.{Asks, CallAsks}
use Rattle.th_points_to.specs.Found.{Adds}
use Rattle.th_points_to.specs.Places.{Includes}
use Rattle.th_points_to.proofs.Adding.{no_program, keeps_of}
use Rattle.th_points_to.proofs.Initialising.{inits_kept}
use Rattle.th_points_to.proofs.nodes.ask.Goals as goal

pub returns-in_ok-give-in-Str-clause-keeps : goal.returns-in_ok-give-in-Str-clause-keeps
returns-in_ok-give-in-Str-clause-keeps c = keeps_of c.args.layout no_program c.args.found.now c.give.new.found _ (c.in_ok-give-in-Str.ensures no_program)

pub returns-in_ok-give-in-New-clause-keeps : goal.returns-in_ok-give-in-New-clause-keeps
returns-in_ok-give-in-New-clause-keeps c = keeps_of c.args.layout no_program c.args.found.now c.give-in-New.new.found _ (c.in_ok-give-in-New.ensures no_program)

pub returns-in_ok-give-in-NewArray-clause-keeps : goal.returns-in_ok-give-in-NewArray-clause-keeps
returns-in_ok-give-in-NewArray-clause-keeps c = keeps_of c.args.layout no_program c.args.found.now c.give-in-NewArray.new.found _ (c.in_ok-give-in-NewArray.ensures no_program)

pub returns-in_ok-move_all-in-Copy-clause-keeps : goal.returns-in_ok-move_all-in-Copy-clause-keeps
returns-in_ok-move_all-in-Copy-clause-keeps c = keeps_of c.args.layout no_program c.args.found.now c.move_all.new.found _ (c.in_ok-move_all-in-Copy.ensures no_program)

pub returns-in_ok-include-in-GetStatic-clause-keeps : goal.returns-in_ok-include-in-GetStatic-clause-keeps
returns-in_ok-include-in-GetStatic-clause-keeps c = keeps_of c.args.layout no_program c.args.found.now c.include.new.found _ (c.in_ok-include-in-GetStatic.ensures no_program)

pub returns-in_ok-include-in-PutStatic-clause-keeps : goal.returns-in_ok-include-in-PutStatic-clause-keeps
returns-in_ok-include-in-PutStatic-clause-keeps c = keeps_of c.args.layout no_program c.args.found.now c.include-in-PutStatic.new.found _ (c.in_ok-include-in-PutStatic.ensures no_program)

pub returns-in_ok-give-in-Str-clause-adds : goal.returns-in_ok-give-in-Str-clause-adds
returns-in_ok-give-in-Str-clause-adds c = λ are go inits.
    subst (λ (st : Stmt). Adds c.args.layout c.args.program.now c.args.found.now c.give.new.found (λ t. Asks c.args.hierarchy.now c.args.layout c.args.program.now t c.args.number st)) (sym c.in-Str.is)
    (c.in_ok-give-in-Str.ensures c.args.program.now)

pub returns-in_ok-give-in-New-clause-adds : goal.returns-in_ok-give-in-New-clause-adds
returns-in_ok-give-in-New-clause-adds c = λ are go inits.
    subst (λ (st : Stmt). Adds c.args.layout c.args.program.now c.args.found.now c.give-in-New.new.found (λ t. Asks c.args.hierarchy.now c.args.layout c.args.program.now t c.args.number st)) (sym c.in-New.is)
    (c.in_ok-give-in-New.ensures c.args.program.now)

pub returns-in_ok-give-in-NewArray-clause-adds : goal.returns-in_ok-give-in-NewArray-clause-adds
returns-in_ok-give-in-NewArray-clause-adds c = λ are go inits.
    subst (λ (st : Stmt). Adds c.args.layout c.args.program.now c.args.found.now c.give-in-NewArray.new.found (λ t. Asks c.args.hierarchy.now c.args.layout c.args.program.now t c.args.number st)) (sym c.in-NewArray.is)
    (c.in_ok-give-in-NewArray.ensures c.args.program.now)

pub returns-in_ok-move_all-in-Copy-clause-adds : goal.returns-in_ok-move_all-in-Copy-clause-adds
returns-in_ok-move_all-in-Copy-clause-adds c = λ are go inits.
    subst (λ (st : Stmt). Adds c.args.layout c.args.program.now c.args.found.now c.move_all.new.found (λ t. Asks c.args.hierarchy.now c.args.layout c.args.program.now t c.args.number st)) (sym c.in-Copy.is)
    (subst (λ (ps : List (Reg × Reg)). Adds c.args.layout c.args.program.now c.args.found.now c.move_all.new.found (λ t. AllByRecursion (λ (m : Reg × Reg). Includes c.args.layout t (Register m.1) (Register m.0)) ps)) c.as_slice.ensures (c.in_ok-move_all-in-Copy.ensures c.args.program.now))

pub returns-in_ok-include-in-GetStatic-clause-adds : goal.returns-in_ok-include-in-GetStatic-clause-adds
returns-in_ok-include-in-GetStatic-clause-adds c = λ are go inits.
    subst (λ (st : Stmt). Adds c.args.layout c.args.program.now c.args.found.now c.include.new.found (λ t. Asks c.args.hierarchy.now c.args.layout c.args.program.now t c.args.number st)) (sym c.in-GetStatic.is)
    (c.in_ok-include-in-GetStatic.ensures c.args.program.now)

pub returns-in_ok-include-in-PutStatic-clause-adds : goal.returns-in_ok-include-in-PutStatic-clause-adds
returns-in_ok-include-in-PutStatic-clause-adds c = λ are go inits.
    subst (λ (st : Stmt). Adds c.args.layout c.args.program.now c.args.found.now c.include-in-PutStatic.new.found (λ t. Asks c.args.hierarchy.now c.args.layout c.args.program.now t c.args.number st)) (sym c.in-PutStatic.is)
    (c.in_ok-include-in-PutStatic.ensures c.args.program.now)

pub returns-in_ok-reach_initialisers-in-Init-clause-adds : goal.returns-in_ok-reach_initialisers-in-Init-clause-adds
returns-in_ok-reach_initialisers-in-Init-clause-adds c = λ are go inits.
    subst (λ (st : Stmt). Adds c.args.layout c.args.program.now c.args.found.now c.reach_initialisers.new.found (λ t. Asks c.args.hierarchy.now c.args.layout c.args.program.now t c.args.number st)) (sym c.in-Init.is)
    (c.in_ok-reach_initialisers-in-Init.ensures.adds inits c.args.program.now)

pub returns-in_ok-ask_call-in-Call-clause-adds : goal.returns-in_ok-ask_call-in-Call-clause-adds
returns-in_ok-ask_call-in-Call-clause-adds c = λ are go inits.
    subst (λ (st : Stmt). Adds c.args.layout c.args.program.now c.args.found.now c.ask_call.new.found (λ t. Asks c.args.hierarchy.now c.args.layout c.args.program.now t c.args.number st)) (sym c.in-Call.is)
    (subst (λ (st : Stmt). Adds c.args.layout c.args.program.now c.args.found.now c.ask_call.new.found
    (λ t. CallAsks c.args.hierarchy.now c.args.layout c.args.program.now t c.args.number c.in-Call.kind c.in-Call.method.0 st)) c.in-Call.is (c.in_ok-ask_call-in-Call.ensures.adds are go))

pub returns-in_ok-pick-in-Pick-clause-keeps : goal.returns-in_ok-pick-in-Pick-clause-keeps
returns-in_ok-pick-in-Pick-clause-keeps c = keeps_of c.args.layout c.args.program.now c.args.found.now c.pick.new.found _ c.in_ok-pick-in-Pick.ensures

pub returns-in_ok-pick-in-Pick-clause-adds : goal.returns-in_ok-pick-in-Pick-clause-adds
returns-in_ok-pick-in-Pick-clause-adds c = λ are go inits.
    subst (λ (st : Stmt). Adds c.args.layout c.args.program.now c.args.found.now c.pick.new.found (λ t. Asks c.args.hierarchy.now c.args.layout c.args.program.now t c.args.number st)) (sym c.in-Pick.is)
    c.in_ok-pick-in-Pick.ensures

pub returns-in_ok-give-in-Str-clause-inits : goal.returns-in_ok-give-in-Str-clause-inits
returns-in_ok-give-in-Str-clause-inits c = λ are go inits. inits_kept c.args.hierarchy.now c.args.layout c.args.program.now c.args.found.now c.give.new.found _ _ (c.in_ok-give-in-Str.ensures c.args.program.now) inits

pub returns-in_ok-give-in-New-clause-inits : goal.returns-in_ok-give-in-New-clause-inits
returns-in_ok-give-in-New-clause-inits c = λ are go inits. inits_kept c.args.hierarchy.now c.args.layout c.args.program.now c.args.found.now c.give-in-New.new.found _ _ (c.in_ok-give-in-New.ensures c.args.program.now) inits

pub returns-in_ok-give-in-NewArray-clause-inits : goal.returns-in_ok-give-in-NewArray-clause-inits
returns-in_ok-give-in-NewArray-clause-inits c = λ are go inits. inits_kept c.args.hierarchy.now c.args.layout c.args.program.now c.args.found.now c.give-in-NewArray.new.found _ _ (c.in_ok-give-in-NewArray.ensures c.args.program.now) inits

pub returns-in_ok-move_all-in-Copy-clause-inits : goal.returns-in_ok-move_all-in-Copy-clause-inits
returns-in_ok-move_all-in-Copy-clause-inits c = λ are go inits. inits_kept c.args.hierarchy.now c.args.layout c.args.program.now c.args.found.now c.move_all.new.found _ _ (c.in_ok-move_all-in-Copy.ensures c.args.program.now) inits

pub returns-in_ok-include-in-GetStatic-clause-inits : goal.returns-in_ok-include-in-GetStatic-clause-inits
returns-in_ok-include-in-GetStatic-clause-inits c = λ are go inits. inits_kept c.args.hierarchy.now c.args.layout c.args.program.now c.args.found.now c.include.new.found _ _ (c.in_ok-include-in-GetStatic.ensures c.args.program.now) inits

pub returns-in_ok-include-in-PutStatic-clause-inits : goal.returns-in_ok-include-in-PutStatic-clause-inits
returns-in_ok-include-in-PutStatic-clause-inits c = λ are go inits. inits_kept c.args.hierarchy.now c.args.layout c.args.program.now c.args.found.now c.include-in-PutStatic.new.found _ _ (c.in_ok-include-in-PutStatic.ensures c.args.program.now) inits

pub returns-in_ok-ask_call-in-Call-clause-inits : goal.returns-in_ok-ask_call-in-Call-clause-inits
returns-in_ok-ask_call-in-Call-clause-inits c = λ are go inits. inits_kept c.args.hierarchy.now c.args.layout c.args.program.now c.args.found.now c.ask_call.new.found _ _ (c.in_ok-ask_call-in-Call.ensures.adds are go) inits

pub returns-in_ok-pick-in-Pick-clause-inits : goal.returns-in_ok-pick-in-Pick-clause-inits
returns-in_ok-pick-in-Pick-clause-inits c = λ are go inits. inits_kept c.args.hierarchy.now c.args.layout c.args.program.now c.args.found.now c.pick.new.found _ _ (c.in_ok-pick-in-Pick.ensures) inits

pub returns-in_ok-reach_initialisers-in-Init-clause-inits : goal.returns-in_ok-reach_initialisers-in-Init-clause-inits
returns-in_ok-reach_initialisers-in-Init-clause-inits c = λ are go inits. c.in_ok-reach_initialisers-in-Init.ensures.inits inits

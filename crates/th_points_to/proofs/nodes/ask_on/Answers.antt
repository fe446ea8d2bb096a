use Rattle.std.proofs.Common.{◌≡◌, ℕ, Some, sym, subst}
use Rattle.th_ir.specs.declared.stmt.Stmt.{Stmt}
use Rattle.th_ir.specs.Calls.{site_target}
use Rattle.th_points_to.specs.Asked.{AsksOn, CallsOn}
use Rattle.th_points_to.specs.Found.{Adds}
use Rattle.th_points_to.proofs.Adding.{keeps_of}
use Rattle.th_points_to.proofs.nodes.ask_on.Goals as goal

pub returns-in_ok-include_had-in-GetField-clause-adds : goal.returns-in_ok-include_had-in-GetField-clause-adds
returns-in_ok-include_had-in-GetField-clause-adds c = λ are go.
    subst (λ (st : Stmt). Adds c.args.layout c.args.program.now c.args.found.now c.include_had.new.found (λ t. AsksOn c.args.hierarchy.now c.args.layout c.args.program.now t c.args.number st c.args.site)) (sym c.in-GetField.is)
    (c.in_ok-include_had-in-GetField.ensures.adds are)

pub returns-in_ok-include_had-in-PutField-clause-adds : goal.returns-in_ok-include_had-in-PutField-clause-adds
returns-in_ok-include_had-in-PutField-clause-adds c = λ are go.
    subst (λ (st : Stmt). Adds c.args.layout c.args.program.now c.args.found.now c.include_had-in-PutField.new.found (λ t. AsksOn c.args.hierarchy.now c.args.layout c.args.program.now t c.args.number st c.args.site)) (sym c.in-PutField.is)
    (c.in_ok-include_had-in-PutField.ensures.adds are)

pub returns-in_ok-include_elements-in-GetElem-clause-adds : goal.returns-in_ok-include_elements-in-GetElem-clause-adds
returns-in_ok-include_elements-in-GetElem-clause-adds c = λ are go.
    subst (λ (st : Stmt). Adds c.args.layout c.args.program.now c.args.found.now c.include_elements.new.found (λ t. AsksOn c.args.hierarchy.now c.args.layout c.args.program.now t c.args.number st c.args.site)) (sym c.in-GetElem.is)
    (c.in_ok-include_elements-in-GetElem.ensures)

pub returns-in_ok-store-in-PutElem-clause-adds : goal.returns-in_ok-store-in-PutElem-clause-adds
returns-in_ok-store-in-PutElem-clause-adds c = λ are go.
    subst (λ (st : Stmt). Adds c.args.layout c.args.program.now c.args.found.now c.store.new.found (λ t. AsksOn c.args.hierarchy.now c.args.layout c.args.program.now t c.args.number st c.args.site)) (sym c.in-PutElem.is)
    (c.in_ok-store-in-PutElem.ensures)

pub returns-in_ok-give_cast-in-Cast-clause-adds : goal.returns-in_ok-give_cast-in-Cast-clause-adds
returns-in_ok-give_cast-in-Cast-clause-adds c = λ are go.
    subst (λ (st : Stmt). Adds c.args.layout c.args.program.now c.args.found.now c.give_cast.new.found (λ t. AsksOn c.args.hierarchy.now c.args.layout c.args.program.now t c.args.number st c.args.site)) (sym c.in-Cast.is)
    (c.in_ok-give_cast-in-Cast.ensures)

pub returns-in_ok-call_on-in-Call-clause-adds : goal.returns-in_ok-call_on-in-Call-clause-adds
returns-in_ok-call_on-in-Call-clause-adds c = λ are go.
    let h = c.args.hierarchy.now in
    let l = c.args.layout in
    let p = c.args.program.now in
    subst (λ (st : Stmt). Adds l p c.args.found.now c.call_on.new.found (λ t. AsksOn h l p t c.args.number st c.args.site)) (sym c.in-Call.is)
    (subst (λ (st : Stmt). Adds l p c.args.found.now c.call_on.new.found
    (λ t. (to : ℕ) → site_target h p c.in-Call.kind c.in-Call.method.0 c.args.site.0 ≡ Some to → CallsOn l p t c.args.number st to c.args.site.0)) c.in-Call.is (c.in_ok-call_on-in-Call.ensures.adds are go))

pub returns-in_ok-include_elements-in-GetElem-clause-keeps : goal.returns-in_ok-include_elements-in-GetElem-clause-keeps
returns-in_ok-include_elements-in-GetElem-clause-keeps c = keeps_of c.args.layout c.args.program.now c.args.found.now c.include_elements.new.found _ c.in_ok-include_elements-in-GetElem.ensures

pub returns-in_ok-store-in-PutElem-clause-keeps : goal.returns-in_ok-store-in-PutElem-clause-keeps
returns-in_ok-store-in-PutElem-clause-keeps c = keeps_of c.args.layout c.args.program.now c.args.found.now c.store.new.found _ c.in_ok-store-in-PutElem.ensures

pub returns-in_ok-give_cast-in-Cast-clause-keeps : goal.returns-in_ok-give_cast-in-Cast-clause-keeps
returns-in_ok-give_cast-in-Cast-clause-keeps c = keeps_of c.args.layout c.args.program.now c.args.found.now c.give_cast.new.found _ c.in_ok-give_cast-in-Cast.ensures

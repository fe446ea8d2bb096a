use Rattle.std.proofs.Common.{◌≡◌, List, true, sym, subst}
use Rattle.th_base.specs.declared.number.Reg.{Reg}
use Rattle.th_ir.specs.declared.stmt.Stmt.{Stmt}
use Rattle.th_points_to.specs.Asked.{ArgumentsGo, ResultGoes, Goes}
use Rattle.th_points_to.proofs.Adding.{no_program, adds_as, adds_both}
use Rattle.th_points_to.proofs.flows.go.Goals as goal

pub pass-requires : goal.pass-requires
pass-requires c = (c.in_ok-reach-in-Call.ensures no_program).laid

pub give_back-requires-clause-laid : goal.give_back-requires-clause-laid
give_back-requires-clause-laid c = c.in_ok-pass-in-Call.ensures.laid

pub returns-in_ok-give_back-in-Call : goal.returns-in_ok-give_back-in-Call
returns-in_ok-give_back-in-Call c =
    let l = c.args.layout in
    let p = c.args.program.now in
    let to = c.args.to.0 in
    let args = c.as_slice.result.now in
    let dst = c.in-Call.dst in
    let kind = c.in-Call.kind in
    adds_as l p c.args.found.now c.give_back.new.found
    (λ t. (t.reached to ≡ true) × (ArgumentsGo l p t kind args to × ResultGoes l p t dst to)) (λ t. Goes l p t c.args.stmt.now to)
    (λ t is.
    (let goes = subst (λ (st : Stmt). Goes l p t st to) c.in-Call.is is in
    (goes.reached, (subst (λ (xs : List Reg). ArgumentsGo l p t kind xs to) (sym c.as_slice.ensures) goes.arguments, goes.result))))
    (λ t range is. subst (λ (st : Stmt). Goes l p t st to) (sym c.in-Call.is)
    record { reached = is.0; arguments = subst (λ (xs : List Reg). ArgumentsGo l p t kind xs to) c.as_slice.ensures is.1.0; result = is.1.1 })
    (adds_both l p c.args.found.now c.reach.new.found c.give_back.new.found (λ t. t.reached to ≡ true) (λ t. ArgumentsGo l p t kind args to × ResultGoes l p t dst to)
    (c.in_ok-reach-in-Call.ensures p)
    (adds_both l p c.reach.new.found c.pass.new.found c.give_back.new.found (λ t. ArgumentsGo l p t kind args to) (λ t. ResultGoes l p t dst to) c.in_ok-pass-in-Call.ensures c.in_ok-give_back-in-Call.ensures))

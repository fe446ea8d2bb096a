use Rattle.std.proofs.Common.{◌≡◌, List, [], cond, subst, sym, ap, ◌∙◌}
use Rattle.std.specs.List.{flat_map}
use Rattle.std.proofs.lemmas.Result.{err_from_is_err_and}
use Rattle.th_syntax.specs.LinkChecks.{instr_refusals}
use Rattle.th_linker.specs.Checking.{Refuses}
use Rattle.th_linker.proofs.InOrder.{none_more, none_found, stops_at}
use Rattle.th_linker.proofs.Reachable.{reached_refusals, reached_is}
use Rattle.th_linker.proofs.uses.check_code.Goals as goal

pub returns-in_err-check_if_reached : goal.returns-in_err-check_if_reached
returns-in_err-check_if_reached c =
    let p = err_from_is_err_and c.from_residual-in_err-check_if_reached.result c.from_residual-in_err-check_if_reached.ensures.1 in
    let x = c.loop-offset-item.result in
    let fail = c.in_err-check_if_reached.field-0.0 in
    let refused = instr_refusals c.args.program.now c.args.class.now x in
    let found = reached_refusals c.args.program.now c.args.class.now c.args.instrs.now in
    rw (p.1, p.2)
    (subst (Refuses fail) (sym (reached_is c.args.program.now c.args.class.now c.args.instrs.now))
    (stops_at found fail c.args.instrs.now c.loop-offset.offset-index x c.loop-offset-test.true c.loop-offset-item.is c.loop-offset.invariant
    (subst (λ b. Refuses fail (cond b refused [])) (c.in_ok-reached.ensures x.0) c.in_err-check_if_reached.ensures)))

pub loop-offset-preserved : goal.loop-offset-preserved
loop-offset-preserved c =
    let x = c.loop-offset-item.result in
    let refused = instr_refusals c.args.program.now c.args.class.now x in
    none_more (reached_refusals c.args.program.now c.args.class.now c.args.instrs.now) c.args.instrs.now c.loop-offset.offset-index x c.loop-offset-test.true c.loop-offset-item.is c.loop-offset.invariant
    (sym (ap (λ b. cond b refused []) (c.in_ok-reached.ensures x.0)) ∙ c.in_ok-check_if_reached.ensures)

pub returns : goal.returns
returns c =
    reached_is c.args.program.now c.args.class.now c.args.instrs.now
    ∙ none_found (reached_refusals c.args.program.now c.args.class.now c.args.instrs.now) c.args.instrs.now c.loop-offset.offset-index c.loop-offset-test.false c.loop-offset.invariant

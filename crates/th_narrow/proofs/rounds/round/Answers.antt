use Rattle.std.proofs.Common.{sym, subst, take, ◌+◌}
use Rattle.th_ir.specs.FactSets.{sets_of}
use Rattle.th_query.specs.Narrowed.{slot_has}
use Rattle.th_narrow.specs.Rounds.{Steps, Rules}
use Rattle.th_narrow.proofs.Stepping.{rules_none, rules_more}
use Rattle.th_narrow.proofs.rounds.round.Goals as goal

pub loop-link-init : goal.loop-link-init
loop-link-init c = rules_none (slot_has (sets_of c.args.facts.now)) c.args.links.now c.args.syms.now

pub loop-link-preserved : goal.loop-link-preserved
loop-link-preserved c =
    let holds = slot_has (sets_of c.args.facts.now) in
    subst (Steps (Rules holds (take (c.loop-link.link-index + 1) c.args.links.now)) c.args.syms.now c.narrow_at.new.syms) (sym c.either-changed.ensures)
    (rules_more holds c.args.links.now c.loop-link.link-index _ c.args.syms.now c.loop-link.syms c.narrow_at.new.syms c.loop-link.changed c.in_ok-now.now c.loop-link-test.true c.loop-link.invariant c.in_ok-now.ensures)

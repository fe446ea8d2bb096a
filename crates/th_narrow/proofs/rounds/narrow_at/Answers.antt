use Rattle.std.proofs.Common.{sym, subst}
use Rattle.th_ir.specs.FactSets.{sets_of}
use Rattle.th_query.specs.Narrowed.{slot_has}
use Rattle.th_narrow.specs.Rounds.{Steps, RulesAt}
use Rattle.th_narrow.proofs.Stepping.{rules_at_sure, rules_at_unsure}
use Rattle.th_narrow.proofs.rounds.narrow_at.Goals as goal

pub returns-in_ok-bases : goal.returns-in_ok-bases
returns-in_ok-bases c =
    let holds = slot_has (sets_of c.args.facts.now) in
    subst (Steps (RulesAt holds (c.args.link, c.args.is_sure)) c.args.syms.now c.narrow_base.new.syms) (sym c.either.ensures)
    (rules_at_sure holds c.args.link c.args.is_sure c.args.syms.now c.narrow_value.new.syms c.narrow_base.new.syms c.in_ok-values.values c.in_ok-bases.bases c.in_ok-values.ensures c.in_ok-bases.ensures c.if-is_sure.true)

pub returns-else-is_sure : goal.returns-else-is_sure
returns-else-is_sure c =
    rules_at_unsure (slot_has (sets_of c.args.facts.now)) c.args.link c.args.is_sure c.args.syms.now c.narrow_value.new.syms c.in_ok-values.values c.in_ok-values.ensures c.if-is_sure.false

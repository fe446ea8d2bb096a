use Rattle.th_ir.specs.FactSets.{sets_of}
use Rattle.th_query.specs.Narrowed.{slot_has}
use Rattle.th_narrow.specs.Rounds.{Rules}
use Rattle.th_narrow.proofs.Stepping.{narrows_none, narrows_both}
use Rattle.th_narrow.proofs.rounds.narrow_links.Goals as goal

pub loop-init : goal.loop-init
loop-init c = narrows_none (Rules (slot_has (sets_of c.args.facts.now)) c.args.links.now) c.args.syms.now

pub loop-preserved : goal.loop-preserved
loop-preserved c =
    let rules = Rules (slot_has (sets_of c.args.facts.now)) c.args.links.now in
    narrows_both rules rules rules c.args.syms.now c.loop.syms c.round.new.syms (λ F r. r) (λ F r. r) c.loop.invariant c.in_ok-round.ensures.narrows

pub returns : goal.returns
returns c =
    let rules = Rules (slot_has (sets_of c.args.facts.now)) c.args.links.now in
    let same = c.in_ok-round.ensures.same c.if-branch.false in
    record {
      narrows = narrows_both rules rules rules c.args.syms.now c.loop.syms c.round.new.syms (λ F r. r) (λ F r. r) c.loop.invariant c.in_ok-round.ensures.narrows;
      holds = same.1;
    }

use Rattle.std.proofs.Common.{ℕ, List, sym, subst, arith}
use Rattle.th_ir.specs.FactSets.{FactSets}
use Rattle.th_points_to.specs.Opening.{MeetsAt}
use Rattle.th_points_to.specs.Tables.{AreTables}
use Rattle.th_points_to.proofs.Adding.{adds_nothing, adds_next, adds_all, keeps_nothing, keeps_both}
use Rattle.th_points_to.proofs.opening.meet.Goals as goal

pub loop-number-init : goal.loop-number-init
loop-number-init c = record {
  keeps = keeps_nothing c.args.layout c.args.found.now c.requires.laid;
  adds = λ are go. adds_nothing c.args.layout c.args.program.now c.args.found.now c.requires.laid;
}

pub meet_at-requires-clause-laid : goal.meet_at-requires-clause-laid
meet_at-requires-clause-laid c = c.loop-number.invariant.keeps.laid

pub meet_at-requires-clause-tables : goal.meet_at-requires-clause-tables
meet_at-requires-clause-tables c =
    subst (λ (fs : List (List ℕ)). AreTables c.args.hierarchy.now c.args.layout c.args.program.now fs c.args.tables.now) (sym c.loop-number.invariant.keeps.filters) c.requires.tables

pub loop-number-preserved : goal.loop-number-preserved
loop-number-preserved c =
    let h = c.args.hierarchy.now in
    let l = c.args.layout in
    let p = c.args.program.now in
    let e = c.in_ok-meet_at.ensures in
    record {
      keeps = keeps_both l c.args.found.now c.loop-number.found c.meet_at.new.found c.loop-number.invariant.keeps e.keeps;
      adds = λ are go.
          (let before = c.loop-number.invariant.adds are go in
          adds_next (λ (n : ℕ) (t : FactSets). MeetsAt h l p c.args.entered.now c.args.sites.now t n) l p c.args.found.now c.loop-number.found c.meet_at.new.found
          c.args.numbers.now c.loop-number.number-index 0 c.loop-number-test.true before (e.adds are (before.go go)));
    }

pub returns-clause-keeps : goal.returns-clause-keeps
returns-clause-keeps c = c.loop-number.invariant.keeps

pub returns-clause-adds : goal.returns-clause-adds
returns-clause-adds c = λ are go.
    let h = c.args.hierarchy.now in
    let l = c.args.layout in
    let p = c.args.program.now in
    adds_all (λ (n : ℕ) (t : FactSets). MeetsAt h l p c.args.entered.now c.args.sites.now t n) l p c.args.found.now c.loop-number.found
    c.args.numbers.now c.loop-number.number-index (omega (arith, c.loop-number-test.false)) (c.loop-number.invariant.adds are go)

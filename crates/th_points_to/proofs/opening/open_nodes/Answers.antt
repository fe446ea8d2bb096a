use Rattle.std.proofs.Common.{ℕ, List, sym, subst, arith}
use Rattle.th_ir.specs.FactSets.{FactSets}
use Rattle.th_points_to.specs.Opening.{OpensAt}
use Rattle.th_points_to.specs.Tables.{AreTables}
use Rattle.th_points_to.proofs.Adding.{adds_nothing, adds_next, adds_all, keeps_nothing, keeps_both}
use Rattle.th_points_to.proofs.opening.open_nodes.Goals as goal

pub loop-number-init : goal.loop-number-init
loop-number-init c = record {
  keeps = keeps_nothing c.args.layout c.args.found.now c.requires.laid;
  adds = λ are go inits. adds_nothing c.args.layout c.args.program.now c.args.found.now c.requires.laid;
  inits = λ are go inits. inits;
}

pub open_at-requires-clause-laid : goal.open_at-requires-clause-laid
open_at-requires-clause-laid c = c.loop-number.invariant.keeps.laid

pub open_at-requires-clause-tables : goal.open_at-requires-clause-tables
open_at-requires-clause-tables c =
    subst (λ (fs : List (List ℕ)). AreTables c.args.hierarchy.now c.args.layout c.args.program.now fs c.args.tables.now) (sym c.loop-number.invariant.keeps.filters) c.requires.tables

pub loop-number-preserved : goal.loop-number-preserved
loop-number-preserved c =
    let h = c.args.hierarchy.now in
    let l = c.args.layout in
    let p = c.args.program.now in
    let e = c.in_ok-open_at.ensures in
    record {
      keeps = keeps_both l c.args.found.now c.loop-number.found c.open_at.new.found c.loop-number.invariant.keeps e.keeps;
      adds = λ are go inits.
          (let before = c.loop-number.invariant.adds are go inits in
          adds_next (λ (n : ℕ) (t : FactSets). OpensAt h l p c.args.handled.now t n) l p c.args.found.now c.loop-number.found c.open_at.new.found
          c.args.numbers.now c.loop-number.number-index 0 c.loop-number-test.true before (e.adds are (before.go go) (c.loop-number.invariant.inits are go inits)));
      inits = λ are go inits. e.inits are ((c.loop-number.invariant.adds are go inits).go go) (c.loop-number.invariant.inits are go inits);
    }

pub returns-clause-keeps : goal.returns-clause-keeps
returns-clause-keeps c = c.loop-number.invariant.keeps

pub returns-clause-adds : goal.returns-clause-adds
returns-clause-adds c = λ are go inits.
    let h = c.args.hierarchy.now in
    let l = c.args.layout in
    let p = c.args.program.now in
    adds_all (λ (n : ℕ) (t : FactSets). OpensAt h l p c.args.handled.now t n) l p c.args.found.now c.loop-number.found
    c.args.numbers.now c.loop-number.number-index (omega (arith, c.loop-number-test.false)) (c.loop-number.invariant.adds are go inits)

pub returns-clause-inits : goal.returns-clause-inits
returns-clause-inits c = c.loop-number.invariant.inits

use Rattle.std.proofs.Common.{ℕ, List, sym, subst, arith}
use Rattle.th_ir.specs.FactSets.{FactSets}
use Rattle.th_points_to.specs.Asked.{AsksOn}
use Rattle.th_points_to.specs.Tables.{AreTables}
use Rattle.th_points_to.proofs.Adding.{adds_nothing, adds_next, adds_all, keeps_nothing, keeps_both}
use Rattle.th_points_to.proofs.opening.ask_sites.Goals as goal

pub loop-site-init : goal.loop-site-init
loop-site-init c = record {
  keeps = keeps_nothing c.args.layout c.args.found.now c.requires.laid;
  adds = λ are go. adds_nothing c.args.layout c.args.program.now c.args.found.now c.requires.laid;
}

pub ask_on-requires-clause-laid : goal.ask_on-requires-clause-laid
ask_on-requires-clause-laid c = c.loop-site.invariant.keeps.laid

pub ask_on-requires-clause-tables : goal.ask_on-requires-clause-tables
ask_on-requires-clause-tables c =
    subst (λ (fs : List (List ℕ)). AreTables c.args.hierarchy.now c.args.layout c.args.program.now fs c.args.tables.now) (sym c.loop-site.invariant.keeps.filters) c.requires.tables

pub ask_on-requires-clause-node : goal.ask_on-requires-clause-node
ask_on-requires-clause-node c = c.requires.node

pub loop-site-preserved : goal.loop-site-preserved
loop-site-preserved c =
    let h = c.args.hierarchy.now in
    let l = c.args.layout in
    let p = c.args.program.now in
    let e = c.in_ok-ask_on.ensures in
    record {
      keeps = keeps_both l c.args.found.now c.loop-site.found c.ask_on.new.found c.loop-site.invariant.keeps e.keeps;
      adds = λ are go.
          (let before = c.loop-site.invariant.adds are go in
          adds_next (λ (a : ℕ) (t : FactSets). AsksOn h l p t c.args.number c.args.node.now.stmt record { 0 = a }) l p c.args.found.now c.loop-site.found c.ask_on.new.found
          c.args.sites.now c.loop-site.site-index 0 c.loop-site-test.true before (e.adds are (before.go go)));
    }

pub returns-clause-keeps : goal.returns-clause-keeps
returns-clause-keeps c = c.loop-site.invariant.keeps

pub returns-clause-adds : goal.returns-clause-adds
returns-clause-adds c = λ are go.
    let h = c.args.hierarchy.now in
    let l = c.args.layout in
    let p = c.args.program.now in
    adds_all (λ (a : ℕ) (t : FactSets). AsksOn h l p t c.args.number c.args.node.now.stmt record { 0 = a }) l p c.args.found.now c.loop-site.found
    c.args.sites.now c.loop-site.site-index (omega (arith, c.loop-site-test.false)) (c.loop-site.invariant.adds are go)

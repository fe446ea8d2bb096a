use Rattle.std.proofs.Common.{ℕ, arith}
use Rattle.th_ir.specs.FactSets.{FactSets}
use Rattle.th_points_to.specs.Initialisers.{ReachesOwn}
use Rattle.th_points_to.proofs.Adding.{no_program, adds_nothing, adds_next, adds_all}
use Rattle.th_points_to.proofs.initialisers.reach_each.Goals as goal

pub loop-class-init : goal.loop-class-init
loop-class-init c = record { laid = c.requires.laid; adds = λ p. adds_nothing c.args.layout p c.args.found.now c.requires.laid }

pub loop-class-preserved : goal.loop-class-preserved
loop-class-preserved c = record {
  laid = (c.in_ok-reach_own.ensures no_program).laid;
  adds = λ p.
      adds_next (λ (k : ℕ) (t : FactSets). ReachesOwn c.args.hierarchy.now t k) c.args.layout p c.args.found.now c.loop-class.found c.reach_own.new.found c.args.classes.now c.loop-class.class-index 0
      c.loop-class-test.true (c.loop-class.invariant.adds p) (c.in_ok-reach_own.ensures p);
}

pub returns : goal.returns
returns c = λ p.
    adds_all (λ (k : ℕ) (t : FactSets). ReachesOwn c.args.hierarchy.now t k) c.args.layout p c.args.found.now c.loop-class.found c.args.classes.now c.loop-class.class-index
    (omega (arith, c.loop-class-test.false)) (c.loop-class.invariant.adds p)

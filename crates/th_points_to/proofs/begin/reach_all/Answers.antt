use Rattle.std.proofs.Common.{◌≡◌, true, arith}
use Rattle.th_base.specs.declared.number.MethodId.{MethodId}
use Rattle.th_ir.specs.FactSets.{FactSets}
use Rattle.th_points_to.proofs.Adding.{no_program, adds_nothing, adds_next, adds_all}
use Rattle.th_points_to.proofs.begin.reach_all.Goals as goal

pub loop-method-init : goal.loop-method-init
loop-method-init c = record { laid = c.requires; adds = λ p. adds_nothing c.args.layout p c.args.found.now c.requires }

pub reach-requires : goal.reach-requires
reach-requires c = c.loop-method.invariant.laid

pub loop-method-preserved : goal.loop-method-preserved
loop-method-preserved c = record {
  laid = (c.in_ok-reach.ensures no_program).laid;
  adds = λ p. adds_next (λ (m : MethodId) (t : FactSets). t.reached m.0 ≡ true) c.args.layout p c.args.found.now c.loop-method.found c.reach.new.found c.args.methods.now c.loop-method.method-index (record { 0 = 0 }) c.loop-method-test.true
      (c.loop-method.invariant.adds p) (c.in_ok-reach.ensures p);
}

pub returns : goal.returns
returns c = λ p. adds_all (λ (m : MethodId) (t : FactSets). t.reached m.0 ≡ true) c.args.layout p c.args.found.now c.loop-method.found c.args.methods.now c.loop-method.method-index (omega (arith, c.loop-method-test.false)) (c.loop-method.invariant.adds p)

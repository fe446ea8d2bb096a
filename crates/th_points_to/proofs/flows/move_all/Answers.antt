use Rattle.std.proofs.Common.{arith}
use Rattle.th_base.specs.declared.number.Reg.{Reg}
use Rattle.th_ir.specs.FactSets.{FactSets}
use Rattle.th_points_to.specs.declared.place.Place.TheVariants.{Register}
use Rattle.th_points_to.specs.Places.{Includes}
use Rattle.th_points_to.proofs.Adding.{no_program, adds_next, adds_all}
use Rattle.th_points_to.proofs.flows.move_all.Goals as goal

pub loop-to-preserved : goal.loop-to-preserved
loop-to-preserved c = record {
  laid = (c.in_ok-include.ensures no_program).laid;
  adds = λ p. adds_next (λ (m : Reg × Reg) (t : FactSets). Includes c.args.layout t (Register m.1) (Register m.0)) c.args.layout p c.args.found.now c.loop-to.found c.include.new.found c.args.pairs.now c.loop-to.to-index (record { 0 = 0 }, record { 0 = 0 }) c.loop-to-test.true
      (c.loop-to.invariant.adds p) (c.in_ok-include.ensures p);
}

pub returns : goal.returns
returns c = λ p. adds_all (λ (m : Reg × Reg) (t : FactSets). Includes c.args.layout t (Register m.1) (Register m.0)) c.args.layout p c.args.found.now c.loop-to.found c.args.pairs.now c.loop-to.to-index (omega (arith, c.loop-to-test.false)) (c.loop-to.invariant.adds p)

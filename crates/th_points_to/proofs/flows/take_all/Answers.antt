use Rattle.std.proofs.Common.{ℕ, arith}
use Rattle.th_ir.specs.FactSets.{FactSets}
use Rattle.th_points_to.specs.declared.place.Place.TheVariants.{Register}
use Rattle.th_points_to.specs.Places.{Includes}
use Rattle.th_points_to.proofs.Adding.{no_program, adds_next, adds_all}
use Rattle.th_points_to.proofs.flows.take_all.Goals as goal

pub loop-source-preserved : goal.loop-source-preserved
loop-source-preserved c = record {
  laid = (c.in_ok-include.ensures no_program).laid;
  adds = λ p. adds_next (λ (r : ℕ) (t : FactSets). Includes c.args.layout t (Register record { 0 = r }) (Register c.args.to)) c.args.layout p c.args.found.now c.loop-source.found c.include.new.found c.args.sources.now c.loop-source.source-index 0 c.loop-source-test.true
      (c.loop-source.invariant.adds p) (c.in_ok-include.ensures p);
}

pub returns : goal.returns
returns c = λ p. adds_all (λ (r : ℕ) (t : FactSets). Includes c.args.layout t (Register record { 0 = r }) (Register c.args.to)) c.args.layout p c.args.found.now c.loop-source.found c.args.sources.now c.loop-source.source-index (omega (arith, c.loop-source-test.false)) (c.loop-source.invariant.adds p)

use Rattle.std.proofs.Common.{ℕ, arith}
use Rattle.th_ir.specs.FactSets.{FactSets}
use Rattle.th_points_to.specs.declared.place.Place.TheVariants.{Register}
use Rattle.th_points_to.specs.Places.{Gives}
use Rattle.th_points_to.proofs.Adding.{no_program, adds_next, adds_all}
use Rattle.th_points_to.proofs.flows.give_all.Goals as goal

pub loop-site-preserved : goal.loop-site-preserved
loop-site-preserved c = record {
  laid = (c.in_ok-give.ensures no_program).laid;
  adds = λ p. adds_next (λ (s : ℕ) (t : FactSets). Gives c.args.layout t (Register c.args.to) s) c.args.layout p c.args.found.now c.loop-site.found c.give.new.found c.args.sites.now c.loop-site.site-index 0 c.loop-site-test.true
      (c.loop-site.invariant.adds p) (c.in_ok-give.ensures p);
}

pub returns : goal.returns
returns c = λ p. adds_all (λ (s : ℕ) (t : FactSets). Gives c.args.layout t (Register c.args.to) s) c.args.layout p c.args.found.now c.loop-site.found c.args.sites.now c.loop-site.site-index (omega (arith, c.loop-site-test.false)) (c.loop-site.invariant.adds p)

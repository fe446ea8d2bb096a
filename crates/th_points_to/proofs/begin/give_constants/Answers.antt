use Rattle.std.proofs.Common.{arith}
use Rattle.th_base.specs.declared.number.FieldId.{FieldId}
use Rattle.th_base.specs.declared.number.SiteId.{SiteId}
use Rattle.th_ir.specs.FactSets.{FactSets}
use Rattle.th_points_to.specs.declared.place.Place.TheVariants.{Static}
use Rattle.th_points_to.specs.Places.{Gives}
use Rattle.th_points_to.proofs.Adding.{no_program, adds_nothing, adds_next, adds_all}
use Rattle.th_points_to.proofs.begin.give_constants.Goals as goal

pub loop-field-init : goal.loop-field-init
loop-field-init c = record { laid = c.requires; adds = λ p. adds_nothing c.args.layout p c.args.found.now c.requires }

pub give-requires : goal.give-requires
give-requires c = c.loop-field.invariant.laid

pub loop-field-preserved : goal.loop-field-preserved
loop-field-preserved c = record {
  laid = (c.in_ok-give.ensures no_program).laid;
  adds = λ p. adds_next (λ (i : FieldId × SiteId) (t : FactSets). Gives c.args.layout t (Static i.0) i.1.0) c.args.layout p c.args.found.now c.loop-field.found c.give.new.found c.args.constants.now c.loop-field.field-index (record { 0 = 0 }, record { 0 = 0 }) c.loop-field-test.true
      (c.loop-field.invariant.adds p) (c.in_ok-give.ensures p);
}

pub returns : goal.returns
returns c = λ p. adds_all (λ (i : FieldId × SiteId) (t : FactSets). Gives c.args.layout t (Static i.0) i.1.0) c.args.layout p c.args.found.now c.loop-field.found c.args.constants.now c.loop-field.field-index (omega (arith, c.loop-field-test.false)) (c.loop-field.invariant.adds p)

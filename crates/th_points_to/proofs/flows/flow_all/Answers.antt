use Rattle.std.proofs.Common.{◌<◌, ◌≤◌, length, sym, subst, arith}
use Rattle.std.specs.Prelude.{zip}
use Rattle.th_base.specs.declared.number.Reg.{Reg}
use Rattle.th_ir.specs.FactSets.{FactSets}
use Rattle.th_points_to.specs.declared.place.Place.TheVariants.{Register}
use Rattle.th_points_to.specs.Found.{Adds}
use Rattle.th_points_to.specs.Places.{Includes}
use Rattle.th_points_to.proofs.Adding.{no_program, adds_next, adds_all}
use Rattle.th_points_to.proofs.Pairs.{zip_at}
use Rattle.th_points_to.proofs.flows.flow_all.Goals as goal

pub loop-at-preserved : goal.loop-at-preserved
loop-at-preserved c =
    let args = c.args.args.now in
    let params = c.args.params.now in
    let i = c.loop-at.at in
    let e = c.shorter-count.ensures in
    let first : i < length args = omega (arith, c.loop-at-test.true, e.args) in
    let other : i < length params = omega (arith, c.loop-at-test.true, e.params) in
    let inside : i < length (zip args params) = omega (arith, c.loop-at-test.true, e.pairs) in
    record {
      laid = (c.in_ok-include.ensures no_program).laid;
      adds = λ p. adds_next (λ (m : Reg × Reg) (t : FactSets). Includes c.args.layout t (Register m.0) (Register m.1)) c.args.layout p c.args.found.now c.loop-at.found c.include.new.found
          (zip args params) i (record { 0 = 0 }, record { 0 = 0 }) inside (c.loop-at.invariant.adds p)
          (subst (λ (m : Reg × Reg). Adds c.args.layout p c.loop-at.found c.include.new.found (λ t. Includes c.args.layout t (Register m.0) (Register m.1)))
          (sym (zip_at args params i record { 0 = 0 } record { 0 = 0 } first other)) (c.in_ok-include.ensures p));
    }

pub returns : goal.returns
returns c = λ p.
    let args = c.args.args.now in
    let params = c.args.params.now in
    let past : length (zip args params) ≤ c.loop-at.at = omega (arith, c.loop-at-test.false, c.shorter-count.ensures.pairs) in
    adds_all (λ (m : Reg × Reg) (t : FactSets). Includes c.args.layout t (Register m.0) (Register m.1)) c.args.layout p c.args.found.now c.loop-at.found (zip args params) c.loop-at.at
    past (c.loop-at.invariant.adds p)

use Rattle.std.proofs.Common.{◌≡◌, ℕ, ◌==◌, true}
use Rattle.std.proofs.lemmas.Bool.{eqb-true}
use Rattle.indexmap.specs.IndexMap.{get}
use Rattle.std.specs.Prelude.{nat_eq}
use Rattle.th_syntax.specs.declared.instr.Instr.{Instr}
use Rattle.th_reach.proofs.FirstPlaces.{added, kept, none_of, some_of}
use Rattle.th_reach.proofs.visit.places_of.Goals as goal
use Rattle.th_reach.proofs.visit.places_of.Goals.{then-is_none+in_ok-insert, else-is_none}

at_key : (n : ℕ) (i : ℕ × Instr) → (i.0 == n) ≡ true → i.0 ≡ n
at_key n i e = eqb-true i.0 n e

pub loop-place-preserved : goal.loop-place-preserved
loop-place-preserved c =
    let instrs = c.args.instrs.now in
    let i = c.index-instrs-place.result in
    elim c.if-is_none.branch [
      | then-is_none+in_ok-insert w ↦ rw w.places-is
          (added (λ n (x : ℕ × Instr). x.0 == n) (λ x. x.0) at_key instrs c.loop-place.place i (get nat_eq c.loop-place.places) (get nat_eq w.insert.new.self)
          c.loop-place-test.true c.index-instrs-place.is c.loop-place.invariant
          (none_of c.get.result _ c.get.ensures.value w.if-is_none.ensures) w.in_ok-insert.ensures.updates.0)
      | else-is_none w ↦
          let there = some_of c.get.result _ c.get.ensures.value w.if-is_none.ensures in
          rw w.places-is (kept (λ n (x : ℕ × Instr). x.0 == n) (λ x. x.0) at_key instrs c.loop-place.place i (get nat_eq c.loop-place.places) there.0 c.loop-place-test.true c.index-instrs-place.is c.loop-place.invariant there.1)
    ]

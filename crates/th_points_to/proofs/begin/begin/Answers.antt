use Rattle.std.proofs.Common.{◌≡◌, ℕ, zero, suc, List, [], length, replicate, false, true, refl, sym, ap, subst, arith, ◌∙◌}
use Rattle.std.specs.List.{AllByRecursion, Contains}
use Rattle.std.proofs.lemmas.List.{length-replicate}
use Rattle.std.proofs.lemmas.List.Sums.{sum_by-cons}
use Rattle.th_base.specs.declared.number.FieldId.{FieldId}
use Rattle.th_base.specs.declared.number.MethodId.{MethodId}
use Rattle.th_base.specs.declared.number.SiteId.{SiteId}
use Rattle.th_incl.specs.Least.{pair_count}
use Rattle.th_incl.proofs.Through.{nothing_in_none}
use Rattle.th_points_to.specs.declared.place.Place.TheVariants.{Static}
use Rattle.th_points_to.specs.Found.{Adds}
use Rattle.th_points_to.specs.Places.{Gives}
use Rattle.th_points_to.specs.Tables.{AreTables}
use Rattle.th_points_to.proofs.Adding.{no_program, adds_both, keeps_of}
use Rattle.th_points_to.proofs.RoundLemmas.{round_begun}
use Rattle.th_points_to.proofs.begin.begin.Goals as goal

pub reach_all-requires : goal.reach_all-requires
reach_all-requires c = c.in_ok-found.ensures.laid

pub give_constants-requires : goal.give_constants-requires
give_constants-requires c = (c.in_ok-reach_all.ensures no_program).laid

pub returns-clause-state : goal.returns-clause-state
returns-clause-state c = λ h ts tables.
    let one = c.in_ok-reach_all.ensures no_program in
    let two = c.in_ok-give_constants.ensures no_program in
    record {
      laid = two.laid;
      tables = subst (λ (fs : List (List ℕ)). AreTables h c.args.layout c.args.program.now fs ts) (sym (two.filters ∙ one.filters ∙ c.in_ok-found.ensures.filters)) tables;
      handled_len = ap length c.in_ok-handled.ensures ∙ length-replicate c.args.layout.registers [];
      entered_len = ap length c.in_ok-entered.ensures ∙ length-replicate _ false ∙ c.len.ensures;
      opened = omega arith;
      opened_are = λ i m less at inside. absurd (omega (arith, less));
    }

pub returns-clause-round : goal.returns-clause-round
returns-clause-round c = λ h. record {
  inits = λ t range holds k one. absurd (nothing_in_none k (subst (λ (ks : List ℕ). Contains ks k) c.new.ensures.empty one));
  round =
      let l = c.args.layout in
      let p = c.args.program.now in
      let adds = adds_both l p c.in_ok-found.found c.reach_all.new.found c.give_constants.new.found
      (λ t. AllByRecursion (λ m. t.reached m.0 ≡ true) c.as_slice.result.now) (λ t. AllByRecursion (λ i. Gives l t (Static i.0) i.1.0) c.as_slice-2.result.now)
      (c.in_ok-reach_all.ensures p) (c.in_ok-give_constants.ensures p) in
      round_begun h l p c.in_ok-found.found c.give_constants.new.found c.in_ok-handled.handled.items c.in_ok-entered.entered.items c.in_ok-found.ensures.holds c.in_ok-found.ensures.sets
      c.in_ok-found.ensures.calls c.in_ok-handled.ensures (c.in_ok-entered.ensures ∙ ap (λ (n : ℕ). replicate n false) c.len.ensures)
      (subst (λ (ms : List MethodId). Adds l p c.in_ok-found.found c.give_constants.new.found (λ t. AllByRecursion (λ m. t.reached m.0 ≡ true) ms × AllByRecursion (λ i. Gives l t (Static i.0) i.1.0) p.strings)) c.as_slice.ensures
      (subst (λ (cs : List (FieldId × SiteId)). Adds l p c.in_ok-found.found c.give_constants.new.found
      (λ t. AllByRecursion (λ m. t.reached m.0 ≡ true) c.as_slice.result.now × AllByRecursion (λ i. Gives l t (Static i.0) i.1.0) cs)) c.as_slice-2.ensures adds));
}

no_pairs : (n : ℕ) → pair_count (replicate n []) ≡ 0
no_pairs zero = refl
no_pairs (suc n) = omega (arith, no_pairs n, sum_by-cons length (let none : List ℕ = [] in none) (replicate n []))

pub returns-clause-none : goal.returns-clause-none
returns-clause-none c =
    let l = c.args.layout in
    let one = keeps_of l no_program c.in_ok-found.found c.reach_all.new.found _ (c.in_ok-reach_all.ensures no_program) in
    let two = keeps_of l no_program c.reach_all.new.found c.give_constants.new.found _ (c.in_ok-give_constants.ensures no_program) in
    two.pairs ∙ one.pairs ∙ ap pair_count c.in_ok-found.ensures.sets ∙ no_pairs l.first_cell

pub returns-clause-grown : goal.returns-clause-grown
returns-clause-grown c = (c.in_ok-give_constants.ensures no_program).grown ∙ (c.in_ok-reach_all.ensures no_program).grown ∙ c.in_ok-found.ensures.grown

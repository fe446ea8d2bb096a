-- What the rounds end with is what an analysis gives.
use Rattle.std.proofs.Common.{◌≡◌, ℕ, ◌<◌, ◌≤◌, ◌==◌, zero, suc, Bool, true, false, List, [], ◌∷◌, length, Some, slice_get, refl, ap, subst}
use Rattle.std.specs.List.{AllByRecursion, IsDistinct}
use Rattle.std.proofs.lemmas.Bool.{eq-eqb}
use Rattle.th_base.specs.declared.class.ClassInfo.{ClassInfo}
use Rattle.th_base.specs.declared.number.FieldId.{FieldId}
use Rattle.th_base.specs.declared.number.SiteId.{SiteId}
use Rattle.th_incl.specs.Least.{IsLeast, HasMoreThan}
use Rattle.th_ir.specs.declared.facts.Facts.{Facts}
use Rattle.th_ir.specs.declared.program.RegProgram.{RegProgram}
use Rattle.th_ir.specs.Fields.{field_count}
use Rattle.th_ir.specs.FactSets.{FactSets, sets_of}
use Rattle.th_ir.specs.Plan.{pair_count}
use Rattle.th_ir.specs.Program.{register_count}
use Rattle.th_ir.specs.Rules.{HoldsRules, LeastFacts}
use Rattle.th_ir.specs.Sites.{is_string_site}
use Rattle.th_ir.specs.WellFormed.{IsConstantField, IsWellFormed}
use Rattle.th_ir.proofs.Plain.{some_is, and_both}
use Rattle.th_points_to.specs.declared.place.Layout.{Layout}
use Rattle.th_points_to.specs.declared.rounds.State.{State}
use Rattle.th_points_to.specs.declared.tables.Tables.{Tables}
use Rattle.th_points_to.specs.Found.{Holds}
use Rattle.th_points_to.specs.Listing.{AreOnce, IsListed}
use Rattle.th_points_to.specs.Rounds.{IsRoundOf, IsState}
use Rattle.th_points_to.proofs.Ending.{least_facts}
use Rattle.th_points_to.proofs.ListingLemmas.{is_listing}
use Rattle.th_points_to.proofs.Obeying.{IsLayout, string_inside, static_inside}
use Rattle.th_points_to.proofs.PairSums.{pairs_over}
use Rattle.th_points_to.proofs.Pairs.{pair_eq}
use Rattle.th_points_to.proofs.RegisterLemmas.{has_registers}

apart_at : (test : ℕ × ℕ → Bool) (ks : List (ℕ × ℕ)) (k : ℕ) (d : ℕ × ℕ) → AllByRecursion (λ e. test e ≡ false) ks → slice_get ks k ≡ Some d → test d ≡ false
apart_at test [] k d all e = absurd cc
apart_at test (q ∷ ks) zero d all e = subst (λ (r : ℕ × ℕ). test r ≡ false) (some_is q d e) all.0
apart_at test (q ∷ ks) (suc k) d all e = apart_at test ks k d all.1 e

not_apart : (q d : ℕ × ℕ) → q ≡ d → pair_eq q d ≡ false → ⊥
not_apart q d same e =
    let is : pair_eq q d ≡ true = and_both (q.0 == d.0) (q.1 == d.1) (eq-eqb q.0 d.0 (ap (λ (r : ℕ × ℕ). r.0) same)) (eq-eqb q.1 d.1 (ap (λ (r : ℕ × ℕ). r.1) same)) in
    clash (pair_eq q d) is e
  where
    clash : (b : Bool) → b ≡ true → b ≡ false → ⊥
    clash b one other = cc

pub are_once : (keys : List (ℕ × ℕ)) → IsDistinct pair_eq keys → AreOnce keys
unfolding IsDistinct
are_once [] distinct i k d one other = absurd cc
are_once (q ∷ keys) distinct zero zero d one other = refl
are_once (q ∷ keys) distinct zero (suc k) d one other = absurd (not_apart q d (some_is q d one) (apart_at (pair_eq q) keys k d distinct.0 other))
are_once (q ∷ keys) distinct (suc i) zero d one other = absurd (not_apart q d (some_is q d other) (apart_at (pair_eq q) keys i d distinct.0 one))
are_once (q ∷ keys) distinct (suc i) (suc k) d one other = ap suc (are_once keys distinct.1 i k d one other)

strings_inside : (h : List ClassInfo) (l : Layout) (p : RegProgram) (cs : List (FieldId × SiteId)) → IsLayout h p l
    → AllByRecursion (λ i. IsConstantField h i.0 true × (is_string_site p i.1.0 ≡ true)) cs → AllByRecursion (λ (i : FieldId × SiteId). (i.0.0 < l.fields) × (i.1.0 < l.sites)) cs
strings_inside h l p [] layout all = tt
strings_inside h l p (i ∷ cs) layout all =
    ((static_inside h p l i.0.0 layout all.0.0.0, string_inside h p l i.1.0 layout all.0.1), strings_inside h l p cs layout all.1)

pub facts_found : (h : List ClassInfo) (l : Layout) (p : RegProgram) (ts : Tables) (s : State) (facts : Facts) → IsWellFormed h p → l.registers ≡ register_count p → l.fields ≡ field_count h
    → l.sites ≡ length p.sites → IsState h l p ts s → IsRoundOf h l p [] s → length s.found.reached.keys ≤ s.opened → IsLeast s.found.solver.constraints s.found.solver.sets
    → AreOnce s.found.cells.keys → IsListed l s.found facts → LeastFacts h p facts
facts_found h l p ts s facts wf registers fields sites state is all least once listed =
    let layout : IsLayout h p l = record { fields = fields; sites = sites } in
    least_facts h l p ts s facts wf layout (has_registers l p registers) (strings_inside h l p p.strings layout wf.constants.strings) state is all least once
    (is_listing h l p s.found facts registers fields state.laid least once listed)

pub over_found : (h : List ClassInfo) (l : Layout) (p : RegProgram) (ts : Tables) (s : State) (limit : ℕ) (facts : Facts) → l.registers ≡ register_count p → l.fields ≡ field_count h
    → IsState h l p ts s → AreOnce s.found.cells.keys → HasMoreThan s.found.solver.constraints limit → ((u : FactSets) → HoldsRules h p u → Holds l s.found u)
    → LeastFacts h p facts → limit < pair_count facts
over_found h l p ts s limit facts registers fields state once more sound least =
    pairs_over h l p s.found facts limit registers fields state.laid once more (sound (sets_of facts) least.least.holds) least.listed

-- What the calls give, at the values that the summaries are of.
use Rattle.std.proofs.Common.{◌≡◌, ℕ, ◌+◌, true, List, [], ◌∷◌, length, map, Ok, Err, Result, sym, ap, ◌∙◌, subst, inl, inr}
use Rattle.std.specs.List.{Contains}
use Rattle.std.specs.Result.{IfOk}
use Rattle.std.proofs.lemmas.Bool.{or_left, or_right, eq-eqb}
use Rattle.th_base.specs.declared.class.ClassInfo.{ClassInfo}
use Rattle.th_base.specs.Hierarchy.{IsAcyclic}
use Rattle.th_base.specs.IdSet.{has}
use Rattle.th_incl.specs.declared.constraints.Inclusion.{Inclusion}
use Rattle.th_incl.specs.Least.{IsInRange}
use Rattle.th_incl.proofs.Through.{nothing_in_none}
use Rattle.th_ir.specs.declared.facts.Facts.{Facts}
use Rattle.th_ir.specs.declared.program.Method.{Method}
use Rattle.th_ir.specs.declared.program.RegProgram.{RegProgram}
use Rattle.th_mod.specs.declared.effect.Part.{Part}
use Rattle.th_mod.specs.Systems.{base_pairs, copies_of}
use Rattle.th_mod.specs.Told.{system_of, AreTold}
use Rattle.th_mod.proofs.Copies.{system_in_range}
use Rattle.th_mod.proofs.Flat.{first_or_later}

pub ok_more : {T E : Type 0} (r : Result T E) (P Q : T → Type 0) → ((x : T) → P x → Q x) → IfOk r P → IfOk r Q
ok_more (Ok x) P Q more is = more x is
ok_more (Err e) P Q more is = tt

-- the number of a pair is among the numbers of the pairs
pub number_in : (pairs : List (ℕ × ℕ)) (i x : ℕ) → Contains pairs (i, x) → has (map (λ (q : ℕ × ℕ). q.1) pairs) x ≡ true
number_in [] i x one = absurd (nothing_in_none {X = ℕ × ℕ} (i, x) one)
number_in (q ∷ qs) i x one = elim (first_or_later {X = ℕ × ℕ} q qs (i, x) one) [
  | inl same ↦ or_left _ (has (map (λ (q : ℕ × ℕ). q.1) qs) x) (eq-eqb q.1 x (ap (λ (q : ℕ × ℕ). q.1) same))
  | inr more ↦ or_right _ (has (map (λ (q : ℕ × ℕ). q.1) qs) x) (number_in qs i x more)
]

-- the values of the code: classes and methods, sets, base pairs and inclusions
pub record AreOf (h : List ClassInfo) (p : RegProgram) (facts : Facts) (part : Part) (classes : List ClassInfo) (methods : List Method) (sets : ℕ) (base : List (ℕ × ℕ))
    (copies : List Inclusion) : Type 0 where
  pub classes_are : classes ≡ h
  pub methods_are : methods ≡ p.methods
  pub sets_are : sets ≡ length classes + length methods
  pub base_is : base ≡ base_pairs (length classes) p part p.nodes
  pub copies_are : copies ≡ copies_of h p facts

-- what holds at the definitions' values holds at the code's
at_values : (h : List ClassInfo) (p : RegProgram) (facts : Facts) (part : Part) (classes : List ClassInfo) (methods : List Method) (sets : ℕ) (base : List (ℕ × ℕ))
    (copies : List Inclusion) → AreOf h p facts part classes methods sets base copies
    → (sets ≡ length h + length p.methods) × (base ≡ base_pairs (length h) p part p.nodes) × (copies ≡ copies_of h p facts)
at_values h p facts part classes methods sets base copies are = (
  are.sets_are ∙ ap (λ (l : List ClassInfo). length l + length methods) are.classes_are ∙ ap (λ (l : List Method). length h + length l) are.methods_are,
  are.base_is ∙ ap (λ (l : List ClassInfo). base_pairs (length l) p part p.nodes) are.classes_are,
  are.copies_are,
)

pub in_range_at : (h : List ClassInfo) (p : RegProgram) (facts : Facts) (part : Part) (classes : List ClassInfo) (methods : List Method) (sets : ℕ) (base : List (ℕ × ℕ))
    (copies : List Inclusion) → IsAcyclic h → AreOf h p facts part classes methods sets base copies → IsInRange (system_of sets base copies [])
in_range_at h p facts part classes methods sets base copies acyclic are =
    let v = at_values h p facts part classes methods sets base copies are in
    subst (λ (n : ℕ). IsInRange (system_of n base copies [])) (sym v.0)
    (subst (λ (b : List (ℕ × ℕ)). IsInRange (system_of (length h + length p.methods) b copies [])) (sym v.1)
    (subst (λ (l : List Inclusion). IsInRange (system_of (length h + length p.methods) (base_pairs (length h) p part p.nodes) l [])) (sym v.2)
    (system_in_range h p facts part [] acyclic)))

pub told_at : (h : List ClassInfo) (p : RegProgram) (facts : Facts) (part : Part) (classes : List ClassInfo) (methods : List Method) (sets : ℕ) (base : List (ℕ × ℕ))
    (copies : List Inclusion) (told : List (List ℕ)) → AreOf h p facts part classes methods sets base copies → AreTold sets base copies told
    → AreTold (length h + length p.methods) (base_pairs (length h) p part p.nodes) (copies_of h p facts) told
told_at h p facts part classes methods sets base copies told are is =
    let v = at_values h p facts part classes methods sets base copies are in
    subst (λ (n : ℕ). AreTold n (base_pairs (length h) p part p.nodes) (copies_of h p facts) told) v.0
    (subst (λ (b : List (ℕ × ℕ)). AreTold sets b (copies_of h p facts) told) v.1
    (subst (λ (l : List Inclusion). AreTold sets base l told) v.2 is))

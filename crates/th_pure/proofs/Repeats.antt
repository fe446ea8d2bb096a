-- Equal facts, and facts without repeats.
use Rattle.std.proofs.Common.{◌≡◌, ℕ, ◌<◌, ◌≤◌, ℤ, List, [], ◌∷◌, ◌++◌, length, arith, refl, ap, ◌∙◌, inl, inr, Bool, true, ◌&&◌, eqb, length-append}
use Rattle.std.specs.Bool.{Decides}
use Rattle.std.specs.Ordering.{int_eq}
use Rattle.std.proofs.lemmas.Bool.{cases_Bool, false_from_ne_true, le-leb, lt-leb}
use Rattle.std.proofs.lemmas.Bool.Decides.{Decides-eqb, Decides-int_eq, Decides-and}
use Rattle.th_linear.specs.Forms.{Form}
use Rattle.th_linear.specs.declared.fact.Rel.{Rel}
use Rattle.th_linear.specs.declared.fact.Rel.TheVariants.{Eq, Le, Ne}
use Rattle.th_pure.specs.Elimination.{same_relation, same_terms, same_fact, has_fact, with_fact, put_after, eliminated, eliminated_all}
use Rattle.th_pure.specs.declared.elimination.TheConstants.{FACT_LIMIT}
use Rattle.th_pure.specs.Outcomes.{and_then}
use Rattle.th_pure.specs.declared.facts.Outcome.TheVariants.{Undecided}

decides_relation : (a b : Rel) → Decides (same_relation a b) (a ≡ b)
decides_relation Eq Eq = ((λ _. refl), (λ _. refl))
decides_relation Eq Le = ((λ h. cc), (λ e. cc))
decides_relation Eq Ne = ((λ h. cc), (λ e. cc))
decides_relation Le Eq = ((λ h. cc), (λ e. cc))
decides_relation Le Le = ((λ _. refl), (λ _. refl))
decides_relation Le Ne = ((λ h. cc), (λ e. cc))
decides_relation Ne Eq = ((λ h. cc), (λ e. cc))
decides_relation Ne Le = ((λ h. cc), (λ e. cc))
decides_relation Ne Ne = ((λ _. refl), (λ _. refl))

join_terms : (t u : ℕ × ℤ) (ts us : List (ℕ × ℤ)) → (t.0 ≡ u.0) × (t.1 ≡ u.1) × (ts ≡ us) → (t ∷ ts) ≡ (u ∷ us)
join_terms t u ts us h = λ i. (h.0 i, h.1 i) ∷ h.2 i

part_terms : (t u : ℕ × ℤ) (ts us : List (ℕ × ℤ)) → (t ∷ ts) ≡ (u ∷ us) → (t.0 ≡ u.0) × (t.1 ≡ u.1) × (ts ≡ us)
part_terms t u ts us e = (cc, cc, cc)

decides_three : {P Q R : Type 0} (x y z : Bool) → Decides x P → Decides y Q → Decides z R → Decides (x && y && z) (P × Q × R)
decides_three x y z p q r =
    let left = Decides-and x y p q in
    let all = Decides-and (x && y) z left r in
    ((λ e. let k = all.0 e in (k.0.0, k.0.1, k.1)), (λ h. all.1 ((h.0, h.1), h.2)))

pub decides_terms : (ts us : List (ℕ × ℤ)) → Decides (same_terms ts us) (ts ≡ us)
decides_terms [] [] = ((λ _. refl), (λ _. refl))
decides_terms [] (u ∷ us) = ((λ h. cc), (λ e. cc))
decides_terms (t ∷ ts) [] = ((λ h. cc), (λ e. cc))
decides_terms (t ∷ ts) (u ∷ us) =
    let three = decides_three (eqb t.0 u.0) (int_eq t.1 u.1) (same_terms ts us) (Decides-eqb t.0 u.0) (Decides-int_eq t.1 u.1) (decides_terms ts us) in
    ((λ e. join_terms t u ts us (three.0 e)), (λ e. three.1 (part_terms t u ts us e)))

join_fact : (f g : Form) → (f.constant ≡ g.constant) × (f.rel ≡ g.rel) × (f.coefs ≡ g.coefs) → f ≡ g
join_fact f g h = λ i. record { coefs = h.2 i; constant = h.0 i; rel = h.1 i }

pub decides_fact : (f g : Form) → Decides (same_fact f g) (f ≡ g)
decides_fact f g =
    let three = decides_three (int_eq f.constant g.constant) (same_relation f.rel g.rel) (same_terms f.coefs g.coefs) (Decides-int_eq f.constant g.constant) (decides_relation f.rel g.rel) (decides_terms f.coefs g.coefs) in
    ((λ e. join_fact f g (three.0 e)), (λ e. three.1 (ap (λ (x : Form). x.constant) e, ap (λ (x : Form). x.rel) e, ap (λ (x : Form). x.coefs) e)))

-- the first of the list is the fact, or isn't
pub has_first : (f g : Form) (gs : List Form) → f ≡ g → has_fact f (g ∷ gs) ≡ true
has_first f g gs e = rw ((decides_fact f g).1 e) refl

pub has_later : (f g : Form) (gs : List Form) → (f ≡ g → ⊥) → has_fact f (g ∷ gs) ≡ has_fact f gs
has_later f g gs n = rw (false_from_ne_true (same_fact f g) (λ e. n ((decides_fact f g).0 e))) refl

-- ---- facts put after others

-- putting facts after others drops none of them
pub put_longer : (kept fs : List Form) → length kept ≤ length (put_after kept fs)
put_longer kept [] = omega arith
put_longer kept (f ∷ fs) = elim (cases_Bool (has_fact f kept)) [
  | inl is ↦ rw is (put_longer kept fs)
  | inr isnt ↦ rw isnt (omega (arith, put_longer (kept ++ f ∷ []) fs, length-append kept (f ∷ [])))
]

-- ---- so many facts that they are given up

pub both_long : (vs : List ℕ) (fs : List Form) → FACT_LIMIT ≤ length fs → eliminated_all vs fs ≡ Undecided
both_long [] fs h = refl
both_long (v ∷ vs) fs h = rw (le-leb FACT_LIMIT (length fs) h) refl

pub next_variable : (v : ℕ) (rest more : List ℕ) (fs : List Form) → more ≡ v ∷ rest → length fs < FACT_LIMIT
    → eliminated_all more fs ≡ and_then (eliminated v fs) (λ gs. eliminated_all rest gs)
next_variable v rest more fs e less = ap (λ vs. eliminated_all vs fs) e ∙ rw (lt-leb FACT_LIMIT (length fs) less) refl

-- ---- one list put after another

pub put_append : (kept fs gs : List Form) → put_after kept (fs ++ gs) ≡ put_after (put_after kept fs) gs
put_append kept [] gs = refl
put_append kept (f ∷ fs) gs = put_append (with_fact f kept) fs gs

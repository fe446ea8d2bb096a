-- Terms in any order, added up variable by variable.
use Rattle.std.proofs.Common.{◌≡◌, ◌≢◌, ℕ, suc, ◌+◌, ◌*◌, ◌<◌, ◌≤◌, ◌^◌, ℤ, pos, neg_ℤ, ◌+ℤ◌, ◌*ℤ◌, Bool, List, [], ◌∷◌, ◌++◌, length, get_or, take, drop, arith, refl, ap, sym, ◌∙◌, subst, cond, eqb, inl, inr, true, false, ◌&&◌, Option, Some, None, IsSome, IfSome, ◌↔◌}
use Rattle.std.specs.Prelude.{All, sum_by}
use Rattle.std.specs.Int.RustNames.{unsigned_abs}
use Rattle.std.specs.Ordering.{int_eq}
use Rattle.std.specs.List.Sorted.{IsPermutation, IsNonDecreasingBy}
use Rattle.std.proofs.lemmas.Int.{ints}
use Rattle.std.proofs.lemmas.Bool.{cases_Bool, cases_eq, cases_lt, eq-eqb, ne_eqb, ltb-true, lt-ltb, and_parts, and_left, and_right, false_from_ne_true}
use Rattle.std.proofs.lemmas.Bool.Decides.{Decides-int_eq}
use Rattle.std.proofs.lemmas.List.Sorted.{sum_by-IsPermutation}
use Rattle.std.proofs.lemmas.List.Sums.{sum_by-cons}
use Rattle.std.proofs.lemmas.List.Elements.{All-nil, All-cons}
use Rattle.std.proofs.lemmas.List.{drop_more, drop_all, drop-drop, take_more, map-append, get_or_past}
use Rattle.th_linear.specs.Forms.{Form, IsForm, Small, value, coef}
use Rattle.th_linear.specs.Summed.{term_before, is_small, all_small}
use Rattle.th_linear.specs.Gathered.{AreSmall, total, gathered, gathered_form, IsGathered, IsTooLargeTotal, Gathers, Renames, name_of, renamed_terms}
use Rattle.th_linear.specs.Laws.{IsFact, OrderIsFree, RenamingComposes, SameNamesStay}
use Rattle.th_linear.specs.declared.fact.Rel.{Rel}
use Rattle.th_linear.proofs.Going.{Below}
use Rattle.th_linear.proofs.Divisors.{same_at}
use borrow.Author.Differences.{up, down}
use Rattle.th_linear.proofs.Terms.{Ascend, Clean, clean_ascend, coef_head, clean_terms, terms_ascend, coef_under, same_terms}
use Rattle.th_linear.proofs.Summing.{coef_added, coef_before, added_clean, small_coef, small_terms}
use Rattle.th_linear.proofs.Sums.{value_summed, clean_small}

-- ---- what the function on terms gives

gathered_clean : (ts : List (ℕ × ℤ)) → Clean 0 (gathered ts)
gathered_clean [] = tt
gathered_clean (t ∷ ts) = added_clean t.0 0 t.1 (gathered ts) (omega arith) (gathered_clean ts)

coef_gathered : (v : ℕ) (ts : List (ℕ × ℤ)) → coef v (gathered ts) ≡ total v ts
coef_gathered v [] = refl
coef_gathered v (t ∷ ts) =
    coef_added v t.0 0 t.1 (gathered ts) (gathered_clean ts) ∙ (λ i. cond (eqb v t.0) (t.1 +ℤ coef_gathered v ts i) (coef_gathered v ts i))

value_gathered : (ts : List (ℕ × ℤ)) (s : ℕ → ℤ) → value (gathered ts) s ≡ value ts s
value_gathered ts s = value_summed ts [] s ∙ no_more (value ts s)
  where
    no_more : (z : ℤ) → z +ℤ pos 0 ≡ z
    no_more z = omega (arith, ints)

-- no other ascending terms have these coefficients
pub gathered_is : (ts us : List (ℕ × ℤ)) → Clean 0 us → ((v : ℕ) → coef v us ≡ total v ts) → us ≡ gathered ts
gathered_is ts us h k = same_terms 0 us (gathered ts) h (gathered_clean ts) (λ v. k v ∙ sym (coef_gathered v ts))

-- ---- the fact of terms

some_is : (r x : Form) → Some x ≡ Some r → x ≡ r
some_is r x e = cc

made : (ts : List (ℕ × ℤ)) (k : ℤ) (rel : Rel) → is_small k ≡ true → all_small (gathered ts) ≡ true
    → IsFact (record { coefs = gathered ts; constant = k; rel = rel }) × IsGathered ts k rel (record { coefs = gathered ts; constant = k; rel = rel })
made ts k rel h j = (
  record { terms = clean_small 0 (gathered ts) (gathered_clean ts) j; small = ltb-true (unsigned_abs k) (2 ^ 62) h },
  record { value = λ s. value_gathered ts s; coef = λ v. coef_gathered v ts; constant = refl; rel = refl },
)

pub answer_is : (ts : List (ℕ × ℤ)) (k : ℤ) (rel : Rel) (r : Form) → gathered_form ts k rel ≡ Some r → IsFact r × IsGathered ts k rel r
unfolding gathered_form
answer_is ts k rel r e = elim (cases_Bool (is_small k && all_small (gathered ts))) [
  | inl is ↦
      let parts = and_parts (is_small k) (all_small (gathered ts)) is in
      subst (λ (x : Form). IsFact x × IsGathered ts k rel x) (some_is r (record { coefs = gathered ts; constant = k; rel = rel }) (rw is at e)) (made ts k rel parts.0 parts.1)
  | inr isnt ↦ let n : None ≡ Some r = rw isnt at e in cc
]

-- small terms with these coefficients are what is made
pub gathered_some : (ts us : List (ℕ × ℤ)) (k : ℤ) (rel : Rel) → us ≡ gathered ts → IsForm us k
    → gathered_form ts k rel ≡ Some (record { coefs = us; constant = k; rel = rel })
unfolding gathered_form
gathered_some ts us k rel e h =
    rw (← e, lt-ltb (unsigned_abs k) (2 ^ 62) h.small, small_terms 0 us h.terms) refl

pub only_gathered : (ts : List (ℕ × ℤ)) (k : ℤ) (rel : Rel) (r : Form) → IsFact r → IsGathered ts k rel r → gathered_form ts k rel ≡ Some r
only_gathered ts k rel r h g =
    let is = gathered_is ts r.coefs (clean_terms 0 r.coefs h.terms) g.coef in
    gathered_some ts r.coefs k rel is (record { terms = h.terms; small = subst Small g.constant h.small })
    ∙ (λ i. Some (record { coefs = r.coefs; constant = sym g.constant i; rel = sym g.rel i }))

pub no_gathered : (ts : List (ℕ × ℤ)) (k : ℤ) (rel : Rel) → IsTooLargeTotal ts k → gathered_form ts k rel ≡ None
unfolding gathered_form
no_gathered ts k rel (inl large) =
    let no_small = false_from_ne_true (is_small k) (λ s. large (ltb-true (unsigned_abs k) (2 ^ 62) s)) in
    rw (and_left (is_small k) (all_small (gathered ts)) no_small) refl
no_gathered ts k rel (inr large) =
    let no_small = false_from_ne_true (all_small (gathered ts)) (λ s. large.1 (subst Small (coef_gathered large.0 ts) (small_coef large.0 (gathered ts) s))) in
    rw (and_right (is_small k) (all_small (gathered ts)) no_small) refl

-- a coefficient that isn't small is some variable's
large_coef : (low : ℕ) (ts : List (ℕ × ℤ)) → Ascend low ts → all_small ts ≡ false → (v : ℕ) × (Small (coef v ts) → ⊥)
large_coef low [] h e = let n : true ≡ false = e in cc
large_coef low (t ∷ ts) h e = elim (cases_Bool (is_small t.1)) [
  | inl is ↦
      let rest = large_coef (t.0 + 1) ts h.1 (rw is at e) in (
        rest.0,
        elim (cases_eq rest.0 t.0) [
          | inl same ↦ absurd (rest.1 (rw (coef_under rest.0 (t.0 + 1) ts h.1 (omega (arith, same))) (omega arith)))
          | inr other ↦ rw (ne_eqb rest.0 t.0 other) rest.1
        ],
      )
  | inr isnt ↦ (t.0, (λ s. let n : true ≡ false = sym (lt-ltb (unsigned_abs t.1) (2 ^ 62) (rw (coef_head t ts) at s)) ∙ isnt in cc))
]

large_one : (ts : List (ℕ × ℤ)) (k : ℤ) → (is_small k && all_small (gathered ts)) ≡ false → IsTooLargeTotal ts k
large_one ts k e = elim (cases_Bool (is_small k)) [
  | inl is ↦
      let large = large_coef 0 (gathered ts) (clean_ascend 0 (gathered ts) (gathered_clean ts)) (rw is at e) in
      inr (large.0, (λ s. large.1 (subst Small (sym (coef_gathered large.0 ts)) s)))
  | inr isnt ↦ inl (λ s. let n : true ≡ false = sym (lt-ltb (unsigned_abs k) (2 ^ 62) s) ∙ isnt in cc)
]

-- the answer as it is made: none where the ascending terms are no form
pub answered : (ts us : List (ℕ × ℤ)) (k : ℤ) (rel : Rel) (o : Option Form) → us ≡ gathered ts → IsSome o ↔ IsForm us k
    → IfSome o (λ f. f ≡ record { coefs = us; constant = k; rel = rel }) → o ≡ gathered_form ts k rel
answered ts us k rel (Some f) e valid is = ap Some is ∙ sym (gathered_some ts us k rel e (valid.0 refl))
answered ts us k rel None e valid is = elim (cases_Bool (is_small k && all_small (gathered ts))) [
  | inl small ↦
      let parts = and_parts (is_small k) (all_small (gathered ts)) small in
      let form : IsForm us k = subst (λ (xs : List (ℕ × ℤ)). IsForm xs k) (sym e) (made ts k rel parts.0 parts.1).0 in
      let n : false ≡ true = valid.1 form in cc
  | inr large ↦ sym (no_gathered ts k rel (large_one ts k large))
]

pub gathers : (ts : List (ℕ × ℤ)) (k : ℤ) (rel : Rel) (o : Option Form) → o ≡ gathered_form ts k rel → Gathers ts k rel o
gathers ts k rel (Some f) e = (answer_is ts k rel f (sym e)).1
gathers ts k rel None e = elim (cases_Bool (is_small k && all_small (gathered ts))) [
  | inl small ↦
      let parts = and_parts (is_small k) (all_small (gathered ts)) small in
      let some = gathered_some ts (gathered ts) k rel refl (made ts k rel parts.0 parts.1).0 in
      let n : None ≡ Some (record { coefs = gathered ts; constant = k; rel = rel }) = e ∙ some in cc
  | inr large ↦ large_one ts k large
]

-- ---- the order of terms

parts_of : (v : ℕ) (ts : List (ℕ × ℤ))
    → total v ts ≡ pos (sum_by (λ t. cond (eqb v t.0) (up t.1) 0) ts) +ℤ neg_ℤ (pos (sum_by (λ t. cond (eqb v t.0) (down t.1) 0) ts))
parts_of v [] = refl
parts_of v (t ∷ ts) = let rest = parts_of v ts in elim (cases_Bool (eqb v t.0)) [
  | inl is ↦ rw (sum_by-cons (λ (u : ℕ × ℤ). cond (eqb v u.0) (up u.1) 0) t ts, sum_by-cons (λ (u : ℕ × ℤ). cond (eqb v u.0) (down u.1) 0) t ts, is) (omega (arith, ints, rest))
  | inr isnt ↦ rw (sum_by-cons (λ (u : ℕ × ℤ). cond (eqb v u.0) (up u.1) 0) t ts, sum_by-cons (λ (u : ℕ × ℤ). cond (eqb v u.0) (down u.1) 0) t ts, isnt) (omega (arith, ints, rest))
]

pub total_permuted : (v : ℕ) (ts us : List (ℕ × ℤ)) → IsPermutation ts us → total v us ≡ total v ts
total_permuted v ts us p =
    parts_of v us
    ∙ (λ i. pos (sum_by-IsPermutation (λ t. cond (eqb v t.0) (up t.1) 0) ts us p i)
    +ℤ neg_ℤ (pos (sum_by-IsPermutation (λ t. cond (eqb v t.0) (down t.1) 0) ts us p i)))
    ∙ sym (parts_of v ts)

pub gathered_permuted : (ts us : List (ℕ × ℤ)) → IsPermutation ts us → gathered us ≡ gathered ts
gathered_permuted ts us p = gathered_is ts (gathered us) (gathered_clean us) (λ v. coef_gathered v us ∙ total_permuted v ts us p)

pub order_is_free : OrderIsFree
unfolding gathered_form
order_is_free ts us k rel p =
    ap (λ (xs : List (ℕ × ℤ)). cond (is_small k && all_small xs) (Some (record { coefs = xs; constant = k; rel = rel })) None) (sym (gathered_permuted ts us p))

-- ---- small coefficients

pub all_small_terms : (ts : List (ℕ × ℤ)) → AreSmall ts → All (λ (t : ℕ × ℤ). Small t.1) ts
all_small_terms [] h = All-nil (λ (t : ℕ × ℤ). Small t.1)
all_small_terms (t ∷ ts) h = All-cons (λ (u : ℕ × ℤ). Small u.1) t ts h.0 (all_small_terms ts h.1)

pub are_small_push : (ts : List (ℕ × ℤ)) (t : ℕ × ℤ) → AreSmall ts → Small t.1 → AreSmall (ts ++ t ∷ [])
are_small_push [] t h s = (s, tt)
are_small_push (u ∷ us) t h s = (h.0, are_small_push us t h.1 s)

-- ---- names

pub value_renamed : (names : List ℕ) (ts : List (ℕ × ℤ)) (s : ℕ → ℤ) → value (renamed_terms names ts) s ≡ value ts (λ v. s (name_of names v))
value_renamed names [] s = refl
value_renamed names (t ∷ ts) s = λ i. (t.1 *ℤ s (name_of names t.0)) +ℤ value_renamed names ts s i

pub renamed_more : (names : List ℕ) (ts : List (ℕ × ℤ)) (i n : ℕ) (d : ℕ × ℤ) → i < length ts → n ≡ name_of names (get_or ts i d).0
    → renamed_terms names (take i ts) ++ (n, (get_or ts i d).1) ∷ [] ≡ renamed_terms names (take (i + 1) ts)
renamed_more names ts i n d lt e =
    ap (λ (m : ℕ). renamed_terms names (take i ts) ++ (m, (get_or ts i d).1) ∷ []) e
    ∙ sym (ap (renamed_terms names) (take_more ts i d lt) ∙ map-append _ (take i ts) (get_or ts i d ∷ []))

pub renames : (names : List ℕ) (f : Form) (o : Option Form) → Small f.constant → Gathers (renamed_terms names f.coefs) f.constant f.rel o → Renames names f o
renames names f (Some r) small g = record { value = λ s. g.value s ∙ value_renamed names f.coefs s; coef = g.coef; constant = g.constant; rel = g.rel }
renames names f None small (inl large) = absurd (large small)
renames names f None small (inr large) = large

pub renaming_composes : RenamingComposes
renaming_composes names f r h e =
    let a = answer_is (renamed_terms names f.coefs) f.constant f.rel r e in
    let v = λ (s : ℕ → ℤ). a.1.value s ∙ value_renamed names f.coefs s in
    (a.0, a.1.rel, v, (λ s. rw (a.1.rel, a.1.constant, v s) ((λ x. x), (λ x. x))))

total_ascend : (v low : ℕ) (ts : List (ℕ × ℤ)) → Ascend low ts → coef v ts ≡ total v ts
total_ascend v low [] h = refl
total_ascend v low (t ∷ ts) h = elim (cases_eq v t.0) [
  | inl e ↦
      let none : total v ts ≡ pos 0 = sym (total_ascend v (t.0 + 1) ts h.1) ∙ coef_under v (t.0 + 1) ts h.1 (omega (arith, e)) in
      rw (eq-eqb v t.0 e, none) (same t.1)
  | inr n ↦ rw (ne_eqb v t.0 n) (total_ascend v (t.0 + 1) ts h.1)
]
  where
    same : (z : ℤ) → z ≡ z +ℤ pos 0
    same z = omega (arith, ints)

same_names : (names : List ℕ) (ts : List (ℕ × ℤ)) → ((v : ℕ) → name_of names v ≡ v) → renamed_terms names ts ≡ ts
same_names names [] h = refl
same_names names (t ∷ ts) h = λ i. (h t.0 i, t.1) ∷ same_names names ts h i

pub same_names_stay : SameNamesStay
same_names_stay names f h k =
    let itself : IsGathered f.coefs f.constant f.rel f =
    record { value = λ s. refl; coef = λ v. total_ascend v 0 f.coefs (terms_ascend 0 f.coefs h.terms); constant = refl; rel = refl } in
    let each : (v : ℕ) → name_of names v ≡ v = λ v. elim (cases_lt v (length names)) [ inl lt ↦ k v lt | inr past ↦ get_or_past names v v past ] in
    ap (λ (ts : List (ℕ × ℤ)). gathered_form ts f.constant f.rel) (same_names names f.coefs each) ∙ only_gathered f.coefs f.constant f.rel f h itself

-- ---- the loop that adds up terms whose variables don't descend

-- no variable is below the one before it, nor below `low`
abbrev pub Climb : ℕ → List (ℕ × ℤ) → Type 0
Climb low [] = Unit {0}
Climb low (t ∷ ts) = (low ≤ t.0) × Climb t.0 ts

pub climb_from : (low : ℕ) (ts : List (ℕ × ℤ)) → ((d : ℕ × ℤ) → 0 < length ts → low ≤ (get_or ts 0 d).0)
    → IsNonDecreasingBy (λ t. t.0) ts → Climb low ts
climb_from low [] h k = tt
climb_from low (t ∷ ts) h k = (
  h t (omega arith),
  climb_from t.0 ts (λ d lt. k 0 1 d (omega arith) (omega (arith, lt))) (λ i j d le lt. k (suc i) (suc j) d (omega (arith, le)) (omega (arith, lt))),
)

-- of all terms, those of lesser variables are added up, some of `variable` make `sum`, and the rest are to come
pub record Adding (all done rest : List (ℕ × ℤ)) (variable : ℕ) (sum : ℤ) : Type 0 where
  pub clean : Clean 0 done
  pub under : Below variable done
  pub ahead : Climb variable rest
  pub total : (v : ℕ) → (coef v done +ℤ cond (eqb v variable) sum (pos 0)) +ℤ total v rest ≡ total v all

pub adding_start : (all : List (ℕ × ℤ)) → IsNonDecreasingBy (λ t. t.0) all → Adding all [] all 0 (pos 0)
adding_start all h = record {
  clean = tt;
  under = tt;
  ahead = climb_from 0 all (λ d lt. omega arith) h;
  total = λ v. elim (cases_Bool (eqb v 0)) [ inl is ↦ rw is (nothing (total v all)) | inr isnt ↦ rw isnt (nothing (total v all)) ];
}
  where
    nothing : (z : ℤ) → (pos 0 +ℤ pos 0) +ℤ z ≡ z
    nothing z = omega (arith, ints)

-- one more term of the variable
pub adding_same : (all done rest more : List (ℕ × ℤ)) (t : ℕ × ℤ) (variable : ℕ) (sum : ℤ) → more ≡ t ∷ rest → t.0 ≡ variable
    → Adding all done more variable sum → Adding all done rest variable (sum +ℤ t.1)
adding_same all done rest more t variable sum e same a = record {
  clean = a.clean;
  under = a.under;
  ahead = subst (λ (low : ℕ). Climb low rest) same (subst (Climb variable) e a.ahead).1;
  total = λ v. elim (cases_eq v t.0) [
    | inl is ↦
        let k = rw (e, eq-eqb v variable (is ∙ same), eq-eqb v t.0 is) at (a.total v) in
        rw (eq-eqb v variable (is ∙ same)) (shift (coef v done) sum t.1 (total v rest) (total v all) k)
    | inr isnt ↦
        let k = rw (e, ne_eqb v t.0 isnt) at (a.total v) in
        rw (ne_eqb v variable (λ q. isnt (q ∙ sym same))) (rw (ne_eqb v variable (λ q. isnt (q ∙ sym same))) at k)
  ];
}
  where
    shift : (c x y r n : ℤ) → (c +ℤ x) +ℤ (y +ℤ r) ≡ n → (c +ℤ (x +ℤ y)) +ℤ r ≡ n
    shift c x y r n h = omega (arith, ints, h)

closed_clean : (low variable : ℕ) (done : List (ℕ × ℤ)) (sum : ℤ) → Clean low done → Below variable done → low ≤ variable → Clean low (done ++ term_before variable sum [])
closed_clean low variable [] sum h b le = elim (cases_Bool (int_eq sum (pos 0))) [
  | inl is ↦ rw is tt
  | inr isnt ↦ rw isnt (le, (λ e. let n : true ≡ false = sym ((Decides-int_eq sum (pos 0)).1 e) ∙ isnt in cc), tt)
]
closed_clean low variable (t ∷ ts) sum h b le = (h.0, h.1, closed_clean (t.0 + 1) variable ts sum h.2 b.1 (omega (arith, b.0)))

coef_closed : (v variable : ℕ) (done : List (ℕ × ℤ)) (sum : ℤ) → Below variable done
    → coef v (done ++ term_before variable sum []) ≡ coef v done +ℤ cond (eqb v variable) sum (pos 0)
coef_closed v variable [] sum b = coef_before v variable sum [] tt ∙ zero_before (cond (eqb v variable) sum (pos 0))
  where
    zero_before : (z : ℤ) → z ≡ pos 0 +ℤ z
    zero_before z = omega (arith, ints)
coef_closed v variable (t ∷ ts) sum b = elim (cases_eq v t.0) [
  | inl e ↦ rw (eq-eqb v t.0 e, ne_eqb v variable (λ q. absurd (omega (arith, q, e, b.0)))) (same t.1)
  | inr n ↦ rw (ne_eqb v t.0 n) (coef_closed v variable ts sum b.1)
]
  where
    same : (z : ℤ) → z ≡ z +ℤ pos 0
    same z = omega (arith, ints)

closed_below : (low variable : ℕ) (done : List (ℕ × ℤ)) (sum : ℤ) → Below variable done → variable < low → Below low (done ++ term_before variable sum [])
closed_below low variable [] sum b lt = elim (cases_Bool (int_eq sum (pos 0))) [ inl is ↦ rw is tt | inr isnt ↦ rw isnt (lt, tt) ]
closed_below low variable (t ∷ ts) sum b lt = (omega (arith, b.0, lt), closed_below low variable ts sum b.1 lt)

-- all terms of the variable are added up, and another comes
pub adding_next : (all done closed rest more : List (ℕ × ℤ)) (t : ℕ × ℤ) (variable : ℕ) (sum : ℤ) → more ≡ t ∷ rest → (t.0 ≡ variable → ⊥)
    → closed ≡ done ++ term_before variable sum [] → Adding all done more variable sum → Adding all closed rest t.0 (pos 0 +ℤ t.1)
adding_next all done closed rest more t variable sum e other is a =
    let ahead = subst (Climb variable) e a.ahead in
    let less : variable < t.0 = omega (arith, ahead.0, other) in
    adding_same all closed rest (t ∷ rest) t t.0 (pos 0) refl refl (record {
      clean = subst (Clean 0) (sym is) (closed_clean 0 variable done sum a.clean a.under (omega arith));
      under = subst (Below t.0) (sym is) (closed_below t.0 variable done sum a.under less);
      ahead = (omega arith, ahead.1);
      total = λ v.
          ap (λ (us : List (ℕ × ℤ)). (coef v us +ℤ cond (eqb v t.0) (pos 0) (pos 0)) +ℤ total v (t ∷ rest)) is
          ∙ (λ i. (coef_closed v variable done sum a.under i +ℤ no_sum (eqb v t.0) i) +ℤ total v (t ∷ rest))
          ∙ drop_none (coef v done +ℤ cond (eqb v variable) sum (pos 0)) (total v (t ∷ rest))
          ∙ ap (λ (us : List (ℕ × ℤ)). (coef v done +ℤ cond (eqb v variable) sum (pos 0)) +ℤ total v us) (sym e)
          ∙ a.total v;
    })
  where
    no_sum : (b : Bool) → cond b (pos 0) (pos 0) ≡ pos 0
    no_sum true = refl
    no_sum false = refl

    drop_none : (x y : ℤ) → (x +ℤ pos 0) +ℤ y ≡ x +ℤ y
    drop_none x y = omega (arith, ints)

pub adding_end : (all done closed rest : List (ℕ × ℤ)) (variable : ℕ) (sum : ℤ) → rest ≡ []
    → closed ≡ done ++ term_before variable sum [] → Adding all done rest variable sum → closed ≡ gathered all
adding_end all done closed rest variable sum e is a =
    gathered_is all closed (subst (Clean 0) (sym is) (closed_clean 0 variable done sum a.clean a.under (omega arith)))
    (λ v. ap (coef v) is ∙ coef_closed v variable done sum a.under ∙ no_more (coef v done +ℤ cond (eqb v variable) sum (pos 0))
    ∙ ap (λ (us : List (ℕ × ℤ)). (coef v done +ℤ cond (eqb v variable) sum (pos 0)) +ℤ total v us) (sym e) ∙ a.total v)
  where
    no_more : (z : ℤ) → z ≡ z +ℤ pos 0
    no_more z = omega (arith, ints)

-- the loop at its place `at`: `kept` terms stand at the front, and those from `at` on are as they were
pub record AddingAt (all terms : List (ℕ × ℤ)) (kept at variable : ℕ) (sum : ℤ) : Type 0 where
  pub place : kept ≤ at
  pub room : sum ≢ pos 0 → kept < at
  pub bound : unsigned_abs sum ≤ at * 2 ^ 62
  pub same_len : length terms ≡ length all
  pub ahead : drop at terms ≡ drop at all
  pub adding : Adding all (take kept terms) (drop at terms) variable sum

pub at_start : (all : List (ℕ × ℤ)) → IsNonDecreasingBy (λ t. t.0) all → AddingAt all all 0 0 0 (pos 0)
at_start all h = record {
  place = omega arith;
  room = λ n. absurd (n refl);
  bound = omega arith;
  same_len = refl;
  ahead = refl;
  adding = adding_start all h;
}

-- the term at the place is as it was, and small
pub small_here : (all terms : List (ℕ × ℤ)) (kept at variable : ℕ) (sum : ℤ) (t : ℕ × ℤ) → All (λ (u : ℕ × ℤ). Small u.1) all
    → AddingAt all terms kept at variable sum → at < length terms → t ≡ get_or terms at t → Small t.1
small_here all terms kept at variable sum t small a lt e =
    subst (λ (u : ℕ × ℤ). Small u.1) (sym (e ∙ same_at terms all at t a.ahead)) (small at t (omega (arith, lt, a.same_len)))

pub sum_less : (x y : ℤ) (n : ℕ) → unsigned_abs x ≤ n * 2 ^ 62 → Small y → unsigned_abs (x +ℤ y) ≤ (n + 1) * 2 ^ 62
sum_less x y n h k = omega (arith, ints, h, k)

next_ahead : (at : ℕ) (xs ys : List (ℕ × ℤ)) → drop at xs ≡ drop at ys → drop (at + 1) xs ≡ drop (at + 1) ys
next_ahead at xs ys e = sym (drop-drop 1 at xs) ∙ ap (λ ts. drop 1 ts) e ∙ drop-drop 1 at ys

here : (terms : List (ℕ × ℤ)) (at : ℕ) (t : ℕ × ℤ) → at < length terms → t ≡ get_or terms at t → drop at terms ≡ t ∷ drop (at + 1) terms
here terms at t lt e = drop_more terms at t lt ∙ ap (λ u. u ∷ drop (at + 1) terms) (sym e)

pub at_same : (all terms : List (ℕ × ℤ)) (kept at variable : ℕ) (sum : ℤ) (t : ℕ × ℤ) → AddingAt all terms kept at variable sum
    → at < length terms → t ≡ get_or terms at t → Small t.1 → t.0 ≡ variable → AddingAt all terms kept (at + 1) variable (sum +ℤ t.1)
at_same all terms kept at variable sum t a lt e small same = record {
  place = omega (arith, a.place);
  room = λ n. omega (arith, a.place);
  bound = sum_less sum t.1 at a.bound small;
  same_len = a.same_len;
  ahead = next_ahead at terms all a.ahead;
  adding = adding_same all (take kept terms) (drop (at + 1) terms) (drop at terms) t variable sum (here terms at t lt e) same a.adding;
}

pub at_next : (all terms new : List (ℕ × ℤ)) (kept place at variable : ℕ) (sum : ℤ) (t : ℕ × ℤ) → AddingAt all terms kept at variable sum
    → at < length terms → t ≡ get_or terms at t → Small t.1 → (t.0 ≡ variable → ⊥) → length new ≡ length terms → place ≤ kept + 1 → (sum ≡ pos 0 → place ≡ kept)
    → take place new ≡ take kept terms ++ term_before variable sum [] → ((n : ℕ) → kept < n → drop n new ≡ drop n terms)
    → AddingAt all new place (at + 1) t.0 (pos 0 +ℤ t.1)
at_next all terms new kept place at variable sum t a lt e small other len le stays front rest =
    let same = rest (at + 1) (omega (arith, a.place)) in record {
      place = omega (arith, a.place, le);
      room = λ n. elim (cases_Bool (int_eq sum (pos 0))) [
        | inl is ↦ let k = stays ((Decides-int_eq sum (pos 0)).0 is) in omega (arith, k, a.place)
        | inr isnt ↦ let k = a.room (λ q. let f : true ≡ false = sym ((Decides-int_eq sum (pos 0)).1 q) ∙ isnt in cc) in omega (arith, k, le)
      ];
      bound = sum_less (pos 0) t.1 at (omega arith) small;
      same_len = len ∙ a.same_len;
      ahead = same ∙ next_ahead at terms all a.ahead;
      adding = subst (λ (us : List (ℕ × ℤ)). Adding all (take place new) us t.0 (pos 0 +ℤ t.1)) (sym same)
          (adding_next all (take kept terms) (take place new) (drop (at + 1) terms) (drop at terms) t variable sum (here terms at t lt e) other front a.adding);
    }

pub at_end : (all terms new : List (ℕ × ℤ)) (kept place at variable : ℕ) (sum : ℤ) → AddingAt all terms kept at variable sum
    → length terms ≤ at → take place new ≡ take kept terms ++ term_before variable sum [] → take place new ≡ gathered all
at_end all terms new kept place at variable sum a le front =
    adding_end all (take kept terms) (take place new) (drop at terms) variable sum (drop_all at terms le) front a.adding

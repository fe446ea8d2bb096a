-- A fact is found by its key.
use Rattle.std.proofs.Common.{◌≡◌, ℕ, zero, suc, ◌+◌, ◌*◌, ◌<◌, ◌≤◌, ◌^◌, ℤ, List, [], ◌∷◌, ◌++◌, length, get_or, slice_get, arith, refl, ap, sym, ◌∙◌, subst, true, false, Some, None, inl, inr, length-append}
use Rattle.std.specs.List.{insert}
use Rattle.std.proofs.Math.Nat.{mul-le-mul}
use Rattle.std.proofs.lemmas.Bool.{cases_Bool, cases_lt, cases_order, false_from_ne_true}
use Rattle.std.proofs.lemmas.List.{get_or_append_left, get_or_default}
use Rattle.std.proofs.Math.Seq.{get_or-append_seam}
use Rattle.std.proofs.lemmas.List.Edits.{length-insert, get_or-insert_at, get_or-insert_below, get_or-insert_above}
use Rattle.std.specs.List.Sorted.{IsNonDecreasingBy}
use Rattle.std.proofs.lemmas.List.Sorted.{IsNonDecreasingBy-insert}
use Rattle.th_linear.specs.Forms.{Form, AreTerms, Small}
use Rattle.th_pure.specs.declared.distinct.Entry.{Entry}
use Rattle.th_pure.specs.Elimination.{same_fact, has_fact}
use Rattle.th_pure.specs.Distinct.{key_of, IsIndexed}
use Rattle.th_pure.proofs.Repeats.{decides_fact, has_first}

-- ---- keys

pub small_get : (low at : ℕ) (ts : List (ℕ × ℤ)) (t : ℕ × ℤ) → AreTerms low ts → slice_get ts at ≡ Some t → Small t.1
small_get low at [] t h e = let n : None ≡ Some t = e in cc
small_get low zero (u ∷ us) t h e = let same : u ≡ t = some_is u t e in subst (λ (w : ℕ × ℤ). Small w.1) same h.2
  where
    some_is : (x y : ℕ × ℤ) → Some x ≡ Some y → x ≡ y
    some_is x y q = cc
small_get low (suc at) (u ∷ us) t h e = small_get (u.0 + 1) at us t h.3 e

pub square_fits : (r : ℕ) → r ≤ 2 ^ 32 → r * r ≤ 2 ^ 64
square_fits r h = let m : r * r ≤ 2 ^ 32 * 2 ^ 32 = mul-le-mul h h in omega (arith, m)

pub weight_fits : (c r : ℕ) → c < 2 ^ 62 → r ≤ 2 ^ 32 → c * (r * r) ≤ 2 ^ 126
weight_fits c r h k =
    let small : c ≤ 2 ^ 62 = omega (arith, h) in
    let square = square_fits r k in
    let m : c * (r * r) ≤ 2 ^ 62 * 2 ^ 64 = mul-le-mul small square in
    omega (arith, m)

-- ---- a fact of the list

has_at : (facts : List Form) (k : ℕ) (f d : Form) → k < length facts → get_or facts k d ≡ f → has_fact f facts ≡ true
has_at [] k f d lt e = absurd (omega arith)
has_at (g ∷ gs) zero f d lt e = has_first f g gs (sym e)
has_at (g ∷ gs) (suc k) f d lt e = later (has_at gs k f d (omega arith) e)
  where
    later : has_fact f gs ≡ true → has_fact f (g ∷ gs) ≡ true
    later h = elim (cases_Bool (same_fact f g)) [ inl is ↦ rw is refl | inr isnt ↦ rw isnt h ]

has_place : (f : Form) (facts : List Form) → has_fact f facts ≡ true → (k : ℕ) × (k < length facts) × (get_or facts k f ≡ f)
has_place f [] h = let n : false ≡ true = h in cc
has_place f (g ∷ gs) h = elim (cases_Bool (same_fact f g)) [
  | inl is ↦ (0, omega arith, sym ((decides_fact f g).0 is))
  | inr isnt ↦ let w = has_place f gs (rw isnt at h) in (suc w.0, omega (arith, w.1), w.2)
]

-- the entries with the fact's key have other facts
pub not_there : (facts : List Form) (entries : List Entry) (at stop key : ℕ) (f : Form) → IsIndexed facts entries → key ≡ key_of f
    → ((j : ℕ) (e : Entry) → j < at → (get_or entries j e).key < key)
    → ((i : ℕ) (e : Entry) (g : Form) → at ≤ i → i < stop → get_or facts (get_or entries i e).place g ≡ f → ⊥)
    → ((i : ℕ) (e : Entry) → stop ≤ i → i < length entries → (get_or entries i e).key ≡ key → ⊥)
    → false ≡ has_fact f facts
not_there facts entries at stop key f x is below passed beyond = sym (false_from_ne_true (has_fact f facts) (λ h.
    let w = has_place f facts h in
    let e : Entry = record { key = 0; place = 0 } in
    let c = x.complete w.0 f e w.1 in
    let same : (get_or entries c.0 e).key ≡ key = ap (λ (u : Entry). u.key) c.2 ∙ ap key_of w.2 ∙ sym is in
    elim (cases_lt c.0 at) [
      | inl less ↦ absurd (omega (arith, below c.0 e less, same))
      | inr more ↦ elim (cases_lt c.0 stop) [
        | inl inside ↦ passed c.0 e f more inside (ap (λ (u : Entry). get_or facts u.place f) c.2 ∙ w.2)
        | inr past ↦ beyond c.0 e past c.1 same
      ]
    ]))

-- ---- one more fact

pub indexed_none : IsIndexed [] []
indexed_none = record {
  ascending = λ i j d le lt. absurd (omega arith);
  within = λ j e lt. absurd (omega arith);
  complete = λ k f e lt. absurd (omega arith);
}

within_more : (entries : List Entry) (at n j : ℕ) (y e : Entry) → at ≤ length entries → y.place ≤ n
    → ((i : ℕ) (d : Entry) → i < length entries → (get_or entries i d).place < n) → j < length (insert entries at y) → (get_or (insert entries at y) j e).place < n + 1
within_more entries at n j y e le p h lt = elim (cases_order j at) [
  | inl same ↦ rw (same, get_or-insert_at entries at y e le) (omega (arith, p))
  | inr apart ↦ elim apart [
    | inl less ↦ rw (get_or-insert_below entries at y e j less le) (let k = h j e (omega (arith, less, le)) in omega (arith, k))
    | inr more ↦ above j more lt
  ]
]
  where
    above : (i : ℕ) → at < i → i < length (insert entries at y) → (get_or (insert entries at y) i e).place < n + 1
    above zero m l = absurd (omega (arith, m))
    above (suc i) m l =
        let step : suc i ≡ i + 1 = omega arith in
        let k = h i e (omega (arith, l, length-insert entries at y le)) in
        rw (step, get_or-insert_above entries at y e i (omega (arith, m)) le) (omega (arith, k))

pub indexed_more : (facts : List Form) (entries : List Entry) (at key : ℕ) (f : Form) → IsIndexed facts entries → key ≡ key_of f → at ≤ length entries
    → ((j : ℕ) (e : Entry) → j < at → (get_or entries j e).key < key)
    → ((j : ℕ) (e : Entry) → at ≤ j → j < length entries → key ≤ (get_or entries j e).key)
    → IsIndexed (facts ++ f ∷ []) (insert entries at (record { key = key; place = length facts }))
indexed_more facts entries at key f x is le below above =
    let y : Entry = record { key = key; place = length facts } in
    let len : length (facts ++ f ∷ []) ≡ length facts + 1 = length-append facts (f ∷ []) in record {
      ascending = IsNonDecreasingBy-insert (λ (e : Entry). e.key) entries at y x.ascending le
          (λ k d lt. let h = below k d lt in omega (arith, h)) (λ k d m lt. above k d m lt);
      within = λ j e lt. rw len (within_more entries at (length facts) j y e le (omega arith) x.within lt);
      complete = λ k g e lt. elim (cases_lt k (length facts)) [
        | inl less ↦
            let old = x.complete k g e less in
            let same : get_or (facts ++ f ∷ []) k g ≡ get_or facts k g = get_or_append_left facts (f ∷ []) g k less in
            let entry : get_or entries old.0 e ≡ record { key = key_of (get_or (facts ++ f ∷ []) k g); place = k } =
            old.2 ∙ ap (λ (h : Form). record { key = key_of h; place = k }) (sym same) in
            elim (cases_lt old.0 at) [
              | inl before ↦ (old.0, omega (arith, old.1, length-insert entries at y le), get_or-insert_below entries at y e old.0 before le ∙ entry)
              | inr after ↦ (old.0 + 1, omega (arith, old.1, length-insert entries at y le), get_or-insert_above entries at y e old.0 after le ∙ entry)
            ]
        | inr more ↦
            let last : k ≡ length facts = omega (arith, more, lt, len) in
            let new : get_or (facts ++ f ∷ []) k g ≡ f = ap (λ (n : ℕ). get_or (facts ++ f ∷ []) n g) last ∙ get_or-append_seam facts f [] g in (
              at,
              omega (arith, le, length-insert entries at y le),
              get_or-insert_at entries at y e le ∙ (λ i. record { key = (is ∙ ap key_of (sym new)) i; place = sym last i }),
            )
      ];
    }

-- ---- the entries with one key, one after another

-- entries behind one with a greater key have greater keys too
pub beyond : (entries : List Entry) (j key : ℕ) → IsNonDecreasingBy (λ e. e.key) entries → j < length entries
    → ((get_or entries j (record { key = 0; place = 0 })).key ≡ key → ⊥) → key ≤ (get_or entries j (record { key = 0; place = 0 })).key
    → (i : ℕ) (e : Entry) → j ≤ i → i < length entries → (get_or entries i e).key ≡ key → ⊥
beyond entries j key up lt other low i e le in_list same =
    let first : (get_or entries j (record { key = 0; place = 0 })).key ≡ (get_or entries j e).key = ap (λ (u : Entry). u.key) (get_or_default entries j (record { key = 0; place = 0 }) e lt) in
    let step = up j i e le in_list in
    other (omega (arith, first, step, same, low))

pub there : (facts : List Form) (entries : List Entry) (j : ℕ) (f x : Form) → IsIndexed facts entries → j < length entries
    → x ≡ get_or facts (get_or entries j (record { key = 0; place = 0 })).place x → x ≡ f → true ≡ has_fact f facts
there facts entries j f x h lt is same = sym (has_at facts (get_or entries j (record { key = 0; place = 0 })).place f x (h.within j (record { key = 0; place = 0 }) lt) (sym is ∙ same))

pub next_other : (facts : List Form) (entries : List Entry) (at j : ℕ) (f x : Form) → IsIndexed facts entries → j < length entries
    → ((i : ℕ) (e : Entry) (g : Form) → at ≤ i → i < j → get_or facts (get_or entries i e).place g ≡ f → ⊥)
    → x ≡ get_or facts (get_or entries j (record { key = 0; place = 0 })).place x → (x ≡ f → ⊥)
    → (i : ℕ) (e : Entry) (g : Form) → at ≤ i → i < j + 1 → get_or facts (get_or entries i e).place g ≡ f → ⊥
next_other facts entries at j f x h lt passed is other i e g le less same = elim (cases_lt i j) [
  | inl before ↦ passed i e g le before same
  | inr here ↦
      let z : Entry = record { key = 0; place = 0 } in
      let now : i ≡ j = omega (arith, here, less) in
      let entry : get_or entries i e ≡ get_or entries j z = ap (λ (n : ℕ). get_or entries n e) now ∙ get_or_default entries j e z lt in
      let fact : get_or facts (get_or entries i e).place g ≡ get_or facts (get_or entries j z).place x =
      ap (λ (u : Entry). get_or facts u.place g) entry ∙ get_or_default facts (get_or entries j z).place g x (h.within j z lt) in
      other (is ∙ sym fact ∙ same)
]

-- A bound on the symbols that a query names, looked for part by part.
use Rattle.std.proofs.Common.{◌≡◌, inl, inr, ℕ, ◌<◌, ◌==◌, Bool, true, false, List, [], ◌∷◌, length, refl, sym, ◌∙◌}
use Rattle.std.specs.Prelude.{◌&&◌, ◌||◌, nat_lt}
use Rattle.std.specs.List.{list_any, list_all}
use Rattle.std.proofs.lemmas.Bool.{both_ways, eqb-true, ltb-true, lt-ltb, eq-eqb, or_cases, or_left, or_right}
use Rattle.th_base.specs.declared.number.FieldId.{FieldId}
use Rattle.th_base.specs.declared.number.Reg.{Reg}
use Rattle.th_query.specs.declared.query.Cell.{Cell}
use Rattle.th_query.specs.declared.query.Element.{Element}
use Rattle.th_query.specs.declared.query.Frame.{Frame}
use Rattle.th_query.specs.declared.query.Query.{Query}
use Rattle.th_steps.specs.Named.{AreKnown}
use Rattle.th_steps.proofs.Mentions.{named_by}

both : (a b : Bool) → (a && b) ≡ true → (a ≡ true) × (b ≡ true)
both true b e = (refl, e)
both false b e = absurd (both_ways _ refl e)

join : (a b : Bool) → a ≡ true → b ≡ true → (a && b) ≡ true
join true b x y = y
join false b x y = absurd (both_ways _ refl x)

-- ---- each item

known_each : {X : Type 0} (t : X → ℕ → Bool) (b : X → Bool) (n : ℕ) → ((x : X) → b x ≡ true → (s : ℕ) → t x s ≡ true → s < n)
    → (xs : List X) → list_all b xs ≡ true → (s : ℕ) → list_any (λ x. t x s) xs ≡ true → s < n
known_each t b n each [] h s e = absurd (both_ways _ refl e)
known_each t b n each (x ∷ xs) h s e =
    let two = both (b x) (list_all b xs) h in
    elim (or_cases (t x s) (list_any (λ y. t y s) xs) e) [ inl here ↦ each x two.0 s here | inr later ↦ known_each t b n each xs two.1 s later ]

each_known : {X : Type 0} (t : X → ℕ → Bool) (b : X → Bool) (n : ℕ) → ((x : X) → ((s : ℕ) → t x s ≡ true → s < n) → b x ≡ true)
    → (xs : List X) → ((s : ℕ) → list_any (λ x. t x s) xs ≡ true → s < n) → list_all b xs ≡ true
each_known t b n each [] h = refl
each_known t b n each (x ∷ xs) h =
    join (b x) (list_all b xs)
    (each x (λ s e. h s (or_left (t x s) (list_any (λ y. t y s) xs) e)))
    (each_known t b n each xs (λ s e. h s (or_right (t x s) (list_any (λ y. t y s) xs) e)))

-- ---- one symbol, and two

one_below : (n u : ℕ) → nat_lt u n ≡ true → (s : ℕ) → (u == s) ≡ true → s < n
one_below n u h s e = let same : u ≡ s = eqb-true u s e in let lt : u < n = ltb-true u n h in rw (← same) lt

below_one : (n u : ℕ) → ((s : ℕ) → (u == s) ≡ true → s < n) → nat_lt u n ≡ true
below_one n u h = lt-ltb u n (h u (eq-eqb u u refl))

two_below : (n u v : ℕ) → (nat_lt u n && nat_lt v n) ≡ true → (s : ℕ) → ((u == s) || (v == s)) ≡ true → s < n
two_below n u v h s e =
    let two = both (nat_lt u n) (nat_lt v n) h in
    elim (or_cases (u == s) (v == s) e) [ inl a ↦ one_below n u two.0 s a | inr a ↦ one_below n v two.1 s a ]

below_two : (n u v : ℕ) → ((s : ℕ) → ((u == s) || (v == s)) ≡ true → s < n) → (nat_lt u n && nat_lt v n) ≡ true
below_two n u v h = join (nat_lt u n) (nat_lt v n) (below_one n u (λ s e. h s (or_left (u == s) (v == s) e))) (below_one n v (λ s e. h s (or_right (u == s) (v == s) e)))

-- ---- the parts of a query

abbrev in_registers : Frame → ℕ → Bool
in_registers f s = list_any (λ x. x.1 == s) f.regs

abbrev registers_below : ℕ → Frame → Bool
registers_below n f = list_all (λ x. nat_lt x.1 n) f.regs

abbrev in_cell : Cell → ℕ → Bool
in_cell c s = (c.base == s) || (c.value == s)

abbrev cell_below : ℕ → Cell → Bool
cell_below n c = nat_lt c.base n && nat_lt c.value n

abbrev in_element : Element → ℕ → Bool
in_element e s = (e.array == s) || (e.value == s)

abbrev element_below : ℕ → Element → Bool
element_below n e = nat_lt e.array n && nat_lt e.value n

frame_below : (n : ℕ) (f : Frame) → registers_below n f ≡ true → (s : ℕ) → in_registers f s ≡ true → s < n
frame_below n f = known_each (λ (x : Reg × ℕ) s. x.1 == s) (λ x. nat_lt x.1 n) n (λ x. one_below n x.1) f.regs

below_frame : (n : ℕ) (f : Frame) → ((s : ℕ) → in_registers f s ≡ true → s < n) → registers_below n f ≡ true
below_frame n f = each_known (λ (x : Reg × ℕ) s. x.1 == s) (λ x. nat_lt x.1 n) n (λ x. below_one n x.1) f.regs

-- all parts are below the number of symbols
abbrev are_below : Query → Bool
are_below q =
    (list_all (registers_below (length q.syms)) q.frames && list_all (λ (x : FieldId × ℕ). nat_lt x.1 (length q.syms)) q.statics)
    && (list_all (cell_below (length q.syms)) q.cells && list_all (element_below (length q.syms)) q.elems)

known_to : (q : Query) → are_below q ≡ true → AreKnown q
known_to q h s named =
    let n = length q.syms in
    let halves = both (list_all (registers_below n) q.frames && list_all (λ (x : FieldId × ℕ). nat_lt x.1 n) q.statics) (list_all (cell_below n) q.cells && list_all (element_below n) q.elems) h in
    let places = both (list_all (registers_below n) q.frames) (list_all (λ (x : FieldId × ℕ). nat_lt x.1 n) q.statics) halves.0 in
    let held = both (list_all (cell_below n) q.cells) (list_all (element_below n) q.elems) halves.1 in
    elim (or_cases _ _ (sym (named_by q.frames q.statics q.cells q.elems s) ∙ named)) [
      | inl place ↦ elim (or_cases _ _ place) [
        | inl reg ↦ known_each in_registers (registers_below n) n (frame_below n) q.frames places.0 s reg
        | inr static ↦ known_each (λ (x : FieldId × ℕ) u. x.1 == u) (λ x. nat_lt x.1 n) n (λ x. one_below n x.1) q.statics places.1 s static
      ]
      | inr link ↦ elim (or_cases _ _ link) [
        | inl cell ↦ known_each in_cell (cell_below n) n (λ c. two_below n c.base c.value) q.cells held.0 s cell
        | inr element ↦ known_each in_element (element_below n) n (λ e. two_below n e.array e.value) q.elems held.1 s element
      ]
    ]

known_from : (q : Query) → AreKnown q → are_below q ≡ true
known_from q known =
    let n = length q.syms in
    join _ _
    (join _ _
    (each_known in_registers (registers_below n) n (below_frame n) q.frames (λ s e. known s (named_by q.frames q.statics q.cells q.elems s ∙ or_left _ _ (or_left _ _ e))))
    (each_known (λ (x : FieldId × ℕ) u. x.1 == u) (λ x. nat_lt x.1 n) n (λ x. below_one n x.1) q.statics (λ s e. known s (named_by q.frames q.statics q.cells q.elems s ∙ or_left _ _ (or_right _ _ e)))))
    (join _ _
    (each_known in_cell (cell_below n) n (λ c. below_two n c.base c.value) q.cells (λ s e. known s (named_by q.frames q.statics q.cells q.elems s ∙ or_right _ _ (or_left _ _ e))))
    (each_known in_element (element_below n) n (λ e. below_two n e.array e.value) q.elems (λ s e. known s (named_by q.frames q.statics q.cells q.elems s ∙ or_right _ _ (or_right _ _ e)))))

-- what the parts show of the whole
pub known_whole : (q : Query) (frames : List Frame) (statics : List (FieldId × ℕ)) (cells : List Cell) (elems : List Element) (n : ℕ) (b : Bool) → frames ≡ q.frames → statics ≡ q.statics → cells ≡ q.cells → elems ≡ q.elems
    → n ≡ length q.syms
    → b ≡ ((list_all (registers_below n) frames && list_all (λ x. nat_lt x.1 n) statics) && (list_all (cell_below n) cells && list_all (element_below n) elems)) → (b ≡ true → AreKnown q) × (AreKnown q → b ≡ true)
known_whole q frames statics cells elems n b f s c e k is =
    let all : b ≡ are_below q =
    is
    ∙ (λ i. (list_all (registers_below (k i)) (f i) && list_all (λ (x : FieldId × ℕ). nat_lt x.1 (k i)) (s i)) && (list_all (cell_below (k i)) (c i) && list_all (element_below (k i)) (e i))) in
    (λ h. known_to q (sym all ∙ h), λ known. all ∙ known_from q known)

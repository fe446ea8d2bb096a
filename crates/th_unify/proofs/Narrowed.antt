-- What all symbols of a class have, place by place.
use Rattle.std.proofs.Common.{◌≡◌, ℕ, ◌+◌, ◌<◌, ◌≤◌, ◌==◌, zero, suc, Bool, true, false, cond, List, [], ◌∷◌, ◌++◌, length, drop, get_or, Option, None, Some, MatchOption, inl, inr, refl, sym, ap, subst, ◌∙◌, arith}
use Rattle.std.specs.Prelude.{◌&&◌, filter, nat_lt, slice_get}
use Rattle.std.specs.List.{list_all}
use Rattle.std.proofs.lemmas.Bool.{cases_lt, eqb-true, ltb-false}
use Rattle.std.proofs.lemmas.List.{append_assoc, append-nil, get_or_past}
use Rattle.std.proofs.lemmas.Option.{get_or_from_slice_get, slice_get_past}
use Rattle.th_base.specs.IdSet.{has}
use Rattle.th_linear.specs.Gathered.{name_of}
use Rattle.th_ir.specs.WellFormed.{places_from}
use Rattle.th_query.specs.declared.query.Query.{Query}
use Rattle.th_query.specs.declared.query.Sym.{Sym}
use Rattle.th_query.specs.declared.query.Sym.TheVariants.{Ref, Int, Carry}
use Rattle.th_query.specs.Symbols.{null_in, sites_in, sites_of, symbol_at}
use Rattle.th_query.specs.Unified.{class_of, common_symbol, common_symbols}
use Rattle.th_query.proofs.InLists.{In, all_from, in_has, place_meets}
use Rattle.th_steps.proofs.Sinking.{drop_at, drop_past}

-- ---- places

place_taken : (m : ℕ → Bool) (names : List ℕ) (i d : ℕ) → i < length names → m (get_or names i d) ≡ true → places_from m i (drop i names) ≡ i ∷ places_from m (i + 1) (drop (i + 1) names)
place_taken m names i d h e =
    let rest = places_from m (i + 1) (drop (i + 1) names) in
    ap (places_from m i) (drop_at names i d h) ∙ ap (λ b. cond b (i ∷ rest) rest) e

place_passed : (m : ℕ → Bool) (names : List ℕ) (i d : ℕ) → i < length names → m (get_or names i d) ≡ false → places_from m i (drop i names) ≡ places_from m (i + 1) (drop (i + 1) names)
place_passed m names i d h e =
    let rest = places_from m (i + 1) (drop (i + 1) names) in
    ap (places_from m i) (drop_at names i d h) ∙ ap (λ b. cond b (i ∷ rest) rest) e

-- ---- what holds of all places

pub all_passed : (p m : ℕ → Bool) (names : List ℕ) (i d : ℕ) (all : Bool) → i < length names → m (get_or names i d) ≡ false
    → list_all p (places_from m i (drop i names)) ≡ all → list_all p (places_from m (i + 1) (drop (i + 1) names)) ≡ all
all_passed p m names i d all h e before = sym (ap (list_all p) (place_passed m names i d h e)) ∙ before

pub all_taken : (p m : ℕ → Bool) (names : List ℕ) (i d : ℕ) (all : Bool) → i < length names → m (get_or names i d) ≡ true → p i ≡ true
    → list_all p (places_from m i (drop i names)) ≡ all → list_all p (places_from m (i + 1) (drop (i + 1) names)) ≡ all
all_taken p m names i d all h e holds before =
    let rest = list_all p (places_from m (i + 1) (drop (i + 1) names)) in
    sym (ap (λ b. b && rest) holds) ∙ sym (ap (list_all p) (place_taken m names i d h e)) ∙ before

pub all_fail : (p m : ℕ → Bool) (names : List ℕ) (i d : ℕ) (all : Bool) → i < length names → m (get_or names i d) ≡ true → p i ≡ false
    → list_all p (places_from m i (drop i names)) ≡ all → false ≡ all
all_fail p m names i d all h e fails before =
    let rest = list_all p (places_from m (i + 1) (drop (i + 1) names)) in
    sym (ap (λ b. b && rest) fails) ∙ sym (ap (list_all p) (place_taken m names i d h e)) ∙ before

pub all_end : (p m : ℕ → Bool) (names : List ℕ) (i : ℕ) (all : Bool) → length names ≤ i → list_all p (places_from m i (drop i names)) ≡ all → true ≡ all
all_end p m names i all h before = sym (ap (λ ys. list_all p (places_from m i ys)) (drop_past names i h)) ∙ before

-- ---- what all places have

filter_both : (p r : ℕ → Bool) (xs : List ℕ) → filter (λ a. p a && r a) xs ≡ filter r (filter p xs)
filter_both p r [] = refl
filter_both p r (x ∷ xs) = elim (p x) as (λ b. cond (b && r x) (x ∷ filter (λ a. p a && r a) xs) (filter (λ a. p a && r a) xs) ≡ filter r (cond b (x ∷ filter p xs) (filter p xs))) [
  | true ↦ ap (λ ys. cond (r x) (x ∷ ys) ys) (filter_both p r xs)
  | false ↦ filter_both p r xs
]

filter_every : (xs : List ℕ) → filter (λ a. true) xs ≡ xs
filter_every [] = refl
filter_every (x ∷ xs) = ap (λ ys. x ∷ ys) (filter_every xs)

filter_none : (xs : List ℕ) → filter (has []) xs ≡ []
filter_none [] = refl
filter_none (x ∷ xs) = filter_none xs

pub none_had : (had xs none : List ℕ) → none ≡ [] → had ≡ [] → none ≡ filter (has had) xs
none_had had xs none n e = n ∙ sym (filter_none xs) ∙ sym (ap (λ ys. filter (has ys) xs) e)

pub none_past : (q : Query) (s : ℕ) (xs : List Sym) → xs ≡ q.syms → false ≡ nat_lt s (length xs) → sites_of q s ≡ []
none_past q s xs e past = ap sites_in (ap (λ ys. slice_get ys s) (sym e) ∙ slice_get_past xs s (ltb-false s (length xs) (sym past)))

pub had_passed : (g : ℕ → ℕ → Bool) (m : ℕ → Bool) (names : List ℕ) (i d : ℕ) (common next all : List ℕ) → i < length names → m (get_or names i d) ≡ false → next ≡ common
    → filter (λ a. list_all (λ u. g u a) (places_from m i (drop i names))) common ≡ all → filter (λ a. list_all (λ u. g u a) (places_from m (i + 1) (drop (i + 1) names))) next ≡ all
had_passed g m names i d common next all h e n before =
    ap (filter (λ a. list_all (λ u. g u a) (places_from m (i + 1) (drop (i + 1) names)))) n ∙ sym (ap (λ us. filter (λ a. list_all (λ u. g u a) us) common) (place_passed m names i d h e)) ∙ before

pub had_taken : (g : ℕ → ℕ → Bool) (m : ℕ → Bool) (names : List ℕ) (i d : ℕ) (common next all : List ℕ) → i < length names → m (get_or names i d) ≡ true → next ≡ filter (g i) common
    → filter (λ a. list_all (λ u. g u a) (places_from m i (drop i names))) common ≡ all → filter (λ a. list_all (λ u. g u a) (places_from m (i + 1) (drop (i + 1) names))) next ≡ all
had_taken g m names i d common next all h e n before =
    let rest : ℕ → Bool = λ a. list_all (λ u. g u a) (places_from m (i + 1) (drop (i + 1) names)) in
    ap (filter rest) n ∙ sym (filter_both (g i) rest common) ∙ sym (ap (λ us. filter (λ a. list_all (λ u. g u a) us) common) (place_taken m names i d h e)) ∙ before

pub had_end : (g : ℕ → ℕ → Bool) (m : ℕ → Bool) (names : List ℕ) (i : ℕ) (common all : List ℕ) → length names ≤ i
    → filter (λ a. list_all (λ u. g u a) (places_from m i (drop i names))) common ≡ all → common ≡ all
had_end g m names i common all h before =
    sym (filter_every common) ∙ sym (ap (λ ys. filter (λ a. list_all (λ u. g u a) (places_from m i ys)) common) (drop_past names i h)) ∙ before

-- ---- all symbols

pub symbols_more : (names : List ℕ) (q : Query) (xs : List Sym) (i : ℕ) (d x : Sym) (made next all : List Sym) → i < length xs → x ≡ common_symbol names q i (get_or xs i d) → next ≡ made ++ x ∷ []
    → made ++ common_symbols names q i (drop i xs) ≡ all → next ++ common_symbols names q (i + 1) (drop (i + 1) xs) ≡ all
symbols_more names q xs i d x made next all h e n before =
    let rest = common_symbols names q (i + 1) (drop (i + 1) xs) in
    ap (λ ys. ys ++ rest) n ∙ append_assoc made (x ∷ []) rest ∙ ap (λ y. made ++ y ∷ rest) e ∙ sym (ap (λ ys. made ++ common_symbols names q i ys) (drop_at xs i d h)) ∙ before

pub symbols_end : (names : List ℕ) (q : Query) (xs : List Sym) (i : ℕ) (made all : List Sym) → length xs ≤ i → made ++ common_symbols names q i (drop i xs) ≡ all → made ≡ all
symbols_end names q xs i made all h before = sym (ap (λ ys. made ++ common_symbols names q i ys) (drop_past xs i h) ∙ append-nil made) ∙ before

-- ---- symbols that stand for themselves alone

filter_all : (p : ℕ → Bool) (xs : List ℕ) → ((x : ℕ) → In x xs → p x ≡ true) → filter p xs ≡ xs
filter_all p [] h = refl
filter_all p (x ∷ xs) h = ap (λ b. cond b (x ∷ filter p xs) (filter p xs)) (h x (inl refl)) ∙ ap (λ ys. x ∷ ys) (filter_all p xs (λ y i. h y (inr i)))

flag_stays : (b all : Bool) → (b ≡ true → all ≡ true) → (b && all) ≡ b
flag_stays true all h = h refl
flag_stays false all h = refl

itself_alone : (names : List ℕ) (s u : ℕ) → ((n : ℕ) → name_of names n ≡ n) → In u (class_of names s) → u ≡ s
itself_alone names s u own i =
    let p = place_meets (λ n. n == s) 0 names u i in
    let place : p.0 ≡ u = let e = p.2 in omega (arith, e) in
    sym (own u) ∙ get_or_from_slice_get names u p.1 u (subst (λ k. slice_get names k ≡ Some p.1) place p.3) ∙ eqb-true p.1 s p.4

symbol_stays : (names : List ℕ) (q : Query) (s : ℕ) (x : Sym) → ((n : ℕ) → name_of names n ≡ n) → symbol_at q s ≡ Some x → common_symbol names q s x ≡ x
symbol_stays names q s (Ref null sites) own e =
    let null_there : (u : ℕ) → In u (class_of names s) → null_in (symbol_at q u) ≡ null = λ u i. ap (λ k. null_in (symbol_at q k)) (itself_alone names s u own i) ∙ ap null_in e in
    let sites_there : (u : ℕ) → In u (class_of names s) → sites_of q u ≡ sites = λ u i. ap (sites_of q) (itself_alone names s u own i) ∙ ap sites_in e in
    let flag : (null && list_all (λ u. null_in (symbol_at q u)) (class_of names s)) ≡ null =
    flag_stays null (list_all (λ u. null_in (symbol_at q u)) (class_of names s)) (λ h. all_from (λ u. null_in (symbol_at q u)) (class_of names s) (λ u i. null_there u i ∙ h)) in
    let kept : filter (λ a. list_all (λ u. has (sites_of q u) a) (class_of names s)) sites ≡ sites =
    filter_all (λ a. list_all (λ u. has (sites_of q u) a) (class_of names s)) sites (λ a m. all_from (λ u. has (sites_of q u) a) (class_of names s) (λ u i. ap (λ ys. has ys a) (sites_there u i) ∙ in_has a sites m)) in
    λ i. Ref (flag i) (kept i)
symbol_stays names q s Int own e = refl
symbol_stays names q s Carry own e = refl

symbols_stay_from : (names : List ℕ) (q : Query) (k : ℕ) (xs : List Sym) → ((n : ℕ) (x : Sym) → slice_get xs n ≡ Some x → common_symbol names q (k + n) x ≡ x) → common_symbols names q k xs ≡ xs
symbols_stay_from names q k [] h = refl
symbols_stay_from names q k (x ∷ xs) h =
    let zero_more : k + 0 ≡ k = omega arith in
    let first : common_symbol names q k x ≡ x = ap (λ i. common_symbol names q i x) (sym zero_more) ∙ h 0 x refl in
    let rest : common_symbols names q (k + 1) xs ≡ xs = symbols_stay_from names q (k + 1) xs (λ n y e.
    let one_more : (k + 1) + n ≡ k + suc n = omega arith in
    ap (λ i. common_symbol names q i y) one_more ∙ h (suc n) y e) in
    λ i. first i ∷ rest i

-- where each symbol is its own name, the symbols stay as they are
pub symbols_stay : (names : List ℕ) (q : Query) → ((n : ℕ) → name_of names n ≡ n) → common_symbols names q 0 q.syms ≡ q.syms
symbols_stay names q own = symbols_stay_from names q 0 q.syms (λ n x e.
    let first : 0 + n ≡ n = omega arith in
    ap (λ i. common_symbol names q i x) first ∙ symbol_stays names q n x own e)

at_any : (xs : List ℕ) (i d e : ℕ) → i < length xs → get_or xs i d ≡ get_or xs i e
at_any [] i d e h = absurd (omega (arith, h))
at_any (x ∷ xs) zero d e h = refl
at_any (x ∷ xs) (suc i) d e h = at_any xs i d e (omega (arith, h))

pub own_more : (names : List ℕ) (i : ℕ) → i < length names → get_or names i 0 ≡ i → ((n : ℕ) → n < i → name_of names n ≡ n) → (n : ℕ) → n < i + 1 → name_of names n ≡ n
own_more names i h e before n l = elim (cases_lt n i) [
  | inl less ↦ before n less
  | inr last ↦ (let same : n ≡ i = omega (arith, l, last) in ap (name_of names) same ∙ at_any names i i 0 h ∙ e ∙ sym same)
]

pub own_end : (names : List ℕ) (i : ℕ) → length names ≤ i → ((n : ℕ) → n < i → name_of names n ≡ n) → (n : ℕ) → name_of names n ≡ n
own_end names i h before n = elim (cases_lt n i) [
  | inl less ↦ before n less
  | inr past ↦ get_or_past names n n (omega (arith, h, past))
]

-- the narrowed symbols, or those that stay
pub either_way : {V : Type 0} (o : Option V) (items : V → List Sym) (made syms all : List Sym) → MatchOption o (made ≡ syms) (λ v. made ≡ items v) → MatchOption o (all ≡ syms) (λ v. items v ≡ all) → made ≡ all
either_way None items made syms all a b = a ∙ sym b
either_way (Some v) items made syms all a b = a ∙ b

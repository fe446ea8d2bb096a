-- Symbols that are mentioned one after the other, and how many there are.
use Rattle.std.proofs.Common.{◌≡◌, ℕ, ◌+◌, ◌-◌, ◌<◌, ◌≤◌, ◌==◌, ◌++◌, zero, suc, Bool, true, false, cond, List, [], ◌∷◌, length, map, drop, get_or, refl, sym, ap, ◌∙◌, arith}
use Rattle.std.specs.Prelude.{flat_map}
use Rattle.std.specs.List.{list_any, filter}
use Rattle.std.proofs.lemmas.Bool.{lt-ltb, le-ltb}
use Rattle.th_query.specs.declared.query.Query.{Query}
use Rattle.th_query.specs.FromSets.{upto}
use Rattle.th_query.specs.Numbered.{mentioned, next_of, followed, order_of}
use Rattle.th_query.specs.Symbols.{register_symbols, static_symbols, is_left}
use Rattle.th_steps.proofs.Sinking.{drop_at, drop_past}

pub mentioned_append : (order xs ys : List ℕ) → mentioned order (xs ++ ys) ≡ mentioned (mentioned order xs) ys
mentioned_append order [] ys = refl
mentioned_append order (x ∷ xs) ys = mentioned_append (cond (list_any (λ y. y == x) order) order (order ++ x ∷ [])) xs ys

pub each_more : {X : Type 0} (g : X → List ℕ) (xs : List X) (i : ℕ) (x : X) (old next all : List ℕ) → i < length xs → x ≡ get_or xs i x → next ≡ mentioned old (g x)
    → mentioned old (flat_map g (drop i xs)) ≡ all → mentioned next (flat_map g (drop (i + 1) xs)) ≡ all
each_more g xs i x old next all h is e before =
    ap (λ o. mentioned o (flat_map g (drop (i + 1) xs))) e
    ∙ sym (mentioned_append old (g x) (flat_map g (drop (i + 1) xs)))
    ∙ sym (ap (λ ys. mentioned old (flat_map g ys)) (drop_at xs i x h ∙ ap (λ y. y ∷ drop (i + 1) xs) (sym is)))
    ∙ before

pub each_end : {X : Type 0} (g : X → List ℕ) (xs : List X) (i : ℕ) (old all : List ℕ) → length xs ≤ i → mentioned old (flat_map g (drop i xs)) ≡ all → old ≡ all
each_end g xs i old all h before = sym (ap (λ ys. mentioned old (flat_map g ys)) (drop_past xs i h)) ∙ before

pub chosen_more : {X : Type 0} (p : X → Bool) (v : X → ℕ) (xs : List X) (i : ℕ) (d : X) (old next all : List ℕ) → i < length xs → next ≡ mentioned old (cond (p (get_or xs i d)) (v (get_or xs i d) ∷ []) [])
    → mentioned old (map v (filter p (drop i xs))) ≡ all → mentioned next (map v (filter p (drop (i + 1) xs))) ≡ all
chosen_more p v xs i d old next all h e before =
    let x = get_or xs i d in
    let rest = drop (i + 1) xs in
    ap (λ o. mentioned o (map v (filter p rest))) e
    ∙ go (p x)
    ∙ sym (ap (λ ys. mentioned old (map v (filter p ys))) (drop_at xs i d h))
    ∙ before
  where
    go : (b : Bool) → mentioned (mentioned old (cond b (v (get_or xs i d) ∷ []) [])) (map v (filter p (drop (i + 1) xs))) ≡ mentioned old (map v (cond b (get_or xs i d ∷ filter p (drop (i + 1) xs)) (filter p (drop (i + 1) xs))))
    go true = refl
    go false = refl

pub chosen_end : {X : Type 0} (p : X → Bool) (v : X → ℕ) (xs : List X) (i : ℕ) (old all : List ℕ) → length xs ≤ i → mentioned old (map v (filter p (drop i xs))) ≡ all → old ≡ all
chosen_end p v xs i old all h before = sym (ap (λ ys. mentioned old (map v (filter p ys))) (drop_past xs i h)) ∙ before

-- ---- what is left

filter_append : (p : ℕ → Bool) (xs ys : List ℕ) → filter p (xs ++ ys) ≡ filter p xs ++ filter p ys
filter_append p [] ys = refl
filter_append p (x ∷ xs) ys = go (p x) (filter_append p xs ys)
  where
    go : (b : Bool) → filter p (xs ++ ys) ≡ filter p xs ++ filter p ys → cond b (x ∷ filter p (xs ++ ys)) (filter p (xs ++ ys)) ≡ cond b (x ∷ filter p xs) (filter p xs) ++ filter p ys
    go true e = ap (λ zs. x ∷ zs) e
    go false e = e

pub left_more : (p : ℕ → Bool) (n : ℕ) (old order next : List ℕ) → order ≡ mentioned old (filter p (upto n)) → next ≡ mentioned order (filter p (n ∷ [])) → next ≡ mentioned old (filter p (upto (n + 1)))
left_more p n old order next before e =
    let one : n + 1 ≡ suc n = omega arith in
    e
    ∙ ap (λ o. mentioned o (filter p (n ∷ []))) before
    ∙ sym (mentioned_append old (filter p (upto n)) (filter p (n ∷ [])))
    ∙ ap (mentioned old) (sym (filter_append p (upto n) (n ∷ [])))
    ∙ ap (λ k. mentioned old (filter p (upto k))) (sym one)

-- one is mentioned where it counts and isn't there
pub one_left : (p : ℕ → Bool) (s : ℕ) (order : List ℕ) → list_any (λ y. y == s) order ≡ false → p s ≡ true → order ++ s ∷ [] ≡ mentioned order (filter p (s ∷ []))
one_left p s order h e = rw (e, h) refl

pub there_left : (p : ℕ → Bool) (s : ℕ) (order : List ℕ) → list_any (λ y. y == s) order ≡ true → order ≡ mentioned order (filter p (s ∷ []))
there_left p s order h = go (p s)
  where
    go : (b : Bool) → order ≡ mentioned order (cond b (s ∷ []) [])
    go true = rw h refl
    go false = refl

pub none_left : (p : ℕ → Bool) (s : ℕ) (order : List ℕ) → p s ≡ false → order ≡ mentioned order (filter p (s ∷ []))
none_left p s order e = rw e refl

-- ---- what symbols lead to

read_at : (xs : List ℕ) (k s : ℕ) → k < length xs → s ≡ get_or xs k s → s ≡ get_or xs k 0
read_at [] k s h e = absurd (omega (arith, h))
read_at (x ∷ xs) zero s h e = e
read_at (x ∷ xs) (suc k) s h e = read_at xs k s (omega (arith, h)) e

pub follow_more : (q : Query) (n k s : ℕ) (order next all : List ℕ) → k < n → k < length order → s ≡ get_or order k s → next ≡ mentioned order (next_of q s)
    → followed q (n - k) k order ≡ all → followed q (n - (k + 1)) (k + 1) next ≡ all
follow_more q n k s order next all h l is e before =
    let m : n - k ≡ suc (n - (k + 1)) = omega (arith, h) in
    let step : followed q (suc (n - (k + 1))) k order ≡ followed q (n - (k + 1)) (k + 1) (mentioned order (next_of q (get_or order k 0))) = rw (lt-ltb k (length order) l) refl in
    ap (followed q (n - (k + 1)) (k + 1)) (e ∙ ap (λ u. mentioned order (next_of q u)) (read_at order k s l is)) ∙ sym step ∙ ap (λ j. followed q j k order) (sym m) ∙ before

stays : (q : Query) (n k : ℕ) (order : List ℕ) → length order ≤ k → followed q n k order ≡ order
stays q zero k order h = refl
stays q (suc n) k order h = rw (le-ltb k (length order) h) refl

pub follow_stop : (q : Query) (n k : ℕ) (order all : List ℕ) → length order ≤ k → followed q n k order ≡ all → order ≡ all
follow_stop q n k order all h before = sym (stays q n k order h) ∙ before

pub follow_end : (q : Query) (n k : ℕ) (order all : List ℕ) → n ≤ k → followed q (n - k) k order ≡ all → order ≡ all
follow_end q n k order all h before = let m : n - k ≡ 0 = omega (arith, h) in sym (ap (λ j. followed q j k order) m) ∙ before

-- its cells, then its elements
pub next_whole : (q : Query) (s : ℕ) (order middle all : List ℕ) → middle ≡ mentioned order (map (λ c. c.value) (filter (λ c. c.base == s) q.cells)) → all ≡ mentioned middle (map (λ e. e.value) (filter (λ e. e.array == s) q.elems))
    → all ≡ mentioned order (next_of q s)
next_whole q s order middle all first second =
    let cells : List ℕ = map (λ c. c.value) (filter (λ c. c.base == s) q.cells) in
    let elems : List ℕ = map (λ e. e.value) (filter (λ e. e.array == s) q.elems) in
    second ∙ ap (λ o. mentioned o elems) first ∙ sym (mentioned_append order cells elems)

-- registers, static fields, what they lead to, and what is left
pub order_whole : (q : Query) (none registers places found all : List ℕ) → none ≡ [] → registers ≡ mentioned none (register_symbols q) → places ≡ mentioned registers (static_symbols q)
    → found ≡ followed q (length q.syms) 0 places → all ≡ mentioned found (filter (is_left q) (upto (length q.syms))) → all ≡ order_of q
order_whole q none registers places found all e a b c d =
    let first : places ≡ mentioned [] (register_symbols q ++ static_symbols q) =
    b ∙ ap (λ o. mentioned o (static_symbols q)) (a ∙ ap (λ o. mentioned o (register_symbols q)) e) ∙ sym (mentioned_append [] (register_symbols q) (static_symbols q)) in
    d ∙ ap (λ o. mentioned o (filter (is_left q) (upto (length q.syms)))) (c ∙ ap (followed q (length q.syms) 0) first)

-- ---- items one by one

pub mapped_more : {X : Type 0} (v : X → ℕ) (xs : List X) (i : ℕ) (d : X) (old next all : List ℕ) → i < length xs → next ≡ mentioned old (v (get_or xs i d) ∷ [])
    → mentioned old (map v (drop i xs)) ≡ all → mentioned next (map v (drop (i + 1) xs)) ≡ all
mapped_more v xs i d old next all h e before =
    ap (λ o. mentioned o (map v (drop (i + 1) xs))) e ∙ sym (ap (λ ys. mentioned old (map v ys)) (drop_at xs i d h)) ∙ before

pub mapped_end : {X : Type 0} (v : X → ℕ) (xs : List X) (i : ℕ) (old all : List ℕ) → length xs ≤ i → mentioned old (map v (drop i xs)) ≡ all → old ≡ all
mapped_end v xs i old all h before = sym (ap (λ ys. mentioned old (map v ys)) (drop_past xs i h)) ∙ before

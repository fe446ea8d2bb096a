-- The order of first mention: what is in it, and that places in it give back its members.
use Rattle.std.proofs.Common.{◌≡◌, ◌⊎◌, inl, inr, ℕ, zero, suc, ◌+◌, ◌<◌, ◌≤◌, ◌==◌, ltb, Bool, true, false, cond, List, [], ◌∷◌, ◌++◌, length, map, get_or, Option, None, Some, slice_get, refl, sym, ap, subst, ◌∙◌, arith}
use Rattle.std.specs.List.{list_any, filter}
use Rattle.std.proofs.lemmas.Bool.{eqb-true, eq-eqb, lt-ltb, both_ways}
use Rattle.std.proofs.lemmas.List.{get_or-map}
use Rattle.th_linear.specs.Gathered.{name_of}
use Rattle.th_query.specs.declared.query.Query.{Query}
use Rattle.th_query.specs.FromSets.{upto}
use Rattle.th_query.specs.Symbols.{register_symbols, static_symbols, is_left}
use Rattle.th_query.specs.Unified.{present}
use Rattle.th_query.specs.Numbered.{next_of, mentioned, followed, order_of, place_in, numbers_by}
use Rattle.th_query.proofs.InLists.{In, in_left, in_right, in_either, in_put_new, in_filter, has_in, in_has}
use Rattle.th_query.proofs.Below.{length_upto, has_upto, upto_at}
use Rattle.th_base.proofs.Ascending.{has-filter}

-- ---- symbols put after others

pub kept_stays : (x : ℕ) (kept xs : List ℕ) → In x kept → In x (mentioned kept xs)
kept_stays x kept [] m = m
kept_stays x kept (y ∷ ys) m = go (list_any (λ z. z == y) kept) (λ more n. kept_stays x more ys n)
  where
    go : (b : Bool) → ((more : List ℕ) → In x more → In x (mentioned more ys)) → In x (mentioned (cond b kept (kept ++ y ∷ [])) ys)
    go true f = f kept m
    go false f = f (kept ++ y ∷ []) (in_left x kept (y ∷ []) m)

pub new_there : (x : ℕ) (kept xs : List ℕ) → In x xs → In x (mentioned kept xs)
new_there x kept [] m = absurd m
new_there x kept (y ∷ ys) (inl e) = go (list_any (λ z. z == y) kept) refl
  where
    go : (b : Bool) → list_any (λ z. z == y) kept ≡ b → In x (mentioned (cond b kept (kept ++ y ∷ [])) ys)
    go true is = kept_stays x kept ys (subst (λ z. In z kept) (sym e) (has_in y kept is))
    go false is = kept_stays x (kept ++ y ∷ []) ys (in_right x kept (y ∷ []) (inl e))
new_there x kept (y ∷ ys) (inr m) = new_there x (cond (list_any (λ z. z == y) kept) kept (kept ++ y ∷ [])) ys m

pub mentioned_from : (x : ℕ) (kept xs : List ℕ) → In x (mentioned kept xs) → In x kept ⊎ In x xs
mentioned_from x kept xs m = in_put_new (λ s u. s == u) x kept xs m

-- ---- the order

pub left_ordered : (q : Query) (s : ℕ) → s < length q.syms → is_left q s ≡ true → In s (order_of q)
left_ordered q s h left =
    new_there s (followed q (length q.syms) 0 (mentioned [] (register_symbols q ++ static_symbols q))) (filter (is_left q) (upto (length q.syms)))
    (has_in s (filter (is_left q) (upto (length q.syms))) (has-filter (is_left q) (upto (length q.syms)) s ∙ (rw (left, has_upto (length q.syms) s, lt-ltb s (length q.syms) h) refl)))

followed_all : (P : ℕ → Type 0) (q : Query) → ((s u : ℕ) → In u (next_of q s) → P u) → (n k : ℕ) (order : List ℕ) → ((s : ℕ) → In s order → P s) → (s : ℕ) → In s (followed q n k order) → P s
followed_all P q next zero k order all s m = all s m
followed_all P q next (suc n) k order all s m = go (ltb k (length order)) m (followed_all P q next n (k + 1) (mentioned order (next_of q (get_or order k 0)))
    (λ u i. elim (mentioned_from u order (next_of q (get_or order k 0)) i) [ inl old ↦ all u old | inr new ↦ next (get_or order k 0) u new ]) s)
  where
    go : (b : Bool) → In s (cond b (followed q n (k + 1) (mentioned order (next_of q (get_or order k 0)))) order) → (In s (followed q n (k + 1) (mentioned order (next_of q (get_or order k 0)))) → P s) → P s
    go true i f = f i
    go false i f = all s i

-- what holds of roots, of what symbols lead to and of what is left holds of all
pub order_all : (P : ℕ → Type 0) (q : Query) → ((s : ℕ) → In s (register_symbols q ++ static_symbols q) → P s) → ((s u : ℕ) → In u (next_of q s) → P u) → ((s : ℕ) → is_left q s ≡ true → P s)
    → (s : ℕ) → In s (order_of q) → P s
order_all P q roots next left s m =
    let first = mentioned [] (register_symbols q ++ static_symbols q) in
    let leads = followed q (length q.syms) 0 first in
    elim (mentioned_from s leads (filter (is_left q) (upto (length q.syms))) m) [
      | inl old ↦ followed_all P q next (length q.syms) 0 first (λ u i. elim (mentioned_from u [] (register_symbols q ++ static_symbols q) i) [ inl none ↦ absurd none | inr new ↦ roots u new ]) s old
      | inr new ↦ left s (in_filter (is_left q) s (upto (length q.syms)) new).1
    ]

-- ---- places

pub place_back : (order : List ℕ) (s d : ℕ) → place_in order s < length order → get_or order (place_in order s) d ≡ s
place_back [] s d h = absurd (omega (arith, h))
place_back (x ∷ xs) s d h = go (x == s) refl h (place_back xs s d)
  where
    go : (b : Bool) → (x == s) ≡ b → cond b 0 (suc (place_in xs s)) < length (x ∷ xs) → (place_in xs s < length xs → get_or xs (place_in xs s) d ≡ s) → get_or (x ∷ xs) (cond b 0 (suc (place_in xs s))) d ≡ s
    go true e l f = eqb-true x s e
    go false e l f = f (omega (arith, l))

pub place_within : (order : List ℕ) (s : ℕ) → In s order → place_in order s < length order
place_within [] s m = absurd m
place_within (x ∷ xs) s m = go (x == s) refl m (place_within xs s)
  where
    go : (b : Bool) → (x == s) ≡ b → In s (x ∷ xs) → (In s xs → place_in xs s < length xs) → cond b 0 (suc (place_in xs s)) < length (x ∷ xs)
    go true e i f = omega arith
    go false e (inl same) f = absurd (both_ways _ e (eq-eqb x s (sym same)))
    go false e (inr i) f = let r = f i in omega (arith, r)

pub name_is_place : (order : List ℕ) (n s : ℕ) → s < n → name_of (numbers_by order n) s ≡ place_in order s
name_is_place order n s h =
    let long = length_upto n in
    get_or-map (place_in order) (upto n) s s s (omega (arith, long, h)) ∙ ap (place_in order) (upto_at n s s h)

-- the new number of what is left leads back to it
pub name_back : (q : Query) (s d : ℕ) → s < length q.syms → is_left q s ≡ true → get_or (order_of q) (name_of (numbers_by (order_of q) (length q.syms)) s) d ≡ s
name_back q s d h left =
    ap (λ k. get_or (order_of q) k d) (name_is_place (order_of q) (length q.syms) s h)
    ∙ place_back (order_of q) s d (place_within (order_of q) s (left_ordered q s h left))

pub name_within : (q : Query) (s : ℕ) → s < length q.syms → is_left q s ≡ true → name_of (numbers_by (order_of q) (length q.syms)) s < length (order_of q)
name_within q s h left =
    let is = name_is_place (order_of q) (length q.syms) s h in
    let p = place_within (order_of q) s (left_ordered q s h left) in
    omega (arith, is, p)

-- ---- the symbols in the new order

present_step : {X : Type 0} (syms : List X) (s : ℕ) (rest : List ℕ) (k : ℕ) (x : X) → (y : X) × (slice_get syms s ≡ Some y)
    → ((i : ℕ) → slice_get (present (map (slice_get syms) rest)) i ≡ Some x → slice_get syms (get_or rest i 0) ≡ Some x)
    → (o : Option X) → slice_get syms s ≡ o → slice_get (present (o ∷ map (slice_get syms) rest)) k ≡ Some x → slice_get syms (get_or (s ∷ rest) k 0) ≡ Some x
present_step syms s rest k x there f None is e = absurd (let both = sym is ∙ there.1 in cc)
present_step syms s rest zero x there f (Some y) is e = is ∙ e
present_step syms s rest (suc k) x there f (Some y) is e = f k e

pub present_at : {X : Type 0} (syms : List X) (order : List ℕ) → ((s : ℕ) → In s order → (y : X) × (slice_get syms s ≡ Some y)) → (k : ℕ) (x : X)
    → slice_get (present (map (slice_get syms) order)) k ≡ Some x → slice_get syms (get_or order k 0) ≡ Some x
present_at syms [] all k x e = absurd cc
present_at syms (s ∷ rest) all k x e = present_step syms s rest k x (all s (inl refl)) (λ i. present_at syms rest (λ u m. all u (inr m)) i x) (slice_get syms s) refl e

there_step : {X : Type 0} (syms : List X) (s : ℕ) (rest : List ℕ) (k : ℕ) (x : X) → (y : X) × (slice_get syms s ≡ Some y)
    → ((i : ℕ) → i < length rest → slice_get syms (get_or rest i 0) ≡ Some x → slice_get (present (map (slice_get syms) rest)) i ≡ Some x)
    → (o : Option X) → slice_get syms s ≡ o → k < suc (length rest) → slice_get syms (get_or (s ∷ rest) k 0) ≡ Some x → slice_get (present (o ∷ map (slice_get syms) rest)) k ≡ Some x
there_step syms s rest k x there f None is h e = absurd (let both = sym is ∙ there.1 in cc)
there_step syms s rest zero x there f (Some y) is h e = sym is ∙ e
there_step syms s rest (suc k) x there f (Some y) is h e = f k (omega (arith, h)) e

pub present_there : {X : Type 0} (syms : List X) (order : List ℕ) → ((s : ℕ) → In s order → (y : X) × (slice_get syms s ≡ Some y)) → (k : ℕ) (x : X)
    → k < length order → slice_get syms (get_or order k 0) ≡ Some x → slice_get (present (map (slice_get syms) order)) k ≡ Some x
present_there syms [] all k x h e = absurd (omega (arith, h))
present_there syms (s ∷ rest) all k x h e = there_step syms s rest k x (all s (inl refl)) (λ i. present_there syms rest (λ u m. all u (inr m)) i x) (slice_get syms s) refl h e

-- ---- no number is mentioned twice

abbrev pub AreOnce : List ℕ → Type 0
AreOnce [] = Unit {0}
AreOnce (x ∷ xs) = (In x xs → ⊥) × AreOnce xs

once_push : (xs : List ℕ) (y : ℕ) → AreOnce xs → (In y xs → ⊥) → AreOnce (xs ++ y ∷ [])
once_push [] y a n = ((λ m. m), tt)
once_push (x ∷ xs) y a n = (
  (λ m. elim (in_either x xs (y ∷ []) m) [ inl old ↦ a.0 old | inr new ↦ elim new [ inl e ↦ n (inl (sym e)) | inr none ↦ none ] ]),
  once_push xs y a.1 (λ m. n (inr m)),
)

once_mentioned : (kept xs : List ℕ) → AreOnce kept → AreOnce (mentioned kept xs)
once_mentioned kept [] a = a
once_mentioned kept (y ∷ ys) a = go (list_any (λ z. z == y) kept) refl (λ more b. once_mentioned more ys b)
  where
    go : (b : Bool) → list_any (λ z. z == y) kept ≡ b → ((more : List ℕ) → AreOnce more → AreOnce (mentioned more ys)) → AreOnce (mentioned (cond b kept (kept ++ y ∷ [])) ys)
    go true e f = f kept a
    go false e f = f (kept ++ y ∷ []) (once_push kept y a (λ m. both_ways _ e (in_has y kept m)))

once_followed : (q : Query) (n k : ℕ) (order : List ℕ) → AreOnce order → AreOnce (followed q n k order)
once_followed q zero k order a = a
once_followed q (suc n) k order a =
    elim (ltb k (length order)) as (λ b. AreOnce (cond b (followed q n (k + 1) (mentioned order (next_of q (get_or order k 0)))) order)) [
      | true ↦ once_followed q n (k + 1) (mentioned order (next_of q (get_or order k 0))) (once_mentioned order (next_of q (get_or order k 0)) a)
      | false ↦ a
    ]

pub order_once : (q : Query) → AreOnce (order_of q)
order_once q =
    once_mentioned (followed q (length q.syms) 0 (mentioned [] (register_symbols q ++ static_symbols q))) (filter (is_left q) (upto (length q.syms)))
    (once_followed q (length q.syms) 0 (mentioned [] (register_symbols q ++ static_symbols q)) (once_mentioned [] (register_symbols q ++ static_symbols q) tt))

pub in_at : (xs : List ℕ) (n d : ℕ) → n < length xs → In (get_or xs n d) xs
in_at [] n d h = absurd (omega (arith, h))
in_at (x ∷ xs) zero d h = inl refl
in_at (x ∷ xs) (suc n) d h = inr (in_at xs n d (omega (arith, h)))

-- the place of what stands at a place
pub place_of_at : (xs : List ℕ) (n d : ℕ) → AreOnce xs → n < length xs → place_in xs (get_or xs n d) ≡ n
place_of_at [] n d a h = absurd (omega (arith, h))
place_of_at (x ∷ xs) zero d a h = rw (eq-eqb x x refl) refl
place_of_at (x ∷ xs) (suc n) d a h = go (x == get_or xs n d) refl (place_of_at xs n d a.1 (omega (arith, h)))
  where
    go : (b : Bool) → (x == get_or xs n d) ≡ b → place_in xs (get_or xs n d) ≡ n → cond b 0 (suc (place_in xs (get_or xs n d))) ≡ suc n
    go true e f = absurd (a.0 (subst (λ z. In z xs) (sym (eqb-true x (get_or xs n d) e)) (in_at xs n d (omega (arith, h)))))
    go false e f = ap suc f

pub length_present : {X : Type 0} (xs : List (Option X)) → length (present xs) ≤ length xs
length_present [] = omega arith
length_present (None ∷ xs) = let h = length_present xs in omega (arith, h)
length_present (Some x ∷ xs) = let h = length_present xs in omega (arith, h)

-- Members of filtered lists, and symbols that lost sites.
use Rattle.std.proofs.Common.{◌≡◌, ◌≢◌, ◌⊎◌, inl, inr, ℕ, ◌+◌, ◌<◌, ◌≤◌, zero, suc, eqb, Bool, true, false, cond, List, [], ◌∷◌, length, get_or, Some, slice_get, slice_set, refl, sym, ap, ◌∙◌, arith}
use Rattle.std.specs.Prelude.{◌&&◌, ◌||◌}
use Rattle.std.specs.List.{list_any, filter}
use Rattle.std.proofs.lemmas.Bool.{eqb-true, eq-eqb, or_cases, or_left, or_right, and_parts, both_ways, cases_eq, cases_Bool}
use Rattle.th_base.specs.IdSet.{has}
use Rattle.th_ir.specs.FactSets.{set_at}
use Rattle.th_base.proofs.Ascending.{has-filter}
use Rattle.th_query.specs.declared.query.Sym.{Sym}
use Rattle.th_query.specs.declared.query.Sym.TheVariants.{Ref, Int, Carry}
use Rattle.th_query.specs.Symbols.{sites_in}
use Rattle.th_query.specs.Narrowed.{kept_sites, kept_symbols}
use Rattle.th_narrow.specs.Rounds.{family, IsPart, size, kept_at, AreKept}
use Rattle.th_narrow.specs.Put.{IsLent, given_back, put_at, with_list}

-- ---- filtered lists

and_true : (b : Bool) → (b && true) ≡ b
and_true true = refl
and_true false = refl

and_false : (b : Bool) → (b && false) ≡ false
and_false true = refl
and_false false = refl

pub any_true : (p : ℕ → Bool) (xs : List ℕ) → list_any p xs ≡ true → (x : ℕ) × (has xs x ≡ true) × (p x ≡ true)
any_true p [] h = absurd (both_ways _ refl h)
any_true p (x ∷ xs) h = elim (or_cases (p x) (list_any p xs) h) [
  | inl here ↦ (x, or_left (eqb x x) (has xs x) (eq-eqb x x refl), here)
  | inr later ↦ let r = any_true p xs later in (r.0, or_right (eqb x r.0) (has xs r.0) r.1, r.2)
]

pub any_from : (p : ℕ → Bool) (xs : List ℕ) (x : ℕ) → has xs x ≡ true → p x ≡ true → list_any p xs ≡ true
any_from p [] x m h = absurd (both_ways _ refl m)
any_from p (y ∷ ys) x m h = elim (or_cases (eqb y x) (has ys x) m) [
  | inl e ↦ or_left (p y) (list_any p ys) (ap p (eqb-true y x e) ∙ h)
  | inr later ↦ or_right (p y) (list_any p ys) (any_from p ys x later h)
]

filter_short : (p : ℕ → Bool) (xs : List ℕ) → length (filter p xs) ≤ length xs
filter_short p [] = omega arith
filter_short p (x ∷ xs) = go (p x) (filter_short p xs)
  where
    go : (b : Bool) → length (filter p xs) ≤ length xs → length (cond b (x ∷ filter p xs) (filter p xs)) ≤ suc (length xs)
    go true h = omega (arith, h)
    go false h = omega (arith, h)

pub fewer : (p : ℕ → Bool) (xs : List ℕ) → length (filter p xs) ≢ length xs → length (filter p xs) < length xs
fewer p xs n = let short = filter_short p xs in elim (cases_eq (length (filter p xs)) (length xs)) [ inl e ↦ absurd (n e) | inr other ↦ omega (arith, short, other) ]

-- where as many are kept, all are
pub filter_whole : (p : ℕ → Bool) (xs : List ℕ) → length (filter p xs) ≡ length xs → (filter p xs ≡ xs) × ((x : ℕ) → has xs x ≡ true → p x ≡ true)
filter_whole p [] h = (refl, λ x m. absurd (both_ways _ refl m))
filter_whole p (x ∷ xs) h = go (p x) refl h (filter_short p xs) (filter_whole p xs)
  where
    go : (b : Bool) → p x ≡ b → length (cond b (x ∷ filter p xs) (filter p xs)) ≡ suc (length xs) → length (filter p xs) ≤ length xs
        → (length (filter p xs) ≡ length xs → (filter p xs ≡ xs) × ((y : ℕ) → has xs y ≡ true → p y ≡ true))
        → (cond b (x ∷ filter p xs) (filter p xs) ≡ x ∷ xs) × ((y : ℕ) → (eqb x y || has xs y) ≡ true → p y ≡ true)
    go true e l s r =
        let k = r (omega (arith, l)) in
        (ap (λ ys. x ∷ ys) k.0, λ y m. elim (or_cases (eqb x y) (has xs y) m) [ inl here ↦ ap p (sym (eqb-true x y here)) ∙ e | inr later ↦ k.1 y later ])
    go false e l s r = absurd (omega (arith, l, s))

filter_agree : (p r : ℕ → Bool) (xs : List ℕ) → ((x : ℕ) → has xs x ≡ true → p x ≡ r x) → filter p xs ≡ filter r xs
filter_agree p r [] e = refl
filter_agree p r (x ∷ xs) e =
    let rest : filter p xs ≡ filter r xs = filter_agree p r xs (λ y m. e y (or_right (eqb x y) (has xs y) m)) in
    λ i. cond (e x (or_left (eqb x x) (has xs x) (eq-eqb x x refl)) i) (x ∷ rest i) (rest i)

filter_both : (p r : ℕ → Bool) (xs : List ℕ) → filter p (filter r xs) ≡ filter (λ a. p a && r a) xs
filter_both p r [] = refl
filter_both p r (x ∷ xs) = go (r x) (filter_both p r xs)
  where
    go : (b : Bool) → filter p (filter r xs) ≡ filter (λ a. p a && r a) xs
        → filter p (cond b (x ∷ filter r xs) (filter r xs)) ≡ cond (p x && b) (x ∷ filter (λ a. p a && r a) xs) (filter (λ a. p a && r a) xs)
    go true h = ap (λ ys. cond (p x) (x ∷ ys) ys) h ∙ ap (λ c. cond c (x ∷ filter (λ a. p a && r a) xs) (filter (λ a. p a && r a) xs)) (sym (and_true (p x)))
    go false h = h ∙ ap (λ c. cond c (x ∷ filter (λ a. p a && r a) xs) (filter (λ a. p a && r a) xs)) (sym (and_false (p x)))

pub filter_none : (p : ℕ → Bool) (xs : List ℕ) → ((x : ℕ) → p x ≡ false) → filter p xs ≡ []
filter_none p [] e = refl
filter_none p (x ∷ xs) e = ap (λ b. cond b (x ∷ filter p xs) (filter p xs)) (e x) ∙ filter_none p xs e

pub filter_like : (p r : ℕ → Bool) (xs : List ℕ) → ((x : ℕ) → p x ≡ r x) → filter p xs ≡ filter r xs
filter_like p r xs e = filter_agree p r xs (λ x m. e x)

-- the set of a place
pub set_past : (sets : List (List ℕ)) (k x : ℕ) → length sets ≤ k → set_at sets k x ≡ false
set_past [] k x h = refl
set_past (s ∷ sets) zero x h = absurd (omega (arith, h))
set_past (s ∷ sets) (suc k) x h = set_past sets k x (omega (arith, h))

pub set_there : (sets : List (List ℕ)) (k : ℕ) (set : List ℕ) (x : ℕ) → k < length sets → set ≡ get_or sets k set → set_at sets k x ≡ has set x
set_there [] k set x h e = absurd (omega (arith, h))
set_there (s ∷ sets) zero set x h e = ap (λ ys. has ys x) (sym e)
set_there (s ∷ sets) (suc k) set x h e = set_there sets k set x (omega (arith, h)) e

filter_all : (xs : List ℕ) → filter (λ a. true) xs ≡ xs
filter_all [] = refl
filter_all (x ∷ xs) = ap (λ ys. x ∷ ys) (filter_all xs)

-- ---- symbols that lost sites

kept_again : (p r : ℕ → Bool) (x : Sym) → kept_sites p (kept_sites r x) ≡ kept_sites (λ a. p a && r a) x
kept_again p r (Ref null sites) = ap (Ref null) (filter_both p r sites)
kept_again p r Int = refl
kept_again p r Carry = refl

kept_all : (x : Sym) → kept_sites (λ a. true) x ≡ x
kept_all (Ref null sites) = ap (Ref null) (filter_all sites)
kept_all Int = refl
kept_all Carry = refl

pub has_kept : (p : ℕ → Bool) (x : Sym) (a : ℕ) → has (sites_in (Some (kept_sites p x))) a ≡ (p a && has (sites_in (Some x)) a)
has_kept p (Ref null sites) a = has-filter p sites a
has_kept p Int a = sym (and_false (p a))
has_kept p Carry a = sym (and_false (p a))

pub kept_refl : (xs : List Sym) → AreKept xs xs
kept_refl [] = tt
kept_refl (x ∷ xs) = (((λ a. true), sym (kept_all x)), kept_refl xs)

pub kept_both : (xs ys zs : List Sym) → AreKept xs ys → AreKept ys zs → AreKept xs zs
kept_both [] [] [] a b = tt
kept_both [] [] (z ∷ zs) a b = absurd b
kept_both [] (y ∷ ys) zs a b = absurd a
kept_both (x ∷ xs) [] zs a b = absurd a
kept_both (x ∷ xs) (y ∷ ys) [] a b = absurd b
kept_both (x ∷ xs) (y ∷ ys) (z ∷ zs) a b =
    let p = a.0.0 in
    let r = b.0.0 in
    (((λ n. r n && p n), b.0.1 ∙ ap (kept_sites r) a.0.1 ∙ kept_again r p x), kept_both xs ys zs a.1 b.1)

pub kept_one : (s : ℕ) (p : ℕ → Bool) (xs : List Sym) → AreKept xs (kept_at s p xs)
kept_one zero p [] = tt
kept_one (suc s) p [] = tt
kept_one zero p (x ∷ xs) = ((p, refl), kept_refl xs)
kept_one (suc s) p (x ∷ xs) = (((λ a. true), sym (kept_all x)), kept_one s p xs)

pub kept_part : (xs ys : List Sym) → AreKept xs ys → IsPart (family ys) (family xs)
kept_part [] [] k s a m = m
kept_part [] (y ∷ ys) k s a m = absurd k
kept_part (x ∷ xs) [] k s a m = absurd k
kept_part (x ∷ xs) (y ∷ ys) k zero a m = (and_parts (k.0.0 a) _ (sym (has_kept k.0.0 x a) ∙ ap (λ z. has (sites_in (Some z)) a) (sym k.0.1) ∙ m)).1
kept_part (x ∷ xs) (y ∷ ys) k (suc s) a m = kept_part xs ys k.1 s a m

-- they are the old ones with the sites that they have now
kept_now : (p g : ℕ → Bool) (x y : Sym) → y ≡ kept_sites p x → ((a : ℕ) → g a ≡ has (sites_in (Some y)) a) → kept_sites g x ≡ y
kept_now p g (Ref null sites) y e f =
    ap (Ref null) (filter_agree g p sites (λ a m. f a ∙ ap (λ z. has (sites_in (Some z)) a) e ∙ has-filter p sites a ∙ ap (λ b. p a && b) m ∙ and_true (p a))) ∙ sym e
kept_now p g Int y e f = sym e
kept_now p g Carry y e f = sym e

as_kept : (G : ℕ → ℕ → Bool) (k : ℕ) (xs ys : List Sym) → AreKept xs ys → ((n a : ℕ) → G (k + n) a ≡ family ys n a) → kept_symbols G k xs ≡ ys
as_kept G k [] [] e f = refl
as_kept G k [] (y ∷ ys) e f = absurd e
as_kept G k (x ∷ xs) [] e f = absurd e
as_kept G k (x ∷ xs) (y ∷ ys) e f =
    let zeroth : k ≡ k + 0 = omega arith in
    let here = kept_now e.0.0 (G k) x y e.0.1 (λ a. ap (λ n. G n a) zeroth ∙ f 0 a) in
    let rest = as_kept G (k + 1) xs ys e.1 (λ n a. (let next : (k + 1) + n ≡ k + suc n = omega arith in ap (λ m. G m a) next) ∙ f (suc n) a) in
    λ i. here i ∷ rest i

pub as_family : (xs ys : List Sym) → AreKept xs ys → ys ≡ kept_symbols (family ys) 0 xs
as_family xs ys k = sym (as_kept (family ys) 0 xs ys k (λ n a. (let same : 0 + n ≡ n = omega arith in ap (λ m. family ys m a) same)))

-- ---- one symbol

pub family_kept : (s : ℕ) (p : ℕ → Bool) (xs : List Sym) (u a : ℕ)
    → ((u ≡ s) × (family (kept_at s p xs) u a ≡ (p a && family xs u a))) ⊎ ((u ≢ s) × (family (kept_at s p xs) u a ≡ family xs u a))
family_kept zero p [] u a = elim (cases_eq u zero) [ inl e ↦ inl (e, sym (and_false (p a))) | inr n ↦ inr (n, refl) ]
family_kept (suc s) p [] u a = elim (cases_eq u (suc s)) [ inl e ↦ inl (e, sym (and_false (p a))) | inr n ↦ inr (n, refl) ]
family_kept zero p (x ∷ xs) zero a = inl (refl, has_kept p x a)
family_kept zero p (x ∷ xs) (suc u) a = inr ((λ e. absurd (omega (arith, e))), refl)
family_kept (suc s) p (x ∷ xs) zero a = inr ((λ e. absurd (omega (arith, e))), refl)
family_kept (suc s) p (x ∷ xs) (suc u) a = elim (family_kept s p xs u a) [ inl e ↦ inl (ap suc e.0, e.1) | inr n ↦ inr ((λ e. n.0 (omega (arith, e))), n.1) ]

whole_symbol : (p : ℕ → Bool) (x : Sym) → filter p (sites_in (Some x)) ≡ sites_in (Some x) → kept_sites p x ≡ x
whole_symbol p (Ref null sites) e = ap (Ref null) e
whole_symbol p Int e = refl
whole_symbol p Carry e = refl

pub kept_whole : (s : ℕ) (p : ℕ → Bool) (xs : List Sym) → filter p (sites_in (slice_get xs s)) ≡ sites_in (slice_get xs s) → kept_at s p xs ≡ xs
kept_whole zero p [] e = refl
kept_whole (suc s) p [] e = refl
kept_whole zero p (x ∷ xs) e = ap (λ y. y ∷ xs) (whole_symbol p x e)
kept_whole (suc s) p (x ∷ xs) e = ap (λ ys. x ∷ ys) (kept_whole s p xs e)

symbol_less : (p : ℕ → Bool) (x : Sym) → length (sites_in (Some (kept_sites p x))) ≡ length (filter p (sites_in (Some x)))
symbol_less p (Ref null sites) = refl
symbol_less p Int = refl
symbol_less p Carry = refl

pub size_less : (s : ℕ) (p : ℕ → Bool) (xs : List Sym) → length (filter p (sites_in (slice_get xs s))) < length (sites_in (slice_get xs s)) → size (kept_at s p xs) < size xs
size_less s p [] h = absurd (omega (arith, h))
size_less zero p (x ∷ xs) h = let e = symbol_less p x in omega (arith, h, e)
size_less (suc s) p (x ∷ xs) h = let r = size_less s p xs h in omega (arith, r)

-- ---- in place

pub set_put : (s : ℕ) (new : List ℕ) (xs : List Sym) (x y z : Sym) → s < length xs → x ≡ get_or xs s x → y ≡ with_list new x → slice_set (slice_set xs s z) s y ≡ put_at s new xs
set_put s new [] x y z h e f = absurd (omega (arith, h))
set_put zero new (w ∷ xs) x y z h e f = ap (λ v. v ∷ xs) (f ∙ ap (with_list new) e)
set_put (suc s) new (w ∷ xs) x y z h e f = ap (λ vs. w ∷ vs) (set_put s new xs x y z (omega (arith, h)) e f)

pub past_put : (s : ℕ) (new : List ℕ) (xs : List Sym) → length xs ≤ s → put_at s new xs ≡ xs
past_put zero new [] h = refl
past_put (suc s) new [] h = refl
past_put zero new (x ∷ xs) h = absurd (omega (arith, h))
past_put (suc s) new (x ∷ xs) h = ap (λ ys. x ∷ ys) (past_put s new xs (omega (arith, h)))

pub past_sites : (s : ℕ) (xs : List Sym) → length xs ≤ s → sites_in (slice_get xs s) ≡ []
past_sites s [] h = refl
past_sites zero (x ∷ xs) h = absurd (omega (arith, h))
past_sites (suc s) (x ∷ xs) h = past_sites s xs (omega (arith, h))

pub sites_there : (xs : List Sym) (s : ℕ) (x : Sym) → s < length xs → x ≡ get_or xs s x → sites_in (slice_get xs s) ≡ sites_in (Some x)
sites_there [] s x h e = absurd (omega (arith, h))
sites_there (z ∷ xs) zero x h e = ap (λ w. sites_in (Some w)) (sym e)
sites_there (z ∷ xs) (suc s) x h e = sites_there xs s x (omega (arith, h)) e

with_filtered : (p : ℕ → Bool) (x : Sym) → with_list (filter p (sites_in (Some x))) x ≡ kept_sites p x
with_filtered p (Ref null sites) = refl
with_filtered p Int = refl
with_filtered p Carry = refl

-- sites that passed, put in the place of all
pub put_filtered : (s : ℕ) (p : ℕ → Bool) (xs : List Sym) → put_at s (filter p (sites_in (slice_get xs s))) xs ≡ kept_at s p xs
put_filtered zero p [] = refl
put_filtered (suc s) p [] = refl
put_filtered zero p (x ∷ xs) = ap (λ y. y ∷ xs) (with_filtered p x)
put_filtered (suc s) p (x ∷ xs) = ap (λ ys. x ∷ ys) (put_filtered s p xs)

with_twice : (a b : List ℕ) (x : Sym) → with_list a (with_list b x) ≡ with_list a x
with_twice a b (Ref null sites) = refl
with_twice a b Int = refl
with_twice a b Carry = refl

pub put_twice : (s : ℕ) (a b : List ℕ) (xs : List Sym) → put_at s a (put_at s b xs) ≡ put_at s a xs
put_twice zero a b [] = refl
put_twice (suc s) a b [] = refl
put_twice zero a b (x ∷ xs) = ap (λ y. y ∷ xs) (with_twice a b x)
put_twice (suc s) a b (x ∷ xs) = ap (λ ys. x ∷ ys) (put_twice s a b xs)

with_own : (x : Sym) → with_list (sites_in (Some x)) x ≡ x
with_own (Ref null sites) = refl
with_own Int = refl
with_own Carry = refl

put_own : (s : ℕ) (xs : List Sym) → put_at s (sites_in (slice_get xs s)) xs ≡ xs
put_own zero [] = refl
put_own (suc s) [] = refl
put_own zero (x ∷ xs) = ap (λ y. y ∷ xs) (with_own x)
put_own (suc s) (x ∷ xs) = ap (λ ys. x ∷ ys) (put_own s xs)

put_apart : (s u : ℕ) (a b : List ℕ) (xs : List Sym) → s ≢ u → put_at s a (put_at u b xs) ≡ put_at u b (put_at s a xs)
put_apart zero zero a b xs n = absurd (n refl)
put_apart zero (suc u) a b [] n = refl
put_apart (suc s) zero a b [] n = refl
put_apart (suc s) (suc u) a b [] n = refl
put_apart zero (suc u) a b (x ∷ xs) n = refl
put_apart (suc s) zero a b (x ∷ xs) n = refl
put_apart (suc s) (suc u) a b (x ∷ xs) n = ap (λ ys. x ∷ ys) (put_apart s u a b xs (λ e. n (ap suc e)))

other_sites : (s u : ℕ) (a : List ℕ) (xs : List Sym) → s ≢ u → sites_in (slice_get (put_at s a xs) u) ≡ sites_in (slice_get xs u)
other_sites zero zero a xs n = absurd (n refl)
other_sites zero (suc u) a [] n = refl
other_sites (suc s) zero a [] n = refl
other_sites (suc s) (suc u) a [] n = refl
other_sites zero (suc u) a (x ∷ xs) n = refl
other_sites (suc s) zero a (x ∷ xs) n = refl
other_sites (suc s) (suc u) a (x ∷ xs) n = other_sites s u a xs (λ e. n (ap suc e))

-- the symbol u is narrowed while the sites of s are lent
pub lent_sites : (s u : ℕ) (old mid : List Sym) (set : List ℕ) → IsLent s u old mid set → sites_in (slice_get mid u) ≡ sites_in (slice_get old u)
lent_sites s u old mid set l = elim (cases_Bool (eqb s u)) [
  | inl same ↦ ap (λ xs. sites_in (slice_get xs u)) (l.rest ∙ ap (λ b. cond b old (put_at s [] old)) same)
  | inr apart ↦ ap (λ xs. sites_in (slice_get xs u)) (l.rest ∙ ap (λ b. cond b old (put_at s [] old)) apart)
      ∙ other_sites s u [] old (λ e. both_ways _ apart (eq-eqb s u e))
]

pub lent_narrowed : (s u : ℕ) (p : ℕ → Bool) (old mid : List Sym) (set kept : List ℕ) → IsLent s u old mid set → kept ≡ filter p (sites_in (slice_get old u))
    → given_back s u set (put_at u kept (put_at u [] mid)) ≡ kept_at u p old
lent_narrowed s u p old mid set kept l k =
    let once : put_at u kept (put_at u [] mid) ≡ put_at u kept mid = put_twice u kept [] mid in
    let narrowed : put_at u kept old ≡ kept_at u p old = ap (λ ys. put_at u ys old) k ∙ put_filtered u p old in
    elim (cases_Bool (eqb s u)) [
      | inl same ↦
          let start : mid ≡ old = l.rest ∙ ap (λ b. cond b old (put_at s [] old)) same in
          ap (λ b. cond b (put_at u kept (put_at u [] mid)) (put_at s set (put_at u kept (put_at u [] mid)))) same
          ∙ once ∙ ap (put_at u kept) start ∙ narrowed
      | inr apart ↦
          let start : mid ≡ put_at s [] old = l.rest ∙ ap (λ b. cond b old (put_at s [] old)) apart in
          let other : s ≢ u = λ e. both_ways _ apart (eq-eqb s u e) in
          let back : put_at s set (put_at s [] old) ≡ old = put_twice s set [] old ∙ ap (λ ys. put_at s ys old) l.sites ∙ put_own s old in
          ap (λ b. cond b (put_at u kept (put_at u [] mid)) (put_at s set (put_at u kept (put_at u [] mid)))) apart
          ∙ ap (put_at s set) (once ∙ ap (put_at u kept) start)
          ∙ put_apart s u set kept (put_at s [] old) other
          ∙ ap (put_at u kept) back ∙ narrowed
    ]

pub set_kept : (s : ℕ) (p : ℕ → Bool) (xs : List Sym) (x y : Sym) → s < length xs → x ≡ get_or xs s x → y ≡ kept_sites p x → slice_set xs s y ≡ kept_at s p xs
set_kept s p [] x y h e f = absurd (omega (arith, h))
set_kept zero p (z ∷ xs) x y h e f = ap (λ w. w ∷ xs) (f ∙ ap (kept_sites p) e)
set_kept (suc s) p (z ∷ xs) x y h e f = ap (λ ws. z ∷ ws) (set_kept s p xs x y (omega (arith, h)) e f)

pub past_kept : (s : ℕ) (p : ℕ → Bool) (xs : List Sym) → length xs ≤ s → kept_at s p xs ≡ xs
past_kept zero p [] h = refl
past_kept (suc s) p [] h = refl
past_kept zero p (x ∷ xs) h = absurd (omega (arith, h))
past_kept (suc s) p (x ∷ xs) h = ap (λ ys. x ∷ ys) (past_kept s p xs (omega (arith, h)))

set_twice : {X : Type 0} (xs : List X) (i : ℕ) (a b : X) → slice_set (slice_set xs i a) i b ≡ slice_set xs i b
set_twice [] i a b = refl
set_twice (x ∷ xs) zero a b = refl
set_twice (x ∷ xs) (suc i) a b = ap (λ ys. x ∷ ys) (set_twice xs i a b)

-- a symbol that was taken out for a while
pub taken_kept : (s : ℕ) (p : ℕ → Bool) (xs : List Sym) (x y z : Sym) → s < length xs → x ≡ get_or xs s x → y ≡ kept_sites p x → slice_set (slice_set xs s z) s y ≡ kept_at s p xs
taken_kept s p xs x y z h e f = set_twice xs s z y ∙ set_kept s p xs x y h e f

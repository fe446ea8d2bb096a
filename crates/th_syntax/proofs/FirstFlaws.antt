-- The first of several flaws is one, and a function gives it; of flaws that ascend it is the head.
use Rattle.std.proofs.Common.{◌≡◌, ◌⊎◌, ℕ, zero, suc, ◌+◌, ◌<◌, ◌≤◌, Bool, true, false, cond, eqb, ltb, ◌&&◌, ◌||◌, List, [], ◌∷◌, length, Option, Some, None, refl, sym, ap, subst, ◌∙◌, arith, inl, inr, ⊎_elim}
use Rattle.std.specs.Prelude.{slice_index_or}
use Rattle.std.specs.List.{Contains, All, AllByRecursion}
use Rattle.std.proofs.lemmas.Bool.{ltb-true, ltb-false, eqb-true, eq-eqb}
use Rattle.std.proofs.lemmas.List.Elements.{All-from_recursion, All-contains}
use Rattle.th_syntax.specs.declared.refusal.Flaw.{Flaw}
use Rattle.th_syntax.specs.Flaws.{NotBehind, IsFirst, Ascend, is_before, first_from, first_of}
use Rattle.th_syntax.proofs.Inverting.{both, some_is}

-- ---- the order of flaws

not_behind_itself : (flaw : Flaw) → NotBehind flaw flaw
not_behind_itself flaw = inr (refl, omega arith)

not_behind_through : (a b c : Flaw) → NotBehind a b → NotBehind b c → NotBehind a c
not_behind_through a b c (inl lower) (inl less) = inl (omega arith)
not_behind_through a b c (inl lower) (inr same) = inl (let e : b.offset ≡ c.offset = same.0 in omega arith)
not_behind_through a b c (inr same) (inl less) = inl (let e : a.offset ≡ b.offset = same.0 in omega arith)
not_behind_through a b c (inr same) (inr so) = inr (same.0 ∙ so.0, (let x : a.number ≤ b.number = same.1 in let y : b.number ≤ c.number = so.1 in omega arith))

flaws_are : (a b : Flaw) → a.offset ≡ b.offset → a.number ≡ b.number → a ≡ b
flaws_are a b offset number =
    let made : ℕ → ℕ → Flaw = λ n o. record { number = n; offset = o } in
    ap (made a.number) offset ∙ ap (λ n. made n b.offset) number

same_place : (a b : Flaw) → NotBehind a b → NotBehind b a → a ≡ b
same_place a b (inl lower) (inl less) = absurd (omega arith)
same_place a b (inl lower) (inr same) = absurd (let e : b.offset ≡ a.offset = same.0 in omega arith)
same_place a b (inr same) (inl less) = absurd (let e : a.offset ≡ b.offset = same.0 in omega arith)
same_place a b (inr same) (inr so) = flaws_are a b same.0 (let x : a.number ≤ b.number = same.1 in let y : b.number ≤ a.number = so.1 in omega arith)

-- the one of two flaws that comes first
or_cases : (a b : Bool) → (a || b) ≡ true → (a ≡ true) ⊎ (b ≡ true)
or_cases true b e = inl refl
or_cases false b e = inr e

neither : (a b : Bool) → (a || b) ≡ false → (a ≡ false) × (b ≡ false)
neither true b e = absurd cc
neither false b e = (refl, e)

before_is : (a b : Flaw) → is_before a b ≡ true → NotBehind a b
before_is a b e = ⊎_elim (λ h. inl (ltb-true _ _ h)) (λ h. let t = both (eqb a.offset b.offset) (ltb a.number b.number) h in inr (eqb-true _ _ t.0, (let k : a.number < b.number = ltb-true _ _ t.1 in omega arith)))
    (or_cases (ltb a.offset b.offset) (eqb a.offset b.offset && ltb a.number b.number) e)

not_before_is : (a b : Flaw) → is_before a b ≡ false → NotBehind b a
not_before_is a b e =
    let two = neither (ltb a.offset b.offset) (eqb a.offset b.offset && ltb a.number b.number) e in
    let least : b.offset ≤ a.offset = ltb-false _ _ two.0 in
    by_place (ltb b.offset a.offset) refl least two.1
  where
    by_place : (t : Bool) → ltb b.offset a.offset ≡ t → b.offset ≤ a.offset → (eqb a.offset b.offset && ltb a.number b.number) ≡ false → NotBehind b a
    by_place true is le h = inl (ltb-true _ _ is)
    by_place false is le h =
        let most : a.offset ≤ b.offset = ltb-false _ _ is in
        let same : a.offset ≡ b.offset = omega arith in
        let test : (true && ltb a.number b.number) ≡ false = subst (λ t. (t && ltb a.number b.number) ≡ false) (eq-eqb a.offset b.offset same) h in
        inr (sym same, ltb-false _ _ test)

-- ---- the first of a list

-- the first of a flaw and of others is among them, and none comes before it
moved : (t : Bool) (flaw other : Flaw) (others : List Flaw) (r : Flaw) → Contains (cond t other flaw ∷ others) r → Contains (flaw ∷ other ∷ others) r
moved true flaw other others r (k, within, is) = (suc k, omega arith, is)
moved false flaw other others r (zero, within, is) = (0, omega arith, is)
moved false flaw other others r (suc k, within, is) = (suc (suc k), omega arith, is)

one_more : (t : Bool) (flaw other : Flaw) (others : List Flaw) (r : Flaw) → is_before other flaw ≡ t → IsFirst (cond t other flaw ∷ others) r → IsFirst (flaw ∷ other ∷ others) r
one_more true flaw other others r is later = record {
  found = moved true flaw other others r later.found;
  least = (not_behind_through r other flaw later.least.0 (before_is other flaw is), (later.least.0, later.least.1));
}
one_more false flaw other others r is later = record {
  found = moved false flaw other others r later.found;
  least = (later.least.0, (not_behind_through r flaw other later.least.0 (not_before_is other flaw is), later.least.1));
}

first_from_is : (flaw : Flaw) (flaws : List Flaw) → IsFirst (flaw ∷ flaws) (first_from flaw flaws)
first_from_is flaw [] = record { found = (0, omega arith, refl); least = (not_behind_itself flaw, tt) }
first_from_is flaw (other ∷ others) =
    one_more (is_before other flaw) flaw other others (first_from flaw (other ∷ others)) refl (first_from_is (cond (is_before other flaw) other flaw) others)

pub first_none : (flaws : List Flaw) → first_of flaws ≡ None → flaws ≡ []
first_none [] e = refl
first_none (flaw ∷ flaws) e = absurd cc

pub first_some : (flaws : List Flaw) (flaw : Flaw) → first_of flaws ≡ Some flaw → IsFirst flaws flaw
first_some [] flaw e = absurd cc
first_some (first ∷ flaws) flaw e = subst (IsFirst (first ∷ flaws)) (some_is (first_from first flaws) flaw e) (first_from_is first flaws)

-- the first of several flaws is one
pub one_first : (flaws : List Flaw) (a b : Flaw) → IsFirst flaws a → IsFirst flaws b → a ≡ b
one_first flaws a b f g =
    same_place a b
    (All-contains (NotBehind a) flaws b (All-from_recursion (NotBehind a) flaws f.least) g.found)
    (All-contains (NotBehind b) flaws a (All-from_recursion (NotBehind b) flaws g.least) f.found)

-- no flaw is the first of none
pub none_first : (flaws : List Flaw) (flaw : Flaw) → flaws ≡ [] → IsFirst flaws flaw → ⊥
none_first flaws flaw none first = let k : first.found.0 < length flaws = first.found.1 in omega (arith, ap length none)

pub first_is : (flaws : List Flaw) (flaw : Flaw) → IsFirst flaws flaw → first_of flaws ≡ Some flaw
first_is [] flaw first = absurd (none_first [] flaw refl first)
first_is (x ∷ flaws) flaw first = ap (λ (f : Flaw). let o : Option Flaw = Some f in o) (one_first (x ∷ flaws) (first_from x flaws) flaw (first_from_is x flaws) first)

-- of flaws that ascend the first is the head
pub head_first : (flaw : Flaw) (flaws : List Flaw) → Ascend (flaw ∷ flaws) → IsFirst (flaw ∷ flaws) flaw
head_first flaw flaws up = record { found = (0, omega arith, refl); least = (not_behind_itself flaw, up.0) }

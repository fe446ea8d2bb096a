-- The first flaw of lists in a row, and of the items of a list, as the checks meet them.
use Rattle.std.proofs.Common.{◌≡◌, ℕ, ◌+◌, ◌≤◌, ◌<◌, List, [], ◌∷◌, ◌++◌, length, map, drop, get_or, refl, sym, ap, ◌∙◌, arith, add-one}
use Rattle.std.specs.Prelude.{Option, Some, None}
use Rattle.std.specs.List.{flat_map, AllByRecursion}
use Rattle.std.proofs.Math.Seq.{drop-cons}
use Rattle.std.proofs.lemmas.List.{length-drop, nil_from_length}
use Rattle.th_syntax.specs.declared.refusal.Flaw.{Flaw}
use Rattle.th_syntax.specs.Flaws.{Ascend, IsFirst, NotBehind, first_of}
use Rattle.th_syntax.proofs.FirstFlaws.{head_first, first_is}
use Rattle.th_reader.specs.Passes.{front_flaw}

-- ---- two lists in a row

pub front_on : (a b : List Flaw) (o : Option Flaw) → None ≡ front_flaw a → o ≡ front_flaw b → o ≡ front_flaw (a ++ b)
front_on [] b o none e = e
front_on (x ∷ a) b o none e = absurd cc

pub front_here : (a b : List Flaw) (flaw : Flaw) → Some flaw ≡ front_flaw a → Some flaw ≡ front_flaw (a ++ b)
front_here [] b flaw e = absurd cc
front_here (x ∷ a) b flaw e = e

pub front_none : (a : List Flaw) → None ≡ front_flaw a → a ≡ []
front_none [] e = refl
front_none (x ∷ a) e = absurd cc

-- ---- the items of a list

-- the flaws from an item on are its own and those behind it
pub flat_at : {A B : Type 0} (flaws : B → List Flaw) (view : A → B) (xs : List A) (i : ℕ) (d : A) → i < length xs
    → flat_map flaws (map view (drop i xs)) ≡ flaws (view (get_or xs i d)) ++ flat_map flaws (map view (drop (i + 1) xs))
flat_at flaws view xs i d lt = rw (add-one, drop-cons xs i d lt) refl

pub walk_on : {A B : Type 0} (flaws : B → List Flaw) (view : A → B) (xs : List A) (i : ℕ) (d : A) (total : Option Flaw) → i < length xs → None ≡ front_flaw (flaws (view (get_or xs i d)))
    → front_flaw (flat_map flaws (map view (drop i xs))) ≡ total → front_flaw (flat_map flaws (map view (drop (i + 1) xs))) ≡ total
walk_on flaws view xs i d total lt none so_far =
    let rest = front_on (flaws (view (get_or xs i d))) (flat_map flaws (map view (drop (i + 1) xs))) (front_flaw (flat_map flaws (map view (drop (i + 1) xs)))) none refl in
    rest ∙ sym (ap front_flaw (flat_at flaws view xs i d lt)) ∙ so_far

pub walk_ends : {A B : Type 0} (flaws : B → List Flaw) (view : A → B) (xs : List A) (i : ℕ) (d : A) (flaw : Flaw) (total : Option Flaw) → i < length xs → Some flaw ≡ front_flaw (flaws (view (get_or xs i d)))
    → front_flaw (flat_map flaws (map view (drop i xs))) ≡ total → Some flaw ≡ total
walk_ends flaws view xs i d flaw total lt some so_far =
    front_here (flaws (view (get_or xs i d))) (flat_map flaws (map view (drop (i + 1) xs))) flaw some ∙ sym (ap front_flaw (flat_at flaws view xs i d lt)) ∙ so_far

pub none_left : {A : Type 0} (xs : List A) (i : ℕ) → length xs ≤ i → drop i xs ≡ []
none_left xs i le = nil_from_length (drop i xs) (omega (arith, length-drop i xs))

pub walk_done : {A B : Type 0} (flaws : B → List Flaw) (view : A → B) (xs : List A) (i : ℕ) (total : Option Flaw) → length xs ≤ i → front_flaw (flat_map flaws (map view (drop i xs))) ≡ total → None ≡ total
walk_done flaws view xs i total le so_far = ap (λ (ys : List _). front_flaw (flat_map flaws (map view ys))) (sym (none_left xs i le)) ∙ so_far

-- the same of an item that the loop holds

pub item_on : {A B : Type 0} (flaws : B → List Flaw) (view : A → B) (xs : List A) (i : ℕ) (x : A) (total : Option Flaw) → i < length xs → x ≡ get_or xs i x → None ≡ front_flaw (flaws (view x))
    → front_flaw (flat_map flaws (map view (drop i xs))) ≡ total → front_flaw (flat_map flaws (map view (drop (i + 1) xs))) ≡ total
item_on {A = A} flaws view xs i x total lt is none so_far = walk_on flaws view xs i x total lt (none ∙ ap (λ (y : A). front_flaw (flaws (view y))) is) so_far

pub item_ends : {A B : Type 0} (flaws : B → List Flaw) (view : A → B) (xs : List A) (i : ℕ) (x : A) (flaw : Flaw) (total : Option Flaw) → i < length xs → x ≡ get_or xs i x → Some flaw ≡ front_flaw (flaws (view x))
    → front_flaw (flat_map flaws (map view (drop i xs))) ≡ total → Some flaw ≡ total
item_ends {A = A} flaws view xs i x flaw total lt is some so_far = walk_ends flaws view xs i x flaw total lt (some ∙ ap (λ (y : A). front_flaw (flaws (view y))) is) so_far

-- ---- flaws that ascend

pub ascend_front : (a b : List Flaw) → Ascend (a ++ b) → Ascend a
ascend_front [] b up = tt
ascend_front (x ∷ a) b up = (all_front x a b up.0, ascend_front a b up.1)
  where
    all_front : (x : Flaw) (a b : List Flaw) → AllByRecursion (NotBehind x) (a ++ b) → AllByRecursion (NotBehind x) a
    all_front x [] b all = tt
    all_front x (y ∷ a) b all = (all.0, all_front x a b all.1)

-- of flaws that ascend the one that comes first is the head
pub first_front : (flaws : List Flaw) → Ascend flaws → first_of flaws ≡ front_flaw flaws
first_front [] up = refl
first_front (x ∷ flaws) up = first_is (x ∷ flaws) x (head_first x flaws up)

pub front_first : (flaws : List Flaw) (flaw : Flaw) → Ascend flaws → IsFirst flaws flaw → Some flaw ≡ front_flaw flaws
front_first flaws flaw up first = sym (first_is flaws flaw first) ∙ first_front flaws up

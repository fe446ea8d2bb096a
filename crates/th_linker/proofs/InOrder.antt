-- Checks in order: the first that finds something stops, and what is found along a list is found item by item.
use Rattle.std.proofs.Common.{◌≡◌, ℕ, suc, zero, ◌+◌, ◌<◌, ◌≤◌, Bool, true, false, cond, List, [], ◌∷◌, ◌++◌, map, length, take, drop, get_or, filter, Result, Ok, Err, Option, Some, refl, sym, ap, subst, ◌∙◌, arith, append_assoc, append-nil}
use Rattle.std.specs.Prelude.{slice_get}
use Rattle.std.specs.List.{flat_map}
use Rattle.std.proofs.lemmas.List.{take_more}
use Rattle.std.proofs.lemmas.Grind.{flat_map-append}
use Rattle.std.proofs.lemmas.Option.{slice_get-get_or}
use Rattle.th_base.specs.declared.fail.Fail.{Fail}
use Rattle.th_base.specs.declared.fail.Fail.TheVariants.{Refused, NoMemory}
use Rattle.th_syntax.specs.declared.refusal.Refusal.{Refusal}
use Rattle.th_syntax.specs.LinkChecks.{found_along}
use Rattle.th_linker.specs.Checking.{Refuses, Checks}

-- ---- one check after another

front : (found more : List Refusal) (r : Refusal) → slice_get found 0 ≡ Some r → slice_get (found ++ more) 0 ≡ Some r
front [] more r e = absurd cc
front (x ∷ found) more r e = e

-- what the first check is refused for is refused first
pub stops : (fail : Fail Refusal) (found more : List Refusal) → Refuses fail found → Refuses fail (found ++ more)
stops (Refused r) found more e = front found more r e
stops NoMemory found more e = tt

-- where the first finds nothing the second decides
pub goes_on : {X : Type 0} (r : Result X (Fail Refusal)) (found more : List Refusal) → found ≡ [] → Checks r more → Checks r (found ++ more)
goes_on r found more none e = subst (λ xs. Checks r (xs ++ more)) (sym none) e

pub stops_behind : (fail : Fail Refusal) (found here more : List Refusal) → found ≡ [] → Refuses fail here → Refuses fail (found ++ (here ++ more))
stops_behind fail found here more none e = subst (λ xs. Refuses fail (xs ++ (here ++ more))) (sym none) (stops fail here more e)

pub both_nil : {A : Type 0} (xs ys : List A) → xs ≡ [] → ys ≡ [] → xs ++ ys ≡ []
both_nil xs ys e f = ap (λ zs. zs ++ ys) e ∙ f

-- ---- along a list

pub take_whole : {A : Type 0} (xs : List A) (i : ℕ) → length xs ≤ i → take i xs ≡ xs
take_whole [] zero h = refl
take_whole [] (suc i) h = refl
take_whole (x ∷ xs) zero h = absurd (omega arith)
take_whole (x ∷ xs) (suc i) h = ap (λ ys. x ∷ ys) (take_whole xs i (omega arith))

-- the items before a place, the one there, and those behind it
pub at_place : {A : Type 0} (xs : List A) (i : ℕ) (x : A) → i < length xs → x ≡ get_or xs i x → xs ≡ take i xs ++ x ∷ drop (suc i) xs
at_place [] i x h e = absurd (omega arith)
at_place (y ∷ ys) zero x h e = ap (λ z. z ∷ ys) (sym e)
at_place (y ∷ ys) (suc i) x h e = ap (λ zs. y ∷ zs) (at_place ys i x (omega arith) e)

pub one_more : {A : Type 0} (xs : List A) (i : ℕ) (x : A) → i < length xs → x ≡ get_or xs i x → take (i + 1) xs ≡ take i xs ++ x ∷ []
one_more xs i x h e = take_more xs i x h ∙ ap (λ y. take i xs ++ y ∷ []) (sym e)

module _ {A : Type 0} (f : A → List Refusal) where
  pub none_more : (xs : List A) (i : ℕ) (x : A) → i < length xs → x ≡ get_or xs i x → flat_map f (take i xs) ≡ [] → f x ≡ [] → flat_map f (take (i + 1) xs) ≡ []
  none_more xs i x h e none here =
      ap (flat_map f) (one_more xs i x h e) ∙ flat_map-append f (take i xs) (x ∷ [])
      ∙ both_nil (flat_map f (take i xs)) (f x ++ []) none (append-nil (f x) ∙ here)

  pub stops_at : (fail : Fail Refusal) (xs : List A) (i : ℕ) (x : A) → i < length xs → x ≡ get_or xs i x → flat_map f (take i xs) ≡ [] → Refuses fail (f x) → Refuses fail (flat_map f xs)
  stops_at fail xs i x h e none here =
      subst (Refuses fail) (sym (ap (flat_map f) (at_place xs i x h e) ∙ flat_map-append f (take i xs) (x ∷ drop (suc i) xs)))
      (stops_behind fail (flat_map f (take i xs)) (f x) (flat_map f (drop (suc i) xs)) none here)

  pub none_found : (xs : List A) (i : ℕ) → length xs ≤ i → flat_map f (take i xs) ≡ [] → flat_map f xs ≡ []
  none_found xs i h none = ap (flat_map f) (sym (take_whole xs i h)) ∙ none

module _ {A : Type 0} (check : List A → A → List Refusal) where
  along_append : (before xs ys : List A) → found_along check before (xs ++ ys) ≡ found_along check before xs ++ found_along check (before ++ xs) ys
  along_append before [] ys = ap (λ zs. found_along check zs ys) (sym (append-nil before))
  along_append before (x ∷ xs) ys =
      ap (λ zs. check before x ++ zs) (along_append (before ++ x ∷ []) xs ys)
      ∙ ap (λ zs. check before x ++ (found_along check (before ++ x ∷ []) xs ++ found_along check zs ys)) (append_assoc before (x ∷ []) xs)
      ∙ sym (append_assoc (check before x) (found_along check (before ++ x ∷ []) xs) (found_along check (before ++ x ∷ xs) ys))

  pub along_more : (xs : List A) (i : ℕ) (x : A) → i < length xs → x ≡ get_or xs i x → found_along check [] (take i xs) ≡ [] → check (take i xs) x ≡ [] → found_along check [] (take (i + 1) xs) ≡ []
  along_more xs i x h e none here =
      ap (found_along check []) (one_more xs i x h e) ∙ along_append [] (take i xs) (x ∷ [])
      ∙ both_nil (found_along check [] (take i xs)) (check (take i xs) x ++ []) none (append-nil (check (take i xs) x) ∙ here)

  pub along_stops : (fail : Fail Refusal) (xs : List A) (i : ℕ) (x : A) → i < length xs → x ≡ get_or xs i x → found_along check [] (take i xs) ≡ [] → Refuses fail (check (take i xs) x) → Refuses fail (found_along check [] xs)
  along_stops fail xs i x h e none here =
      subst (Refuses fail) (sym (ap (found_along check []) (at_place xs i x h e) ∙ along_append [] (take i xs) (x ∷ drop (suc i) xs)))
      (stops_behind fail (found_along check [] (take i xs)) (check (take i xs) x) (found_along check (take i xs ++ x ∷ []) (drop (suc i) xs)) none here)

  pub along_found : (xs : List A) (i : ℕ) → length xs ≤ i → found_along check [] (take i xs) ≡ [] → found_along check [] xs ≡ []
  along_found xs i h none = ap (found_along check []) (sym (take_whole xs i h)) ∙ none

  -- the same of a list that is another by an equation
  pub along_stops_in : (fail : Fail Refusal) (items xs : List A) (i : ℕ) (x : A) → items ≡ xs → i < length items → x ≡ get_or items i x → found_along check [] (take i items) ≡ [] → Refuses fail (check (take i xs) x)
      → Refuses fail (found_along check [] xs)
  along_stops_in fail items xs i x same h e none here =
      subst (λ ys. Refuses fail (found_along check [] ys)) same
      (along_stops fail items i x h e none (subst (λ ys. Refuses fail (check (take i ys) x)) (sym same) here))

  pub along_more_in : (items xs : List A) (i : ℕ) (x : A) → items ≡ xs → i < length items → x ≡ get_or items i x → found_along check [] (take i items) ≡ [] → check (take i xs) x ≡ [] → found_along check [] (take (i + 1) items) ≡ []
  along_more_in items xs i x same h e none here = along_more items i x h e none (ap (λ ys. check (take i ys) x) same ∙ here)

-- ---- items at their places

pub here_at : {A : Type 0} (items xs : List A) (i : ℕ) (x : A) → items ≡ xs → i < length items → x ≡ get_or items i x → slice_get xs i ≡ Some x
here_at {A = A} items xs i x same h e = ap (λ ys. slice_get ys i) (sym same) ∙ slice_get-get_or items i x h ∙ ap (λ y. let o : Option A = Some y in o) (sym e)

-- ---- of the items that pass a test

filtered_by : {A B : Type 0} (f : A → List B) (p : A → Bool) (x : A) (xs : List A) (b : Bool) → flat_map f (filter p xs) ≡ flat_map (λ y. cond (p y) (f y) []) xs
    → flat_map f (cond b (x ∷ filter p xs) (filter p xs)) ≡ cond b (f x) [] ++ flat_map (λ y. cond (p y) (f y) []) xs
filtered_by f p x xs true rest = ap (λ zs. f x ++ zs) rest
filtered_by f p x xs false rest = rest

pub filtered : {A B : Type 0} (f : A → List B) (p : A → Bool) (xs : List A) → flat_map f (filter p xs) ≡ flat_map (λ x. cond (p x) (f x) []) xs
filtered f p [] = refl
filtered f p (x ∷ xs) = filtered_by f p x xs (p x) (filtered f p xs)

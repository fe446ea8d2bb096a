-- Lists that grow by one item at a time.
use Rattle.std.proofs.Common.{◌≡◌, ℕ, ◌+◌, ◌<◌, Bool, true, false, cond, List, [], ◌∷◌, ◌++◌, Option, None, Some, length, take, get_or, map, refl, sym, ap, ◌∙◌, append_assoc}
use Rattle.std.specs.Prelude.{filter, filter_map, flat_map}
use Rattle.std.specs.List.{cons_option}
use Rattle.std.proofs.lemmas.List.{append-nil, map-append, take_more}
use Rattle.std.proofs.lemmas.List.Concat.{flat_map-append}
use Rattle.std.proofs.lemmas.List.Elements.{filter-append, filter_more, filter_map-append}

-- ---- what a function gives along a list

pub given_more : {A B : Type 0} (f : A → List B) (xs : List A) (i : ℕ) (d : A) → i < length xs → flat_map f (take (i + 1) xs) ≡ flat_map f (take i xs) ++ f (get_or xs i d)
given_more f xs i d under =
    ap (flat_map f) (take_more xs i d under) ∙ flat_map-append f (take i xs) (get_or xs i d ∷ []) ∙ ap (λ ys. flat_map f (take i xs) ++ ys) (append-nil (f (get_or xs i d)))

-- what the next item gives is put behind
pub given_on : {A B : Type 0} (f : A → List B) (xs : List A) (i : ℕ) (d : A) (start now next : List B) → i < length xs → now ≡ start ++ flat_map f (take i xs)
    → next ≡ now ++ f (get_or xs i d) → next ≡ start ++ flat_map f (take (i + 1) xs)
given_on f xs i d start now next under so_far grown =
    grown ∙ ap (λ ys. ys ++ f (get_or xs i d)) so_far ∙ append_assoc start (flat_map f (take i xs)) (f (get_or xs i d))
    ∙ ap (λ ys. start ++ ys) (sym (given_more f xs i d under))

-- ---- the items that pass a test, each as something else

module _ {A B C : Type 0} (view : B → C) (gives : A → C) (p : A → Bool) (xs : List A) (i : ℕ) (d : A) (start : List C) where
  -- an item that passes is put behind
  pub passes : (old new : List B) (x : B) → i < length xs → map view old ≡ start ++ map gives (filter p (take i xs)) → p (get_or xs i d) ≡ true → view x ≡ gives (get_or xs i d)
      → new ≡ old ++ x ∷ [] → map view new ≡ start ++ map gives (filter p (take (i + 1) xs))
  passes old new x under so_far passed same grown =
      ap (map view) grown ∙ map-append view old (x ∷ []) ∙ ap (λ ys. ys ++ view x ∷ []) so_far ∙ append_assoc start (map gives (filter p (take i xs))) (view x ∷ [])
      ∙ ap (λ y. start ++ (map gives (filter p (take i xs)) ++ y ∷ [])) same
      ∙ ap (λ ys. start ++ ys) (sym (
      ap (map gives) (filter_more p xs i d under ∙ ap (λ b. filter p (take i xs) ++ cond b (get_or xs i d ∷ []) []) passed)
      ∙ map-append gives (filter p (take i xs)) (get_or xs i d ∷ [])))

  -- and one that doesn't is passed over
  pub passed_over : (old : List B) → i < length xs → map view old ≡ start ++ map gives (filter p (take i xs)) → p (get_or xs i d) ≡ false → map view old ≡ start ++ map gives (filter p (take (i + 1) xs))
  passed_over old under so_far failed =
      so_far ∙ ap (λ ys. start ++ map gives ys) (sym (
      filter_more p xs i d under ∙ ap (λ b. filter p (take i xs) ++ cond b (get_or xs i d ∷ []) []) failed ∙ append-nil (filter p (take i xs))))

-- items that pass, list by list
pub passing_each : {A B C : Type 0} (gives : B → C) (p : B → Bool) (f : A → List B) (xs : List A) → flat_map (λ x. map gives (filter p (f x))) xs ≡ map gives (filter p (flat_map f xs))
passing_each gives p f [] = refl
passing_each gives p f (x ∷ xs) =
    ap (λ ys. map gives (filter p (f x)) ++ ys) (passing_each gives p f xs)
    ∙ sym (ap (map gives) (filter-append p (f x) (flat_map f xs)) ∙ map-append gives (filter p (f x)) (filter p (flat_map f xs)))

-- ---- what a function finds of items

module _ {A I B : Type 0} (view : A → I) (f : I → Option B) (xs : List A) (i : ℕ) (d : A) where
  one_more : i < length xs → filter_map f (map view (take (i + 1) xs)) ≡ filter_map f (map view (take i xs)) ++ cons_option (f (view (get_or xs i d))) []
  one_more under =
      ap (λ ys. filter_map f (map view ys)) (take_more xs i d under) ∙ ap (filter_map f) (map-append view (take i xs) (get_or xs i d ∷ []))
      ∙ filter_map-append f (map view (take i xs)) (view (get_or xs i d) ∷ [])

  pub finds : (old new : List B) (y : B) → i < length xs → old ≡ filter_map f (map view (take i xs)) → f (view (get_or xs i d)) ≡ Some y → new ≡ old ++ y ∷ []
      → new ≡ filter_map f (map view (take (i + 1) xs))
  finds old new y under so_far found grown =
      grown ∙ ap (λ ys. ys ++ y ∷ []) so_far ∙ sym (one_more under ∙ ap (λ o. filter_map f (map view (take i xs)) ++ cons_option o []) found)

  pub finds_none : (old : List B) → i < length xs → old ≡ filter_map f (map view (take i xs)) → f (view (get_or xs i d)) ≡ None → old ≡ filter_map f (map view (take (i + 1) xs))
  finds_none old under so_far none =
      so_far ∙ sym (one_more under ∙ ap (λ o. filter_map f (map view (take i xs)) ++ cons_option o []) none ∙ append-nil (filter_map f (map view (take i xs))))

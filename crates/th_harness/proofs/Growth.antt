-- What functions give along a list, one item at a time.
use Rattle.std.proofs.Common.{◌≡◌, suc, ◌+◌, ◌<◌, ◌≤◌, ℕ, Bool, true, false, cond, List, [], ◌∷◌, ◌++◌, length, take, drop, get_or, map, arith, refl, sym, ap, ◌∙◌, Option, Some, None}
use Rattle.std.specs.List.{filter_map, position_from, cons_option}
use Rattle.std.proofs.lemmas.List.{map-append, append-nil, take_more, take-append-drop, length-map, length-take-le}
use Rattle.std.proofs.lemmas.List.Elements.{filter_map-append}
use Rattle.std.proofs.Math.Seq.{take-length, drop-cons}

-- the items so far and one more
more_of : {A B C : Type 0} (f : B → Option C) (v : A → B) (xs : List A) (i : ℕ) (d : A) → i < length xs
    → filter_map f (map v (take (i + 1) xs)) ≡ filter_map f (map v (take i xs)) ++ cons_option (f (v (get_or xs i d))) []
more_of f v xs i d under =
    ap (λ ys. filter_map f (map v ys)) (take_more xs i d under)
    ∙ ap (filter_map f) (map-append v (take i xs) (get_or xs i d ∷ [])) ∙ filter_map-append f (map v (take i xs)) (v (get_or xs i d) ∷ [])

-- an item that gives something
pub gives_more : {A B C O : Type 0} (f : B → Option C) (v : A → B) (w : O → C) (xs : List A) (i : ℕ) (d : A) (o : O) (old new : List O) → i < length xs
    → f (v (get_or xs i d)) ≡ Some (w o) → map w old ≡ filter_map f (map v (take i xs)) → new ≡ old ++ o ∷ [] → map w new ≡ filter_map f (map v (take (i + 1) xs))
gives_more f v w xs i d o old new under given so_far grown =
    ap (map w) grown ∙ map-append w old (o ∷ []) ∙ ap (λ ys. ys ++ w o ∷ []) so_far
    ∙ ap (λ y. filter_map f (map v (take i xs)) ++ cons_option y []) (sym given) ∙ sym (more_of f v xs i d under)

pub gives_one : {A B C : Type 0} (f : B → Option C) (v : A → B) (xs : List A) (i : ℕ) (d : A) (o : C) (old new : List C) → i < length xs
    → f (v (get_or xs i d)) ≡ Some o → old ≡ filter_map f (map v (take i xs)) → new ≡ old ++ o ∷ [] → new ≡ filter_map f (map v (take (i + 1) xs))
gives_one f v xs i d o old new under given so_far grown =
    grown ∙ ap (λ ys. ys ++ o ∷ []) so_far ∙ ap (λ y. filter_map f (map v (take i xs)) ++ cons_option y []) (sym given) ∙ sym (more_of f v xs i d under)

-- an item that gives nothing
pub gives_nothing : {A B C O : Type 0} (f : B → Option C) (v : A → B) (w : O → C) (xs : List A) (i : ℕ) (d : A) (old : List O) → i < length xs
    → f (v (get_or xs i d)) ≡ None → map w old ≡ filter_map f (map v (take i xs)) → map w old ≡ filter_map f (map v (take (i + 1) xs))
gives_nothing f v w xs i d old under given so_far =
    so_far ∙ sym (append-nil (filter_map f (map v (take i xs)))) ∙ ap (λ y. filter_map f (map v (take i xs)) ++ cons_option y []) (sym given)
    ∙ sym (more_of f v xs i d under)

-- ---- the first place that passes

not_here : (b : Bool) (k : ℕ) (rest : Option ℕ) → cond b (Some k) rest ≡ None → (b ≡ false) × (rest ≡ None)
not_here true k rest e = cc
not_here false k rest e = (refl, e)

-- none of these, and not the next
pub none_more : {X : Type 0} (p : X → Bool) (k : ℕ) (xs : List X) (x : X) → position_from p k xs ≡ None → p x ≡ false → position_from p k (xs ++ x ∷ []) ≡ None
none_more p k [] x e no_x = ap (λ b. cond b (Some k) None) no_x
none_more p k (y ∷ ys) x e no_x =
    let parts = not_here (p y) k (position_from p (k + 1) ys) e in
    ap (λ b. cond b (Some k) (position_from p (k + 1) (ys ++ x ∷ []))) parts.0 ∙ none_more p (k + 1) ys x parts.1 no_x

-- none of these, but the next
pub first_here : {X : Type 0} (p : X → Bool) (k : ℕ) (xs : List X) (x : X) (more : List X) → position_from p k xs ≡ None → p x ≡ true
    → position_from p k (xs ++ x ∷ more) ≡ Some (k + length xs)
first_here p k [] x more e yes_x = let e0 : k ≡ k + 0 = omega arith in ap (λ b. cond b (Some k) (position_from p (k + 1) more)) yes_x ∙ ap Some e0
first_here p k (y ∷ ys) x more e yes_x =
    let parts = not_here (p y) k (position_from p (k + 1) ys) e in
    let e0 : (k + 1) + length ys ≡ k + suc (length ys) = omega arith in
    ap (λ b. cond b (Some k) (position_from p (k + 1) (ys ++ x ∷ more))) parts.0 ∙ first_here p (k + 1) ys x more parts.1 yes_x ∙ ap Some e0

pub take_all : {X : Type 0} (xs : List X) (i : ℕ) → length xs ≤ i → i ≤ length xs → take i xs ≡ xs
take_all xs i over under = let all : i ≡ length xs = omega arith in ap (λ k. take k xs) all ∙ take-length xs

-- ---- the same of items as a function shows them

one_more : {A B : Type 0} (v : A → B) (xs : List A) (i : ℕ) (d : A) → i < length xs → map v (take (i + 1) xs) ≡ map v (take i xs) ++ v (get_or xs i d) ∷ []
one_more v xs i d under = ap (map v) (take_more xs i d under) ∙ map-append v (take i xs) (get_or xs i d ∷ [])

pub none_so_far : {A B : Type 0} (p : B → Bool) (v : A → B) (xs : List A) (i : ℕ) (d : A) → i < length xs → position_from p 0 (map v (take i xs)) ≡ None
    → p (v (get_or xs i d)) ≡ false → position_from p 0 (map v (take (i + 1) xs)) ≡ None
none_so_far p v xs i d under none passed =
    ap (position_from p 0) (one_more v xs i d under) ∙ none_more p 0 (map v (take i xs)) (v (get_or xs i d)) none passed

cut_at : {A B : Type 0} (v : A → B) (xs : List A) (i : ℕ) (d : A) → i < length xs → map v xs ≡ map v (take i xs) ++ v (get_or xs i d) ∷ map v (drop (suc i) xs)
cut_at v xs i d under =
    ap (map v) (sym (take-append-drop i xs)) ∙ map-append v (take i xs) (drop i xs) ∙ ap (λ ys. map v (take i xs) ++ map v ys) (drop-cons xs i d under)

pub stops_here : {A B : Type 0} (p : B → Bool) (v : A → B) (xs : List A) (i : ℕ) (d : A) → i < length xs → position_from p 0 (map v (take i xs)) ≡ None
    → p (v (get_or xs i d)) ≡ true → position_from p 0 (map v xs) ≡ Some i
stops_here p v xs i d under none passed =
    let size : 0 + length (map v (take i xs)) ≡ i = omega (arith, length-map (take i xs) v ∙ length-take-le i xs (omega arith)) in
    ap (position_from p 0) (cut_at v xs i d under) ∙ first_here p 0 (map v (take i xs)) (v (get_or xs i d)) (map v (drop (suc i) xs)) none passed ∙ ap Some size

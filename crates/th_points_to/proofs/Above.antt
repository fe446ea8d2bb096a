-- The least number above the numbers of lists.
use Rattle.std.proofs.Common.{◌≡◌, ℕ, ◌<◌, ◌≤◌, ◌+◌, zero, suc, Bool, true, false, List, [], ◌∷◌, ◌++◌, length, get_or, take, refl, sym, ap, arith, ◌∙◌, if◌then◌else◌}
use Rattle.std.specs.Prelude.{nat_lt, map}
use Rattle.std.specs.List.{AllByRecursion, flat_map}
use Rattle.std.proofs.lemmas.List.{take_more}
use Rattle.th_ir.specs.Program.{least_above, greater_of}

pub greater_left : (a b : ℕ) → a ≤ greater_of a b
greater_left a b = by (nat_lt a b) refl
  where
    by : (c : Bool) → nat_lt a b ≡ c → a ≤ (if c then b else a)
    by true e = grind arith
    by false e = omega arith

pub greater_right : (a b : ℕ) → b ≤ greater_of a b
greater_right a b = by (nat_lt a b) refl
  where
    by : (c : Bool) → nat_lt a b ≡ c → b ≤ (if c then b else a)
    by true e = omega arith
    by false e = grind arith

pub greater_least : (a b k : ℕ) → a ≤ k → b ≤ k → greater_of a b ≤ k
greater_least a b k h j = by (nat_lt a b)
  where
    by : (c : Bool) → (if c then b else a) ≤ k
    by true = j
    by false = h

same_by : (a b : ℕ) → a ≤ b → b ≤ a → a ≡ b
same_by a b h k = omega arith

pub greater_twice : (a b d : ℕ) → greater_of (greater_of a b) d ≡ greater_of a (greater_of b d)
greater_twice a b d =
    same_by (greater_of (greater_of a b) d) (greater_of a (greater_of b d))
    (greater_least (greater_of a b) d _
    (greater_least a b _ (greater_left a (greater_of b d)) (let one = greater_left b d in let two = greater_right a (greater_of b d) in omega (arith, one, two)))
    (let one = greater_right b d in let two = greater_right a (greater_of b d) in omega (arith, one, two)))
    (greater_least a (greater_of b d) _
    (let one = greater_left a b in let two = greater_left (greater_of a b) d in omega (arith, one, two))
    (greater_least b d _ (let one = greater_right a b in let two = greater_left (greater_of a b) d in omega (arith, one, two)) (greater_right (greater_of a b) d)))

pub greater_none : (a : ℕ) → greater_of a 0 ≡ a
greater_none a = same_by (greater_of a 0) a (greater_least a 0 a (omega arith) (omega arith)) (greater_left a 0)

pub greater_of_none : (a : ℕ) → greater_of 0 a ≡ a
greater_of_none a = same_by (greater_of 0 a) a (greater_least 0 a a (omega arith) (omega arith)) (greater_right 0 a)

pub above_append : (xs ys : List ℕ) → least_above (xs ++ ys) ≡ greater_of (least_above xs) (least_above ys)
above_append [] ys = sym (greater_of_none (least_above ys))
above_append (x ∷ xs) ys = ap (greater_of (x + 1)) (above_append xs ys) ∙ sym (greater_twice (x + 1) (least_above xs) (least_above ys))

-- a step: what one item has comes to what those before it have
pub above_next : (count most more : ℕ) (xs ys : List ℕ) → most ≡ greater_of count (least_above xs) → more ≡ greater_of most (least_above ys)
    → more ≡ greater_of count (least_above (xs ++ ys))
above_next count most more xs ys e f =
    f ∙ ap (λ (n : ℕ). greater_of n (least_above ys)) e ∙ greater_twice count (least_above xs) (least_above ys) ∙ ap (greater_of count) (sym (above_append xs ys))

map_append : {A : Type 0} (f : A → ℕ) (xs ys : List A) → map f (xs ++ ys) ≡ map f xs ++ map f ys
map_append f [] ys = refl
map_append f (x ∷ xs) ys = ap (λ l. f x ∷ l) (map_append f xs ys)

pub above_items : {A : Type 0} (f : A → ℕ) (count most more : ℕ) (xs : List A) (i : ℕ) (d : A) → i < length xs → most ≡ greater_of count (least_above (map f (take i xs)))
    → more ≡ greater_of most (f (get_or xs i d) + 1) → more ≡ greater_of count (least_above (map f (take (i + 1) xs)))
above_items f count most more xs i d h e g =
    above_next count most more (map f (take i xs)) (f (get_or xs i d) ∷ []) e (g ∙ ap (greater_of most) (sym (greater_none (f (get_or xs i d) + 1))))
    ∙ ap (λ l. greater_of count (least_above l)) (sym (ap (map f) (take_more xs i d h) ∙ map_append f (take i xs) (get_or xs i d ∷ [])))

append_empty : {B : Type 0} (ys : List B) → ys ++ [] ≡ ys
append_empty [] = refl
append_empty (y ∷ ys) = ap (λ l. y ∷ l) (append_empty ys)

append_again : {B : Type 0} (xs ys zs : List B) → (xs ++ ys) ++ zs ≡ xs ++ (ys ++ zs)
append_again [] ys zs = refl
append_again (x ∷ xs) ys zs = ap (λ l. x ∷ l) (append_again xs ys zs)

flat_append : {A B : Type 0} (f : A → List B) (xs : List A) (x : A) → flat_map f (xs ++ x ∷ []) ≡ flat_map f xs ++ f x
flat_append f [] x = append_empty (f x)
flat_append f (y ∷ xs) x = ap (λ l. f y ++ l) (flat_append f xs x) ∙ sym (append_again (f y) (flat_map f xs) (f x))

pub above_lists : {A B : Type 0} (f : A → List B) (g : B → ℕ) (count most more : ℕ) (xs : List A) (i : ℕ) (d : A) → i < length xs
    → most ≡ greater_of count (least_above (map g (flat_map f (take i xs)))) → more ≡ greater_of most (least_above (map g (f (get_or xs i d))))
    → more ≡ greater_of count (least_above (map g (flat_map f (take (i + 1) xs))))
above_lists f g count most more xs i d h e j =
    above_next count most more (map g (flat_map f (take i xs))) (map g (f (get_or xs i d))) e j
    ∙ ap (λ l. greater_of count (least_above l))
    (sym (ap (λ l. map g (flat_map f l)) (take_more xs i d h) ∙ ap (map g) (flat_append f (take i xs) (get_or xs i d)) ∙ map_append g (flat_map f (take i xs)) (f (get_or xs i d))))

-- each number is below
pub all_below : (xs : List ℕ) → AllByRecursion (λ x. x < least_above xs) xs
all_below [] = tt
all_below (x ∷ xs) =
    ((let h = greater_left (x + 1) (least_above xs) in omega (arith, h)), weaker xs (greater_right (x + 1) (least_above xs)) (all_below xs))
  where
    weaker : (ys : List ℕ) {a b : ℕ} → a ≤ b → AllByRecursion (λ y. y < a) ys → AllByRecursion (λ y. y < b) ys
    weaker [] h all = tt
    weaker (y ∷ ys) h all = (omega (arith, all.0, h), weaker ys h all.1)

pub above_numbers : (count most more : ℕ) (xs : List ℕ) (i d : ℕ) → i < length xs → most ≡ greater_of count (least_above (take i xs)) → more ≡ greater_of most (get_or xs i d + 1)
    → more ≡ greater_of count (least_above (take (i + 1) xs))
above_numbers count most more xs i d h e g =
    above_next count most more (take i xs) (get_or xs i d ∷ []) e (g ∙ ap (greater_of most) (sym (greater_none (get_or xs i d + 1))))
    ∙ ap (λ l. greater_of count (least_above l)) (sym (take_more xs i d h))

pub above_two : {A : Type 0} (f : A → ℕ) (most mid more : ℕ) (xs ys : List A) → mid ≡ greater_of most (least_above (map f xs)) → more ≡ greater_of mid (least_above (map f ys))
    → more ≡ greater_of most (least_above (map f (xs ++ ys)))
above_two f most mid more xs ys e g = above_next most mid more (map f xs) (map f ys) e g ∙ ap (λ l. greater_of most (least_above l)) (sym (map_append f xs ys))

pub above_all : {A : Type 0} (f : A → ℕ) (ids : List ℕ) (xs ys : List A) (a b d : ℕ) → a ≡ greater_of 0 (least_above ids) → b ≡ greater_of a (least_above (map f xs))
    → d ≡ greater_of b (least_above (map f ys)) → d ≡ least_above (ids ++ map f (xs ++ ys))
above_all f ids xs ys a b d e g j =
    above_two f a b d xs ys g j ∙ ap (λ (n : ℕ). greater_of n (least_above (map f (xs ++ ys)))) (e ∙ greater_of_none (least_above ids))
    ∙ sym (above_append ids (map f (xs ++ ys)))

pub none_above : (count : ℕ) → count ≡ greater_of count 0
none_above count = sym (greater_none count)

pub whole_take : {A : Type 0} (xs : List A) (i : ℕ) → length xs ≤ i → take i xs ≡ xs
whole_take [] zero h = refl
whole_take [] (suc i) h = refl
whole_take (x ∷ xs) zero h = absurd (omega arith)
whole_take (x ∷ xs) (suc i) h = ap (λ l. x ∷ l) (whole_take xs i (omega arith))

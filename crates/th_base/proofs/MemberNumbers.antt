-- Where the member of each number stands: a table that is filled class by class, and what it leads to.
use Rattle.std.proofs.Common.{◌≡◌, ℕ, ◌+◌, ◌<◌, zero, suc, Bool, true, false, cond, eqb, List, [], ◌∷◌, ◌++◌, Option, Some, None, length, map, take, get_or, refl, sym, ap, ◌∙◌, subst, inl, inr, arith}
use Rattle.std.specs.List.{find, position_from, slice_get}
use Rattle.std.specs.Option.{option_or, option_map}
use Rattle.std.proofs.lemmas.Bool.{cases_Bool, cases_eq, eq-eqb, ne_eqb}
use Rattle.std.proofs.lemmas.List.{length-take-le, take_more}
use Rattle.std.proofs.lemmas.Option.{slice_get-get_or}
use Rattle.th_base.specs.declared.class.ClassInfo.{ClassInfo}
use Rattle.th_base.specs.declared.numbered.Place.{Place}
use Rattle.th_base.specs.Hierarchy.{numbered_from}
use Rattle.th_base.specs.Numbered.{own_place, place_from}
use Rattle.th_base.proofs.Named.{position_from-push}

-- ---- the table, filled

eqb-turned : (x y : ℕ) → eqb x y ≡ eqb y x
eqb-turned x y =
    elim (cases_eq x y) [
      | inl same ↦ eq-eqb x y same ∙ sym (eq-eqb y x (sym same))
      | inr other ↦ ne_eqb x y other ∙ sym (ne_eqb y x (λ e. other (sym e)))
    ]

or_assoc : {X : Type 0} (a b c : Option X) → option_or (option_or a b) c ≡ option_or a (option_or b c)
or_assoc None b c = refl
or_assoc (Some x) b c = refl

map_or : {X Y : Type 0} (f : X → Y) (a b : Option X) → option_map f (option_or a b) ≡ option_or (option_map f a) (option_map f b)
map_or f None b = refl
map_or f (Some x) b = refl

map_cond : {X Y : Type 0} (f : X → Y) (b : Bool) (x : X) → option_map f (cond b (Some x) None) ≡ cond b (Some (f x)) None
map_cond f true x = refl
map_cond f false x = refl

abbrev place_at : ℕ → ℕ → Place
place_at class at = record { class = class; at = at }

own_more : (class : ℕ) (xs : List ℕ) (i n : ℕ) → i < length xs
    → own_place class (take (i + 1) xs) n ≡ option_or (own_place class (take i xs) n) (cond (eqb n (get_or xs i 0)) (Some (place_at class i)) None)
own_more class xs i n h =
    let len : 0 + length (take i xs) ≡ i = let most = length-take-le i xs in omega arith in
    ap (λ l. own_place class l n) (take_more xs i 0 h)
    ∙ ap (option_map (place_at class)) (position_from-push (λ x. eqb x n) 0 (take i xs) (get_or xs i 0))
    ∙ map_or (place_at class) (position_from (λ x. eqb x n) 0 (take i xs)) (cond (eqb (get_or xs i 0) n) (Some (0 + length (take i xs))) None)
    ∙ ap (option_or (own_place class (take i xs) n))
    (map_cond (place_at class) (eqb (get_or xs i 0) n) (0 + length (take i xs))
    ∙ ap (λ k. cond (eqb (get_or xs i 0) n) (Some (place_at class k)) None) len
    ∙ ap (λ b. cond b (Some (place_at class i)) None) (eqb-turned (get_or xs i 0) n))

-- one member more of a class
pub member_added : (class : ℕ) (xs : List ℕ) (i n : ℕ) (old now new : Option Place) → i < length xs → now ≡ option_or old (own_place class (take i xs) n)
    → new ≡ option_or now (cond (eqb n (get_or xs i 0)) (Some (place_at class i)) None) → new ≡ option_or old (own_place class (take (i + 1) xs) n)
member_added class xs i n old now new h before put =
    put ∙ ap (λ o. option_or o (cond (eqb n (get_or xs i 0)) (Some (place_at class i)) None)) before
    ∙ or_assoc old (own_place class (take i xs) n) (cond (eqb n (get_or xs i 0)) (Some (place_at class i)) None)
    ∙ ap (option_or old) (sym (own_more class xs i n h))

or_none : {X : Type 0} (o : Option X) → option_or o None ≡ o
or_none None = refl
or_none (Some x) = refl

place_from-push : (c : ℕ) (xs : List (List ℕ)) (own : List ℕ) (n : ℕ) → place_from c (xs ++ own ∷ []) n ≡ option_or (place_from c xs n) (own_place (c + length xs) own n)
place_from-push c [] own n = or_none (own_place c own n) ∙ (let e : c ≡ c + 0 = omega arith in ap (λ k. own_place k own n) e)
place_from-push c (x ∷ xs) own n =
    let e : (c + 1) + length xs ≡ c + length (x ∷ xs) = omega arith in
    ap (option_or (own_place c x n)) (place_from-push (c + 1) xs own n ∙ ap (λ k. option_or (place_from (c + 1) xs n) (own_place k own n)) e)
    ∙ sym (or_assoc (own_place c x n) (place_from (c + 1) xs n) (own_place (c + length (x ∷ xs)) own n))

-- one class more
pub class_added : (xs : List (List ℕ)) (i n : ℕ) (own : List ℕ) (now new : Option Place) → i < length xs → own ≡ get_or xs i own → now ≡ place_from 0 (take i xs) n
    → new ≡ option_or now (own_place i own n) → new ≡ place_from 0 (take (i + 1) xs) n
class_added xs i n own now new h e before put =
    let len : 0 + length (take i xs) ≡ i = let most = length-take-le i xs in omega arith in
    put ∙ ap (λ o. option_or o (own_place i own n)) before
    ∙ sym (ap (λ l. place_from 0 l n) (take_more xs i own h ∙ ap (λ x. take i xs ++ x ∷ []) (sym e)) ∙ place_from-push 0 (take i xs) own n
    ∙ ap (λ k. option_or (place_from 0 (take i xs) n) (own_place k own n)) len)

-- ---- what the table leads to

-- a number's place among items, and the first item of this number
pub data OwnCases {X : Type 0} (number : X → ℕ) (n j : ℕ) (xs : List X) : Type 0 where
  no_own : position_from (λ y. eqb y n) j (map number xs) ≡ None → find (λ x. eqb (number x) n) xs ≡ None → OwnCases number n j xs
  own : (d : ℕ) (x : X) → position_from (λ y. eqb y n) j (map number xs) ≡ Some (j + d) → slice_get xs d ≡ Some x → find (λ x. eqb (number x) n) xs ≡ Some x → OwnCases number n j xs

own_later : {X : Type 0} (number : X → ℕ) (n j : ℕ) (x : X) (xs : List X) → eqb (number x) n ≡ false → OwnCases number n (j + 1) xs → OwnCases number n j (x ∷ xs)
own_later number n j x xs other (no_own a b) =
    no_own (ap (λ t. cond t (Some j) (position_from (λ y. eqb y n) (j + 1) (map number xs))) other ∙ a)
    (ap (λ t. cond t (Some x) (find (λ x. eqb (number x) n) xs)) other ∙ b)
own_later number n j x xs other (own d y a b f) =
    let e : (j + 1) + d ≡ j + suc d = omega arith in
    own (suc d) y (ap (λ t. cond t (Some j) (position_from (λ y. eqb y n) (j + 1) (map number xs))) other ∙ a ∙ ap (λ k. Some k) e) b
    (ap (λ t. cond t (Some x) (find (λ x. eqb (number x) n) xs)) other ∙ f)

own_cases : {X : Type 0} (number : X → ℕ) (n j : ℕ) (xs : List X) → OwnCases number n j xs
own_cases number n j [] = no_own refl refl
own_cases number n j (x ∷ xs) =
    let rest = own_cases number n (j + 1) xs in
    elim (cases_Bool (eqb (number x) n)) [
      | inl here ↦
          let e : j ≡ j + 0 = omega arith in
          own 0 x (ap (λ t. cond t (Some j) (position_from (λ y. eqb y n) (j + 1) (map number xs))) here ∙ ap (λ k. Some k) e) refl
          (ap (λ t. cond t (Some x) (find (λ x. eqb (number x) n) xs)) here)
      | inr other ↦ own_later number n j x xs other rest
    ]

-- a number's place in all classes, and the first member of this number
pub data PlaceCases {X : Type 0} (members : ClassInfo → List X) (number : X → ℕ) (n c : ℕ) (classes : List ClassInfo) : Type 0 where
  no_place : place_from c (map (λ k. map number (members k)) classes) n ≡ None → numbered_from members number c classes n ≡ None → PlaceCases members number n c classes
  place : (i d : ℕ) (k : ClassInfo) (x : X) → place_from c (map (λ k. map number (members k)) classes) n ≡ Some (place_at (c + i) d)
      → slice_get classes i ≡ Some k → slice_get (members k) d ≡ Some x → numbered_from members number c classes n ≡ Some (c + i, x) → PlaceCases members number n c classes

place_here : {X : Type 0} (members : ClassInfo → List X) (number : X → ℕ) (n c : ℕ) (k : ClassInfo) (ks : List ClassInfo)
    → OwnCases number n 0 (members k) → PlaceCases members number n (c + 1) ks → PlaceCases members number n c (k ∷ ks)
place_here members number n c k ks (own d x a b f) later =
    let e : c ≡ c + 0 = omega arith in
    let z : 0 + d ≡ d = omega arith in
    place 0 d k x
    (ap (λ o. option_or (option_map (place_at c) o) (place_from (c + 1) (map (λ k. map number (members k)) ks) n)) a
    ∙ ap (λ m. Some (place_at c m)) z ∙ ap (λ m. Some (place_at m d)) e)
    refl b
    (ap (λ o. option_or (option_map (λ x. (c, x)) o) (numbered_from members number (c + 1) ks n)) f ∙ ap (λ m. Some (m, x)) e)
place_here members number n c k ks (no_own a f) (no_place b g) =
    no_place (ap (λ o. option_or (option_map (place_at c) o) (place_from (c + 1) (map (λ k. map number (members k)) ks) n)) a ∙ b)
    (ap (λ o. option_or (option_map (λ x. (c, x)) o) (numbered_from members number (c + 1) ks n)) f ∙ g)
place_here members number n c k ks (no_own a f) (place i d q x b s t g) =
    let e : (c + 1) + i ≡ c + suc i = omega arith in
    place (suc i) d q x
    (ap (λ o. option_or (option_map (place_at c) o) (place_from (c + 1) (map (λ k. map number (members k)) ks) n)) a ∙ b ∙ ap (λ m. Some (place_at m d)) e)
    s t
    (ap (λ o. option_or (option_map (λ x. (c, x)) o) (numbered_from members number (c + 1) ks n)) f ∙ g ∙ ap (λ m. Some (m, x)) e)

place_cases : {X : Type 0} (members : ClassInfo → List X) (number : X → ℕ) (n c : ℕ) (classes : List ClassInfo) → PlaceCases members number n c classes
place_cases members number n c [] = no_place refl refl
place_cases members number n c (k ∷ ks) = place_here members number n c k ks (own_cases number n 0 (members k)) (place_cases members number n (c + 1) ks)

-- what stands at a place that the table has
pub record Stands {X : Type 0} (members : ClassInfo → List X) (number : X → ℕ) (classes : List ClassInfo) (n : ℕ) (p : Place) : Type 0 where
  pub inside : p.class < length classes
  pub member_inside : (k : ClassInfo) → k ≡ get_or classes p.class k → p.at < length (members k)
  pub is_first : (k : ClassInfo) (x : X) → k ≡ get_or classes p.class k → x ≡ get_or (members k) p.at x → Some (p.class, x) ≡ numbered_from members number 0 classes n

slice_get_inside : {X : Type 0} (xs : List X) (i : ℕ) (x : X) → slice_get xs i ≡ Some x → i < length xs
slice_get_inside [] i x e = cc
slice_get_inside (y ∷ ys) zero x e = omega arith
slice_get_inside (y ∷ ys) (suc i) x e = let rest = slice_get_inside ys i x e in omega arith

read_at : {X : Type 0} (xs : List X) (i : ℕ) (x y : X) → slice_get xs i ≡ Some x → y ≡ get_or xs i y → y ≡ x
read_at xs i x y s e = let same : Some y ≡ Some x = ap (λ z. Some z) e ∙ sym (slice_get-get_or xs i y (slice_get_inside xs i x s)) ∙ s in cc

stands_by : {X : Type 0} (members : ClassInfo → List X) (number : X → ℕ) (classes : List ClassInfo) (n : ℕ) (p : Place) → PlaceCases members number n 0 classes
    → place_from 0 (map (λ k. map number (members k)) classes) n ≡ Some p → Stands members number classes n p
stands_by members number classes n p (no_place a f) e = absurd (let h : (let o : Option Place = None in o) ≡ Some p = sym a ∙ e in cc)
stands_by members number classes n p (place i d k x a s t f) e =
    let is : place_at (0 + i) d ≡ p = let h : Some (place_at (0 + i) d) ≡ Some p = sym a ∙ e in cc in
    let z : 0 + i ≡ i = omega arith in
    let class : p.class ≡ i = ap (λ q. q.class) (sym is) ∙ z in
    let at : p.at ≡ d = ap (λ q. q.at) (sym is) in
    let inside = slice_get_inside classes i k s in
    let same : (q : ClassInfo) → q ≡ get_or classes p.class q → q ≡ k = λ q g. read_at classes i k q s (g ∙ ap (λ m. get_or classes m q) class) in
    record {
      inside = omega arith;
      member_inside = λ q g. let m : d < length (members q) = subst (λ y. d < length (members y)) (sym (same q g)) (slice_get_inside (members k) d x t) in omega arith;
      is_first = λ q y g h.
          let own_k : get_or (members q) p.at y ≡ get_or (members k) d y = ap (λ m. get_or (members m) p.at y) (same q g) ∙ ap (λ m. get_or (members k) m y) at in
          let item : y ≡ x = read_at (members k) d x y t (h ∙ own_k) in
          ap (λ m. Some (p.class, m)) item ∙ ap (λ m. Some (m, x)) (class ∙ sym z) ∙ sym f;
    }

pub stands : {X : Type 0} (members : ClassInfo → List X) (number : X → ℕ) (classes : List ClassInfo) (n : ℕ) (p : Place)
    → place_from 0 (map (λ k. map number (members k)) classes) n ≡ Some p → Stands members number classes n p
stands members number classes n p e = stands_by members number classes n p (place_cases members number n 0 classes) e

nothing_by : {X : Type 0} (members : ClassInfo → List X) (number : X → ℕ) (classes : List ClassInfo) (n : ℕ) → PlaceCases members number n 0 classes
    → place_from 0 (map (λ k. map number (members k)) classes) n ≡ None → None ≡ numbered_from members number 0 classes n
nothing_by members number classes n (no_place a f) e = sym f
nothing_by members number classes n (place i d k x a s t f) e = absurd (let h : Some (place_at (0 + i) d) ≡ None = sym a ∙ e in cc)

pub nothing_stands : {X : Type 0} (members : ClassInfo → List X) (number : X → ℕ) (classes : List ClassInfo) (n : ℕ)
    → place_from 0 (map (λ k. map number (members k)) classes) n ≡ None → None ≡ numbered_from members number 0 classes n
nothing_stands members number classes n e = nothing_by members number classes n (place_cases members number n 0 classes) e

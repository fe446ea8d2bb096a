-- The rows of a hierarchy: what they list before and after one of them is written.
use Rattle.std.proofs.Common.{◌≡◌, ℕ, ◌+◌, ◌<◌, ◌≤◌, zero, suc, Bool, true, false, eqb, List, [], ◌∷◌, ◌++◌, Option, Some, None, length, take, drop, set, get_or, map, ◌⊎◌, refl, sym, ap, ◌∙◌, subst, inl, inr, arith}
use Rattle.std.specs.List.{flat_map, slice_get}
use Rattle.std.specs.Option.{option_map, option_map_or, option_to_list}
use Rattle.std.proofs.lemmas.Bool.{cases_eq, cases_lt, both_ways, or_cases, eqb-true}
use Rattle.std.proofs.lemmas.List.Concat.{flat_map-append}
use Rattle.std.proofs.lemmas.Option.{slice_get-get_or}
use Rattle.std.proofs.lemmas.List.{append-nil, append_assoc, length-append, take_more, take_all, length-map, get_or-map, drop_more, get_or-set_same, get_or-set_other, get_or_past}
use Rattle.th_base.specs.declared.class.ClassInfo.{ClassInfo}
use Rattle.th_base.specs.declared.ancestors.Ancestors.{Ancestors}
use Rattle.th_base.specs.Ancestors.{FindAlike, Adds, supertypes_listed, superinterfaces_listed, line_listed, all_listed, superclass_in, ListsClasses, ListsAbove}
use Rattle.th_base.specs.declared.ancestors.Listing.{Listing}
use Rattle.th_base.specs.declared.number.ClassId.{ClassId}
use Rattle.th_base.specs.Order.{supertypes_in}
use Rattle.th_base.specs.Hierarchy.{lineage_of, supertypes_of, superinterfaces_of}
use Rattle.th_base.specs.IdSet.{has}
use Rattle.th_base.proofs.Alike.{adds_both, slice_get-set_same, slice_get-set_other}
use Rattle.th_base.proofs.Ascending.{has_at, has_first}
use Rattle.th_base.proofs.Membership.{has_append_left, has_append_right}

-- ---- at the start

pub push_false : (xs : List Bool) → ((x : ℕ) → get_or xs x false ≡ false) → (x : ℕ) → get_or (xs ++ false ∷ []) x false ≡ false
push_false [] h zero = refl
push_false [] h (suc x) = refl
push_false (b ∷ bs) h zero = h 0
push_false (b ∷ bs) h (suc x) = push_false bs (λ k. h (suc k)) x

pub push_nothing : (f : Ancestors → List ℕ) (rows : List Ancestors) (r : Ancestors) → f r ≡ [] → ((c : ℕ) → option_map_or f (slice_get rows c) [] ≡ [])
    → (c : ℕ) → option_map_or f (slice_get (rows ++ r ∷ []) c) [] ≡ []
push_nothing f [] r e h zero = e
push_nothing f [] r e h (suc c) = refl
push_nothing f (q ∷ qs) r e h zero = h 0
push_nothing f (q ∷ qs) r e h (suc c) = push_nothing f qs r e (λ k. h (suc k)) c

pub pushed_length : {X : Type 0} (xs : List X) (x : X) (n : ℕ) → length xs ≡ n → length (xs ++ x ∷ []) ≡ n + 1
pushed_length xs x n h = let e = length-append xs (x ∷ []) in omega arith

pub lists_nothing : (rows : List Ancestors) (n : ℕ) → ((c : ℕ) → supertypes_listed rows c ≡ []) → ((c : ℕ) → superinterfaces_listed rows c ≡ []) → ListsClasses rows n
lists_nothing rows n a b = record {
  supertypes = λ c x h. absurd (both_ways false refl (ap (λ l. has l x) (sym (a c)) ∙ h));
  superinterfaces = λ c x h. absurd (both_ways false refl (ap (λ l. has l x) (sym (b c)) ∙ h));
}

-- ---- one row written

written : (f : Ancestors → List ℕ) (rows : List Ancestors) (c d : ℕ) (r : Ancestors) → c < length rows
    → ((d ≡ c) × (option_map_or f (slice_get (set rows c r) d) [] ≡ f r)) ⊎ ((d ≡ c → ⊥) × (option_map_or f (slice_get (set rows c r) d) [] ≡ option_map_or f (slice_get rows d) []))
written f rows c d r h =
    elim (cases_eq d c) [
      | inl same ↦ inl (same, ap (λ i. option_map_or f (slice_get (set rows c r) i) []) same ∙ ap (λ o. option_map_or f o []) (slice_get-set_same rows c r h))
      | inr other ↦ inr (other, ap (λ o. option_map_or f o []) (slice_get-set_other rows c d r other))
    ]

pub lists_classes_set : (rows : List Ancestors) (n c : ℕ) (r : Ancestors) → c < length rows → ListsClasses rows n
    → ((x : ℕ) → has r.supertypes x ≡ true → x < n) → ((x : ℕ) → has r.superinterfaces x ≡ true → x < n) → ListsClasses (set rows c r) n
lists_classes_set rows n c r h old a b = record {
  supertypes = λ d x g. elim (written (λ q. q.supertypes) rows c d r h) [
    | inl here ↦ a x (ap (λ l. has l x) (sym here.1) ∙ g)
    | inr other ↦ old.supertypes d x (ap (λ l. has l x) (sym other.1) ∙ g)
  ];
  superinterfaces = λ d x g. elim (written (λ q. q.superinterfaces) rows c d r h) [
    | inl here ↦ b x (ap (λ l. has l x) (sym here.1) ∙ g)
    | inr other ↦ old.superinterfaces d x (ap (λ l. has l x) (sym other.1) ∙ g)
  ];
}

-- the row of a class serves for the rules
pub record RowServes (classes : List ClassInfo) (c : ℕ) (r : Ancestors) : Type 0 where
  pub supertypes : FindAlike r.supertypes (supertypes_of classes c)
  pub superinterfaces : FindAlike r.superinterfaces (superinterfaces_of classes c)
  pub line : r.line ≡ lineage_of classes c
  pub all : (x : ℕ) → has r.all x ≡ has (supertypes_of classes c) x

pub lists_above_set_same : (classes : List ClassInfo) (rows : List Ancestors) (c : ℕ) (r : Ancestors) → c < length rows → RowServes classes c r → ListsAbove classes (set rows c r) c
lists_above_set_same classes rows c r h serves =
    let e = slice_get-set_same rows c r h in
    let f : supertypes_listed (set rows c r) c ≡ r.supertypes = ap (λ o. option_map_or (λ q. q.supertypes) o []) e in
    let g : superinterfaces_listed (set rows c r) c ≡ r.superinterfaces = ap (λ o. option_map_or (λ q. q.superinterfaces) o []) e in
    let l : line_listed (set rows c r) c ≡ r.line = ap (λ o. option_map_or (λ q. q.line) o []) e in
    let m : all_listed (set rows c r) c ≡ r.all = ap (λ o. option_map_or (λ q. q.all) o []) e in
    record {
      supertypes = subst (λ l. FindAlike l (supertypes_of classes c)) (sym f) serves.supertypes;
      superinterfaces = subst (λ l. FindAlike l (superinterfaces_of classes c)) (sym g) serves.superinterfaces;
      line = l ∙ serves.line;
      all = λ x. ap (λ s. has s x) m ∙ serves.all x;
    }

pub lists_above_set_other : (classes : List ClassInfo) (rows : List Ancestors) (c d : ℕ) (r : Ancestors) → (d ≡ c → ⊥) → ListsAbove classes rows d → ListsAbove classes (set rows c r) d
lists_above_set_other classes rows c d r ne old =
    let e = slice_get-set_other rows c d r ne in
    let f : supertypes_listed (set rows c r) d ≡ supertypes_listed rows d = ap (λ o. option_map_or (λ q. q.supertypes) o []) e in
    let g : superinterfaces_listed (set rows c r) d ≡ superinterfaces_listed rows d = ap (λ o. option_map_or (λ q. q.superinterfaces) o []) e in
    let l : line_listed (set rows c r) d ≡ line_listed rows d = ap (λ o. option_map_or (λ q. q.line) o []) e in
    let m : all_listed (set rows c r) d ≡ all_listed rows d = ap (λ o. option_map_or (λ q. q.all) o []) e in
    record {
      supertypes = subst (λ l. FindAlike l (supertypes_of classes d)) (sym f) old.supertypes;
      superinterfaces = subst (λ l. FindAlike l (superinterfaces_of classes d)) (sym g) old.superinterfaces;
      line = l ∙ old.line;
      all = λ x. ap (λ s. has s x) m ∙ old.all x;
    }

-- ---- marks that are taken back

-- the first of the rest of a list is unmarked
pub unmarked : (seen : List Bool) (items : List ℕ) (i : ℕ) → i < length items → ((x : ℕ) → get_or seen x false ≡ true → has (drop i items) x ≡ true)
    → get_or items i 0 < length seen → (x : ℕ) → get_or (set seen (get_or items i 0) false) x false ≡ true → has (drop (i + 1) items) x ≡ true
unmarked seen items i h old inside x g =
    elim (cases_eq x (get_or items i 0)) [
      | inl same ↦ absurd (both_ways _ (get_or-set_same seen (get_or items i 0) false false inside) (subst (λ y. get_or (set seen (get_or items i 0) false) y false ≡ true) same g))
      | inr other ↦
          let before = old x (sym (get_or-set_other seen (get_or items i 0) x false false other) ∙ g) in
          elim (or_cases (eqb (get_or items i 0) x) (has (drop (i + 1) items) x) (ap (λ l. has l x) (sym (drop_more items i 0 h)) ∙ before)) [
            | inl same ↦ absurd (other (sym (eqb-true (get_or items i 0) x same)))
            | inr later ↦ later
          ]
    ]

-- a class that is marked is within the marks
pub marked_inside : (seen : List Bool) (x : ℕ) → get_or seen x false ≡ true → x < length seen
marked_inside seen x h =
    elim (cases_lt x (length seen)) [ inl inside ↦ inside | inr past ↦ absurd (both_ways _ (get_or_past seen x false past) h) ]

-- ---- what a row lists

pub row_supertypes : (rows : List Ancestors) (s : ℕ) (r : Ancestors) → s < length rows → supertypes_listed rows s ≡ (get_or rows s r).supertypes
row_supertypes rows s r h = ap (λ o. option_map_or (λ q. q.supertypes) o []) (slice_get-get_or rows s r h)

pub row_superinterfaces : (rows : List Ancestors) (s : ℕ) (r : Ancestors) → s < length rows → superinterfaces_listed rows s ≡ (get_or rows s r).superinterfaces
row_superinterfaces rows s r h = ap (λ o. option_map_or (λ q. q.superinterfaces) o []) (slice_get-get_or rows s r h)

pub row_line : (rows : List Ancestors) (s : ℕ) (r : Ancestors) → s < length rows → line_listed rows s ≡ (get_or rows s r).line
row_line rows s r h = ap (λ o. option_map_or (λ q. q.line) o []) (slice_get-get_or rows s r h)

pub row_all : (rows : List Ancestors) (s : ℕ) (r : Ancestors) → s < length rows → all_listed rows s ≡ (get_or rows s r).all
row_all rows s r h = ap (λ o. option_map_or (λ q. q.all) o []) (slice_get-get_or rows s r h)

pub flat_more : (f : ℕ → List ℕ) (xs : List ℕ) (i : ℕ) → i < length xs → flat_map f (take (i + 1) xs) ≡ flat_map f (take i xs) ++ f (get_or xs i 0)
flat_more f xs i h =
    ap (flat_map f) (take_more xs i 0 h) ∙ flat_map-append f (take i xs) (get_or xs i 0 ∷ []) ∙ ap (λ l. flat_map f (take i xs) ++ l) (append-nil (f (get_or xs i 0)))

-- one more part is added, after the parts before it
pub adds_part : (a b c : Listing) (front : List ℕ) (f : ℕ → List ℕ) (xs : List ℕ) (i : ℕ) → i < length xs
    → Adds a b (front ++ flat_map f (take i xs)) → Adds b c (f (get_or xs i 0)) → Adds a c (front ++ flat_map f (take (i + 1) xs))
adds_part a b c front f xs i h g k =
    subst (λ l. Adds a c l) (append_assoc front (flat_map f (take i xs)) (f (get_or xs i 0)) ∙ ap (λ l. front ++ l) (sym (flat_more f xs i h)))
    (adds_both a b c (front ++ flat_map f (take i xs)) (f (get_or xs i 0)) g k)

pub interface_named : (k : ClassInfo) (x : ℕ) → has (map (λ i. i.0) k.interfaces) x ≡ true → has (supertypes_in k) x ≡ true
interface_named k x h = has_append_left (map (λ i. i.0) k.interfaces) (superclass_in k) x h

pub superclass_named : (k : ClassInfo) (x : ℕ) → has (superclass_in k) x ≡ true → has (supertypes_in k) x ≡ true
superclass_named k x h = has_append_right (map (λ i. i.0) k.interfaces) (superclass_in k) x h

-- the interface at a place, as it is read
pub record IsNamed (k : ClassInfo) (items : List ClassId) (i : ℕ) : Type 0 where
  pub inside : i < length (map (λ j. j.0) k.interfaces)
  pub at : get_or (map (λ j. j.0) k.interfaces) i 0 ≡ (get_or items i record { 0 = 0 }).0
  pub named : has (supertypes_in k) (get_or items i record { 0 = 0 }).0 ≡ true

pub interface_at : (k : ClassInfo) (items : List ClassId) (i : ℕ) → items ≡ k.interfaces → i < length items → IsNamed k items i
interface_at k items i e h =
    let within : i < length k.interfaces = omega (arith, ap length e) in
    let mapped : i < length (map (λ j. j.0) k.interfaces) = omega (arith, length-map k.interfaces (λ j. j.0)) in
    let value : get_or (map (λ j. j.0) k.interfaces) i 0 ≡ (get_or items i record { 0 = 0 }).0 =
    get_or-map (λ j. j.0) k.interfaces i record { 0 = 0 } 0 within ∙ ap (λ (l : List ClassId). (get_or l i record { 0 = 0 }).0) (sym e) in
    record {
      inside = mapped;
      at = value;
      named = interface_named k (get_or items i record { 0 = 0 }).0 (has_at (map (λ j. j.0) k.interfaces) (get_or items i record { 0 = 0 }).0 i mapped value);
    }

-- what is listed for the superclass, as a list of at most one
pub listed_once : (f : ℕ → List ℕ) (k : ClassInfo) (id : ClassId) → k.super_id ≡ Some id → f id.0 ≡ flat_map f (superclass_in k)
listed_once f k id e = sym (append-nil (f id.0)) ∙ ap (λ (o : Option ClassId). flat_map f (option_to_list (option_map (λ s. s.0) o))) (sym e)

pub listed_never : (f : ℕ → List ℕ) (k : ClassInfo) → k.super_id ≡ None → [] ≡ flat_map f (superclass_in k)
listed_never f k e = ap (λ (o : Option ClassId). flat_map f (option_to_list (option_map (λ s. s.0) o))) (sym e)

-- what the interfaces list has been added, and then what the superclass lists
pub adds_superclass : (a b c : Listing) (front : List ℕ) (f : ℕ → List ℕ) (k : ClassInfo) (id : ClassId) → k.super_id ≡ Some id
    → Adds a b front → Adds b c (f id.0) → Adds a c (front ++ flat_map f (superclass_in k))
adds_superclass a b c front f k id e g h = adds_both a b c front (flat_map f (superclass_in k)) g (subst (λ l. Adds b c l) (listed_once f k id e) h)

pub adds_no_superclass : (a b : Listing) (front : List ℕ) (f : ℕ → List ℕ) (k : ClassInfo) → k.super_id ≡ None
    → Adds a b front → Adds a b (front ++ flat_map f (superclass_in k))
adds_no_superclass a b front f k e g = subst (λ l. Adds a b l) (sym (append-nil front) ∙ ap (λ l. front ++ l) (listed_never f k e)) g

-- all parts of a list have been added
pub adds_parts : (a b : Listing) (front : List ℕ) (f : ℕ → List ℕ) (xs : List ℕ) (i : ℕ) → length xs ≤ i → Adds a b (front ++ flat_map f (take i xs)) → Adds a b (front ++ flat_map f xs)
adds_parts a b front f xs i h g = subst (λ l. Adds a b (front ++ flat_map f l)) (take_all i xs h) g

pub has_superclass : (k : ClassInfo) (id : ClassId) → k.super_id ≡ Some id → has (superclass_in k) id.0 ≡ true
has_superclass k id e = ap (λ (o : Option ClassId). has (option_to_list (option_map (λ s. s.0) o)) id.0) e ∙ has_first id.0 []

pub superclass_at : (k : ClassInfo) (id : ClassId) → k.super_id ≡ Some id → has (supertypes_in k) id.0 ≡ true
superclass_at k id e =
    superclass_named k id.0 (has_superclass k id e)

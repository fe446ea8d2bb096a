-- Subclass and subtype are orders, and what is selected stands above the receiver's class.
use Rattle.std.proofs.Common.{◌≡◌, ℕ, ◌<◌, zero, suc, Bool, true, false, cond, not, ◌&&◌, eqb, List, [], ◌∷◌, ◌⊎◌, Option, Some, None, length, refl, sym, ap, ◌∙◌, subst, inl, inr, arith}
use Rattle.std.specs.List.{find, flat_map, slice_get, Contains}
use Rattle.std.specs.Option.{option_or, option_map, option_and_then, option_map_or}
use Rattle.std.specs.Str.{bytes_eq}
use Rattle.std.proofs.lemmas.Bool.{eqb-true, eq-eqb, and_parts, or_cases, or_left, or_right, both_ways, not-true}
use Rattle.std.proofs.lemmas.Option.{same_Some, none-some}
use Rattle.std.proofs.lemmas.Slice.Eq.{bytes_eq-Decides}
use Rattle.th_base.specs.declared.class.ClassInfo.{ClassInfo}
use Rattle.th_base.specs.declared.class.FieldInfo.{FieldInfo}
use Rattle.th_base.specs.declared.class.MethodInfo.{MethodInfo}
use Rattle.th_base.specs.declared.number.MethodId.{MethodId}
use Rattle.th_base.specs.Hierarchy.{superclass_of, direct_supertypes, IsAcyclic, lineage_within, lineage_of, supertypes_within, supertypes_of, is_subclass, first_some, resolved_field, declared_field, overriding_method, first_overriding, concrete_number, selected_method, IsSelected}
use Rattle.th_base.specs.IdSet.{has}
use Rattle.th_base.specs.Subtype.{JavaType, ClassType, ArrayType, PrimitiveType, class_named, is_class_subtype, is_array_supertype, is_type_subtype, AreAboveAll}
use Rattle.th_base.proofs.Enough.{lineage_of_is, supertypes_of_is, superclass_is_direct}
use Rattle.th_base.proofs.Membership.{has_append_cases, has_append_left, has_append_right}
use Rattle.th_base.proofs.Ordered.{low_in_range}
use Rattle.th_base.proofs.Upward.{first_some-append}

-- ---- lists

pub has-cons_cases : (x : ℕ) (xs : List ℕ) (y : ℕ) → has (x ∷ xs) y ≡ true → (x ≡ y) ⊎ (has xs y ≡ true)
has-cons_cases x xs y h = elim (or_cases (eqb x y) (has xs y) h) [ inl same ↦ inl (eqb-true x y same) | inr later ↦ inr later ]

pub has-flat_map : (f : ℕ → List ℕ) (xs : List ℕ) (y : ℕ) → has (flat_map f xs) y ≡ true → (x : ℕ) × (has xs x ≡ true) × (has (f x) y ≡ true)
has-flat_map f [] y h = absurd (both_ways _ refl h)
has-flat_map f (x ∷ xs) y h =
    elim (has_append_cases (f x) (flat_map f xs) y h) [
      | inl here ↦ (x, rw (eq-eqb x x refl) refl, here)
      | inr later ↦ let p = has-flat_map f xs y later in (p.0, or_right (eqb x p.0) (has xs p.0) p.1, p.2)
    ]

has-in_flat_map : (f : ℕ → List ℕ) (xs : List ℕ) (x y : ℕ) → has xs x ≡ true → has (f x) y ≡ true → has (flat_map f xs) y ≡ true
has-in_flat_map f [] x y h g = absurd (both_ways _ refl h)
has-in_flat_map f (z ∷ zs) x y h g =
    elim (has-cons_cases z zs x h) [
      | inl same ↦ has_append_left (f z) (flat_map f zs) y (subst (λ w. has (f w) y ≡ true) (sym same) g)
      | inr later ↦ has_append_right (f z) (flat_map f zs) y (has-in_flat_map f zs x y later g)
    ]

-- ---- subclasses

lineage_first : (classes : List ClassInfo) (n c : ℕ) → 0 < n → has (lineage_within classes n c) c ≡ true
lineage_first classes zero c h = absurd (omega arith)
lineage_first classes (suc n) c h = rw (eq-eqb c c refl) refl

pub subclass_refl : (classes : List ClassInfo) (c : ℕ) → c < length classes → is_subclass classes c c ≡ true
subclass_refl classes c h = lineage_first classes (length classes) c (omega arith)

lineage_up : (classes : List ClassInfo) (a s d : ℕ) → IsAcyclic classes → superclass_of classes a ≡ Some s → has (lineage_of classes s) d ≡ true → has (lineage_of classes a) d ≡ true
lineage_up classes a s d acyclic e h =
    let inside = low_in_range classes s a (superclass_is_direct classes a s e) in
    let line : lineage_of classes a ≡ a ∷ lineage_of classes s = lineage_of_is classes a acyclic inside ∙ ap (λ o. a ∷ option_map_or (lineage_of classes) o []) e in
    ap (λ l. has l d) line ∙ or_right (eqb a d) (has (lineage_of classes s) d) h

from_superclass : (classes : List ClassInfo) (n a b d : ℕ) → IsAcyclic classes → (o : Option ℕ) → superclass_of classes a ≡ o → has (option_map_or (lineage_within classes n) o []) b ≡ true
    → ((s : ℕ) → has (lineage_within classes n s) b ≡ true → has (lineage_of classes s) d ≡ true) → has (lineage_of classes a) d ≡ true
from_superclass classes n a b d acyclic None e h up = absurd (both_ways _ refl h)
from_superclass classes n a b d acyclic (Some s) e h up = lineage_up classes a s d acyclic e (up s h)

lineage_trans : (classes : List ClassInfo) (n a b d : ℕ) → IsAcyclic classes → has (lineage_within classes n a) b ≡ true → has (lineage_of classes b) d ≡ true → has (lineage_of classes a) d ≡ true
lineage_trans classes zero a b d acyclic h g = absurd (both_ways _ refl h)
lineage_trans classes (suc n) a b d acyclic h g =
    elim (has-cons_cases a (option_map_or (lineage_within classes n) (superclass_of classes a) []) b h) [
      | inl same ↦ subst (λ x. has (lineage_of classes x) d ≡ true) (sym same) g
      | inr above ↦ from_superclass classes n a b d acyclic (superclass_of classes a) refl above (λ s k. lineage_trans classes n s b d acyclic k g)
    ]

pub subclass_trans : (classes : List ClassInfo) (a b d : ℕ) → IsAcyclic classes → is_subclass classes a b ≡ true → is_subclass classes b d ≡ true → is_subclass classes a d ≡ true
subclass_trans classes a b d acyclic h g = lineage_trans classes (length classes) a b d acyclic h g

-- ---- subtypes

pub supertypes_up : (classes : List ClassInfo) (a s d : ℕ) → IsAcyclic classes → has (direct_supertypes classes a) s ≡ true → has (supertypes_of classes s) d ≡ true
    → has (supertypes_of classes a) d ≡ true
supertypes_up classes a s d acyclic e h =
    let inside = low_in_range classes s a e in
    ap (λ l. has l d) (supertypes_of_is classes a acyclic inside)
    ∙ or_right (eqb a d) (has (flat_map (supertypes_of classes) (direct_supertypes classes a)) d) (has-in_flat_map (supertypes_of classes) (direct_supertypes classes a) s d e h)

supertypes_trans : (classes : List ClassInfo) (n a b d : ℕ) → IsAcyclic classes → has (supertypes_within classes n a) b ≡ true → has (supertypes_of classes b) d ≡ true
    → has (supertypes_of classes a) d ≡ true
supertypes_trans classes zero a b d acyclic h g = absurd (both_ways _ refl h)
supertypes_trans classes (suc n) a b d acyclic h g =
    elim (has-cons_cases a (flat_map (supertypes_within classes n) (direct_supertypes classes a)) b h) [
      | inl same ↦ subst (λ x. has (supertypes_of classes x) d ≡ true) (sym same) g
      | inr above ↦
          let p = has-flat_map (supertypes_within classes n) (direct_supertypes classes a) b above in
          supertypes_up classes a p.0 d acyclic p.1 (supertypes_trans classes n p.0 b d acyclic p.2 g)
    ]

-- whether one class, if there is one, stands above another, if there is one, or is it
abbrev numbers_above : List ClassInfo → Option ℕ → Option ℕ → Bool
numbers_above classes i j = option_map_or (λ x. option_map_or (λ y. has (supertypes_of classes x) y) j false) i false

numbers_trans : (classes : List ClassInfo) (i j k : Option ℕ) → IsAcyclic classes → numbers_above classes i j ≡ true → numbers_above classes j k ≡ true → numbers_above classes i k ≡ true
numbers_trans classes None j k a h g = absurd (both_ways _ refl h)
numbers_trans classes (Some x) None k a h g = absurd (both_ways _ refl h)
numbers_trans classes (Some x) (Some y) None a h g = absurd (both_ways _ refl g)
numbers_trans classes (Some x) (Some y) (Some z) a h g = supertypes_trans classes (length classes) x y z a h g

pub same_bytes : (a b : List ℕ) → bytes_eq a b ≡ true → a ≡ b
same_bytes a b h = (bytes_eq-Decides a b).0 h

bytes_refl : (a : List ℕ) → bytes_eq a a ≡ true
bytes_refl a = (bytes_eq-Decides a a).1 refl

class_trans : (classes : List ClassInfo) (a b d : List ℕ) → IsAcyclic classes → is_class_subtype classes a b ≡ true → is_class_subtype classes b d ≡ true → is_class_subtype classes a d ≡ true
class_trans classes a b d acyclic h g =
    elim (or_cases (bytes_eq a b) (numbers_above classes (class_named classes a) (class_named classes b)) h) [
      | inl same ↦ subst (λ x. is_class_subtype classes x d ≡ true) (sym (same_bytes a b same)) g
      | inr low ↦ elim (or_cases (bytes_eq b d) (numbers_above classes (class_named classes b) (class_named classes d)) g) [
        | inl same ↦ subst (λ x. is_class_subtype classes a x ≡ true) (same_bytes b d same) h
        | inr high ↦ or_right (bytes_eq a d) (numbers_above classes (class_named classes a) (class_named classes d))
            (numbers_trans classes (class_named classes a) (class_named classes b) (class_named classes d) acyclic low high)
      ]
    ]

class_refl : (classes : List ClassInfo) (a : List ℕ) → is_class_subtype classes a a ≡ true
class_refl classes a = or_left (bytes_eq a a) (numbers_above classes (class_named classes a) (class_named classes a)) (bytes_refl a)

pub type_refl : (classes : List ClassInfo) (t : JavaType) → is_type_subtype classes t t ≡ true
type_refl classes (ClassType a) = class_refl classes a
type_refl classes (ArrayType t) = type_refl classes t
type_refl classes (PrimitiveType p) = bytes_refl p

above_class : (classes : List ClassInfo) (a b : List ℕ) (t : JavaType) → IsAcyclic classes → is_class_subtype classes a b ≡ true → is_type_subtype classes (ClassType b) t ≡ true
    → is_type_subtype classes (ClassType a) t ≡ true
above_class classes a b (ClassType d) acyclic h g = class_trans classes a b d acyclic h g
above_class classes a b (ArrayType t) acyclic h g = absurd (both_ways _ refl g)
above_class classes a b (PrimitiveType p) acyclic h g = absurd (both_ways _ refl g)

above_array : (classes : List ClassInfo) (s : JavaType) (b : List ℕ) (t : JavaType) → AreAboveAll classes → is_array_supertype b ≡ true → is_type_subtype classes (ClassType b) t ≡ true
    → is_type_subtype classes (ArrayType s) t ≡ true
above_array classes s b (ClassType d) top h g = top b d h g
above_array classes s b (ArrayType t) top h g = absurd (both_ways _ refl g)
above_array classes s b (PrimitiveType p) top h g = absurd (both_ways _ refl g)

above_primitive : (classes : List ClassInfo) (p q : List ℕ) (t : JavaType) → bytes_eq p q ≡ true → is_type_subtype classes (PrimitiveType q) t ≡ true
    → is_type_subtype classes (PrimitiveType p) t ≡ true
above_primitive classes p q t h g = subst (λ x. is_type_subtype classes (PrimitiveType x) t ≡ true) (sym (same_bytes p q h)) g

pub type_trans : (classes : List ClassInfo) (r s t : JavaType) → IsAcyclic classes → AreAboveAll classes
    → is_type_subtype classes r s ≡ true → is_type_subtype classes s t ≡ true → is_type_subtype classes r t ≡ true
type_trans classes (ClassType a) (ClassType b) t acyclic top h g = above_class classes a b t acyclic h g
type_trans classes (ClassType a) (ArrayType s) t acyclic top h g = absurd (both_ways _ refl h)
type_trans classes (ClassType a) (PrimitiveType q) t acyclic top h g = absurd (both_ways _ refl h)
type_trans classes (ArrayType r) (ClassType b) t acyclic top h g = above_array classes r b t top h g
type_trans classes (ArrayType r) (ArrayType s) (ClassType d) acyclic top h g = g
type_trans classes (ArrayType r) (ArrayType s) (ArrayType t) acyclic top h g = type_trans classes r s t acyclic top h g
type_trans classes (ArrayType r) (ArrayType s) (PrimitiveType q) acyclic top h g = absurd (both_ways _ refl g)
type_trans classes (ArrayType r) (PrimitiveType q) t acyclic top h g = absurd (both_ways _ refl h)
type_trans classes (PrimitiveType p) (ClassType b) t acyclic top h g = absurd (both_ways _ refl h)
type_trans classes (PrimitiveType p) (ArrayType s) t acyclic top h g = absurd (both_ways _ refl h)
type_trans classes (PrimitiveType p) (PrimitiveType q) t acyclic top h g = above_primitive classes p q t h g

-- ---- selection

found_step : {X : Type 0} (p : X → Bool) (y : X) (ys : List X) (x : X) (b : Bool) → p y ≡ b → cond b (Some y) (find p ys) ≡ Some x
    → (find p ys ≡ Some x → (p x ≡ true) × Contains ys x) → (p x ≡ true) × Contains (y ∷ ys) x
found_step p y ys x true t e rest =
    let same : y ≡ x = same_Some y x e in
    (subst (λ z. p z ≡ true) same t, (0, omega arith, same))
found_step p y ys x false t e rest =
    let r = rest e in
    (r.0, (suc r.1.0, omega (arith, r.1.1), r.1.2))

first_step : {Y : Type 0} (f : ℕ → Option Y) (x : ℕ) (xs : List ℕ) (y : Y) (o : Option Y) → f x ≡ o → option_or (f x) (first_some f xs) ≡ Some y
    → (first_some f xs ≡ Some y → (z : ℕ) × (has xs z ≡ true) × (f z ≡ Some y)) → (z : ℕ) × (has (x ∷ xs) z ≡ true) × (f z ≡ Some y)
first_step f x xs y None e g rest =
    let r = rest (ap (λ o. option_or o (first_some f xs)) (sym e) ∙ g) in
    (r.0, or_right (eqb x r.0) (has xs r.0) r.1, r.2)
first_step f x xs y (Some z) e g rest =
    (x, rw (eq-eqb x x refl) refl, e ∙ (ap (λ o. option_or o (first_some f xs)) (sym e) ∙ g))

-- what is found passes, and stands in the list
pub found_passes : {X : Type 0} (p : X → Bool) (xs : List X) (x : X) → find p xs ≡ Some x → (p x ≡ true) × Contains xs x
found_passes p [] x e = cc
found_passes p (y ∷ ys) x e = found_step p y ys x (p y) refl e (λ g. found_passes p ys x g)

pub first_found : {Y : Type 0} (f : ℕ → Option Y) (xs : List ℕ) (y : Y) → first_some f xs ≡ Some y → (x : ℕ) × (has xs x ≡ true) × (f x ≡ Some y)
first_found f [] y e = cc
first_found f (x ∷ xs) y e = first_step f x xs y (f x) refl e (λ g. first_found f xs y g)

-- the method that a class declares to be run
declared_parts : (classes : List ClassInfo) (name descriptor : List ℕ) (k : ℕ) (m : MethodInfo) (o : Option ClassInfo) → slice_get classes k ≡ o
    → option_and_then (λ c. find (λ q. (bytes_eq q.name name && bytes_eq q.descriptor descriptor) && (not q.is_static && not q.is_private)) c.methods) o ≡ Some m
    → (c : ClassInfo) × (slice_get classes k ≡ Some c) × (Contains c.methods m) × (((bytes_eq m.name name && bytes_eq m.descriptor descriptor) && (not m.is_static && not m.is_private)) ≡ true)
declared_parts classes name descriptor k m None e g = cc
declared_parts classes name descriptor k m (Some c) e g =
    let r = found_passes (λ q. (bytes_eq q.name name && bytes_eq q.descriptor descriptor) && (not q.is_static && not q.is_private)) c.methods m g in
    (c, e, r.1, r.0)

concrete_parts : (o : Option (ℕ × MethodInfo)) (id : MethodId) → concrete_number o ≡ Some id → (m : ℕ × MethodInfo) × (o ≡ Some m) × (m.1.is_abstract ≡ false) × (m.1.id ≡ id)
concrete_parts None id e = cc
concrete_parts (Some m) id e = by m.1.is_abstract refl
  where
    by : (b : Bool) → m.1.is_abstract ≡ b → (n : ℕ × MethodInfo) × (Some m ≡ Some n) × (n.1.is_abstract ≡ false) × (n.1.id ≡ id)
    by true f = let none : None ≡ Some id = ap (λ b. cond b None (Some m.1.id)) (sym f) ∙ e in absurd (none-some id none)
    by false f = (m, refl, f, same_Some m.1.id id (ap (λ b. cond b None (Some m.1.id)) (sym f) ∙ e))

pair_parts : (k : ℕ) (o : Option MethodInfo) (m : ℕ × MethodInfo) → option_map (λ q. (k, q)) o ≡ Some m → (o ≡ Some m.1) × (k ≡ m.0)
pair_parts k None m e = absurd (none-some m e)
pair_parts k (Some q) m e = let same : (k, q) ≡ m = same_Some (k, q) m e in (ap (λ (p : ℕ × MethodInfo). Some p.1) same, ap (λ (p : ℕ × MethodInfo). p.0) same)

pub selected_stands_above : (classes : List ClassInfo) (c : ℕ) (name descriptor : List ℕ) (id : MethodId) → selected_method classes c name descriptor ≡ Some id → IsSelected classes c name descriptor id
selected_stands_above classes c name descriptor id e =
    let found = concrete_parts (first_overriding classes c name descriptor) id e in
    let m = found.0 in
    let along = first_found (λ k. option_map (λ q. (k, q)) (overriding_method classes name descriptor k)) (lineage_of classes c) m found.1 in
    let here = pair_parts along.0 (overriding_method classes name descriptor along.0) m along.2 in
    let parts = declared_parts classes name descriptor along.0 m.1 (slice_get classes along.0) refl here.0 in
    let tests = and_parts (bytes_eq m.1.name name && bytes_eq m.1.descriptor descriptor) (not m.1.is_static && not m.1.is_private) parts.3 in
    let named = and_parts (bytes_eq m.1.name name) (bytes_eq m.1.descriptor descriptor) tests.0 in
    let kinds = and_parts (not m.1.is_static) (not m.1.is_private) tests.1 in
    record {
      class = along.0;
      info = parts.0;
      method = m.1;
      above = along.1;
      stands = parts.1;
      declared = parts.2;
      name_is = same_bytes m.1.name name named.0;
      descriptor_is = same_bytes m.1.descriptor descriptor named.1;
      instance = not-true m.1.is_static kinds.0;
      open_to_subclasses = not-true m.1.is_private kinds.1;
      concrete = found.2;
      number = found.3;
    }

-- ---- resolution and selection, in the words of the Java specification

first_of_flat_map : {Y : Type 0} (f : ℕ → Option Y) (g : ℕ → List ℕ) (xs : List ℕ) → first_some f (flat_map g xs) ≡ first_some (λ x. first_some f (g x)) xs
first_of_flat_map f g [] = refl
first_of_flat_map f g (x ∷ xs) = first_some-append f (g x) (flat_map g xs) ∙ ap (option_or (first_some f (g x))) (first_of_flat_map f g xs)

abbrev field_step : List ClassInfo → List ℕ → List ℕ → ℕ → Option (ℕ × FieldInfo)
field_step classes name descriptor k = option_map (λ f. (k, f)) (declared_field classes name descriptor k)

pub field_resolution : (classes : List ClassInfo) (c : ℕ) (name descriptor : List ℕ) → IsAcyclic classes → c < length classes
    → resolved_field classes c name descriptor
    ≡ option_or {T = ℕ × FieldInfo} (option_map (λ f. (c, f)) (declared_field classes name descriptor c)) (first_some (λ s. resolved_field classes s name descriptor) (direct_supertypes classes c))
field_resolution classes c name descriptor a h =
    ap (first_some (field_step classes name descriptor)) (supertypes_of_is classes c a h)
    ∙ ap (option_or (field_step classes name descriptor c)) (first_of_flat_map (field_step classes name descriptor) (supertypes_of classes) (direct_supertypes classes c))

abbrev overriding_step : List ClassInfo → List ℕ → List ℕ → ℕ → Option (ℕ × MethodInfo)
overriding_step classes name descriptor k = option_map (λ m. (k, m)) (overriding_method classes name descriptor k)

at_superclass : (classes : List ClassInfo) (name descriptor : List ℕ) (o : Option ℕ)
    → first_some (overriding_step classes name descriptor) (option_map_or (lineage_of classes) o []) ≡ option_and_then (λ s. first_overriding classes s name descriptor) o
at_superclass classes name descriptor None = refl
at_superclass classes name descriptor (Some s) = refl

pub selection : (classes : List ClassInfo) (c : ℕ) (name descriptor : List ℕ) → IsAcyclic classes → c < length classes
    → first_overriding classes c name descriptor
    ≡ option_or {T = ℕ × MethodInfo} (option_map (λ m. (c, m)) (overriding_method classes name descriptor c)) (option_and_then (λ s. first_overriding classes s name descriptor) (superclass_of classes c))
selection classes c name descriptor a h =
    ap (first_some (overriding_step classes name descriptor)) (lineage_of_is classes c a h)
    ∙ ap (option_or (overriding_step classes name descriptor c)) (at_superclass classes name descriptor (superclass_of classes c))

-- Nothing but these classes stands above the built-in classes of which every array is a subtype.
use Rattle.std.proofs.Common.{◌≡◌, ℕ, ◌+◌, ◌<◌, zero, suc, Bool, true, false, cond, ◌||◌, eqb, List, [], ◌∷◌, ◌++◌, ◌⊎◌, Option, Some, None, length, refl, sym, ap, ◌∙◌, subst, inl, inr, arith}
use Rattle.std.specs.List.{position_from, slice_get}
use Rattle.std.specs.Option.{option_map_or}
use Rattle.std.specs.Prelude.{codes}
use Rattle.std.specs.Str.{bytes_eq}
use Rattle.std.proofs.lemmas.Bool.{cases_Bool, or_cases, both_ways}
use Rattle.th_base.specs.declared.class.ClassInfo.{ClassInfo}
use Rattle.th_base.specs.BuiltIn.{built_in_classes}
use Rattle.th_base.specs.Hierarchy.{supertypes_of}
use Rattle.th_base.specs.IdSet.{has}
use Rattle.th_base.specs.Subtype.{class_named, is_class_subtype, is_array_supertype, AreAboveAll}
use Rattle.th_base.proofs.Orders.{same_bytes, has-cons_cases}

-- what stands at the place that a search gives
placed_at : {X : Type 0} (p : X → Bool) (f : ℕ → Option X) (j i : ℕ) (xs : List X) → ((d : ℕ) → f (j + d) ≡ slice_get xs d) → position_from p j xs ≡ Some i
    → (x : X) × (f i ≡ Some x) × (p x ≡ true)
placed_at p f j i [] h e = cc
placed_at p f j i (x ∷ xs) h e =
    elim (cases_Bool (p x)) [
      | inl passes ↦
          let is : Some j ≡ Some i = ap (λ b. cond b (Some j) (position_from p (j + 1) xs)) (sym passes) ∙ e in
          let same : j ≡ i = cc in
          let here : f j ≡ Some x = let z : j + 0 ≡ j = omega arith in ap f (sym z) ∙ h 0 in
          (x, ap f (sym same) ∙ here, passes)
      | inr fails ↦
          placed_at p f (j + 1) i xs (λ d. let z : (j + 1) + d ≡ j + suc d = omega arith in ap f z ∙ h (suc d)) (ap (λ b. cond b (Some j) (position_from p (j + 1) xs)) (sym fails) ∙ e)
    ]

-- the class of a number has the name by which the number was found
class_named_is : (classes : List ClassInfo) (name : List ℕ) (i : ℕ) (k : ClassInfo) → class_named classes name ≡ Some i → slice_get classes i ≡ Some k → k.name ≡ name
class_named_is classes name i k e g =
    let p = placed_at (λ c. bytes_eq c.name name) (slice_get classes) 0 i classes (λ d. let z : 0 + d ≡ d = omega arith in ap (slice_get classes) z) e in
    let same : k ≡ p.0 = let h : Some k ≡ Some p.0 = sym g ∙ p.1 in cc in
    ap (λ c. c.name) same ∙ same_bytes p.0.name name p.2

-- a class among these numbers has one of the three names
abbrev AreThree : List ClassInfo → List ℕ → Type 0
AreThree classes above = (j : ℕ) → has above j ≡ true → (k : ClassInfo) × (slice_get classes j ≡ Some k) × (is_array_supertype k.name ≡ true)

named_above : (classes : List ClassInfo) (above b : List ℕ) (o : Option ℕ) → class_named classes b ≡ o → AreThree classes above
    → option_map_or (has above) o false ≡ true → is_array_supertype b ≡ true
named_above classes above b None e three h = absurd (both_ways _ refl h)
named_above classes above b (Some j) e three h =
    let p = three j h in
    subst (λ n. is_array_supertype n ≡ true) (class_named_is classes b j p.0 e p.1) p.2

-- a supertype of a class with one of the three names has one of them
one_of_three : (classes : List ClassInfo) (a b above : List ℕ) (i : ℕ) → class_named classes a ≡ Some i → supertypes_of classes i ≡ above → is_array_supertype a ≡ true → AreThree classes above
    → is_class_subtype classes a b ≡ true → is_array_supertype b ≡ true
one_of_three classes a b above i e g top three h =
    elim (or_cases (bytes_eq a b) (option_map_or (λ x. option_map_or (λ j. has (supertypes_of classes x) j) (class_named classes b) false) (class_named classes a) false) h) [
      | inl same ↦ subst (λ n. is_array_supertype n ≡ true) (same_bytes a b same) top
      | inr low ↦ named_above classes above b (class_named classes b) refl three
          (ap (λ l. option_map_or (has l) (class_named classes b) false) (sym g)
          ∙ ap (λ o. option_map_or (λ x. option_map_or (λ j. has (supertypes_of classes x) j) (class_named classes b) false) o false) (sym e) ∙ low)
    ]

abbrev with_more : List ClassInfo → List ClassInfo
with_more more = built_in_classes ++ more

object_alone : (more : List ClassInfo) → AreThree (with_more more) (0 ∷ [])
object_alone more j h = elim (has-cons_cases 0 [] j h) [
  | inl same ↦ subst (λ x. (k : ClassInfo) × (slice_get (with_more more) x ≡ Some k) × (is_array_supertype k.name ≡ true)) same (_, refl, refl)
  | inr none ↦ absurd (both_ways _ refl none)
]

interface_and_object : (more : List ClassInfo) (i : ℕ) (k : ClassInfo) → slice_get (with_more more) i ≡ Some k → is_array_supertype k.name ≡ true → AreThree (with_more more) (i ∷ 0 ∷ [])
interface_and_object more i k e top j h = elim (has-cons_cases i (0 ∷ []) j h) [
  | inl same ↦ subst (λ x. (c : ClassInfo) × (slice_get (with_more more) x ≡ Some c) × (is_array_supertype c.name ≡ true)) same (k, e, top)
  | inr rest ↦ object_alone more j rest
]

pub built_ins_above_all : (more : List ClassInfo) → AreAboveAll (built_in_classes ++ more)
built_ins_above_all more a b top h =
    elim (or_cases (bytes_eq a (codes "java/lang/Object")) (bytes_eq a (codes "java/lang/Cloneable") || bytes_eq a (codes "java/io/Serializable")) top) [
      | inl object ↦
          one_of_three (with_more more) (codes "java/lang/Object") b (0 ∷ []) 0 refl refl refl (object_alone more)
          (subst (λ n. is_class_subtype (with_more more) n b ≡ true) (same_bytes a (codes "java/lang/Object") object) h)
      | inr other ↦ elim (or_cases (bytes_eq a (codes "java/lang/Cloneable")) (bytes_eq a (codes "java/io/Serializable")) other) [
        | inl cloneable ↦
            one_of_three (with_more more) (codes "java/lang/Cloneable") b (6 ∷ 0 ∷ []) 6 refl refl refl (interface_and_object more 6 _ refl refl)
            (subst (λ n. is_class_subtype (with_more more) n b ≡ true) (same_bytes a (codes "java/lang/Cloneable") cloneable) h)
        | inr serializable ↦
            one_of_three (with_more more) (codes "java/io/Serializable") b (7 ∷ 0 ∷ []) 7 refl refl refl (interface_and_object more 7 _ refl refl)
            (subst (λ n. is_class_subtype (with_more more) n b ≡ true) (same_bytes a (codes "java/io/Serializable") serializable) h)
      ]
    ]

-- The initialisers of a class are its own and those of its superclass.
use Rattle.std.proofs.Common.{◌≡◌, ℕ, ◌<◌, zero, suc, true, List, [], ◌∷◌, ◌==◌, length, Option, None, Some, slice_get, refl, sym, ap, ◌∙◌, subst, inl, inr}
use Rattle.std.specs.Prelude.{codes}
use Rattle.std.specs.Option.{option_and_then, option_map_or}
use Rattle.std.proofs.lemmas.Bool.{or_cases, or_right, eqb-true}
use Rattle.std.proofs.lemmas.Option.{slice_get_within}
use Rattle.th_base.specs.declared.class.ClassInfo.{ClassInfo}
use Rattle.th_base.specs.declared.class.MethodInfo.{MethodInfo}
use Rattle.th_base.specs.Hierarchy.{superclass_of, declared_method, lineage_within, lineage_of, IsAcyclic}
use Rattle.th_base.specs.IdSet.{has}
use Rattle.th_base.proofs.Ascending.{has_first}
use Rattle.th_base.proofs.Enough.{lineage_of_is}
use Rattle.th_ir.specs.Calls.{IsInitialiser}

-- what is looked up in a class is of a class that there is
looked_inside : {Y : Type 0} (h : List ClassInfo) (f : ClassInfo → Option Y) (c : ℕ) (y : Y) (o : Option ClassInfo) → slice_get h c ≡ o → option_and_then f o ≡ Some y → c < length h
looked_inside h f c y None at e = absurd cc
looked_inside h f c y (Some k) at e = slice_get_within h c k at

pub with_superclass_inside : (h : List ClassInfo) (c s : ℕ) → superclass_of h c ≡ Some s → c < length h
with_superclass_inside h c s e = looked_inside h _ c s (slice_get h c) refl e

pub declaring_inside : (h : List ClassInfo) (name descriptor : List ℕ) (c : ℕ) (i : MethodInfo) → declared_method h name descriptor c ≡ Some i → c < length h
declaring_inside h name descriptor c i e = looked_inside h _ c i (slice_get h c) refl e

-- one step of a walk to a superclass
pub record StepsUp (h : List ClassInfo) (n c d : ℕ) : Type 0 where
  pub super : ℕ
  pub is_super : superclass_of h c ≡ Some super
  pub above : has (lineage_within h n super) d ≡ true

steps_up : (h : List ClassInfo) (n c d : ℕ) (o : Option ℕ) → superclass_of h c ≡ o → has (option_map_or (lineage_within h n) o []) d ≡ true → StepsUp h n c d
steps_up h n c d None at e = absurd cc
steps_up h n c d (Some s) at e = record { super = s; is_super = at; above = e }

-- what holds of a class and goes from superclasses to classes holds of all below it
pub goes_down : (h : List ClassInfo) (P : ℕ → Type 0) → ((c s : ℕ) → superclass_of h c ≡ Some s → P s → P c)
    → (n c d : ℕ) → has (lineage_within h n c) d ≡ true → P d → P c
goes_down h P step zero c d e base = absurd cc
goes_down h P step (suc n) c d e base = elim (or_cases (c == d) (has (option_map_or (lineage_within h n) (superclass_of h c) []) d) e) [
  | inl same ↦ subst P (sym (eqb-true c d same)) base
  | inr more ↦ (let up = steps_up h n c d (superclass_of h c) refl more in step c up.super up.is_super (goes_down h P step n up.super d up.above base))
]

-- a class with an initialiser is one that there is
pub initialised_inside : (h : List ClassInfo) (c m : ℕ) → IsInitialiser h c m → c < length h
initialised_inside h c m is =
    goes_down h (λ (k : ℕ). k < length h) (λ c s e inside. with_superclass_inside h c s e) (length h) c is.class is.above
    (declaring_inside h (codes "<clinit>") (codes "()V") is.class is.info is.declared)

-- the initialisers of a superclass
pub initialiser_of_super : (h : List ClassInfo) (c s m : ℕ) → IsAcyclic h → c < length h → superclass_of h c ≡ Some s → IsInitialiser h s m → IsInitialiser h c m
initialiser_of_super h c s m acyclic inside e is = record {
  class = is.class;
  info = is.info;
  above =
      ap (λ l. has l is.class) (lineage_of_is h c acyclic inside)
      ∙ ap (λ o. has (c ∷ option_map_or (lineage_of h) o []) is.class) e
      ∙ or_right (c == is.class) (has (lineage_of h s) is.class) is.above;
  declared = is.declared;
  number = is.number;
}

-- a class's own initialiser
pub own_initialiser : (h : List ClassInfo) (c : ℕ) (i : MethodInfo) → IsAcyclic h → c < length h → declared_method h (codes "<clinit>") (codes "()V") c ≡ Some i → IsInitialiser h c i.id.0
own_initialiser h c i acyclic inside e = record {
  class = c;
  info = i;
  above = ap (λ l. has l c) (lineage_of_is h c acyclic inside) ∙ has_first c (option_map_or (lineage_of h) (superclass_of h c) []);
  declared = e;
  number = refl;
}

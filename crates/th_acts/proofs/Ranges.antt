-- No class that isn't there stands above one that is.
use Rattle.std.proofs.Common.{◌≡◌, zero, suc, ◌<◌, ◌≤◌, ◌==◌, ℕ, Bool, true, false, List, [], length, arith, refl, sym, subst, Option, Some, None}
use Rattle.std.specs.Prelude.{◌||◌, Contains, option_to_list}
use Rattle.std.specs.Option.{option_map_or}
use Rattle.std.specs.List.{list_any}
use Rattle.std.proofs.lemmas.Bool.{ne_eqb}
use Rattle.std.proofs.lemmas.List.Elements.{Contains-append_right, Contains-push}
use Rattle.th_base.specs.declared.class.ClassInfo.{ClassInfo}
use Rattle.th_base.specs.Hierarchy.{IsAcyclic, superclass_of, interfaces_of, lineage_within, is_subclass}

-- no class that isn't there stands above one that is
above_within : (classes : List ClassInfo) (a d : ℕ) → IsAcyclic classes → superclass_of classes a ≡ Some d → d < length classes
above_within classes a d ok e =
    ok.in_range a d (Contains-append_right (interfaces_of classes a) (option_to_list (superclass_of classes a)) d
    (subst (λ s. Contains (option_to_list s) d) (sym e) (Contains-push [] d)))

rest_not_above : (classes : List ClassInfo) (n a b : ℕ) (s : Option ℕ) → ((d : ℕ) → s ≡ Some d → list_any (λ x. x == b) (lineage_within classes n d) ≡ false)
    → list_any (λ x. x == b) (option_map_or (lineage_within classes n) s []) ≡ false
rest_not_above classes n a b None f = refl
rest_not_above classes n a b (Some d) f = f d refl

or_both : (x y : Bool) → x ≡ false → y ≡ false → (x || y) ≡ false
or_both true y p q = p
or_both false y p q = q

not_above : (classes : List ClassInfo) (n a b : ℕ) → IsAcyclic classes → a < length classes → length classes ≤ b → list_any (λ x. x == b) (lineage_within classes n a) ≡ false
not_above classes zero a b ok p q = refl
not_above classes (suc n) a b ok p q =
    or_both (a == b) (list_any (λ x. x == b) (option_map_or (lineage_within classes n) (superclass_of classes a) []))
    (ne_eqb a b (λ e. absurd (omega arith)))
    (rest_not_above classes n a b (superclass_of classes a) (λ d e. not_above classes n d b ok (above_within classes a d ok e) q))

pub above_past : (classes : List ClassInfo) (a b : ℕ) → IsAcyclic classes → a < length classes → length classes ≤ b → is_subclass classes a b ≡ false
above_past classes a b ok p q = not_above classes (length classes) a b ok p q

-- What resolution finds has the name and the descriptor that were asked for, in a class above; and a
-- subclass is a subtype.
use Rattle.std.proofs.Common.{◌≡◌, ℕ, ◌<◌, zero, suc, Bool, true, false, cond, ◌&&◌, eqb, List, [], ◌∷◌, ◌++◌, ◌⊎◌, Option, Some, None, length, refl, sym, ap, ◌∙◌, subst, inl, inr}
use Rattle.std.specs.List.{flat_map, find, slice_get}
use Rattle.std.specs.Option.{option_map, option_and_then, option_map_or, option_to_list}
use Rattle.std.specs.Prelude.{Contains, codes}
use Rattle.std.specs.Str.{bytes_eq}
use Rattle.std.proofs.lemmas.Bool.{eq-eqb, and_parts, both_ways}
use Rattle.std.proofs.lemmas.Option.{same_Some, none-some}
use Rattle.th_base.specs.declared.class.ClassInfo.{ClassInfo}
use Rattle.th_base.specs.declared.class.FieldInfo.{FieldInfo}
use Rattle.th_base.specs.declared.class.MethodInfo.{MethodInfo}
use Rattle.th_base.specs.Hierarchy.{IsAcyclic, superclass_of, interfaces_of, direct_supertypes, lineage_within, lineage_of, supertypes_of, superinterfaces_within, superinterfaces_of, declared_field, declared_method, method_order, resolved_field, resolved_method, IsFieldAbove, IsMethodAbove}
use Rattle.th_base.specs.IdSet.{has}
use Rattle.th_base.proofs.Enough.{supertypes_of_is, superclass_is_direct, interfaces_are_direct}
use Rattle.th_base.proofs.Looked.{resolved_upwards, resolved_here}
use Rattle.th_base.proofs.Membership.{has_append_cases, Contains-from_has}
use Rattle.th_base.proofs.Orders.{same_bytes, found_passes, first_found, has-cons_cases, has-flat_map, supertypes_up}
use Rattle.th_base.proofs.Ordered.{low_in_range}

-- ---- members of a class

pair_of : {X : Type 0} (k : ℕ) (o : Option X) (m : ℕ × X) → option_map (λ q. (k, q)) o ≡ Some m → (o ≡ Some m.1) × (k ≡ m.0)
pair_of k None m e = absurd (none-some m e)
pair_of {X} k (Some q) m e = let same : (k, q) ≡ m = same_Some (k, q) m e in (ap (λ (p : ℕ × X). Some p.1) same, ap (λ (p : ℕ × X). p.0) same)

field_parts : (classes : List ClassInfo) (name descriptor : List ℕ) (k : ℕ) (f : FieldInfo) (o : Option ClassInfo) → slice_get classes k ≡ o
    → option_and_then (λ c. find (λ q. bytes_eq q.name name && bytes_eq q.descriptor descriptor) c.fields) o ≡ Some f
    → (c : ClassInfo) × (slice_get classes k ≡ Some c) × (Contains c.fields f) × ((bytes_eq f.name name && bytes_eq f.descriptor descriptor) ≡ true)
field_parts classes name descriptor k f None e g = cc
field_parts classes name descriptor k f (Some c) e g =
    let r = found_passes (λ q. bytes_eq q.name name && bytes_eq q.descriptor descriptor) c.fields f g in
    (c, e, r.1, r.0)

method_parts : (classes : List ClassInfo) (name descriptor : List ℕ) (k : ℕ) (m : MethodInfo) (o : Option ClassInfo) → slice_get classes k ≡ o
    → option_and_then (λ c. find (λ q. bytes_eq q.name name && bytes_eq q.descriptor descriptor) c.methods) o ≡ Some m
    → (c : ClassInfo) × (slice_get classes k ≡ Some c) × (Contains c.methods m) × ((bytes_eq m.name name && bytes_eq m.descriptor descriptor) ≡ true)
method_parts classes name descriptor k m None e g = cc
method_parts classes name descriptor k m (Some c) e g =
    let r = found_passes (λ q. bytes_eq q.name name && bytes_eq q.descriptor descriptor) c.methods m g in
    (c, e, r.1, r.0)

pub field_above : (classes : List ClassInfo) (c : ℕ) (name descriptor : List ℕ) (found : ℕ × FieldInfo) → resolved_field classes c name descriptor ≡ Some found
    → IsFieldAbove classes c name descriptor found
field_above classes c name descriptor found e =
    let along = first_found (λ k. option_map (λ q. (k, q)) (declared_field classes name descriptor k)) (supertypes_of classes c) found e in
    let here = pair_of along.0 (declared_field classes name descriptor along.0) found along.2 in
    let parts = field_parts classes name descriptor along.0 found.1 (slice_get classes along.0) refl here.0 in
    let named = and_parts (bytes_eq found.1.name name) (bytes_eq found.1.descriptor descriptor) parts.3 in
    record {
      info = parts.0;
      above = subst (λ k. has (supertypes_of classes c) k ≡ true) here.1 along.1;
      stands = ap (slice_get classes) (sym here.1) ∙ parts.1;
      declared = parts.2;
      name_is = same_bytes found.1.name name named.0;
      descriptor_is = same_bytes found.1.descriptor descriptor named.1;
    }

-- ---- what stands above

itself_above : (classes : List ClassInfo) (c : ℕ) → IsAcyclic classes → c < length classes → has (supertypes_of classes c) c ≡ true
itself_above classes c acyclic inside = ap (λ l. has l c) (supertypes_of_is classes c acyclic inside) ∙ first c (flat_map (supertypes_of classes) (direct_supertypes classes c))
  where
    first : (x : ℕ) (xs : List ℕ) → has (x ∷ xs) x ≡ true
    first x xs = rw (eq-eqb x x refl) refl

through_superclass : (classes : List ClassInfo) (walk : ℕ → List ℕ) (c x : ℕ) → IsAcyclic classes → (o : Option ℕ) → superclass_of classes c ≡ o → has (option_map_or walk o []) x ≡ true
    → ((s : ℕ) → s < length classes → has (walk s) x ≡ true → has (supertypes_of classes s) x ≡ true) → has (supertypes_of classes c) x ≡ true
through_superclass classes walk c x acyclic None e h up = absurd (both_ways _ refl h)
through_superclass classes walk c x acyclic (Some s) e h up =
    let direct = superclass_is_direct classes c s e in
    supertypes_up classes c s x acyclic direct (up s (acyclic.in_range c s (Contains-from_has (direct_supertypes classes c) s direct)) h)

lineage_above : (classes : List ClassInfo) (n c x : ℕ) → IsAcyclic classes → c < length classes → has (lineage_within classes n c) x ≡ true → has (supertypes_of classes c) x ≡ true
lineage_above classes zero c x acyclic inside h = absurd (both_ways _ refl h)
lineage_above classes (suc n) c x acyclic inside h =
    elim (has-cons_cases c (option_map_or (lineage_within classes n) (superclass_of classes c) []) x h) [
      | inl same ↦ subst (λ y. has (supertypes_of classes c) y ≡ true) same (itself_above classes c acyclic inside)
      | inr above ↦ through_superclass classes (lineage_within classes n) c x acyclic (superclass_of classes c) refl above (λ s k g. lineage_above classes n s x acyclic k g)
    ]

pub subclass_above : (classes : List ClassInfo) (c x : ℕ) → IsAcyclic classes → c < length classes → has (lineage_of classes c) x ≡ true → has (supertypes_of classes c) x ≡ true
subclass_above classes c x acyclic inside h = lineage_above classes (length classes) c x acyclic inside h

superinterfaces_above : (classes : List ClassInfo) (n c x : ℕ) → IsAcyclic classes → c < length classes → has (superinterfaces_within classes n c) x ≡ true → has (supertypes_of classes c) x ≡ true
superinterfaces_above classes zero c x acyclic inside h = absurd (both_ways _ refl h)
superinterfaces_above classes (suc n) c x acyclic inside h =
    elim (has_append_cases (flat_map (λ i. i ∷ superinterfaces_within classes n i) (interfaces_of classes c)) (option_map_or (superinterfaces_within classes n) (superclass_of classes c) []) x h) [
      | inl own ↦
          let p = has-flat_map (λ i. i ∷ superinterfaces_within classes n i) (interfaces_of classes c) x own in
          let direct = interfaces_are_direct classes c p.0 p.1 in
          let within = acyclic.in_range c p.0 (Contains-from_has (direct_supertypes classes c) p.0 direct) in
          supertypes_up classes c p.0 x acyclic direct (elim (has-cons_cases p.0 (superinterfaces_within classes n p.0) x p.2) [
            | inl same ↦ subst (λ y. has (supertypes_of classes p.0) y ≡ true) same (itself_above classes p.0 acyclic within)
            | inr higher ↦ superinterfaces_above classes n p.0 x acyclic within higher
          ])
      | inr above ↦ through_superclass classes (superinterfaces_within classes n) c x acyclic (superclass_of classes c) refl above (λ s k g. superinterfaces_above classes n s x acyclic k g)
    ]

order_above : (classes : List ClassInfo) (c x : ℕ) (name : List ℕ) → IsAcyclic classes → c < length classes → (b : Bool) → bytes_eq name (codes "<init>") ≡ b
    → has (method_order classes c name) x ≡ true → has (supertypes_of classes c) x ≡ true
order_above classes c x name acyclic inside true e h =
    elim (has-cons_cases c [] x (ap (λ b. has (cond b (c ∷ []) (lineage_of classes c ++ superinterfaces_of classes c)) x) (sym e) ∙ h)) [
      | inl same ↦ subst (λ y. has (supertypes_of classes c) y ≡ true) same (itself_above classes c acyclic inside)
      | inr none ↦ absurd (both_ways _ refl none)
    ]
order_above classes c x name acyclic inside false e h =
    elim (has_append_cases (lineage_of classes c) (superinterfaces_of classes c) x (ap (λ b. has (cond b (c ∷ []) (lineage_of classes c ++ superinterfaces_of classes c)) x) (sym e) ∙ h)) [
      | inl line ↦ subclass_above classes c x acyclic inside line
      | inr higher ↦ superinterfaces_above classes (length classes) c x acyclic inside higher
    ]

pub method_above : (classes : List ClassInfo) (c : ℕ) (name descriptor : List ℕ) (found : ℕ × MethodInfo) → IsAcyclic classes → c < length classes
    → resolved_method classes c name descriptor ≡ Some found → IsMethodAbove classes c name descriptor found
method_above classes c name descriptor found acyclic inside e =
    let along = first_found (λ k. option_map (λ q. (k, q)) (declared_method classes name descriptor k)) (method_order classes c name) found e in
    let here = pair_of along.0 (declared_method classes name descriptor along.0) found along.2 in
    let parts = method_parts classes name descriptor along.0 found.1 (slice_get classes along.0) refl here.0 in
    let named = and_parts (bytes_eq found.1.name name) (bytes_eq found.1.descriptor descriptor) parts.3 in
    record {
      info = parts.0;
      above = order_above classes c found.0 name acyclic inside (bytes_eq name (codes "<init>")) refl (subst (λ k. has (method_order classes c name) k ≡ true) here.1 along.1);
      stands = ap (slice_get classes) (sym here.1) ∙ parts.1;
      declared = parts.2;
      name_is = same_bytes found.1.name name named.0;
      descriptor_is = same_bytes found.1.descriptor descriptor named.1;
    }

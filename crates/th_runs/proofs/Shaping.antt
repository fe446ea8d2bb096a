-- Objects have the shape of their class: what is new has it, what is stored keeps it, and each instance
-- field of a class above is found in them.
use Rattle.std.proofs.Common.{◌≡◌, ℕ, zero, suc, ◌==◌, ◌⊎◌, inl, inr, not, Bool, true, false, cond, if◌then◌else◌, List, [], ◌∷◌, ◌++◌, map, Option, None, Some, refl, sym, ap, subst, ◌∙◌}
use Rattle.std.specs.Prelude.{slice_get, find, filter, reverse, replicate, Contains}
use Rattle.std.specs.List.{AllByRecursion, flat_map}
use Rattle.std.specs.Option.{option_map, option_map_or}
use Rattle.std.proofs.lemmas.Bool.{eqb-true, eq-eqb}
use Rattle.std.proofs.lemmas.List.{reverse-append}
use Rattle.th_base.specs.declared.class.ClassInfo.{ClassInfo}
use Rattle.th_base.specs.declared.class.FieldInfo.{FieldInfo}
use Rattle.th_base.specs.declared.number.FieldId.{FieldId}
use Rattle.th_base.specs.Hierarchy.{lineage_of, is_subclass}
use Rattle.th_base.specs.IdSet.{has}
use Rattle.th_base.proofs.Orders.{has-cons_cases}
use Rattle.th_syntax.specs.declared.class_file.ClassFile.{ClassFile}
use Rattle.th_syntax.specs.declared.machine.Value.{Value}
use Rattle.th_syntax.specs.declared.machine.Object.TheVariants.{Instance, Array}
use Rattle.th_syntax.specs.Machine.{class_id}
use Rattle.th_syntax.specs.Program.{Owned, fields_of, hierarchy_of}
use Rattle.th_syntax.specs.Initial.{default_value, instance_fields, new_object}
use Rattle.th_syntax.specs.Fields.{field_value, with_field}
use Rattle.th_syntax.specs.Arrays.{array_descriptor}
use Rattle.th_syntax.proofs.Inverting.{some_is, all_append}
use Rattle.th_runs.specs.Fitting.{IsOfType, IsOfField, IsShaped}
use Rattle.th_runs.proofs.Lists.{all_replicate}
use Rattle.th_runs.proofs.Declaring.{IsFieldHere, field_here, contains_at, at_index}
use Rattle.th_runs.proofs.Fits.{default_fits}

-- ---- members of lists

abbrev pub IsIn : {A : Type 0} → List A → A → Type 0
IsIn xs x = (j : ℕ) × (slice_get xs j ≡ Some x)

pub in_left : {A : Type 0} (xs ys : List A) (x : A) → IsIn xs x → IsIn (xs ++ ys) x
in_left [] ys x (j, e) = absurd cc
in_left (z ∷ xs) ys x (zero, e) = (zero, e)
in_left (z ∷ xs) ys x (suc j, e) = let rest = in_left xs ys x (j, e) in (suc rest.0, rest.1)

pub in_right : {A : Type 0} (xs ys : List A) (x : A) → IsIn ys x → IsIn (xs ++ ys) x
in_right [] ys x is = is
in_right (z ∷ xs) ys x is = let rest = in_right xs ys x is in (suc rest.0, rest.1)

pub in_map : {A B : Type 0} (f : A → B) (xs : List A) (x : A) → IsIn xs x → IsIn (map f xs) (f x)
in_map f [] x (j, e) = absurd cc
in_map f (z ∷ xs) x (zero, e) = (zero, ap (λ y. Some (f y)) (some_is z x e))
in_map f (z ∷ xs) x (suc j, e) = let rest = in_map f xs x (j, e) in (suc rest.0, rest.1)

in_reverse : {A : Type 0} (xs : List A) (x : A) → IsIn xs x → IsIn (reverse xs) x
in_reverse [] x (j, e) = absurd cc
in_reverse (z ∷ xs) x (zero, e) = subst (λ ys. IsIn ys x) (sym (reverse-append (z ∷ []) xs)) (in_right (reverse xs) (z ∷ []) x (zero, e))
in_reverse (z ∷ xs) x (suc j, e) = subst (λ ys. IsIn ys x) (sym (reverse-append (z ∷ []) xs)) (in_left (reverse xs) (z ∷ []) x (in_reverse xs x (j, e)))

pub in_flat_map : {A B : Type 0} (f : A → List B) (xs : List A) (x : A) (y : B) → IsIn xs x → IsIn (f x) y → IsIn (flat_map f xs) y
in_flat_map f [] x y (j, e) is = absurd cc
in_flat_map f (z ∷ xs) x y (zero, e) is = in_left (f z) (flat_map f xs) y (subst (λ w. IsIn (f w) y) (sym (some_is z x e)) is)
in_flat_map f (z ∷ xs) x y (suc j, e) is = in_right (f z) (flat_map f xs) y (in_flat_map f xs x y (j, e) is)

filter_by : {A : Type 0} (p : A → Bool) (z x : A) (xs : List A) (b : Bool) → p z ≡ b → p x ≡ true → (z ≡ x) ⊎ IsIn (filter p xs) x → IsIn (if b then z ∷ filter p xs else filter p xs) x
filter_by p z x xs true e here (inl same) = (zero, ap (λ y. Some y) same)
filter_by p z x xs true e here (inr more) = (suc more.0, more.1)
filter_by p z x xs false e here (inl same) = absurd (let h : false ≡ true = sym e ∙ ap p same ∙ here in cc)
filter_by p z x xs false e here (inr more) = more

pub in_filter : {A : Type 0} (p : A → Bool) (xs : List A) (x : A) → IsIn xs x → p x ≡ true → IsIn (filter p xs) x
in_filter p [] x (j, e) here = absurd cc
in_filter p (z ∷ xs) x (zero, e) here = filter_by p z x xs (p z) refl here (inl (some_is z x e))
in_filter p (z ∷ xs) x (suc j, e) here = filter_by p z x xs (p z) refl here (inr (in_filter p xs x (j, e) here))

in_numbers : (xs : List ℕ) (x : ℕ) → has xs x ≡ true → IsIn xs x
in_numbers [] x h = absurd cc
in_numbers (z ∷ xs) x h = elim (has-cons_cases z xs x h) [ inl same ↦ (zero, ap (λ y. Some y) same) | inr more ↦ let rest = in_numbers xs x more in (suc rest.0, rest.1) ]

-- ---- what holds of all members

all_from : {A : Type 0} (P : A → Type 0) (xs : List A) → ((j : ℕ) (x : A) → slice_get xs j ≡ Some x → P x) → AllByRecursion P xs
all_from P [] each = tt
all_from P (x ∷ xs) each = (each zero x refl, all_from P xs (λ j. each (suc j)))

filtered_by : {A : Type 0} (P : A → Type 0) (x : A) (xs : List A) (b : Bool) → P x → AllByRecursion P xs → AllByRecursion P (if b then x ∷ xs else xs)
filtered_by P x xs true here all = (here, all)
filtered_by P x xs false here all = all

all_filter : {A : Type 0} (P : A → Type 0) (p : A → Bool) (xs : List A) → AllByRecursion P xs → AllByRecursion P (filter p xs)
all_filter P p [] all = tt
all_filter P p (x ∷ xs) all = filtered_by P x (filter p xs) (p x) all.0 (all_filter P p xs all.1)

all_flat_map : {A B : Type 0} (P : B → Type 0) (f : A → List B) (xs : List A) → ((x : A) → AllByRecursion P (f x)) → AllByRecursion P (flat_map f xs)
all_flat_map P f [] each = tt
all_flat_map P f (x ∷ xs) each = all_append P (f x) (flat_map f xs) (each x) (all_flat_map P f xs each)

-- ---- fields by their numbers

module _ (files : List ClassFile) where
  abbrev IsKnown : FieldInfo → Type 0
  IsKnown f = (o : Owned) → slice_get (fields_of files) f.id.0 ≡ Some o → o.member.descriptor ≡ f.descriptor

  pub known_here : (c : ℕ) (f : FieldInfo) → IsFieldHere files c f → (o : Owned) → slice_get (fields_of files) f.id.0 ≡ Some o → o.member.descriptor ≡ f.descriptor
  known_here c f here o e =
      let same : (let x : Owned = record { owner = c; member = here.member } in x) ≡ o = some_is _ o (sym here.numbered ∙ e) in
      ap (λ (x : Owned). x.member.descriptor) (sym same) ∙ ap (λ (x : FieldInfo). x.descriptor) here.same

  class_fields : (c : ℕ) (o : Option ClassInfo) → slice_get (hierarchy_of files) c ≡ o → AllByRecursion IsKnown (option_map_or (λ (i : ClassInfo). i.fields) o [])
  class_fields c None e = tt
  class_fields c (Some k) e = all_from IsKnown k.fields (λ j f at. known_here c f (field_here files c k f e (contains_at k.fields j f at)))

  fields_known : (c : ℕ) → AllByRecursion IsKnown (instance_fields (hierarchy_of files) c)
  fields_known c = all_filter IsKnown _ _ (all_flat_map IsKnown _ (reverse (lineage_of (hierarchy_of files) c)) (λ k. class_fields k (slice_get (hierarchy_of files) k) refl))

  -- ---- new objects

  abbrev IsHeld : FieldId × Value → Type 0
  IsHeld f = IsOfField files f.0.0 f.1

  new_field : FieldInfo → FieldId × Value
  new_field f = (f.id, default_value f.descriptor)

  new_keys : (fs : List FieldInfo) → map (λ (f : FieldId × Value). f.0) (map (λ (f : FieldInfo). let x : FieldId × Value = (f.id, default_value f.descriptor) in x) fs) ≡ map (λ (f : FieldInfo). f.id) fs
  new_keys [] = refl
  new_keys (f ∷ fs) = ap (λ ks. f.id ∷ ks) (new_keys fs)

  new_values : (fs : List FieldInfo) → AllByRecursion IsKnown fs → AllByRecursion IsHeld (map (λ (f : FieldInfo). let x : FieldId × Value = (f.id, default_value f.descriptor) in x) fs)
  new_values [] all = tt
  new_values (f ∷ fs) all = ((λ o e. subst (λ d. IsOfType d (default_value f.descriptor)) (sym (all.0 o e)) (default_fits f.descriptor)), new_values fs all.1)

  pub new_shaped : (c : ℕ) → IsShaped files (new_object files c)
  new_shaped c = (new_keys (instance_fields (hierarchy_of files) c), new_values (instance_fields (hierarchy_of files) c) (fields_known c))

  pub array_shaped : (component : List ℕ) (n : ℕ) → IsShaped files (Array (array_descriptor component) (replicate n (default_value component)))
  array_shaped component n = all_replicate (IsOfType component) n (default_value component) (default_fits component)

  -- ---- fields that are found

  -- an instance field that a class declares is one of each class below
  declared_in : (c d : ℕ) (k : ClassInfo) (f : FieldInfo) → is_subclass (hierarchy_of files) c d ≡ true → slice_get (hierarchy_of files) d ≡ Some k → IsIn k.fields f → f.is_static ≡ false → IsIn (instance_fields (hierarchy_of files) c) f
  declared_in c d k f above at is instance =
      in_filter _ _ f
      (in_flat_map (λ (n : ℕ). option_map_or (λ (i : ClassInfo). i.fields) (slice_get (hierarchy_of files) n) []) (reverse (lineage_of (hierarchy_of files) c)) d f
      (in_reverse (lineage_of (hierarchy_of files) c) d (in_numbers (lineage_of (hierarchy_of files) c) d above))
      (subst (λ (o : Option ClassInfo). IsIn (option_map_or (λ (i : ClassInfo). i.fields) o []) f) (sym at) is))
      (ap not instance)

  key_by : (field : FieldId) (x : FieldId × Value) (fields : List (FieldId × Value)) (b : Bool) → (x.0.0 == field.0) ≡ b → (x.0 ≡ field) ⊎ ((v : Value) × (field_value fields field ≡ Some v) × IsOfField files field.0 v) → IsHeld x
      → (v : Value) × (option_map (λ (f : FieldId × Value). f.1) (cond b (Some x) (find (λ (f : FieldId × Value). f.0.0 == field.0) fields)) ≡ Some v) × IsOfField files field.0 v
  key_by field x fields true e more here = (x.1, refl, subst (λ n. IsOfField files n x.1) (eqb-true x.0.0 field.0 e) here)
  key_by field x fields false e (inl same) here = absurd (let h : false ≡ true = sym e ∙ eq-eqb x.0.0 field.0 (ap (λ (i : FieldId). i.0) same) in cc)
  key_by field x fields false e (inr more) here = more

  value_of_key : (field : FieldId) (fields : List (FieldId × Value)) → IsIn (map (λ (f : FieldId × Value). f.0) fields) field → AllByRecursion IsHeld fields → (v : Value) × (field_value fields field ≡ Some v) × IsOfField files field.0 v
  value_of_key field [] (j, e) all = absurd cc
  value_of_key field (x ∷ fields) (zero, e) all = key_by field x fields (x.0.0 == field.0) refl (inl (some_is x.0 field e)) all.0
  value_of_key field (x ∷ fields) (suc j, e) all = key_by field x fields (x.0.0 == field.0) refl (inr (value_of_key field fields (j, e) all.1)) all.0

  pub field_found : (class : ℕ) (fields : List (FieldId × Value)) (d : ℕ) (k : ClassInfo) (f : FieldInfo) → map (λ (x : FieldId × Value). x.0) fields ≡ map (λ (x : FieldInfo). x.id) (instance_fields (hierarchy_of files) class)
      → AllByRecursion IsHeld fields → is_subclass (hierarchy_of files) class d ≡ true → slice_get (hierarchy_of files) d ≡ Some k → Contains k.fields f → f.is_static ≡ false
      → (v : Value) × (field_value fields f.id ≡ Some v) × IsOfField files f.id.0 v
  field_found class fields d k f keys all above at inside instance =
      value_of_key f.id fields
      (subst (λ ks. IsIn ks f.id) (sym keys) (in_map (λ (x : FieldInfo). x.id) (instance_fields (hierarchy_of files) class) f
      (declared_in class d k f above at (at_index k.fields f inside) instance))) all

  -- ---- fields that are stored into

  put_by : (x : FieldId × Value) (field : FieldId) (v : Value) (b : Bool) → (x.0.0 == field.0) ≡ b → IsHeld x → IsOfField files field.0 v
      → ((let y : FieldId × Value = if b then (x.0, v) else x in y.0) ≡ x.0) × IsHeld (if b then (x.0, v) else x)
  put_by x field v true e old new = (refl, subst (λ n. IsOfField files n v) (sym (eqb-true x.0.0 field.0 e)) new)
  put_by x field v false e old new = (refl, old)

  put_keys : (fields : List (FieldId × Value)) (field : FieldId) (v : Value) → AllByRecursion IsHeld fields → IsOfField files field.0 v
      → (map (λ (x : FieldId × Value). x.0) (with_field fields field v) ≡ map (λ (x : FieldId × Value). x.0) fields) × AllByRecursion IsHeld (with_field fields field v)
  put_keys [] field v all new = (refl, tt)
  put_keys (x ∷ fields) field v all new =
      let here = put_by x field v (x.0.0 == field.0) refl all.0 new in let rest = put_keys fields field v all.1 new in
      let head = here.0 in let tail = rest.0 in (cc, (here.1, rest.1))

  pub put_shaped : (class : ℕ) (fields : List (FieldId × Value)) (field : FieldId) (v : Value) → IsShaped files (Instance (class_id class) fields) → IsOfField files field.0 v → IsShaped files (Instance (class_id class) (with_field fields field v))
  put_shaped class fields field v shaped new = let put = put_keys fields field v shaped.1 new in (put.0 ∙ shaped.0, put.1)

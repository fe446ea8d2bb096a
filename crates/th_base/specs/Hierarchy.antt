-- The rules of the class hierarchy over a list of classes: what stands above a class, which types
-- are subtypes, and which member a look-up finds. A class is named by its place in the list.
--
-- Each recursion goes up by direct supertypes and takes at most as many steps as there are
-- classes. Where no class stands above itself that is enough: `laws` has the equations without it.
use Rattle.std.specs.Prelude.{ℕ, ◌≡◌, ◌<◌, ◌+◌, true, false, ◌==◌, ◌&&◌, zero, suc, Bool, not, List, [], ◌∷◌, ◌++◌, length, map, find, Option, None, Some, slice_get, Contains, codes, if◌then◌else◌}
use Rattle.std.specs.List.{flat_map, list_any}
use Rattle.std.specs.Option.{option_or, option_map, option_and_then, option_map_or, option_to_list}
use Rattle.std.specs.Str.{bytes_eq}
use Rattle.th_base.specs.declared.number.FieldId.{FieldId}
use Rattle.th_base.specs.declared.number.MethodId.{MethodId}
use Rattle.th_base.specs.declared.class.ClassInfo.{ClassInfo}
use Rattle.th_base.specs.declared.class.FieldInfo.{FieldInfo}
use Rattle.th_base.specs.declared.class.MethodInfo.{MethodInfo}

-- the direct superclass (Java language specification 8.1.4); none where there is no such class
abbrev pub superclass_of : List ClassInfo → ℕ → Option ℕ
superclass_of classes c = option_and_then (λ k. option_map (λ s. s.0) k.super_id) (slice_get classes c)

-- the direct superinterfaces in declared order (Java language specification 8.1.5, 9.1.3)
abbrev pub interfaces_of : List ClassInfo → ℕ → List ℕ
interfaces_of classes c = option_map_or (λ k. map (λ i. i.0) k.interfaces) (slice_get classes c) []

-- the direct supertypes: the superinterfaces, then the superclass (Java language specification 4.10.2)
abbrev pub direct_supertypes : List ClassInfo → ℕ → List ℕ
direct_supertypes classes c = interfaces_of classes c ++ option_to_list (superclass_of classes c)

-- a class stands above each class of which it is a direct supertype, and above all that those stand above
pub data StandsAbove (classes : List ClassInfo) (above : ℕ) : ℕ → Type 0 where
  directly : {c : ℕ} → Contains (direct_supertypes classes c) above → StandsAbove classes above c
  higher : {c d : ℕ} → Contains (direct_supertypes classes c) d → StandsAbove classes above d → StandsAbove classes above c

-- each direct supertype is a class of the list, and no class stands above itself (Java language specification 8.1.4, 9.1.3)
pub record IsAcyclic (classes : List ClassInfo) : Type 0 where
  pub in_range : (c s : ℕ) → Contains (direct_supertypes classes c) s → s < length classes
  pub not_above_itself : (c : ℕ) → StandsAbove classes c c → ⊥

-- the class and its superclasses, upwards, by at most this many steps
abbrev pub lineage_within : List ClassInfo → ℕ → ℕ → List ℕ
lineage_within classes zero c = []
lineage_within classes (suc n) c = c ∷ option_map_or (lineage_within classes n) (superclass_of classes c) []

-- the class and its superclasses, upwards
abbrev pub lineage_of : List ClassInfo → ℕ → List ℕ
lineage_of classes c = lineage_within classes (length classes) c

-- the class, then all that stands above it, by at most this many steps
abbrev pub supertypes_within : List ClassInfo → ℕ → ℕ → List ℕ
supertypes_within classes zero c = []
supertypes_within classes (suc n) c = c ∷ flat_map (supertypes_within classes n) (direct_supertypes classes c)

-- the class, then each direct supertype in order with all that stands above it. A class that is
-- reached in several ways comes as often; the first time counts in a look-up.
abbrev pub supertypes_of : List ClassInfo → ℕ → List ℕ
supertypes_of classes c = supertypes_within classes (length classes) c

-- the superinterfaces of a class, by at most this many steps
abbrev pub superinterfaces_within : List ClassInfo → ℕ → ℕ → List ℕ
superinterfaces_within classes zero c = []
superinterfaces_within classes (suc n) c =
    flat_map (λ i. i ∷ superinterfaces_within classes n i) (interfaces_of classes c)
    ++ option_map_or (superinterfaces_within classes n) (superclass_of classes c) []

-- the superinterfaces of a class: each direct one, in declared order, before its own, and then those
-- of the superclass (Java language specification 8.1.5; the order is this project's own)
abbrev pub superinterfaces_of : List ClassInfo → ℕ → List ℕ
superinterfaces_of classes c = superinterfaces_within classes (length classes) c

-- the first answer along a list
abbrev pub first_some : {X Y : Type 0} → (X → Option Y) → List X → Option Y
first_some f [] = None
first_some f (x ∷ xs) = option_or (f x) (first_some f xs)

-- a class is a subclass of itself and of each superclass (Java language specification 8.1.4)
abbrev pub is_subclass : List ClassInfo → ℕ → ℕ → Bool
is_subclass classes a b = list_any (λ k. k == b) (lineage_of classes a)

-- the field of this name and descriptor that a class declares
abbrev pub declared_field : List ClassInfo → List ℕ → List ℕ → ℕ → Option FieldInfo
declared_field classes name descriptor c =
    option_and_then (λ k. find (λ f. bytes_eq f.name name && bytes_eq f.descriptor descriptor) k.fields) (slice_get classes c)

-- along a list of classes, the first that declares the field, and the field
abbrev pub first_field : List ClassInfo → List ℕ → List ℕ → List ℕ → Option (ℕ × FieldInfo)
first_field classes name descriptor order =
    first_some {Y = ℕ × FieldInfo} (λ k. option_map (λ f. (k, f)) (declared_field classes name descriptor k)) order

-- field resolution (Java specification 5.4.3.2): the class, then its superinterfaces and their own,
-- then its superclass in the same way; the class that declares the field, and the field
abbrev pub resolved_field : List ClassInfo → ℕ → List ℕ → List ℕ → Option (ℕ × FieldInfo)
resolved_field classes c name descriptor = first_field classes name descriptor (supertypes_of classes c)

abbrev pub field_number : Option (ℕ × FieldInfo) → Option FieldId
field_number found = option_map (λ f. f.1.id) found

abbrev pub field_of : List ClassInfo → ℕ → List ℕ → List ℕ → Option FieldId
field_of classes c name descriptor = field_number (resolved_field classes c name descriptor)

-- the method of this name and descriptor that a class declares
abbrev pub declared_method : List ClassInfo → List ℕ → List ℕ → ℕ → Option MethodInfo
declared_method classes name descriptor c =
    option_and_then (λ k. find (λ m. bytes_eq m.name name && bytes_eq m.descriptor descriptor) k.methods) (slice_get classes c)

-- along a list of classes, the first that declares the method, and the method
abbrev pub first_method : List ClassInfo → List ℕ → List ℕ → List ℕ → Option (ℕ × MethodInfo)
first_method classes name descriptor order =
    first_some {Y = ℕ × MethodInfo} (λ k. option_map (λ m. (k, m)) (declared_method classes name descriptor k)) order

-- where a method is looked for: the class and its superclasses, then its superinterfaces. An instance
-- initialisation method is looked for in the class alone (Java specification 5.4.3.3, 2.9).
abbrev pub method_order : List ClassInfo → ℕ → List ℕ → List ℕ
method_order classes c name =
    if bytes_eq name (codes "<init>") then c ∷ [] else lineage_of classes c ++ superinterfaces_of classes c

-- method resolution (Java specification 5.4.3.3, 5.4.3.4): the class that declares the method, and the method
abbrev pub resolved_method : List ClassInfo → ℕ → List ℕ → List ℕ → Option (ℕ × MethodInfo)
resolved_method classes c name descriptor = first_method classes name descriptor (method_order classes c name)

abbrev pub method_number : Option (ℕ × MethodInfo) → Option MethodId
method_number found = option_map (λ m. m.1.id) found

abbrev pub method_of : List ClassInfo → ℕ → List ℕ → List ℕ → Option MethodId
method_of classes c name descriptor = method_number (resolved_method classes c name descriptor)

-- the instance method of this name and descriptor, not private, that a class declares
abbrev pub overriding_method : List ClassInfo → List ℕ → List ℕ → ℕ → Option MethodInfo
overriding_method classes name descriptor c =
    option_and_then
    (λ k. find (λ m. (bytes_eq m.name name && bytes_eq m.descriptor descriptor) && (not m.is_static && not m.is_private)) k.methods)
    (slice_get classes c)

-- along a list of classes, the first that declares such a method, abstract or not, and the method
abbrev pub overriding_along : List ClassInfo → List ℕ → List ℕ → List ℕ → Option (ℕ × MethodInfo)
overriding_along classes name descriptor order =
    first_some {Y = ℕ × MethodInfo} (λ k. option_map (λ m. (k, m)) (overriding_method classes name descriptor k)) order

-- the first such method from the receiver's class upwards, and the class that declares it
-- (Java specification 6.5, invokevirtual and invokeinterface)
abbrev pub first_overriding : List ClassInfo → ℕ → List ℕ → List ℕ → Option (ℕ × MethodInfo)
first_overriding classes c name descriptor = overriding_along classes name descriptor (lineage_of classes c)

-- the method that runs where this one comes first: none where it is abstract
abbrev pub concrete_number : Option (ℕ × MethodInfo) → Option MethodId
concrete_number found = option_and_then (λ m. if m.1.is_abstract then None else Some m.1.id) found

-- the method that a call on a receiver of this class runs; none where there is none or an abstract one
abbrev pub selected_method : List ClassInfo → ℕ → List ℕ → List ℕ → Option MethodId
selected_method classes c name descriptor = concrete_number (first_overriding classes c name descriptor)

-- a method that a call on a receiver of class c runs: an instance method of this name and descriptor,
-- neither private nor abstract, that the class or a superclass declares
pub record IsSelected (classes : List ClassInfo) (c : ℕ) (name descriptor : List ℕ) (id : MethodId) : Type 0 where
  pub class : ℕ
  pub info : ClassInfo
  pub method : MethodInfo
  pub above : is_subclass classes c class ≡ true
  pub stands : slice_get classes class ≡ Some info
  pub declared : Contains info.methods method
  pub name_is : method.name ≡ name
  pub descriptor_is : method.descriptor ≡ descriptor
  pub instance : method.is_static ≡ false
  pub open_to_subclasses : method.is_private ≡ false
  pub concrete : method.is_abstract ≡ false
  pub number : method.id ≡ id

-- the first member of this number, class by class from class c on, and the class that declares it
abbrev pub numbered_from : {X : Type 0} → (ClassInfo → List X) → (X → ℕ) → ℕ → List ClassInfo → ℕ → Option (ℕ × X)
numbered_from members number c [] n = None
numbered_from members number c (k ∷ ks) n =
    option_or (option_map (λ x. (c, x)) (find (λ x. number x == n) (members k))) (numbered_from members number (c + 1) ks n)

-- the first field of this number, and the class that declares it
abbrev pub numbered_field : List ClassInfo → ℕ → Option (ℕ × FieldInfo)
numbered_field classes n = numbered_from (λ k. k.fields) (λ f. f.id.0) 0 classes n

-- the first method of this number, and the class that declares it
abbrev pub numbered_method : List ClassInfo → ℕ → Option (ℕ × MethodInfo)
numbered_method classes n = numbered_from (λ k. k.methods) (λ m. m.id.0) 0 classes n

-- a field of this name and descriptor, declared by class c or by one that stands above it
pub record IsFieldAbove (classes : List ClassInfo) (c : ℕ) (name descriptor : List ℕ) (found : ℕ × FieldInfo) : Type 0 where
  pub info : ClassInfo
  pub above : list_any (λ k. k == found.0) (supertypes_of classes c) ≡ true
  pub stands : slice_get classes found.0 ≡ Some info
  pub declared : Contains info.fields found.1
  pub name_is : found.1.name ≡ name
  pub descriptor_is : found.1.descriptor ≡ descriptor

-- a method of this name and descriptor, declared by class c or by one that stands above it
pub record IsMethodAbove (classes : List ClassInfo) (c : ℕ) (name descriptor : List ℕ) (found : ℕ × MethodInfo) : Type 0 where
  pub info : ClassInfo
  pub above : list_any (λ k. k == found.0) (supertypes_of classes c) ≡ true
  pub stands : slice_get classes found.0 ≡ Some info
  pub declared : Contains info.methods found.1
  pub name_is : found.1.name ≡ name
  pub descriptor_is : found.1.descriptor ≡ descriptor

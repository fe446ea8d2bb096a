-- The built-in classes, which stand before the classes of the files. They are this project's own.
use Rattle.std.specs.Prelude.{ℕ, ◌+◌, Bool, true, false, List, [], ◌∷◌, map, codes, Option, None, Some}
use Rattle.std.specs.List.{list_any}
use Rattle.std.specs.Option.{option_map}
use Rattle.std.specs.Str.{bytes_eq}
use Rattle.th_base.specs.declared.built_in.TheConstants.{OBJECT, STRING, CLONEABLE, SERIALIZABLE, BUNDLE, ACTIVITY, CONSTRUCTOR}
use Rattle.th_base.specs.declared.handler.TheConstants.{TAKES_NOTHING}
use Rattle.th_base.specs.declared.number.ClassId.{ClassId}
use Rattle.th_base.specs.declared.class.ClassInfo.{ClassInfo}
use Rattle.th_base.specs.declared.class.MethodInfo.{MethodInfo}
use Rattle.th_base.specs.Handlers.{Handler, handlers}

-- a method with code, neither static nor private, of this number
abbrev pub built_in_method : ℕ → List ℕ → List ℕ → MethodInfo
built_in_method number name descriptor =
    record { id = record { 0 = number }; name = name; descriptor = descriptor; is_static = false; is_private = false; is_abstract = false }

-- the constructor without parameters
abbrev pub constructor_info : ℕ → MethodInfo
constructor_info number = built_in_method number CONSTRUCTOR.now TAKES_NOTHING.now

-- methods for handlers, numbered from here on
abbrev pub handler_infos : ℕ → List Handler → List MethodInfo
handler_infos number [] = []
handler_infos number (h ∷ hs) = built_in_method number h.name h.descriptor ∷ handler_infos (number + 1) hs

abbrev pub class_number : ℕ → ClassId
class_number number = record { 0 = number }

-- a class without fields
abbrev pub built_in_class : List ℕ → Bool → Option ℕ → List ℕ → List MethodInfo → ClassInfo
built_in_class name is_abstract super interfaces methods = record {
  name = name;
  super_id = option_map class_number super;
  interfaces = map class_number interfaces;
  is_interface = false;
  is_abstract = is_abstract;
  fields = [];
  methods = methods;
}

-- an interface without members
abbrev pub built_in_interface : List ℕ → ClassInfo
built_in_interface name = record (built_in_class name true (Some 0) [] []) { is_interface = true }

-- the built-in classes, in order. Each names others by their places; methods are numbered in order.
abbrev pub built_in_classes : List ClassInfo
built_in_classes =
    built_in_class OBJECT.now false None [] (constructor_info 0 ∷ [])
    ∷ built_in_class STRING.now false (Some 0) (7 ∷ []) (constructor_info 1 ∷ [])
    ∷ built_in_class (codes "java/lang/Throwable") false (Some 0) (7 ∷ []) (constructor_info 2 ∷ [])
    ∷ built_in_class (codes "java/lang/Exception") false (Some 2) [] (constructor_info 3 ∷ [])
    ∷ built_in_class (codes "java/lang/RuntimeException") false (Some 3) [] (constructor_info 4 ∷ [])
    ∷ built_in_class (codes "java/lang/Error") false (Some 2) [] (constructor_info 5 ∷ [])
    ∷ built_in_interface CLONEABLE.now
    ∷ built_in_interface SERIALIZABLE.now
    ∷ built_in_class BUNDLE.now false (Some 0) [] (constructor_info 6 ∷ [])
    ∷ built_in_class (codes "android/content/Context") true (Some 0) [] (constructor_info 7 ∷ [])
    ∷ built_in_class ACTIVITY.now false (Some 9) [] (constructor_info 8 ∷ handler_infos 9 handlers)
    ∷ []

-- the names of the built-in classes, in order
abbrev pub built_in_names : List (List ℕ)
built_in_names = map (λ k. k.name) built_in_classes

abbrev pub is_built_in : List ℕ → Bool
is_built_in name = list_any (bytes_eq name) built_in_names

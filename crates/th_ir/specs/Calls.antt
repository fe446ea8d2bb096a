-- Which methods a call and an initialisation may take.
use Rattle.std.specs.Prelude.{ℕ, ◌+◌, ◌≡◌, true, List, [], ◌∷◌, ◌++◌, map, codes, Option, None, Some, slice_get, if◌then◌else◌}
use Rattle.std.specs.Option.{option_and_then, option_map}
use Rattle.th_base.specs.declared.class.ClassInfo.{ClassInfo}
use Rattle.th_base.specs.declared.class.MethodInfo.{MethodInfo}
use Rattle.th_base.specs.Hierarchy.{is_subclass, supertypes_of, declared_method, selected_method}
use Rattle.th_base.specs.IdSet.{has}
use Rattle.th_ir.specs.declared.program.RegProgram.{RegProgram}
use Rattle.th_ir.specs.declared.stmt.CallKind.{CallKind}
use Rattle.th_ir.specs.declared.stmt.CallKind.TheVariants.{Virtual, Special, Static}
use Rattle.th_ir.specs.Sites.{site_class}

-- a method with the class that declares it
abbrev pub owned_methods_from : ℕ → List ClassInfo → List (ℕ × MethodInfo)
owned_methods_from c [] = []
owned_methods_from c (k ∷ ks) = map (λ m. (c, m)) k.methods ++ owned_methods_from (c + 1) ks

-- the methods of all classes in order: a method's number is its place
abbrev pub owned_methods : List ClassInfo → List (ℕ × MethodInfo)
owned_methods h = owned_methods_from 0 h

abbrev pub declared_at : List ClassInfo → ℕ → Option (ℕ × MethodInfo)
declared_at h m = slice_get (owned_methods h) m

-- the method itself, where it has code
abbrev pub with_code : ℕ → MethodInfo → Option ℕ
with_code m i = if i.is_abstract then None else Some m

-- the method that a virtual call of this one takes on a receiver of this class: a private method is
-- itself taken, else the receiver's class selects (Java specification 6.5, invokevirtual, invokeinterface)
abbrev pub virtual_target : List ClassInfo → ℕ → MethodInfo → ℕ → Option ℕ
virtual_target h m i c = if i.is_private then with_code m i else option_map (λ id. id.0) (selected_method h c i.name i.descriptor)

-- the method that a call takes on a receiver of this class, by its kind
abbrev pub target_by : List ClassInfo → CallKind → ℕ → MethodInfo → ℕ → Option ℕ
target_by h Virtual m i c = virtual_target h m i c
target_by h (Special t) m i c = option_map (λ id. id.0) t
target_by h Static m i c = None

-- the same; the receiver's class must be a subtype of the one that declares the resolved method
abbrev pub class_target : List ClassInfo → CallKind → ℕ → ℕ → Option ℕ
class_target h kind m c =
    option_and_then (λ d. if has (supertypes_of h c) d.0 then target_by h kind m d.1 c else None) (declared_at h m)

-- the method that a call takes on a receiver of a site; none on arrays
abbrev pub site_target : List ClassInfo → RegProgram → CallKind → ℕ → ℕ → Option ℕ
site_target h p kind m s = option_and_then (class_target h kind m) (site_class h p s)

-- the method that a static call takes: the resolved one, where it has code
abbrev pub static_target : List ClassInfo → ℕ → Option ℕ
static_target h m = option_and_then (λ d. with_code m d.1) (declared_at h m)

-- a call may take this method, on a receiver of some site of the program
abbrev pub IsTarget : List ClassInfo → RegProgram → CallKind → ℕ → ℕ → Type 0
IsTarget h p Virtual m to = (s : ℕ) × (site_target h p Virtual m s ≡ Some to)
IsTarget h p (Special t) m to = (s : ℕ) × (site_target h p (Special t) m s ≡ Some to)
IsTarget h p Static m to = static_target h m ≡ Some to

-- the method initialises the class or a superclass of it (Java specification 5.5, 2.9)
pub record IsInitialiser (h : List ClassInfo) (c m : ℕ) : Type 0 where
  pub class : ℕ
  pub info : MethodInfo
  pub above : is_subclass h c class ≡ true
  pub declared : declared_method h (codes "<clinit>") (codes "()V") class ≡ Some info
  pub number : info.id.0 ≡ m

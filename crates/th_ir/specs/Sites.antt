-- Allocation sites: what is made there, and where.
use Rattle.std.specs.Prelude.{ℕ, ◌≡◌, ◌==◌, ◌||◌, Bool, true, false, List, [], ◌∷◌, drop, Option, None, Some, if◌then◌else◌}
use Rattle.std.specs.Option.{option_and_then, option_map_or}
use Rattle.std.specs.Str.{byte}
use Rattle.th_base.specs.declared.class.ClassInfo.{ClassInfo}
use Rattle.th_base.specs.declared.operation.Elem.{Elem}
use Rattle.th_base.specs.declared.operation.Elem.TheVariants.{Int, Ref, Byte, Char, Short}
use Rattle.th_base.specs.ValueKinds.{is_reference}
use Rattle.th_base.specs.Subtype.{class_named, is_subtype, is_type_subtype, named_type, described_type}
use Rattle.th_ir.specs.declared.program.RegProgram.{RegProgram}
use Rattle.th_ir.specs.declared.program.Place.{Place}
use Rattle.th_ir.specs.declared.program.Place.TheVariants.{Str, Launch, Event, Code}
use Rattle.th_ir.specs.Program.{site_at}

-- ---- what is made

-- the text is an array descriptor, and not the name of a class (Java specification 4.4.1)
abbrev pub is_array_text : List ℕ → Bool
is_array_text [] = false
is_array_text (x ∷ xs) = x == byte "["

-- what the elements of an array of these components are, as the array instructions see it; none for
-- longs (Java specification 4.3.2, 2.11.1)
abbrev pub component_kind : List ℕ → Option Elem
component_kind [] = None
component_kind (x ∷ xs) =
    if is_reference (x ∷ xs) then Some Ref
    else if x == byte "I" then Some Int
    else if x == byte "B" || x == byte "Z" then Some Byte
    else if x == byte "C" then Some Char
    else if x == byte "S" then Some Short
    else None

-- the class of the objects of a site; none for arrays
abbrev pub site_class : List ClassInfo → RegProgram → ℕ → Option ℕ
site_class h p s = option_and_then (λ site. if is_array_text site.class then None else class_named h site.class) (site_at p s)

abbrev pub is_array_site : RegProgram → ℕ → Bool
is_array_site p s = option_map_or (λ site. is_array_text site.class) (site_at p s) false

-- what the elements of the arrays of a site are
abbrev pub elem_kind : RegProgram → ℕ → Option Elem
elem_kind p s = option_and_then (λ site. if is_array_text site.class then component_kind (drop 1 site.class) else None) (site_at p s)

abbrev pub is_ref_elem : Option Elem → Bool
is_ref_elem (Some Ref) = true
is_ref_elem (Some Int) = false
is_ref_elem (Some Byte) = false
is_ref_elem (Some Char) = false
is_ref_elem (Some Short) = false
is_ref_elem None = false

-- the site makes arrays of references
abbrev pub is_ref_array : RegProgram → ℕ → Bool
is_ref_array p s = is_ref_elem (elem_kind p s)

-- ---- subtypes

-- what a site makes is of a subtype of this class or array type
abbrev pub site_is : List ClassInfo → RegProgram → List ℕ → ℕ → Bool
site_is h p text s = option_map_or (λ site. is_subtype h site.class text) (site_at p s) false

-- what the second site makes may stand in the arrays of the first (Java specification 6.5, aastore)
abbrev pub can_store : List ClassInfo → RegProgram → ℕ → ℕ → Bool
can_store h p array s =
    option_map_or
    (λ a. option_map_or (λ site. is_type_subtype h (named_type site.class) (described_type (drop 1 a.class))) (site_at p s) false)
    (site_at p array)
    false

-- ---- where it is made

abbrev pub is_string_place : Place → Bool
is_string_place (Str text) = true
is_string_place (Launch c) = false
is_string_place Event = false
is_string_place (Code m offset) = false

-- the site is that of a String constant
abbrev pub is_string_site : RegProgram → ℕ → Bool
is_string_site p s = option_map_or (λ site. is_string_place site.place) (site_at p s) false

abbrev pub launched_at : Place → Option ℕ
launched_at (Str text) = None
launched_at (Launch c) = Some c.0
launched_at Event = None
launched_at (Code m offset) = None

-- the class whose launches make the objects of the site
abbrev pub launch_class : RegProgram → ℕ → Option ℕ
launch_class p s = option_and_then (λ site. launched_at site.place) (site_at p s)

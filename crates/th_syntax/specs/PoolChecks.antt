-- What the indices of the constant pool lead to, and its entries that lead to a wrong one
-- (Java specification 4.4).
use Rattle.std.specs.Prelude.{ℕ, ◌+◌, ◌==◌, ◌&&◌, nat_le, List, [], ◌∷◌, Bool, true, false, Option, Some, None, ℤ, slice_get, if◌then◌else◌}
use Rattle.std.specs.List.{filter_map}
use Rattle.std.specs.Option.{option_and_then, option_map, option_map_or, option_flatten}
use Rattle.th_syntax.specs.declared.cause.TheConstants as cause
use Rattle.th_syntax.specs.declared.tag.TheConstants as tag
use Rattle.th_syntax.specs.declared.instr.MemberRef.{MemberRef}
use Rattle.th_syntax.specs.declared.refusal.Flaw.{Flaw}
use Rattle.th_syntax.specs.Flaws.{flaw_at}
use Rattle.th_syntax.specs.Forms.{Placed}
use Rattle.th_syntax.specs.ClassBytes.{Entry, utf8, integer, long, class, string, field, method, interface_method, name_and_type, tag_of, Pool}

-- the entry at an index, where there is one
abbrev pub entry_of : Pool → ℕ → Option Entry
entry_of pool index = option_map (λ e. e.value) (option_flatten (slice_get pool index))

-- the tag of the entry at an index
abbrev pub tag_at : Pool → ℕ → Option ℕ
tag_at pool index = option_map tag_of (entry_of pool index)

-- whether the index leads to an entry of this tag
abbrev pub has_tag : Pool → ℕ → ℕ → Bool
has_tag pool index expected = option_map_or (λ found. found == expected) (tag_at pool index) false

-- ---- values of entries

abbrev pub utf8_in : Entry → Option (List ℕ)
utf8_in (utf8 bytes) = Some bytes
utf8_in other = None

-- the bytes of a Utf8 entry (Java specification 4.4.7)
abbrev pub utf8_of : Pool → ℕ → Option (List ℕ)
utf8_of pool index = option_and_then utf8_in (entry_of pool index)

abbrev pub integer_in : Entry → Option ℤ
integer_in (integer value) = Some value
integer_in other = None

-- the value of an Integer entry (Java specification 4.4.4)
abbrev pub integer_of : Pool → ℕ → Option ℤ
integer_of pool index = option_and_then integer_in (entry_of pool index)

abbrev pub long_in : Entry → Option ℤ
long_in (long value) = Some value
long_in other = None

-- the value of a Long entry (Java specification 4.4.5)
abbrev pub long_of : Pool → ℕ → Option ℤ
long_of pool index = option_and_then long_in (entry_of pool index)

abbrev pub class_in : Pool → Entry → Option (List ℕ)
class_in pool (class name) = utf8_of pool name
class_in pool other = None

-- the name of a Class entry (Java specification 4.4.1)
abbrev pub class_of : Pool → ℕ → Option (List ℕ)
class_of pool index = option_and_then (class_in pool) (entry_of pool index)

abbrev pub string_in : Pool → Entry → Option (List ℕ)
string_in pool (string text) = utf8_of pool text
string_in pool other = None

-- the text of a String entry (Java specification 4.4.3)
abbrev pub string_of : Pool → ℕ → Option (List ℕ)
string_of pool index = option_and_then (string_in pool) (entry_of pool index)

-- the name and the descriptor of a NameAndType entry (Java specification 4.4.6)
abbrev pub names_in : Pool → Entry → Option (List ℕ × List ℕ)
names_in pool (name_and_type name descriptor) =
    option_and_then (λ n. option_map (λ d. (n, d)) (utf8_of pool descriptor)) (utf8_of pool name)
names_in pool other = None

-- the member of a class that a NameAndType entry names
abbrev pub member_by : Pool → ℕ → ℕ → Option MemberRef
member_by pool owner named =
    option_and_then (λ o. option_map (λ n. record { owner = o; name = n.0; descriptor = n.1 })
    (option_and_then (names_in pool) (entry_of pool named))) (class_of pool owner)

abbrev pub member_in : Pool → Entry → Option MemberRef
member_in pool (field owner named) = member_by pool owner named
member_in pool (method owner named) = member_by pool owner named
member_in pool (interface_method owner named) = member_by pool owner named
member_in pool other = None

-- the member that a Fieldref, a Methodref or an InterfaceMethodref entry leads to (Java specification 4.4.2)
abbrev pub member_of : Pool → ℕ → Option MemberRef
member_of pool index = option_and_then (member_in pool) (entry_of pool index)

-- the tag of such an entry, and its member
abbrev pub tagged_member_of : Pool → ℕ → Option (ℕ × MemberRef)
tagged_member_of pool index = option_and_then (λ found. option_map (λ m. (found, m)) (member_of pool index)) (tag_at pool index)

-- ---- the check of the entries

-- Each index of a Class, String, Fieldref, Methodref, InterfaceMethodref and NameAndType entry leads
-- to an entry of the right tag. The other entries are not looked into.
abbrev pub refers_well : Pool → Entry → Bool
refers_well pool (class name) = has_tag pool name tag.UTF8
refers_well pool (string text) = has_tag pool text tag.UTF8
refers_well pool (field owner named) = has_tag pool owner tag.CLASS && has_tag pool named tag.NAME_AND_TYPE
refers_well pool (method owner named) = has_tag pool owner tag.CLASS && has_tag pool named tag.NAME_AND_TYPE
refers_well pool (interface_method owner named) = has_tag pool owner tag.CLASS && has_tag pool named tag.NAME_AND_TYPE
refers_well pool (name_and_type name descriptor) = has_tag pool name tag.UTF8 && has_tag pool descriptor tag.UTF8
refers_well pool other = true

abbrev pub entry_flaw : Pool → Option (Placed Entry) → Option Flaw
entry_flaw pool None = None
entry_flaw pool (Some e) = if refers_well pool e.value then None else Some (flaw_at cause.POOL e.at)

-- an entry that refers to an entry of a wrong tag is refused at its own tag
unfoldable pub entry_flaws : Pool → List Flaw
entry_flaws pool = filter_map (entry_flaw pool) pool

-- Whether the entries stand one behind the other, the first of them at this offset or later.
abbrev pub entries_ascend : ℕ → Pool → Bool
entries_ascend at [] = true
entries_ascend at (None ∷ slots) = entries_ascend at slots
entries_ascend at (Some e ∷ slots) = nat_le at e.at && entries_ascend (e.at + 1) slots

-- Private to the hierarchy: the index by which a class finds its members, and what holds of it.
use Rattle.std.specs.Prelude.{ℕ, ◌≡◌, ◌+◌, Bool, true, not, ◌&&◌, List, [], ◌∷◌, filter, if◌then◌else◌}
use Rattle.std.specs.List.Sorted.{IsSortedByKey}
use Rattle.std.specs.Ordering.{nat_cmp, ordering_then}
use Rattle.std.specs.declared.cmp.Ordering.{Ordering}
use Rattle.std.specs.Cmp.Lexicographic.{slice_cmp}
use Rattle.std.specs.Str.{bytes_eq}
use Rattle.th_base.specs.declared.class.ClassInfo.{ClassInfo}
use Rattle.th_base.specs.declared.class.FieldInfo.{FieldInfo}
use Rattle.th_base.specs.declared.class.MethodInfo.{MethodInfo}
use Rattle.th_base.specs.declared.members.Members.{Members}
use Rattle.th_base.specs.declared.index.Entry.{Entry}

-- the order of names and descriptors, byte by byte: of two equal names, that of the descriptors
abbrev pub key_cmp : List ℕ × List ℕ → List ℕ × List ℕ → Ordering
key_cmp a b = ordering_then (slice_cmp nat_cmp a.0 b.0) (slice_cmp nat_cmp a.1 b.1)

-- the entry of a member at a place
abbrev pub entry_of : List ℕ → List ℕ → ℕ → Entry
entry_of name descriptor place = record { name = name; descriptor = descriptor; place = place }

-- an entry's name and descriptor
abbrev pub key_of : Entry → List ℕ × List ℕ
key_of e = (e.name, e.descriptor)

-- whether an entry is of this name and descriptor
abbrev pub is_of : List ℕ → List ℕ → Entry → Bool
is_of name descriptor e = bytes_eq e.name name && bytes_eq e.descriptor descriptor

-- the entries of the members that pass a test, in order; the first member has this place
abbrev pub entries_from : {X : Type 0} → (X → Bool) → (X → List ℕ) → (X → List ℕ) → ℕ → List X → List Entry
entries_from keeps name descriptor place [] = []
entries_from keeps name descriptor place (x ∷ xs) =
    let rest = entries_from keeps name descriptor (place + 1) xs in
    if keeps x then entry_of (name x) (descriptor x) place ∷ rest else rest

abbrev pub field_entries : List FieldInfo → List Entry
field_entries fields = entries_from (λ f. true) (λ f. f.name) (λ f. f.descriptor) 0 fields

abbrev pub method_entries : List MethodInfo → List Entry
method_entries methods = entries_from (λ m. true) (λ m. m.name) (λ m. m.descriptor) 0 methods

-- those of the instance methods that aren't private
abbrev pub overriding_entries : List MethodInfo → List Entry
overriding_entries methods = entries_from (λ m. not m.is_static && not m.is_private) (λ m. m.name) (λ m. m.descriptor) 0 methods

-- the entries in the order of names and descriptors; those of one name and descriptor stand as they stood
pub record IsIndex (entries sorted : List Entry) : Type 0 where
  pub ascending : IsSortedByKey key_of key_cmp sorted
  pub same : (name descriptor : List ℕ) → filter (is_of name descriptor) sorted ≡ filter (is_of name descriptor) entries

-- the indexes of a class's members
pub record IsIndexed (k : ClassInfo) (m : Members) : Type 0 where
  pub fields : IsIndex (field_entries k.fields) m.fields.entries.items
  pub methods : IsIndex (method_entries k.methods) m.methods.entries.items
  pub overriding : IsIndex (overriding_entries k.methods) m.overriding.entries.items

-- those of all classes, in order
abbrev pub AreIndexed : List ClassInfo → List Members → Type 0
AreIndexed [] [] = Unit {0}
AreIndexed [] (m ∷ ms) = ⊥
AreIndexed (k ∷ ks) [] = ⊥
AreIndexed (k ∷ ks) (m ∷ ms) = IsIndexed k m × AreIndexed ks ms

-- What a store of files has, and what a call reads of it.
use Rattle.std.specs.Prelude.{ℕ, ◌≡◌, ◌<◌, ◌≤◌, List, [], ◌∷◌, length, take, drop, Option, None, Some, IfSome, slice_get, if◌then◌else◌}
use Rattle.std.specs.Option.{option_map, option_and_then}
use Rattle.std.specs.Str.{bytes_eq}

-- a name with its bytes
abbrev pub NamedFile : Type 0
NamedFile = List ℕ × List ℕ

-- the bytes of the first file of a name
abbrev pub content : List NamedFile → List ℕ → Option (List ℕ)
content [] name = None
content (file ∷ files) name = if bytes_eq file.0 name then Some file.1 else content files name

-- the store is told, and has no file of the name
abbrev pub Lacks : Option (List NamedFile) → List ℕ → Type 0
Lacks None name = ⊥
Lacks (Some files) name = content files name ≡ None

-- the front of a buffer, n long, is what stands from an offset on, and it is empty only at the end
pub record IsPiece (bytes : List ℕ) (offset : ℕ) (buf : List ℕ) (n : ℕ) : Type 0 where
  pub within : n ≤ length buf
  pub piece : take n buf ≡ take n (drop offset bytes)
  pub end : n ≡ 0 → 0 < length buf → length bytes ≤ offset

-- what a read of n bytes says of the file, where the store is told and has it
abbrev pub Reads : Option (List NamedFile) → List ℕ → ℕ → List ℕ → ℕ → Type 0
Reads None name offset buf n = n ≤ length buf
Reads (Some files) name offset buf n = IfSome (content files name) (λ bytes. IsPiece bytes offset buf n) × (n ≤ length buf)

-- the name of the file at a place
abbrev pub name_at : List NamedFile → Option ℕ → Option (List ℕ)
name_at files place = option_and_then (λ i. option_map (λ file. file.0) (slice_get files i)) place

-- the first file of a name stands at this place
pub record IsPlace (files : List NamedFile) (name : List ℕ) (place : ℕ) : Type 0 where
  pub within : place < length files
  pub named : name_at files (Some place) ≡ Some name
  pub holds : content files name ≡ option_map (λ file. file.1) (slice_get files place)

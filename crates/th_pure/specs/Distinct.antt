-- Facts without repeats, found by their keys.
use Rattle.std.specs.Prelude.{◌≡◌, ℕ, ◌+◌, ◌*◌, ◌<◌, ℤ, Option, Some, None, List, length, slice_get, slice_index_or}
use Rattle.std.specs.Int.RustNames.{unsigned_abs}
use Rattle.std.specs.List.Sorted.{IsNonDecreasingBy}
use Rattle.th_linear.specs.Forms.{Form}
use Rattle.th_pure.specs.declared.distinct.Entry.{Entry}

-- what a term, where there is one, adds to a key: its coefficient's magnitude times the square of its variable's successor
abbrev pub part_of : Option (ℕ × ℤ) → ℕ
part_of None = 0
part_of (Some t) = unsigned_abs t.1 * ((t.0 + 1) * (t.0 + 1))

-- the key of a fact, a number: equal facts have equal keys, others mostly not
abbrev pub key_of : Form → ℕ
key_of f = (unsigned_abs f.constant + part_of (slice_get f.coefs 0)) + part_of (slice_get f.coefs 1)

-- each fact has an entry with its key and its place, and the entries ascend by key
pub record IsIndexed (facts : List Form) (entries : List Entry) : Type 0 where
  pub ascending : IsNonDecreasingBy (λ e. e.key) entries
  pub within : (j : ℕ) (e : Entry) → j < length entries → (slice_index_or entries j e).place < length facts
  pub complete : (k : ℕ) (f : Form) (e : Entry) → k < length facts
      → (j : ℕ) × (j < length entries) × (slice_index_or entries j e ≡ record { key = key_of (slice_index_or facts k f); place = k })

-- The least table of kinds as it is computed in rounds, for code that is worked out in full. A law says
-- that a table which rounds lead to is the least one where it is closed.
use Rattle.std.specs.Prelude.{ℕ, zero, suc, ◌==◌, ◌&&◌, Bool, true, false, List, [], ◌∷◌, map, filter, Option, None, Some, if◌then◌else◌}
use Rattle.std.specs.List.{list_all}
use Rattle.std.specs.Option.{option_map_or}
use Rattle.th_syntax.specs.declared.class_file.Member.{Member}
use Rattle.th_syntax.specs.declared.class_file.Code.{Code}
use Rattle.th_syntax.specs.declared.instr.Instr.{Instr}
use Rattle.th_syntax.specs.Flow.{instr_in, successors_of}
use Rattle.th_syntax.specs.Kinds.{are_same_kinds, KindsAt, NoKinds, OfKinds, DepthsDiffer, merged_at}
use Rattle.th_syntax.specs.KindRows.{row_of, after}
use Rattle.th_syntax.specs.KindTable.{entry_kinds, conflicts_at}

-- a table as a list: what is known before the instructions at these offsets, and nothing elsewhere
abbrev pub known_at : List (ℕ × KindsAt) → ℕ → KindsAt
known_at [] offset = NoKinds
known_at (k ∷ ks) offset = if k.0 == offset then k.1 else known_at ks offset

-- with what a path brings to an offset
abbrev pub with_brought : ℕ → KindsAt → List (ℕ × KindsAt) → List (ℕ × KindsAt)
with_brought to brought [] = []
with_brought to brought (k ∷ ks) = if k.0 == to then (to, merged_at brought k.1) ∷ ks else k ∷ with_brought to brought ks

abbrev pub with_each : List ℕ → KindsAt → List (ℕ × KindsAt) → List (ℕ × KindsAt)
with_each [] brought known = known
with_each (to ∷ more) brought known = with_each more brought (with_brought to brought known)

-- what the instruction at an offset brings on, if there is one
abbrev pub with_next : List (ℕ × Instr) → ℕ → Option Instr → List (ℕ × KindsAt) → List (ℕ × KindsAt)
with_next instrs offset None known = known
with_next instrs offset (Some i) known = with_each (successors_of instrs (offset, i)) (after (row_of i) (known_at known offset)) known

-- the instructions at these offsets bring on what is known before them
abbrev pub one_round : List (ℕ × Instr) → List ℕ → List (ℕ × KindsAt) → List (ℕ × KindsAt)
one_round instrs [] known = known
one_round instrs (offset ∷ offsets) known = one_round instrs offsets (with_next instrs offset (instr_in instrs offset) known)

abbrev pub offsets_of : List (ℕ × Instr) → List ℕ
offsets_of instrs = map (λ i. i.0) instrs

-- so many rounds from the entry
abbrev pub after_rounds : Member → Code → ℕ → List (ℕ × KindsAt)
after_rounds m code zero = with_brought 0 (entry_kinds m code) (map (λ i. (i.0, NoKinds)) code.instrs)
after_rounds m code (suc n) = one_round code.instrs (offsets_of code.instrs) (after_rounds m code n)

-- ---- where nothing more comes

abbrev pub is_same_at : KindsAt → KindsAt → Bool
is_same_at NoKinds NoKinds = true
is_same_at DepthsDiffer DepthsDiffer = true
is_same_at (OfKinds locals stack) (OfKinds others below) = are_same_kinds locals others && are_same_kinds stack below
is_same_at a b = false

abbrev pub is_held : KindsAt → KindsAt → Bool
is_held brought known = is_same_at (merged_at brought known) known

-- these offsets know already what is brought to them
abbrev pub are_held : (ℕ → KindsAt) → KindsAt → List ℕ → Bool
are_held t brought tos = list_all (λ to. is_held brought (t to)) tos

abbrev pub brings_nothing_new : List (ℕ × Instr) → (ℕ → KindsAt) → ℕ → Bool
brings_nothing_new instrs t offset =
    option_map_or (λ i. are_held t (after (row_of i) (t offset)) (successors_of instrs (offset, i))) (instr_in instrs offset) true

-- the table is closed
abbrev pub is_closed_table : Member → Code → (ℕ → KindsAt) → Bool
is_closed_table m code t = is_held (entry_kinds m code) (t 0) && list_all (brings_nothing_new code.instrs t) (offsets_of code.instrs)

-- the offsets of the instructions where a table has a conflict
abbrev pub conflict_offsets : Member → Code → (ℕ → KindsAt) → List ℕ
conflict_offsets m code t = filter (conflicts_at m code t) (offsets_of code.instrs)

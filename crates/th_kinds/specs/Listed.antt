-- What contracts see of the kinds of a method: the list of the kinds before each instruction that is reached.
use Rattle.std.specs.Prelude.{ℕ, Bool, true, false, List, [], ◌∷◌, ◌++◌, drop, Option}
use Rattle.th_syntax.specs.declared.instr.Instr.{Instr}
use Rattle.th_syntax.specs.Kinds.{KindsAt, OfKinds}
use Rattle.th_syntax.specs.KindTable.{KindsBefore}
use Rattle.th_kinds.specs.Walk.{kept_at, here, fallen_behind}

-- the kinds before an instruction, where there are any
abbrev pub kinds_before : ℕ → KindsAt → List KindsBefore
kinds_before offset (OfKinds locals stack) = record { offset = offset; locals = locals; stack = stack } ∷ []
kinds_before offset other = []

-- the kinds before each of these instructions, where this falls into the first one
unfoldable pub listed : List (ℕ × Instr) → List (Option KindsAt) → KindsAt → List KindsBefore
listed [] kept fallen = []
listed (i ∷ instrs) kept fallen =
    kinds_before i.0 (here fallen (kept_at kept 0)) ++ listed instrs (drop 1 kept) (fallen_behind i.1 (here fallen (kept_at kept 0)))

-- there are kinds
abbrev pub is_there : KindsAt → Bool
is_there (OfKinds locals stack) = true
is_there other = false

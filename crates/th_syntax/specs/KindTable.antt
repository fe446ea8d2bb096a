-- The kinds of the slots before each instruction of a method: the least table that has the kinds of the
-- method's entry and is closed under the flow of control. And where such a table has a conflict.
use Rattle.std.specs.Prelude.{◌≡◌, ℕ, ◌-◌, ◌<◌, ◌==◌, ◌&&◌, ◌||◌, not, nat_lt, Bool, true, false, List, [], ◌++◌, length, map, replicate, Option, None, Some, Contains, if◌then◌else◌}
use Rattle.std.specs.Option.{option_map_or}
use Rattle.th_syntax.specs.declared.kind.SlotKind.TheVariants as kind
use Rattle.th_syntax.specs.declared.class_file.Member.{Member}
use Rattle.th_syntax.specs.declared.class_file.Code.{Code}
use Rattle.th_syntax.specs.declared.instr.Instr.{Instr}
use Rattle.th_syntax.specs.declared.instr.Instr.TheVariants.{IReturn, LReturn, AReturn, Return}
use Rattle.th_syntax.specs.Flags.{is_static}
use Rattle.th_syntax.specs.Flow.{instr_in, successors_of, reached_code}
use Rattle.th_syntax.specs.Kinds.{SlotKind, are_same_kinds, KindsAt, NoKinds, OfKinds, DepthsDiffer, merged_at}
use Rattle.th_syntax.specs.KindRows.{parameter_slots, result_slots, row_of, after, is_misfit, int, long, ref}

-- ---- the entry of a method

-- the locals that the arguments of a method take, the receiver's first (Java specification 2.6.1)
abbrev pub argument_slots : Member → List SlotKind
argument_slots m = (if is_static m then [] else ref) ++ parameter_slots m.descriptor

-- before the first instruction: the arguments, locals into which nothing is stored yet, and an empty stack
abbrev pub entry_kinds : Member → Code → KindsAt
entry_kinds m code = OfKinds (argument_slots m ++ replicate (code.max_locals - length (argument_slots m)) kind.Unusable) []

-- ---- tables

-- what a path brings is among what is known
abbrev pub IsHeld : KindsAt → KindsAt → Type 0
IsHeld brought known = merged_at brought known ≡ known

-- a table has the kinds of the entry, and where an instruction leads it has those behind the instruction.
-- Entries of the exception table are never followed (this project's own).
pub record IsClosedTable (m : Member) (code : Code) (t : ℕ → KindsAt) : Type 0 where
  pub entry : IsHeld (entry_kinds m code) (t 0)
  pub flow : (offset to : ℕ) (i : Instr) → instr_in code.instrs offset ≡ Some i → Contains (successors_of code.instrs (offset, i)) to
      → IsHeld (after (row_of i) (t offset)) (t to)

-- the least of these tables
pub record IsLeastTable (m : Member) (code : Code) (t : ℕ → KindsAt) : Type 0 where
  pub closed : IsClosedTable m code t
  pub below : (u : ℕ → KindsAt) → IsClosedTable m code u → (offset : ℕ) → IsHeld (t offset) (u offset)

-- ---- conflicts

-- the slots that a return hands over
abbrev pub returned_slots : Instr → Option (List SlotKind)
returned_slots IReturn = Some int
returned_slots LReturn = Some long
returned_slots AReturn = Some ref
returned_slots Return = Some []
returned_slots other = None

-- a return hands over other than the method's result
abbrev pub is_other_return : Member → Instr → Bool
is_other_return m i = option_map_or (λ slots. not (are_same_kinds slots (result_slots m.descriptor))) (returned_slots i) false

-- the kinds before an instruction are a conflict
abbrev pub is_conflict : Member → Code → Instr → KindsAt → Bool
is_conflict m code i NoKinds = false
is_conflict m code i DepthsDiffer = true
is_conflict m code i (OfKinds locals stack) = is_misfit code.max_stack (row_of i) locals stack || is_other_return m i

-- the arguments take more locals than there are: a conflict of the first instruction
abbrev pub is_short_of_locals : Member → Code → Bool
is_short_of_locals m code = nat_lt code.max_locals (length (argument_slots m))

-- there is a conflict at an offset
abbrev pub conflicts_at : Member → Code → (ℕ → KindsAt) → ℕ → Bool
conflicts_at m code t offset =
    (offset == 0 && is_short_of_locals m code) || option_map_or (λ i. is_conflict m code i (t offset)) (instr_in code.instrs offset) false

-- the kinds of a method's code have no conflict
pub record HasKinds (m : Member) (code : Code) (t : ℕ → KindsAt) : Type 0 where
  pub least : IsLeastTable m code t
  pub fitting : (offset : ℕ) → conflicts_at m code t offset ≡ false

-- they have one at an offset, and none before it
pub record HasFirstConflict (m : Member) (code : Code) (t : ℕ → KindsAt) (offset : ℕ) : Type 0 where
  pub least : IsLeastTable m code t
  pub here : conflicts_at m code t offset ≡ true
  pub none_before : (before : ℕ) → before < offset → conflicts_at m code t before ≡ false

-- ---- as a list

-- the kinds before an instruction
pub record KindsBefore : Type 0 where
  pub offset : ℕ
  pub locals : List SlotKind
  pub stack : List SlotKind

-- as the list has it
abbrev pub shown : KindsBefore → ℕ × KindsAt
shown k = (k.offset, OfKinds k.locals k.stack)

-- the kinds before each instruction that is reached, in order, in a method whose kinds have no conflict
pub record AreKinds (m : Member) (code : Code) (kinds : List KindsBefore) : Type 0 where
  pub table : ℕ → KindsAt
  pub has : HasKinds m code table
  pub listed : map shown kinds ≡ map (λ i. (i.0, table i.0)) (reached_code code.instrs)

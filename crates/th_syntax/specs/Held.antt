-- How much a state holds, and where a run is full. Both are this project's own.
use Rattle.std.specs.Prelude.{ℕ, suc, ◌+◌, ◌&&◌, nat_lt, Bool, List, length, sum_by}
use Rattle.std.specs.Option.{option_map_or}
use Rattle.th_syntax.specs.declared.class_file.ClassFile.{ClassFile}
use Rattle.th_syntax.specs.declared.machine.TheConstants.{MOST_VALUES_HELD}
use Rattle.th_syntax.specs.Machine.{Object, Frame, CodeFrame, InitFrame, LaunchFrame, State, parts_of}
use Rattle.th_syntax.specs.Program.{code_of}

-- an object counts one, and one for each instance field or element
abbrev pub object_size : Object → ℕ
object_size o = suc (length (parts_of o))

-- a code frame counts its locals and the limit of its operand stack; other frames nothing
abbrev pub frame_size : List ClassFile → Frame → ℕ
frame_size files (CodeFrame method offset locals stack) =
    option_map_or (λ code. code.max_locals + code.max_stack) (code_of files method.0) 0
frame_size files (InitFrame class stage) = 0
frame_size files (LaunchFrame class stage) = 0

-- the values that a state holds
abbrev pub values_held : List ClassFile → State → ℕ
values_held files s = sum_by object_size s.heap + sum_by (frame_size files) s.frames

-- so many values, where there were so many before, are too many: they are past the limit, and more
abbrev pub is_past_limit : ℕ → ℕ → Bool
is_past_limit before now = nat_lt MOST_VALUES_HELD now && nat_lt before now

-- a step or event from s to t finds no room. A state that is past the limit from the start goes on as
-- long as nothing is made.
abbrev pub is_full : List ClassFile → State → State → Bool
is_full files s t = is_past_limit (values_held files s) (values_held files t)

-- What a list of alarms says of runs.
use Rattle.std.specs.Prelude.{ℕ, List, Contains}
use Rattle.th_base.specs.declared.lifecycle.Lifecycle.{Lifecycle}
use Rattle.th_syntax.specs.declared.class_file.ClassFile.{ClassFile}
use Rattle.th_syntax.specs.declared.machine.State.{State}
use Rattle.th_syntax.specs.Joined.{IsJoined}
use Rattle.th_syntax.specs.Run.{IsReachable}

-- each static field and Activity class that are joined in a reachable state of any run under this lifecycle
-- are among these pairs
abbrev pub AreAllJoined : Lifecycle → List ClassFile → List (ℕ × ℕ) → Type 0
AreAllJoined lifecycle files pairs =
    (s : State) (field class : ℕ) → IsReachable lifecycle files s → IsJoined files s field class → Contains pairs (field, class)

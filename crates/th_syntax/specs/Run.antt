-- Runs: lists of states, each of which follows from the one before. All of it is this project's own.
use Rattle.std.specs.Prelude.{◌≡◌, ◌⊎◌, List, [], ◌∷◌, Some}
use Rattle.th_base.specs.declared.lifecycle.Lifecycle.{Lifecycle}
use Rattle.th_syntax.specs.declared.class_file.ClassFile.{ClassFile}
use Rattle.th_syntax.specs.declared.event.Event.{Event}
use Rattle.th_syntax.specs.Machine.{State}
use Rattle.th_syntax.specs.Initial.{initial}
use Rattle.th_syntax.specs.Step.{step}
use Rattle.th_syntax.specs.Harness.{event}

-- a state follows by a step, or by an event of the harness
abbrev pub Follows : Lifecycle → List ClassFile → State → State → Type 0
Follows lifecycle files s t = (step files s ≡ Some t) ⊎ ((e : Event) × (event lifecycle files s e ≡ Some t))

-- a run, its last state first: it begins in the initial state
abbrev pub IsRun : Lifecycle → List ClassFile → List State → Type 0
IsRun lifecycle files [] = ⊥
IsRun lifecycle files (s ∷ []) = s ≡ initial files
IsRun lifecycle files (t ∷ s ∷ before) = Follows lifecycle files s t × IsRun lifecycle files (s ∷ before)

-- a state is reachable where it is the last of a run
abbrev pub IsReachable : Lifecycle → List ClassFile → State → Type 0
IsReachable lifecycle files s = (before : List State) × IsRun lifecycle files (s ∷ before)

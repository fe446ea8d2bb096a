-- What comes of a script: its events one after the other. All of it is this project's own.
use Rattle.std.specs.Prelude.{ℕ, ◌≡◌, ◌+◌, ⊤, List, [], ◌∷◌, Option, None, Some, Result, Ok, Err}
use Rattle.th_base.specs.declared.fail.Fail.{Fail}
use Rattle.th_base.specs.declared.fail.Fail.TheVariants.{Refused, NoMemory}
use Rattle.th_base.specs.declared.lifecycle.Lifecycle.{Lifecycle}
use Rattle.th_syntax.specs.declared.class_file.ClassFile.{ClassFile}
use Rattle.th_syntax.specs.declared.event.Event.{Event}
use Rattle.th_syntax.specs.Initial.{initial}
use Rattle.th_machine.specs.declared.outcome.Outcome.TheVariants as outcome
use Rattle.th_machine.specs.declared.report.Report.{Report}
use Rattle.th_machine.specs.declared.report.ScriptFault.{ScriptFault}
use Rattle.th_machine.specs.Reached.{AreJoined}
use Rattle.th_machine.specs.Running.{Standing, Answers}

-- the machine in the initial state of a program
abbrev pub begun : List ClassFile → Lifecycle → Standing
begun files lifecycle = record { files = files; lifecycle = lifecycle; state = initial files }

-- what is told of an event that is made with so much fuel: its outcome, and what is joined then; nothing where it can't happen
abbrev pub Tells : Standing → Event → ℕ → Standing → ℕ → Option Report → Type 0
Tells m e fuel t left None = Answers m e fuel t left None
Tells m e fuel t left (Some r) = Answers m e fuel t left (Some r.outcome) × AreJoined t.files t.state r.reached

-- a report before those of the events that follow
abbrev pub before : Report → Result (List Report) ScriptFault → Result (List Report) ScriptFault
before r (Ok reports) = Ok (r ∷ reports)
before r (Err fault) = Err fault

-- what comes of events that a machine makes one after the other with so much fuel in all, the first of which has this number: a report
-- of each until an outcome other than Idle, after which none is made; or the number of the first that is reached and can't happen
pub data IsScriptRun : Standing → ℕ → ℕ → List Event → Result (List Report) ScriptFault → Type 0 where
  done : (m : Standing) (fuel number : ℕ) → IsScriptRun m fuel number [] (Ok [])
  refused : (m t : Standing) (fuel left number : ℕ) (e : Event) (es : List Event) → Tells m e fuel t left None
      → IsScriptRun m fuel number (e ∷ es) (Err record { event = number })
  stops : (m t : Standing) (fuel left number : ℕ) (e : Event) (es : List Event) (r : Report) → Tells m e fuel t left (Some r)
      → (r.outcome ≡ outcome.Idle → ⊥) → IsScriptRun m fuel number (e ∷ es) (Ok (r ∷ []))
  goes : (m t : Standing) (fuel left number : ℕ) (e : Event) (es : List Event) (r : Report) (rest : Result (List Report) ScriptFault)
      → Tells m e fuel t left (Some r) → r.outcome ≡ outcome.Idle → IsScriptRun t left (number + 1) es rest
      → IsScriptRun m fuel number (e ∷ es) (before r rest)

-- what comes of the events of a script in a program, from its initial state with so much fuel
abbrev pub RunsScript : List ClassFile → Lifecycle → ℕ → List Event → Result (List Report) ScriptFault → Type 0
RunsScript files lifecycle fuel events result = IsScriptRun (begun files lifecycle) fuel 1 events result

-- what a call answers is so, unless memory ran out
abbrev pub Answered : {V R : Type 0} → (Result V R → Type 0) → Result V (Fail R) → Type 0
Answered IsSo (Ok value) = IsSo (Ok value)
Answered IsSo (Err (Refused reason)) = IsSo (Err reason)
Answered IsSo (Err NoMemory) = ⊤

-- What the status, the output and the errors say of a command.
use Rattle.std.specs.Prelude.{ℕ, ◌≡◌, ◌<◌, ◌+◌, ◌⊎◌, List, [], codes, Option, None, Some, Result, Ok, Err}
use Rattle.th_base.specs.declared.lifecycle.Lifecycle.{Lifecycle}
use Rattle.th_outside.specs.Store.{NamedFile}
use Rattle.th_outside.specs.Held.{Held}
use Rattle.th_syntax.specs.declared.class_file.ClassFile.{ClassFile}
use Rattle.th_syntax.specs.declared.refusal.Refusal.{Refusal}
use Rattle.th_coarse.specs.Report.{survivors, text_of}
use Rattle.th_coarse.specs.Safety.{AreAllJoined}
use Rattle.th_coarse.specs.declared.judged.Judged.{Judged}
use Rattle.th_harness.specs.declared.script_error.ScriptError.{ScriptError}
use Rattle.th_words.specs.declared.command.Command.{Command}
use Rattle.th_words.specs.declared.command.UsageFault.{UsageFault}
use Rattle.th_top.specs.Lines.{reason_of, script_line, refused_line, read_fault_line}
use Rattle.th_top.specs.Outcome.{Outcome, misuses, refuses, lacks, fails, Comes, status_of, output_of}
use Rattle.th_top.specs.Writing.{with_text, AddsPart}
use Rattle.th_top.specs.declared.status.Status.{Status}
use Rattle.th_top.specs.declared.status.Status.TheVariants.{Usage, Refused, ReadFault, WriteFault, NoMemory}

-- ---- what a status says

-- no call of the store failed, and this outcome comes
pub record ComesUnfailed (told : Option (List NamedFile)) (before after : ℕ) (command : Command) (outcome : Outcome) : Type 0 where
  pub comes : Comes told command outcome
  pub no_fault : after ≡ before

-- no call of the store failed, and the script has a fault
abbrev pub Misuses : Option (List NamedFile) → ℕ → ℕ → Command → Type 0
Misuses told before after command = (error : ScriptError) × ComesUnfailed told before after command (misuses error)

-- no call of the store failed, and the files are refused
abbrev pub Refuses : Option (List NamedFile) → ℕ → ℕ → Command → Type 0
Refuses told before after command = (refusal : Refusal) × ComesUnfailed told before after command (refuses refusal)

-- the name of the last call that failed, where it is told, is this one
abbrev pub IsLast : Option (List ℕ) → List ℕ → Type 0
IsLast None name = Unit {0}
IsLast (Some last) name = last ≡ name

-- the file of this name is missing, or a call of the store for it failed
pub data ReadFails (told : Option (List NamedFile)) (before after : ℕ) (failed : Option (List ℕ)) (command : Command) (name : List ℕ)
    : Type 0 where
  no_file : Comes told command (lacks name) → after ≡ before → ReadFails told before after failed command name
  failed_call : Comes told command (fails name) → after ≡ before + 1 → IsLast failed name → ReadFails told before after failed command name

abbrev pub FailsToRead : Option (List NamedFile) → ℕ → ℕ → Option (List ℕ) → Command → Type 0
FailsToRead told before after failed command = (name : List ℕ) × ReadFails told before after failed command name

-- no call of the store failed, an outcome of this status comes, and its whole output was written
pub record Writes (status : Status) (told : Option (List NamedFile)) (before after : ℕ) (old new : Option Held) (command : Command)
    : Type 0 where
  pub outcome : Outcome
  pub comes : Comes told command outcome
  pub status_is : status_of outcome ≡ status
  pub no_fault : after ≡ before
  pub written : new ≡ with_text old (output_of outcome)

-- no call of the store failed, and of the output of the outcome that comes a part was written
pub record Stops (told : Option (List NamedFile)) (before after : ℕ) (old new : Option Held) (command : Command) : Type 0 where
  pub outcome : Outcome
  pub comes : Comes told command outcome
  pub no_fault : after ≡ before
  pub part : AddsPart old (output_of outcome) new

-- the report of the program was written, and each static field and Activity class that are joined in a
-- reachable state of any run under the lifecycle survive in it
pub record PrintsAllJoined (lifecycle : Lifecycle) (classes : List ClassFile) (report : List Judged) (old new : Option Held) : Type 0 where
  pub written : new ≡ with_text old (text_of classes report)
  pub all_joined : AreAllJoined lifecycle classes (survivors report)

-- the status and the output are those of an outcome
pub record ShowsWhole (outcome : Outcome) (status : Status) (old new : Option Held) : Type 0 where
  pub status_is : status ≡ status_of outcome
  pub written : new ≡ with_text old (output_of outcome)

-- ---- faults

-- where a call of the store failed, and the name of its file is told, this outcome is that of the call
abbrev pub FaultIsOf : (Outcome → Type 0) → ℕ → ℕ → Option (List ℕ) → Type 0
FaultIsOf IsOne before after None = Unit {0}
FaultIsOf IsOne before after (Some last) = before < after → IsOne (fails last)

-- where a call of the store failed, and the name of its file is told, the reading came to that file
abbrev pub FaultIsNamed : Option (List NamedFile) → ℕ → ℕ → Option (List ℕ) → Command → Type 0
FaultIsNamed told before after failed command = FaultIsOf (Comes told command) before after failed

-- a count of faults rises by one at most
abbrev pub CountsOnce : ℕ → ℕ → Type 0
CountsOnce before after = (after ≡ before) ⊎ (after ≡ before + 1)

-- ---- the errors

-- the line that the errors say of a status
abbrev pub IsLine : Status → Result Command UsageFault → Option (List NamedFile) → ℕ → ℕ → Option (List ℕ) → List ℕ → Type 0
IsLine NoMemory asked told before after failed line = line ≡ codes "no memory\n"
IsLine WriteFault asked told before after failed line = line ≡ codes "write fault\n"
IsLine Usage (Err fault) told before after failed line = line ≡ reason_of fault
IsLine Usage (Ok command) told before after failed line =
    (error : ScriptError) × ComesUnfailed told before after command (misuses error) × (line ≡ script_line error)
IsLine Refused (Ok command) told before after failed line =
    (refusal : Refusal) × ComesUnfailed told before after command (refuses refusal) × (line ≡ refused_line refusal)
IsLine ReadFault (Ok command) told before after failed line =
    (name : List ℕ) × ReadFails told before after failed command name × (line ≡ read_fault_line name)
IsLine status asked told before after failed line = line ≡ []

-- the line was added, or a fault came and a part of it was
abbrev pub HasLine : Option Held → List ℕ → ℕ → Option Held → ℕ → Type 0
HasLine old line before new after = ((after ≡ before) × (new ≡ with_text old line)) ⊎ ((after ≡ before + 1) × AddsPart old line new)

-- a line that is as it must be
pub record Says (MustBe : List ℕ → Type 0) (old : Option Held) (before : ℕ) (new : Option Held) (after : ℕ) : Type 0 where
  pub line : List ℕ
  pub must : MustBe line
  pub has : HasLine old line before new after

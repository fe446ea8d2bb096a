-- What comes of a command: the first of its reading, its script, its class files that finds something, or the
-- report or run that it asks for. It shows as a status, as an output and as a line on the errors.
use Rattle.std.specs.Prelude.{ℕ, ◌≡◌, List, [], codes, Option, Ok, Err, if◌then◌else◌}
use Rattle.th_base.specs.declared.lifecycle.Lifecycle.{Lifecycle}
use Rattle.th_outside.specs.Store.{NamedFile}
use Rattle.th_syntax.specs.declared.cause.TheConstants as cause
use Rattle.th_syntax.specs.declared.class_file.ClassFile.{ClassFile}
use Rattle.th_syntax.specs.declared.event.Event.{Event}
use Rattle.th_syntax.specs.declared.refusal.Refusal.{Refusal}
use Rattle.th_syntax.specs.LinkChecks.{refusal_of}
use Rattle.th_input.specs.Input.{IsInput, Ends}
use Rattle.th_input.specs.Scripted.{IsScripted, EndsScripted}
use Rattle.th_input.specs.declared.unread.Unread.{Unread}
use Rattle.th_input.specs.declared.unread.Unread.TheVariants.{Missing, Failed, BadLine, TooManyFiles, TooManyBytes}
use Rattle.th_coarse.specs.Report.{report_of, some_survive, text_of}
use Rattle.th_coarse.specs.declared.judged.Judged.{Judged}
use Rattle.th_harness.specs.Script.{first_bad_line, form_of, script_of}
use Rattle.th_harness.specs.declared.script_error.ScriptError.{ScriptError}
use Rattle.th_harness.specs.declared.script_error.ScriptError.TheVariants.{Line, Event as BadEvent}
use Rattle.th_machine.specs.Script.{RunsScript}
use Rattle.th_machine.specs.declared.report.Report.{Report}
use Rattle.th_machine.specs.declared.report.ScriptFault.{ScriptFault}
use Rattle.th_words.specs.declared.command.Command.{Command}
use Rattle.th_words.specs.declared.command.Command.TheVariants.{Check, Run}
use Rattle.th_top.specs.Lines.{refused_line, read_fault_line, script_line}
use Rattle.th_top.specs.Program.{IsProgram, IsFirstRefused}
use Rattle.th_top.specs.RunText.{run_text, some_joined}
use Rattle.th_top.specs.declared.status.Status.{Status}
use Rattle.th_top.specs.declared.status.Status.TheVariants.{NoneSurvive, SomeSurvive, Usage, Refused, ReadFault}

pub data Outcome : Type 0 where
  -- the program of these class files is accepted, and this is its report
  reports : List ClassFile → List Judged → Outcome
  -- the program of these class files is accepted, and this came of the events of the script, one after the other
  runs : List ClassFile → List Report → Outcome
  -- the script has this fault
  misuses : ScriptError → Outcome
  -- the files are refused
  refuses : Refusal → Outcome
  -- the file of this name is missing
  lacks : List ℕ → Outcome
  -- a call of the store for the file of this name fails
  fails : List ℕ → Outcome

-- ---- which outcome comes of what was read

-- what comes of a reading that ends before all is read. A bad line of the list is an ill-formed name, and the other refusals are limits
abbrev pub outcome_of : Unread → Outcome
outcome_of (Missing name) = lacks name
outcome_of (Failed name) = fails name
outcome_of (BadLine list offset) = refuses (refusal_of cause.NAME list [] offset)
outcome_of TooManyFiles = refuses (refusal_of cause.LIMIT [] (codes "files") 0)
outcome_of (TooManyBytes name) = refuses (refusal_of cause.LIMIT name (codes "bytes") 0)

-- what comes of files that were read, where the predicate says what comes of a program
pub data IsOutcomeOf (Gives : List ClassFile → Outcome → Type 0) (files : List NamedFile) (outcome : Outcome) : Type 0 where
  refused : (refusal : Refusal) → IsFirstRefused files refusal → outcome ≡ refuses refusal → IsOutcomeOf Gives files outcome
  program : (classes : List ClassFile) → IsProgram files classes → Gives classes outcome → IsOutcomeOf Gives files outcome

-- a program gives its report
abbrev pub GivesReport : List ClassFile → Outcome → Type 0
GivesReport classes outcome = outcome ≡ reports classes (report_of classes)

-- a program gives what comes of this script, with so much fuel and under this lifecycle: the first launch of a class that isn't
-- launchable, before any event is made; or else the first event that is reached and can't happen; or else the run
pub data GivesRun (script : List ℕ) (fuel : ℕ) (lifecycle : Lifecycle) (classes : List ClassFile) (outcome : Outcome) : Type 0 where
  no_events : (error : ScriptError) → script_of classes script ≡ Err error → outcome ≡ misuses error
      → GivesRun script fuel lifecycle classes outcome
  no_event : (events : List Event) (fault : ScriptFault) → script_of classes script ≡ Ok events
      → RunsScript classes lifecycle fuel events (Err fault) → outcome ≡ misuses (BadEvent fault.event)
      → GivesRun script fuel lifecycle classes outcome
  whole : (events : List Event) (came : List Report) → script_of classes script ≡ Ok events
      → RunsScript classes lifecycle fuel events (Ok came) → outcome ≡ runs classes came
      → GivesRun script fuel lifecycle classes outcome

-- ---- which outcome comes of a command

-- what comes of a report on the class files of these names, and of those that a list names
pub data IsChecked (told : Option (List NamedFile)) (list : Option (List ℕ)) (operands : List (List ℕ)) (outcome : Outcome) : Type 0 where
  at_reading : (unread : Unread) → Ends told list operands unread → outcome ≡ outcome_of unread → IsChecked told list operands outcome
  behind_reading : (files : List NamedFile) → IsInput told list operands files → IsOutcomeOf GivesReport files outcome
      → IsChecked told list operands outcome

-- What comes of a script and files that were read: the first line of the script that has no form of a line; or else what comes
-- of the files.
pub data IsOutcomeOfScript (script : List ℕ) (fuel : ℕ) (lifecycle : Lifecycle) (files : List NamedFile) (outcome : Outcome) : Type 0 where
  bad_line : (line : ℕ) → form_of (first_bad_line script) ≡ Err line → outcome ≡ misuses (Line line)
      → IsOutcomeOfScript script fuel lifecycle files outcome
  good_lines : form_of (first_bad_line script) ≡ Ok tt → IsOutcomeOf (GivesRun script fuel lifecycle) files outcome
      → IsOutcomeOfScript script fuel lifecycle files outcome

-- what comes of a run of a script on the class files of these names
pub data IsRun (told : Option (List NamedFile)) (script : List ℕ) (fuel : ℕ) (lifecycle : Lifecycle) (operands : List (List ℕ))
    (outcome : Outcome) : Type 0 where
  at_script_reading : (unread : Unread) → EndsScripted told script operands unread → outcome ≡ outcome_of unread
      → IsRun told script fuel lifecycle operands outcome
  behind_script_reading : (bytes : List ℕ) (files : List NamedFile) → IsScripted told script operands bytes files
      → IsOutcomeOfScript bytes fuel lifecycle files outcome → IsRun told script fuel lifecycle operands outcome

-- the outcome comes of a command, over a store that may tell what it holds
abbrev pub Comes : Option (List NamedFile) → Command → Outcome → Type 0
Comes told (Check budget workers list lifecycle operands) outcome = IsChecked told list operands outcome
Comes told (Run script fuel lifecycle operands) outcome = IsRun told script fuel lifecycle operands outcome

-- a call of the store fails
abbrev pub IsFault : Outcome → Type 0
IsFault (reports classes report) = ⊥
IsFault (runs classes came) = ⊥
IsFault (misuses error) = ⊥
IsFault (refuses refusal) = ⊥
IsFault (lacks name) = ⊥
IsFault (fails name) = Unit {0}

-- ---- how it shows

-- of a report the status says whether an alarm survives, of a run whether a field and a class are joined in the last state
abbrev pub status_of : Outcome → Status
status_of (reports classes report) = if some_survive report then SomeSurvive else NoneSurvive
status_of (runs classes came) = if some_joined came then SomeSurvive else NoneSurvive
status_of (misuses error) = Usage
status_of (refuses refusal) = Refused
status_of (lacks name) = ReadFault
status_of (fails name) = ReadFault

-- what is written to the output
abbrev pub output_of : Outcome → List ℕ
output_of (reports classes report) = text_of classes report
output_of (runs classes came) = run_text classes came
output_of (misuses error) = []
output_of (refuses refusal) = []
output_of (lacks name) = []
output_of (fails name) = []

-- what is written to the errors
abbrev pub line_of : Outcome → List ℕ
line_of (reports classes report) = []
line_of (runs classes came) = []
line_of (misuses error) = script_line error
line_of (refuses refusal) = refused_line refusal
line_of (lacks name) = read_fault_line name
line_of (fails name) = read_fault_line name

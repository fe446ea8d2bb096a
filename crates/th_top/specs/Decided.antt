-- Private to the calls: what is decided before anything is written.
use Rattle.std.specs.Prelude.{ℕ, ◌≡◌, ◌+◌, List, [], Option, Result, Ok, Err}
use Rattle.th_outside.specs.Store.{NamedFile}
use Rattle.th_coarse.specs.Coarse.{coarse_alarms}
use Rattle.th_words.specs.declared.command.Command.{Command}
use Rattle.th_words.specs.declared.command.UsageFault.{UsageFault}
use Rattle.th_top.specs.Answer.{IsLast}
use Rattle.th_top.specs.Lines.{reason_of}
use Rattle.th_top.specs.Outcome.{Outcome, reports, runs, misuses, refuses, lacks, fails, Comes, status_of, output_of, line_of}
use Rattle.th_top.specs.Program.{IsProgram}
use Rattle.th_top.specs.declared.accepting.Accepted.{Accepted}
use Rattle.th_top.specs.declared.shown.Decided.{Decided}
use Rattle.th_top.specs.declared.status.Status.TheVariants.{Usage}

-- what was accepted is the program of the files, with its coarse alarms
pub record IsProgramOf (files : List NamedFile) (a : Accepted) : Type 0 where
  pub is_program : IsProgram files a.program
  pub alarms_are : a.alarms ≡ coarse_alarms a.program

-- what is decided shows an outcome
pub record Shows (outcome : Outcome) (d : Decided) : Type 0 where
  pub status_is : d.status ≡ status_of outcome
  pub text_is : d.text ≡ output_of outcome
  pub line_is : d.line ≡ line_of outcome

-- what is decided shows one of these outcomes
pub record ShowsOne (IsOne : Outcome → Type 0) (d : Decided) : Type 0 where
  pub outcome : Outcome
  pub is_one : IsOne outcome
  pub shows : Shows outcome d

-- the count of faults after an outcome
abbrev pub faults_after : ℕ → Outcome → ℕ
faults_after count (reports classes report) = count
faults_after count (runs classes came) = count
faults_after count (misuses error) = count
faults_after count (refuses refusal) = count
faults_after count (lacks name) = count
faults_after count (fails name) = count + 1

-- the name of the last call that failed, where the outcome is that one failed
abbrev pub IsNamedLast : Option (List ℕ) → Outcome → Type 0
IsNamedLast failed (reports classes report) = Unit {0}
IsNamedLast failed (runs classes came) = Unit {0}
IsNamedLast failed (misuses error) = Unit {0}
IsNamedLast failed (refuses refusal) = Unit {0}
IsNamedLast failed (lacks name) = Unit {0}
IsNamedLast failed (fails name) = IsLast failed name

-- what is decided of files that are read shows one of these outcomes, of which the store tells the faults
pub record DecidesOne (IsOne : Outcome → Type 0) (before after : ℕ) (failed : Option (List ℕ)) (d : Decided) : Type 0 where
  pub outcome : Outcome
  pub is_one : IsOne outcome
  pub counted : after ≡ faults_after before outcome
  pub named : IsNamedLast failed outcome
  pub shows : Shows outcome d

-- what is decided of words that are no command
pub record DecidesUsage (fault : UsageFault) (before after : ℕ) (d : Decided) : Type 0 where
  pub status_is : d.status ≡ Usage
  pub text_is : d.text ≡ []
  pub line_is : d.line ≡ reason_of fault
  pub no_fault : after ≡ before

-- what is decided of words
abbrev pub Decides : Result Command UsageFault → Option (List NamedFile) → ℕ → ℕ → Option (List ℕ) → Decided → Type 0
Decides (Err fault) told before after failed d = DecidesUsage fault before after d
Decides (Ok command) told before after failed d = DecidesOne (Comes told command) before after failed d

-- What follows from what is decided, for each status, for the output and for the errors.
use Rattle.std.proofs.Common.{◌≡◌, ◌≢◌, ℕ, ◌<◌, Bool, true, false, cond, List, [], length, Option, None, Some, Result, Ok, Err, refl, sym, ap, subst, ◌∙◌, arith, ◌⊎◌, inl, inr}
use Rattle.std.specs.Prelude.{IfOk, IsErr}
use Rattle.std.proofs.lemmas.List.{append-nil}
use Rattle.th_outside.specs.Store.{NamedFile}
use Rattle.th_outside.specs.Held.{Held}
use Rattle.th_coarse.specs.Report.{some_survive}
use Rattle.th_words.specs.declared.command.Command.{Command}
use Rattle.th_words.specs.declared.command.UsageFault.{UsageFault}
use Rattle.th_top.specs.Answer.{Misuses, Refuses, no_file, failed_call, FailsToRead, Writes, Stops, IsLine}
use Rattle.th_top.specs.Decided.{Shows, faults_after, IsNamedLast, DecidesOne, Decides}
use Rattle.th_top.specs.Outcome.{Outcome, reports, runs, misuses, refuses, lacks, fails, Comes, IsFault, status_of, output_of, line_of}
use Rattle.th_top.specs.RunText.{some_joined}
use Rattle.th_top.specs.Writing.{with_text, AddsPart}
use Rattle.th_top.specs.declared.shown.Decided.{Decided}
use Rattle.th_top.specs.declared.status.Status.{Status}
use Rattle.th_top.specs.declared.status.Status.TheVariants.{NoneSurvive, SomeSurvive, Usage, Refused, ReadFault, WriteFault, NoMemory}

-- ---- the statuses of outcomes

-- a status of a report or a run
abbrev pub IsReported : Status → Type 0
IsReported NoneSurvive = Unit {0}
IsReported SomeSurvive = Unit {0}
IsReported Usage = ⊥
IsReported Refused = ⊥
IsReported ReadFault = ⊥
IsReported WriteFault = ⊥
IsReported NoMemory = ⊥

report_status : (some : Bool) → IsReported (cond some SomeSurvive NoneSurvive)
report_status true = tt
report_status false = tt

-- a status of words that ask for something
abbrev IsOfCommand : Status → Type 0
IsOfCommand NoneSurvive = Unit {0}
IsOfCommand SomeSurvive = Unit {0}
IsOfCommand Usage = Unit {0}
IsOfCommand Refused = Unit {0}
IsOfCommand ReadFault = Unit {0}
IsOfCommand WriteFault = ⊥
IsOfCommand NoMemory = ⊥

of_report : (status : Status) → IsReported status → IsOfCommand status
of_report NoneSurvive is = tt
of_report SomeSurvive is = tt
of_report Usage is = tt
of_report Refused is = tt
of_report ReadFault is = tt
of_report WriteFault is = is
of_report NoMemory is = is

of_outcome : (o : Outcome) → IsOfCommand (status_of o)
of_outcome (reports classes report) = of_report (cond (some_survive report) SomeSurvive NoneSurvive) (report_status (some_survive report))
of_outcome (runs classes came) = of_report (cond (some_joined came) SomeSurvive NoneSurvive) (report_status (some_joined came))
of_outcome (misuses error) = tt
of_outcome (refuses refusal) = tt
of_outcome (lacks name) = tt
of_outcome (fails name) = tt

-- a report or a run has no other status
not_reported : {A : Type 0} (some : Bool) (status : Status) → (IsReported status → ⊥) → cond some SomeSurvive NoneSurvive ≡ status → A
not_reported some status other is = absurd (other (subst IsReported is (report_status some)))

-- ---- the words are no command, or the script has a fault

misused_by : (told : Option (List NamedFile)) (before after : ℕ) (command : Command) (o : Outcome) → Comes told command o → after ≡ faults_after before o → status_of o ≡ Usage
    → Misuses told before after command
misused_by told before after command (reports classes report) comes counted is = not_reported (some_survive report) Usage (λ h. h) is
misused_by told before after command (runs classes came) comes counted is = not_reported (some_joined came) Usage (λ h. h) is
misused_by told before after command (misuses error) comes counted is = (error, record { comes = comes; no_fault = counted })
misused_by told before after command (refuses refusal) comes counted is = absurd (let h : ⊥ = cc is in h)
misused_by told before after command (lacks name) comes counted is = absurd (let h : ⊥ = cc is in h)
misused_by told before after command (fails name) comes counted is = absurd (let h : ⊥ = cc is in h)

pub usage_is : (asked : Result Command UsageFault) (told : Option (List NamedFile)) (before after : ℕ) (failed : Option (List ℕ)) (d : Decided)
    → Decides asked told before after failed d → d.status ≡ Usage → IfOk asked (Misuses told before after)
usage_is (Err fault) told before after failed d decides is = tt
usage_is (Ok command) told before after failed d decides is = misused_by told before after command decides.outcome decides.is_one decides.counted (sym decides.shows.status_is ∙ is)

pub usage_comes : (asked : Result Command UsageFault) (told : Option (List NamedFile)) (before after : ℕ) (failed : Option (List ℕ)) (d : Decided)
    → Decides asked told before after failed d → IsErr asked → (d.status ≡ Usage) × (d.text ≡ [])
usage_comes (Err fault) told before after failed d decides err = (decides.status_is, decides.text_is)
usage_comes (Ok command) told before after failed d decides err = absurd (let h : ⊥ = cc err in h)

pub never_written : (asked : Result Command UsageFault) (told : Option (List NamedFile)) (before after : ℕ) (failed : Option (List ℕ)) (d : Decided)
    → Decides asked told before after failed d → d.status ≡ WriteFault → ⊥
never_written (Err fault) told before after failed d decides is = let e : Usage ≡ WriteFault = sym decides.status_is ∙ is in let h : ⊥ = cc e in h
never_written (Ok command) told before after failed d decides is = subst IsOfCommand (sym decides.shows.status_is ∙ is) (of_outcome decides.outcome)

-- ---- the files are refused

refused_by : (told : Option (List NamedFile)) (before after : ℕ) (command : Command) (o : Outcome) → Comes told command o → after ≡ faults_after before o → status_of o ≡ Refused
    → Refuses told before after command
refused_by told before after command (reports classes report) comes counted is = not_reported (some_survive report) Refused (λ h. h) is
refused_by told before after command (runs classes came) comes counted is = not_reported (some_joined came) Refused (λ h. h) is
refused_by told before after command (misuses error) comes counted is = absurd (let h : ⊥ = cc is in h)
refused_by told before after command (refuses refusal) comes counted is = (refusal, record { comes = comes; no_fault = counted })
refused_by told before after command (lacks name) comes counted is = absurd (let h : ⊥ = cc is in h)
refused_by told before after command (fails name) comes counted is = absurd (let h : ⊥ = cc is in h)

pub refused_is : (asked : Result Command UsageFault) (told : Option (List NamedFile)) (before after : ℕ) (failed : Option (List ℕ)) (d : Decided)
    → Decides asked told before after failed d → d.status ≡ Refused → IfOk asked (Refuses told before after)
refused_is (Err fault) told before after failed d decides is = tt
refused_is (Ok command) told before after failed d decides is = refused_by told before after command decides.outcome decides.is_one decides.counted (sym decides.shows.status_is ∙ is)

-- ---- a file isn't read

fault_by : (told : Option (List NamedFile)) (before after : ℕ) (failed : Option (List ℕ)) (command : Command) (o : Outcome) → Comes told command o → after ≡ faults_after before o
    → IsNamedLast failed o → status_of o ≡ ReadFault → FailsToRead told before after failed command
fault_by told before after failed command (reports classes report) comes counted named is = not_reported (some_survive report) ReadFault (λ h. h) is
fault_by told before after failed command (runs classes came) comes counted named is = not_reported (some_joined came) ReadFault (λ h. h) is
fault_by told before after failed command (misuses error) comes counted named is = absurd (let h : ⊥ = cc is in h)
fault_by told before after failed command (refuses refusal) comes counted named is = absurd (let h : ⊥ = cc is in h)
fault_by told before after failed command (lacks name) comes counted named is = (name, no_file comes counted)
fault_by told before after failed command (fails name) comes counted named is = (name, failed_call comes counted named)

pub fault_is : (asked : Result Command UsageFault) (told : Option (List NamedFile)) (before after : ℕ) (failed : Option (List ℕ)) (d : Decided)
    → Decides asked told before after failed d → d.status ≡ ReadFault → IfOk asked (FailsToRead told before after failed)
fault_is (Err fault) told before after failed d decides is = tt
fault_is (Ok command) told before after failed d decides is =
    fault_by told before after failed command decides.outcome decides.is_one decides.counted decides.named (sym decides.shows.status_is ∙ is)

-- an outcome with more faults is a fault, and nothing is written of it
more_faults : (o : Outcome) (before after : ℕ) → after ≡ faults_after before o → before < after → (status_of o ≡ ReadFault) × (output_of o ≡ [])
more_faults (reports classes report) before after counted more = absurd (let h : ⊥ = omega (arith, counted, more) in h)
more_faults (runs classes came) before after counted more = absurd (let h : ⊥ = omega (arith, counted, more) in h)
more_faults (misuses error) before after counted more = absurd (let h : ⊥ = omega (arith, counted, more) in h)
more_faults (refuses refusal) before after counted more = absurd (let h : ⊥ = omega (arith, counted, more) in h)
more_faults (lacks name) before after counted more = (refl, refl)
more_faults (fails name) before after counted more = (refl, refl)

pub fault_comes : (asked : Result Command UsageFault) (told : Option (List NamedFile)) (before after : ℕ) (failed : Option (List ℕ)) (d : Decided)
    → Decides asked told before after failed d → before < after → (d.status ≡ ReadFault) × (d.text ≡ [])
fault_comes (Err fault) told before after failed d decides more = absurd (let same = decides.no_fault in let h : ⊥ = omega (arith, same, more) in h)
fault_comes (Ok command) told before after failed d decides more =
    let is = more_faults decides.outcome before after decides.counted more in
    (decides.shows.status_is ∙ is.0, decides.shows.text_is ∙ is.1)

-- ---- the output

-- an outcome of a status that a report or a run has raises no count
reported_count : (o : Outcome) (before after : ℕ) → IsReported (status_of o) → after ≡ faults_after before o → after ≡ before
reported_count (reports classes report) before after reported counted = counted
reported_count (runs classes came) before after reported counted = counted
reported_count (misuses error) before after reported counted = counted
reported_count (refuses refusal) before after reported counted = counted
reported_count (lacks name) before after reported counted = counted
reported_count (fails name) before after reported counted = absurd reported

pub writes_is : (status : Status) (asked : Result Command UsageFault) (told : Option (List NamedFile)) (before after : ℕ) (failed : Option (List ℕ)) (d : Decided) (old new : Option Held)
    → IsReported status → Decides asked told before after failed d → d.status ≡ status → new ≡ with_text old d.text → IfOk asked (Writes status told before after old new)
writes_is status (Err fault) told before after failed d old new reported decides is written = tt
writes_is status (Ok command) told before after failed d old new reported decides is written =
    let same : status_of decides.outcome ≡ status = sym decides.shows.status_is ∙ is in
    record {
      outcome = decides.outcome;
      comes = decides.is_one;
      status_is = same;
      no_fault = reported_count decides.outcome before after (subst IsReported (sym same) reported) decides.counted;
      written = written ∙ ap (with_text old) decides.shows.text_is;
    }

-- nothing more is written of an empty text
pub nothing_more : {A : Type 0} (text : List ℕ) (n : ℕ) → n < length text → text ≡ [] → A
nothing_more text n more nothing = absurd (let none : length text ≡ 0 = ap length nothing in let h : ⊥ = omega (arith, none, more) in h)

-- nor does an outcome of which something is written
written_count : (o : Outcome) (before after : ℕ) (old new : Option Held) → AddsPart old (output_of o) new → after ≡ faults_after before o → after ≡ before
written_count (reports classes report) before after old new part counted = counted
written_count (runs classes came) before after old new part counted = counted
written_count (misuses error) before after old new part counted = counted
written_count (refuses refusal) before after old new part counted = counted
written_count (lacks name) before after old new part counted = counted
written_count (fails name) before after old new part counted = nothing_more [] part.0 part.1 refl

pub stops_is : (asked : Result Command UsageFault) (told : Option (List NamedFile)) (before after : ℕ) (failed : Option (List ℕ)) (d : Decided) (old new : Option Held)
    → Decides asked told before after failed d → AddsPart old d.text new → IfOk asked (Stops told before after old new)
stops_is (Err fault) told before after failed d old new decides part = tt
stops_is (Ok command) told before after failed d old new decides part =
    let adds = subst (λ (text : List ℕ). AddsPart old text new) decides.shows.text_is part in
    record { outcome = decides.outcome; comes = decides.is_one; no_fault = written_count decides.outcome before after old new adds decides.counted; part = adds }

neither : (some : Bool) → cond some SomeSurvive NoneSurvive ≢ NoneSurvive → cond some SomeSurvive NoneSurvive ≢ SomeSurvive → ⊥
neither true not_none not_some = not_some refl
neither false not_none not_some = not_none refl

-- under every other status nothing is written
other_output : (o : Outcome) → status_of o ≢ NoneSurvive → status_of o ≢ SomeSurvive → output_of o ≡ []
other_output (reports classes report) not_none not_some = absurd (neither (some_survive report) not_none not_some)
other_output (runs classes came) not_none not_some = absurd (neither (some_joined came) not_none not_some)
other_output (misuses error) not_none not_some = refl
other_output (refuses refusal) not_none not_some = refl
other_output (lacks name) not_none not_some = refl
other_output (fails name) not_none not_some = refl

pub nothing_written : (asked : Result Command UsageFault) (told : Option (List NamedFile)) (before after : ℕ) (failed : Option (List ℕ)) (d : Decided)
    → Decides asked told before after failed d → d.status ≢ NoneSurvive → d.status ≢ SomeSurvive → d.text ≡ []
nothing_written (Err fault) told before after failed d decides not_none not_some = decides.text_is
nothing_written (Ok command) told before after failed d decides not_none not_some =
    let is = decides.shows.status_is in
    decides.shows.text_is ∙ other_output decides.outcome (λ e. not_none (is ∙ e)) (λ e. not_some (is ∙ e))

-- an empty text leaves what is held
pub held_as_before : (old : Option Held) → with_text old [] ≡ old
held_as_before None = refl
held_as_before (Some held) = ap (λ (bytes : List ℕ). Some (let h : Held = record { bytes = bytes; end = held.end } in h)) (append-nil held.bytes)

-- ---- the line

report_line : (asked : Result Command UsageFault) (told : Option (List NamedFile)) (before after : ℕ) (failed : Option (List ℕ)) (line : List ℕ) (some : Bool) → line ≡ []
    → IsLine (cond some SomeSurvive NoneSurvive) asked told before after failed line
report_line (Ok command) told before after failed line true is = is
report_line (Ok command) told before after failed line false is = is
report_line (Err fault) told before after failed line true is = is
report_line (Err fault) told before after failed line false is = is

line_by : (told : Option (List NamedFile)) (before after : ℕ) (failed : Option (List ℕ)) (command : Command) (o : Outcome) (line : List ℕ) → Comes told command o
    → after ≡ faults_after before o → IsNamedLast failed o → line ≡ line_of o → IsLine (status_of o) (Ok command) told before after failed line
line_by told before after failed command (reports classes report) line comes counted named is = report_line (Ok command) told before after failed line (some_survive report) is
line_by told before after failed command (runs classes came) line comes counted named is = report_line (Ok command) told before after failed line (some_joined came) is
line_by told before after failed command (misuses error) line comes counted named is = (error, record { comes = comes; no_fault = counted }, is)
line_by told before after failed command (refuses refusal) line comes counted named is = (refusal, record { comes = comes; no_fault = counted }, is)
line_by told before after failed command (lacks name) line comes counted named is = (name, no_file comes counted, is)
line_by told before after failed command (fails name) line comes counted named is = (name, failed_call comes counted named, is)

pub line_is : (asked : Result Command UsageFault) (told : Option (List NamedFile)) (before after : ℕ) (failed : Option (List ℕ)) (d : Decided)
    → Decides asked told before after failed d → IsLine d.status asked told before after failed d.line
line_is (Err fault) told before after failed d decides =
    subst (λ (s : Status). IsLine s (Err fault) told before after failed d.line) (sym decides.status_is) decides.line_is
line_is (Ok command) told before after failed d decides =
    subst (λ (s : Status). IsLine s (Ok command) told before after failed d.line) (sym decides.shows.status_is)
    (line_by told before after failed command decides.outcome d.line decides.is_one decides.counted decides.named decides.shows.line_is)

-- ---- a store that tells

abbrev OneOutcome : Type 0
OneOutcome = (store : List NamedFile) (command : Command) (outcome other : Outcome) → Comes (Some store) command outcome
    → Comes (Some store) command other → (IsFault outcome → ⊥) → (IsFault other → ⊥) → outcome ≡ other

decided_of : (asked : Result Command UsageFault) (told : Option (List NamedFile)) (before after : ℕ) (failed : Option (List ℕ)) (d : Decided) (command : Command) (store : List NamedFile)
    → Decides asked told before after failed d → asked ≡ Ok command → told ≡ Some store → DecidesOne (Comes (Some store) command) before after failed d
decided_of asked told before after failed d command store decides is tells =
    subst (λ (t : Option (List NamedFile)). Decides (Ok command) t before after failed d) tells
    (subst (λ (a : Result Command UsageFault). Decides a told before after failed d) is decides)

-- whether an outcome is a fault
faulty : (x : Outcome) → (IsFault x) ⊎ (IsFault x → ⊥)
faulty (reports classes report) = inr (λ h. h)
faulty (runs classes came) = inr (λ h. h)
faulty (misuses error) = inr (λ h. h)
faulty (refuses refusal) = inr (λ h. h)
faulty (lacks name) = inr (λ h. h)
faulty (fails name) = inl tt

fault_shows : (x : Outcome) → IsFault x → (status_of x ≡ ReadFault) × (output_of x ≡ [])
fault_shows (reports classes report) fault = absurd fault
fault_shows (runs classes came) fault = absurd fault
fault_shows (misuses error) fault = absurd fault
fault_shows (refuses refusal) fault = absurd fault
fault_shows (lacks name) fault = absurd fault
fault_shows (fails name) fault = (refl, refl)

fault_counts : (x : Outcome) (before after : ℕ) → IsFault x → after ≡ faults_after before x → after ≡ before → ⊥
fault_counts (reports classes report) before after fault counted same = fault
fault_counts (runs classes came) before after fault counted same = fault
fault_counts (misuses error) before after fault counted same = fault
fault_counts (refuses refusal) before after fault counted same = fault
fault_counts (lacks name) before after fault counted same = fault
fault_counts (fails name) before after fault counted same = omega (arith, counted, same)

-- what is decided shows the outcome that comes, where no call failed
pub shown : OneOutcome → (asked : Result Command UsageFault) (told : Option (List NamedFile)) (before after : ℕ) (failed : Option (List ℕ)) (d : Decided) (command : Command)
    (store : List NamedFile) (o : Outcome) → Decides asked told before after failed d → asked ≡ Ok command → told ≡ Some store → Comes (Some store) command o → (IsFault o → ⊥)
    → after ≡ before → Shows o d
shown law asked told before after failed d command store o decides is tells comes fine same =
    let of = decided_of asked told before after failed d command store decides is tells in
    subst (λ (x : Outcome). Shows x d)
    (law store command of.outcome o of.is_one comes (λ fault. fault_counts of.outcome before after fault of.counted same) fine) of.shows

-- it shows that outcome, or a fault
pub shown_or_fault : OneOutcome → (asked : Result Command UsageFault) (told : Option (List NamedFile)) (before after : ℕ) (failed : Option (List ℕ)) (d : Decided) (command : Command)
    (store : List NamedFile) (o : Outcome) → Decides asked told before after failed d → asked ≡ Ok command → told ≡ Some store → Comes (Some store) command o → (IsFault o → ⊥)
    → Shows o d ⊎ ((d.status ≡ ReadFault) × (d.text ≡ []))
shown_or_fault law asked told before after failed d command store o decides is tells comes fine =
    let of = decided_of asked told before after failed d command store decides is tells in
    elim (faulty of.outcome) [
      | inl fault ↦ (let f = fault_shows of.outcome fault in inr (of.shows.status_is ∙ f.0, of.shows.text_is ∙ f.1))
      | inr none ↦ inl (subst (λ (x : Outcome). Shows x d) (law store command of.outcome o of.is_one comes none fine) of.shows)
    ]

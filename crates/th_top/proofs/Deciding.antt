-- What is decided of the files that are named, from what was read of them.
use Rattle.std.proofs.Common.{◌≡◌, ℕ, ◌<◌, List, Option, None, Some, Result, Ok, Err, refl, sym, ap, subst, ◌∙◌, arith}
use Rattle.std.specs.Prelude.{IfOk}
use Rattle.std.specs.declared.alloc.AllocError.{AllocError}
use Rattle.th_base.specs.declared.fail.Fail.{Fail}
use Rattle.th_base.specs.declared.fail.Fail.TheVariants.{Refused, NoMemory}
use Rattle.th_base.specs.declared.lifecycle.Lifecycle.{Lifecycle}
use Rattle.th_outside.specs.Store.{NamedFile}
use Rattle.th_syntax.specs.declared.class_file.ClassFile.{ClassFile}
use Rattle.th_input.specs.Input.{IfStopped, FailedAfterUnread, faults_after_unread}
use Rattle.th_input.specs.declared.unread.Unread.{Unread}
use Rattle.th_input.specs.declared.unread.Unread.TheVariants.{Missing, Failed, BadLine, TooManyFiles, TooManyBytes}
use Rattle.th_words.specs.declared.command.Command.{Command}
use Rattle.th_words.specs.declared.command.UsageFault.{UsageFault}
use Rattle.th_top.specs.Answer.{FaultIsOf, FaultIsNamed, IsLast}
use Rattle.th_top.specs.Decided.{Shows, ShowsOne, faults_after, IsNamedLast, DecidesOne}
use Rattle.th_top.specs.Outcome.{Outcome, reports, runs, misuses, refuses, lacks, fails, outcome_of, IsFault, GivesReport, GivesRun, no_events, no_event, whole, IsOutcomeOf, refused, program, IsOutcomeOfScript, bad_line, good_lines}
use Rattle.th_top.specs.declared.shown.Decided.{Decided}

-- ---- one outcome

-- what shows an outcome shows one of those that it is among
pub one_shown : (r : Result Decided AllocError) (IsOne : Outcome → Type 0) (outcome : Outcome) → IsOne outcome → IfOk r (Shows outcome) → IfOk r (ShowsOne IsOne)
one_shown (Ok d) IsOne outcome is shows = record { outcome = outcome; is_one = is; shows = shows }
one_shown (Err e) IsOne outcome is shows = tt

-- the same of those that are among others
pub still_shown : (r : Result Decided AllocError) (IsOne IsOther : Outcome → Type 0) → ((outcome : Outcome) → IsOne outcome → IsOther outcome) → IfOk r (ShowsOne IsOne)
    → IfOk r (ShowsOne IsOther)
still_shown (Ok d) IsOne IsOther then shows = record { outcome = shows.outcome; is_one = then shows.outcome shows.is_one; shows = shows.shows }
still_shown (Err e) IsOne IsOther then shows = tt

-- ---- an outcome of what was read is no fault

abbrev pub NoFault : (Outcome → Type 0) → Type 0
NoFault IsOne = (outcome : Outcome) → IsOne outcome → IsFault outcome → ⊥

report_no_fault : (classes : List ClassFile) → NoFault (GivesReport classes)
report_no_fault classes outcome e fault = subst IsFault e fault

run_no_fault : (script : List ℕ) (fuel : ℕ) (lifecycle : Lifecycle) (classes : List ClassFile) → NoFault (GivesRun script fuel lifecycle classes)
run_no_fault script fuel lifecycle classes outcome (no_events error is e) fault = subst IsFault e fault
run_no_fault script fuel lifecycle classes outcome (no_event events x is run e) fault = subst IsFault e fault
run_no_fault script fuel lifecycle classes outcome (whole events came is run e) fault = subst IsFault e fault

files_no_fault : (Gives : List ClassFile → Outcome → Type 0) → ((classes : List ClassFile) → NoFault (Gives classes)) → (files : List NamedFile) → NoFault (IsOutcomeOf Gives files)
files_no_fault Gives none files outcome (refused refusal is e) fault = subst IsFault e fault
files_no_fault Gives none files outcome (program classes is gives) fault = none classes outcome gives fault

pub checked_no_fault : (files : List NamedFile) → NoFault (IsOutcomeOf GivesReport files)
checked_no_fault files = files_no_fault GivesReport report_no_fault files

pub script_no_fault : (script : List ℕ) (fuel : ℕ) (lifecycle : Lifecycle) (files : List NamedFile) → NoFault (IsOutcomeOfScript script fuel lifecycle files)
script_no_fault script fuel lifecycle files outcome (bad_line line is e) fault = subst IsFault e fault
script_no_fault script fuel lifecycle files outcome (good_lines is of) fault =
    files_no_fault (GivesRun script fuel lifecycle) (run_no_fault script fuel lifecycle) files outcome of fault

-- ---- the files that are named

same_count : (outcome : Outcome) (count : ℕ) → (IsFault outcome → ⊥) → faults_after count outcome ≡ count
same_count (reports classes report) count fine = refl
same_count (runs classes report) count fine = refl
same_count (misuses error) count fine = refl
same_count (refuses refusal) count fine = refl
same_count (lacks name) count fine = refl
same_count (fails name) count fine = absurd (fine tt)

no_name : (outcome : Outcome) (failed : Option (List ℕ)) → (IsFault outcome → ⊥) → IsNamedLast failed outcome
no_name (reports classes report) failed fine = tt
no_name (runs classes report) failed fine = tt
no_name (misuses error) failed fine = tt
no_name (refuses refusal) failed fine = tt
no_name (lacks name) failed fine = tt
no_name (fails name) failed fine = absurd (fine tt)

-- where all was read, what is decided shows an outcome of what was read
pub read_decided : (r : Result Decided AllocError) (IsOne IsOther : Outcome → Type 0) (before after : ℕ) (failed : Option (List ℕ)) → NoFault IsOne
    → ((outcome : Outcome) → IsOne outcome → IsOther outcome) → after ≡ before → IfOk r (ShowsOne IsOne) → IfOk r (DecidesOne IsOther before after failed)
read_decided (Ok d) IsOne IsOther before after failed none then same decides =
    let fine = none decides.outcome decides.is_one in
    record {
      outcome = decides.outcome;
      is_one = then decides.outcome decides.is_one;
      counted = same ∙ sym (same_count decides.outcome before fine);
      named = no_name decides.outcome failed fine;
      shows = decides.shows;
    }
read_decided (Err e) IsOne IsOther before after failed none then same decides = tt

counts_unread : (X : Type 0) (unread : Unread) (count : ℕ) → faults_after_unread {X = X} count (Err (Refused unread)) ≡ faults_after count (outcome_of unread)
counts_unread X (Missing name) count = refl
counts_unread X (Failed name) count = refl
counts_unread X (BadLine list offset) count = refl
counts_unread X TooManyFiles count = refl
counts_unread X (TooManyBytes name) count = refl

is_last : (X : Type 0) (old failed : Option (List ℕ)) (name : List ℕ) → FailedAfterUnread {X = X} old (Err (Refused (Failed name))) failed → IsLast failed name
is_last X old None name after = tt
is_last X old (Some last) name after = after

names_unread : (X : Type 0) (unread : Unread) (old failed : Option (List ℕ)) → FailedAfterUnread {X = X} old (Err (Refused unread)) failed → IsNamedLast failed (outcome_of unread)
names_unread X (Missing name) old failed after = tt
names_unread X (Failed name) old failed after = is_last X old failed name after
names_unread X (BadLine list offset) old failed after = tt
names_unread X TooManyFiles old failed after = tt
names_unread X (TooManyBytes name) old failed after = tt

-- what ends the reading is one of these outcomes
abbrev pub EndsAsOne : (Unread → Type 0) → (Outcome → Type 0) → Type 0
EndsAsOne Ends IsOne = (unread : Unread) → Ends unread → IsOne (outcome_of unread)

ended_decided : (X : Type 0) (r : Result Decided AllocError) (Ends : Unread → Type 0) (IsOne : Outcome → Type 0) (before after : ℕ)
    (old failed : Option (List ℕ)) (unread : Unread) → EndsAsOne Ends IsOne → Ends unread → after ≡ faults_after_unread {X = X} before (Err (Refused unread))
    → FailedAfterUnread {X = X} old (Err (Refused unread)) failed → IfOk r (Shows (outcome_of unread)) → IfOk r (DecidesOne IsOne before after failed)
ended_decided X (Ok d) Ends IsOne before after old failed unread come ends counted last shows = record {
  outcome = outcome_of unread;
  is_one = come unread ends;
  counted = counted ∙ counts_unread X unread before;
  named = names_unread X unread old failed last;
  shows = shows;
}
ended_decided X (Err e) Ends IsOne before after old failed unread come ends counted last shows = tt

pub unread_decided : {X : Type 0} (r : Result Decided AllocError) (Ends : Unread → Type 0) (IsOne : Outcome → Type 0) (before after : ℕ)
    (old failed : Option (List ℕ)) (result : Result X (Fail Unread)) (unread : Unread) → EndsAsOne Ends IsOne → result ≡ Err (Refused unread) → IfStopped result Ends
    → after ≡ faults_after_unread before result → FailedAfterUnread old result failed → IfOk r (Shows (outcome_of unread)) → IfOk r (DecidesOne IsOne before after failed)
unread_decided {X = X} r Ends IsOne before after old failed result unread come is ends counted last shows =
    ended_decided X r Ends IsOne before after old failed unread come (subst (λ (x : Result X (Fail Unread)). IfStopped x Ends) is ends)
    (counted ∙ ap (λ (x : Result X (Fail Unread)). faults_after_unread before x) is) (subst (λ (x : Result X (Fail Unread)). FailedAfterUnread old x failed) is last) shows

-- ---- faults

no_more : {A : Type 0} (before after : ℕ) → after ≡ before → before < after → A
no_more before after same more = absurd (let h : ⊥ = omega (arith, same, more) in h)

pub fault_named : {X : Type 0} (Ends : Unread → Type 0) (IsOne : Outcome → Type 0) (before after : ℕ) (old failed : Option (List ℕ)) (result : Result X (Fail Unread))
    → EndsAsOne Ends IsOne → IfStopped result Ends → after ≡ faults_after_unread before result → FailedAfterUnread old result failed → FaultIsOf IsOne before after failed
fault_named Ends IsOne before after old None result come ends counted last = tt
fault_named Ends IsOne before after old (Some name) (Ok x) come ends counted last = no_more before after counted
fault_named Ends IsOne before after old (Some name) (Err NoMemory) come ends counted last = no_more before after counted
fault_named Ends IsOne before after old (Some name) (Err (Refused (Missing file))) come ends counted last = no_more before after counted
fault_named Ends IsOne before after old (Some name) (Err (Refused (BadLine file offset))) come ends counted last = no_more before after counted
fault_named Ends IsOne before after old (Some name) (Err (Refused TooManyFiles)) come ends counted last = no_more before after counted
fault_named Ends IsOne before after old (Some name) (Err (Refused (TooManyBytes file))) come ends counted last = no_more before after counted
fault_named Ends IsOne before after old (Some name) (Err (Refused (Failed file))) come ends counted last =
    λ more. subst (λ (n : List ℕ). IsOne (fails n)) (sym last) (come (Failed file) ends)

-- where no count rose no fault is named
pub none_named : (asked : Result Command UsageFault) (told : Option (List NamedFile)) (count : ℕ) (failed : Option (List ℕ)) → IfOk asked (FaultIsNamed told count count failed)
none_named (Err fault) told count failed = tt
none_named (Ok command) told count None = tt
none_named (Ok command) told count (Some last) = no_more count count refl

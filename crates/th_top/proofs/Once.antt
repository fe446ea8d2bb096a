-- Of a store that tells what it holds one outcome comes of a command.
use Rattle.std.proofs.Common.{◌≡◌, ℕ, Bool, true, false, List, Option, Some, Result, Ok, Err, refl, ap, sym, subst, ◌∙◌}
use Rattle.th_base.specs.declared.lifecycle.Lifecycle.{Lifecycle}
use Rattle.th_outside.specs.Store.{NamedFile}
use Rattle.th_syntax.specs.declared.class_file.ClassFile.{ClassFile}
use Rattle.th_syntax.specs.declared.event.Event.{Event}
use Rattle.th_syntax.specs.declared.refusal.Refusal.{Refusal}
use Rattle.th_input.specs.Input as input
use Rattle.th_input.specs.Scripted as scripted
use Rattle.th_input.specs.declared.unread.Unread.{Unread}
use Rattle.th_input.specs.declared.unread.Unread.TheVariants.{Missing, Failed, BadLine, TooManyFiles, TooManyBytes}
use Rattle.th_accept.specs.Accepted.{IsAccepted, IsRefused}
use Rattle.th_coarse.specs.Coarse.{coarse_alarms, are_few}
use Rattle.th_harness.specs.Script.{first_bad_line, form_of, script_of}
use Rattle.th_harness.specs.declared.script_error.ScriptError.TheVariants.{Line, Event as BadEvent}
use Rattle.th_machine.specs.Script.{RunsScript}
use Rattle.th_machine.specs.declared.report.Report.{Report}
use Rattle.th_machine.specs.declared.report.ScriptFault.{ScriptFault}
use Rattle.th_words.specs.declared.command.Command.{Command}
use Rattle.th_words.specs.declared.command.Command.TheVariants.{Check, Run}
use Rattle.th_top.specs.Outcome.{Outcome, runs, misuses, refuses, outcome_of, IsOutcomeOf, refused, program, GivesReport, GivesRun, no_events, no_event, whole, IsChecked, at_reading, behind_reading, IsOutcomeOfScript, bad_line, good_lines, IsRun, at_script_reading, behind_script_reading, Comes, IsFault}
use Rattle.th_top.specs.Program.{IsProgram, IsFirstRefused, no_program, many_alarms}

-- ---- what is known of the reading, of class files and of runs

pub record OneProgram : Type 0 where
  pub accepted : (files : List NamedFile) (classes other : List ClassFile) → IsAccepted files classes → IsAccepted files other → classes ≡ other
  pub refused : (files : List NamedFile) (refusal other : Refusal) → IsRefused files refusal → IsRefused files other → refusal ≡ other
  pub not_both : (files : List NamedFile) (classes : List ClassFile) (refusal : Refusal) → IsAccepted files classes → IsRefused files refusal → ⊥

pub record OneInput : Type 0 where
  pub one : (store : List NamedFile) (list : Option (List ℕ)) (operands : List (List ℕ)) (read other : List NamedFile) → input.IsInput (Some store) list operands read
      → input.IsInput (Some store) list operands other → read ≡ other
  pub not_both : (store : List NamedFile) (list : Option (List ℕ)) (operands : List (List ℕ)) (read : List NamedFile) (unread : Unread) → input.IsInput (Some store) list operands read
      → input.Ends (Some store) list operands unread → input.IsFault unread
  pub one_end : (store : List NamedFile) (list : Option (List ℕ)) (operands : List (List ℕ)) (unread other : Unread) → input.Ends (Some store) list operands unread
      → input.Ends (Some store) list operands other → (input.IsFault unread → ⊥) → (input.IsFault other → ⊥) → unread ≡ other

pub record OneScripted : Type 0 where
  pub one_script : (store : List NamedFile) (script : List ℕ) (operands : List (List ℕ)) (bytes others : List ℕ) (read other : List NamedFile)
      → scripted.IsScripted (Some store) script operands bytes read → scripted.IsScripted (Some store) script operands others other → bytes ≡ others
  pub one : (store : List NamedFile) (script : List ℕ) (operands : List (List ℕ)) (bytes others : List ℕ) (read other : List NamedFile)
      → scripted.IsScripted (Some store) script operands bytes read → scripted.IsScripted (Some store) script operands others other → read ≡ other
  pub not_both : (store : List NamedFile) (script : List ℕ) (operands : List (List ℕ)) (bytes : List ℕ) (read : List NamedFile) (unread : Unread)
      → scripted.IsScripted (Some store) script operands bytes read → scripted.EndsScripted (Some store) script operands unread → input.IsFault unread
  pub one_end : (store : List NamedFile) (script : List ℕ) (operands : List (List ℕ)) (unread other : Unread) → scripted.EndsScripted (Some store) script operands unread
      → scripted.EndsScripted (Some store) script operands other → (input.IsFault unread → ⊥) → (input.IsFault other → ⊥) → unread ≡ other

abbrev pub OneRun : Type 0
OneRun = (files : List ClassFile) (lifecycle : Lifecycle) (fuel : ℕ) (events : List Event) (result other : Result (List Report) ScriptFault)
    → RunsScript files lifecycle fuel events result → RunsScript files lifecycle fuel events other → result ≡ other

-- ---- programs

apart : {A : Type 0} (b : Bool) → b ≡ true → b ≡ false → A
apart b is other = absurd (let h : ⊥ = cc (is, other) in h)

-- one program has too many alarms or few
few_and_many : {A : Type 0} (classes others : List ClassFile) → classes ≡ others → are_few (coarse_alarms classes) ≡ true → are_few (coarse_alarms others) ≡ false → A
few_and_many classes others same few many =
    apart (are_few (coarse_alarms classes)) few (ap (λ (cs : List ClassFile). are_few (coarse_alarms cs)) same ∙ many)

same_refusal : OneProgram → (files : List NamedFile) (a b : Refusal) → IsFirstRefused files a → IsFirstRefused files b → a ≡ b
same_refusal law files a b (no_program is) (no_program it) = law.refused files a b is it
same_refusal law files a b (no_program is) (many_alarms classes accepted many f) = absurd (law.not_both files classes a accepted is)
same_refusal law files a b (many_alarms classes accepted many e) (no_program it) = absurd (law.not_both files classes b accepted it)
same_refusal law files a b (many_alarms classes accepted many e) (many_alarms others too more f) = e ∙ sym f

not_refused : {A : Type 0} → OneProgram → (files : List NamedFile) (classes : List ClassFile) (r : Refusal) → IsProgram files classes → IsFirstRefused files r → A
not_refused law files classes r is (no_program it) = absurd (law.not_both files classes r is.accepted it)
not_refused law files classes r is (many_alarms others too many e) = few_and_many classes others (law.accepted files classes others is.accepted too) is.few many

-- ---- what a program gives

abbrev OneGiven : (List ClassFile → Outcome → Type 0) → Type 0
OneGiven Gives = (classes : List ClassFile) (a b : Outcome) → Gives classes a → Gives classes b → a ≡ b

one_report : OneGiven GivesReport
one_report classes a b e f = e ∙ sym f

error_is : {V R : Type 0} (a b : R) (r : Result V R) → r ≡ Err a → r ≡ Err b → a ≡ b
error_is a b r e f = cc (e, f)

value_is : {V R : Type 0} (a b : V) (r : Result V R) → r ≡ Ok a → r ≡ Ok b → a ≡ b
value_is a b r e f = cc (e, f)

neither : {A V R : Type 0} (value : V) (error : R) (r : Result V R) → r ≡ Ok value → r ≡ Err error → A
neither value error r e f = absurd (let h : ⊥ = cc (e, f) in h)

-- what a run of the same events comes to
same_run : OneRun → (classes : List ClassFile) (lifecycle : Lifecycle) (fuel : ℕ) (events others : List Event) (result other : Result (List Report) ScriptFault) → events ≡ others
    → RunsScript classes lifecycle fuel events result → RunsScript classes lifecycle fuel others other → result ≡ other
same_run law classes lifecycle fuel events others result other same a b =
    law classes lifecycle fuel others result other (subst (λ (es : List Event). RunsScript classes lifecycle fuel es result) same a) b

one_run : OneRun → (script : List ℕ) (fuel : ℕ) (lifecycle : Lifecycle) → OneGiven (GivesRun script fuel lifecycle)
one_run law script fuel lifecycle classes a b (no_events x is e) (no_events y it f) = e ∙ ap misuses (error_is x y (script_of classes script) is it) ∙ sym f
one_run law script fuel lifecycle classes a b (no_events x is e) (no_event events y it run f) = neither events x (script_of classes script) it is
one_run law script fuel lifecycle classes a b (no_events x is e) (whole events came it run f) = neither events x (script_of classes script) it is
one_run law script fuel lifecycle classes a b (no_event events x is run e) (no_events y it f) = neither events y (script_of classes script) is it
one_run law script fuel lifecycle classes a b (whole events came is run e) (no_events y it f) = neither events y (script_of classes script) is it
one_run law script fuel lifecycle classes a b (no_event events x is run e) (no_event others y it too f) =
    let same = same_run law classes lifecycle fuel events others (Err x) (Err y) (value_is events others (script_of classes script) is it) run too in
    e ∙ ap (λ (fault : ScriptFault). misuses (BadEvent fault.event)) (error_is x y (Err x) refl same) ∙ sym f
one_run law script fuel lifecycle classes a b (no_event events x is run e) (whole others came it too f) =
    let same = same_run law classes lifecycle fuel events others (Err x) (Ok came) (value_is events others (script_of classes script) is it) run too in
    neither came x (Err x) same refl
one_run law script fuel lifecycle classes a b (whole events came is run e) (no_event others y it too f) =
    let same = same_run law classes lifecycle fuel events others (Ok came) (Err y) (value_is events others (script_of classes script) is it) run too in
    neither came y (Ok came) refl same
one_run law script fuel lifecycle classes a b (whole events came is run e) (whole others more it too f) =
    let same = same_run law classes lifecycle fuel events others (Ok came) (Ok more) (value_is events others (script_of classes script) is it) run too in
    e ∙ ap (λ (rs : List Report). runs classes rs) (value_is came more (Ok came) refl same) ∙ sym f

-- ---- files that were read

same_of_files : OneProgram → (Gives : List ClassFile → Outcome → Type 0) → OneGiven Gives → (files : List NamedFile) (a b : Outcome) → IsOutcomeOf Gives files a → IsOutcomeOf Gives files b
    → a ≡ b
same_of_files law Gives one files a b (refused r is e) (refused s it f) = e ∙ ap refuses (same_refusal law files r s is it) ∙ sym f
same_of_files law Gives one files a b (refused r is e) (program classes it gives) = not_refused law files classes r it is
same_of_files law Gives one files a b (program classes is gives) (refused s it f) = not_refused law files classes s is it
same_of_files law Gives one files a b (program classes is gives) (program others it too) =
    one others a b (subst (λ (cs : List ClassFile). Gives cs a) (law.accepted files classes others is.accepted it.accepted) gives) too

same_of_script : OneProgram → OneRun → (script : List ℕ) (fuel : ℕ) (lifecycle : Lifecycle) (files : List NamedFile) (a b : Outcome) → IsOutcomeOfScript script fuel lifecycle files a
    → IsOutcomeOfScript script fuel lifecycle files b → a ≡ b
same_of_script law run script fuel lifecycle files a b (bad_line x is e) (bad_line y it f) =
    e ∙ ap (λ (n : ℕ). misuses (Line n)) (error_is x y (form_of (first_bad_line script)) is it) ∙ sym f
same_of_script law run script fuel lifecycle files a b (bad_line x is e) (good_lines it of) = neither tt x (form_of (first_bad_line script)) it is
same_of_script law run script fuel lifecycle files a b (good_lines is of) (bad_line y it f) = neither tt y (form_of (first_bad_line script)) is it
same_of_script law run script fuel lifecycle files a b (good_lines is of) (good_lines it too) =
    same_of_files law (GivesRun script fuel lifecycle) (one_run run script fuel lifecycle) files a b of too

-- ---- the files that are named

fault_of : (unread : Unread) → input.IsFault unread → IsFault (outcome_of unread)
fault_of (Missing name) fault = fault
fault_of (Failed name) fault = fault
fault_of (BadLine list offset) fault = fault
fault_of TooManyFiles fault = fault
fault_of (TooManyBytes name) fault = fault

no_fault : (outcome : Outcome) (unread : Unread) → outcome ≡ outcome_of unread → (IsFault outcome → ⊥) → input.IsFault unread → ⊥
no_fault outcome unread e fine fault = fine (subst IsFault (sym e) (fault_of unread fault))

same_checked : OneInput → OneProgram → (store : List NamedFile) (list : Option (List ℕ)) (operands : List (List ℕ)) (a b : Outcome)
    → IsChecked (Some store) list operands a → IsChecked (Some store) list operands b → (IsFault a → ⊥) → (IsFault b → ⊥) → a ≡ b
same_checked reading law store list operands a b (at_reading u ends e) (at_reading v end f) fine good =
    e ∙ ap outcome_of (reading.one_end store list operands u v ends end (no_fault a u e fine) (no_fault b v f good)) ∙ sym f
same_checked reading law store list operands a b (at_reading u ends e) (behind_reading files is of) fine good = absurd (no_fault a u e fine (reading.not_both store list operands files u is ends))
same_checked reading law store list operands a b (behind_reading files is of) (at_reading v end f) fine good = absurd (no_fault b v f good (reading.not_both store list operands files v is end))
same_checked reading law store list operands a b (behind_reading files is of) (behind_reading others it from) fine good =
    let same = reading.one store list operands files others is it in
    same_of_files law GivesReport one_report others a b (subst (λ (fs : List NamedFile). IsOutcomeOf GivesReport fs a) same of) from

same_ran : OneScripted → OneProgram → OneRun → (store : List NamedFile) (script : List ℕ) (fuel : ℕ) (lifecycle : Lifecycle) (operands : List (List ℕ)) (a b : Outcome)
    → IsRun (Some store) script fuel lifecycle operands a → IsRun (Some store) script fuel lifecycle operands b → (IsFault a → ⊥) → (IsFault b → ⊥) → a ≡ b
same_ran reading law run store script fuel lifecycle operands a b (at_script_reading u ends e) (at_script_reading v end f) fine good =
    e ∙ ap outcome_of (reading.one_end store script operands u v ends end (no_fault a u e fine) (no_fault b v f good)) ∙ sym f
same_ran reading law run store script fuel lifecycle operands a b (at_script_reading u ends e) (behind_script_reading bytes files is of) fine good =
    absurd (no_fault a u e fine (reading.not_both store script operands bytes files u is ends))
same_ran reading law run store script fuel lifecycle operands a b (behind_script_reading bytes files is of) (at_script_reading v end f) fine good =
    absurd (no_fault b v f good (reading.not_both store script operands bytes files v is end))
same_ran reading law run store script fuel lifecycle operands a b (behind_script_reading bytes files is of) (behind_script_reading others more it from) fine good =
    let same_bytes = reading.one_script store script operands bytes others files more is it in
    let same_files = reading.one store script operands bytes others files more is it in
    same_of_script law run others fuel lifecycle more a b
    (subst (λ (fs : List NamedFile). IsOutcomeOfScript others fuel lifecycle fs a) same_files (subst (λ (bs : List ℕ). IsOutcomeOfScript bs fuel lifecycle files a) same_bytes of)) from

pub same_outcome : OneInput → OneScripted → OneProgram → OneRun → (store : List NamedFile) (command : Command) (a b : Outcome) → Comes (Some store) command a
    → Comes (Some store) command b → (IsFault a → ⊥) → (IsFault b → ⊥) → a ≡ b
same_outcome reading scripts law run store (Check budget workers list lifecycle operands) a b = same_checked reading law store list operands a b
same_outcome reading scripts law run store (Run script fuel lifecycle operands) a b = same_ran scripts law run store script fuel lifecycle operands a b

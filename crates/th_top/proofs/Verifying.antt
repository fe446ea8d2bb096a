-- What a run of an accepted program joins survives in its report.
use Rattle.std.proofs.Common.{◌≡◌, ℕ, List, [], ◌∷◌, Option, subst}
use Rattle.std.specs.List.{AllByRecursion}
use Rattle.th_base.specs.declared.lifecycle.Lifecycle.{Lifecycle}
use Rattle.th_outside.specs.Store.{NamedFile}
use Rattle.th_syntax.specs.declared.class_file.ClassFile.{ClassFile}
use Rattle.th_syntax.specs.declared.class_file.Code.{Code}
use Rattle.th_syntax.specs.declared.class_file.Member.{Member}
use Rattle.th_input.specs.declared.unread.Unread.{Unread}
use Rattle.th_input.specs.declared.unread.Unread.TheVariants.{Missing, Failed, BadLine, TooManyFiles, TooManyBytes}
use Rattle.th_kinds.specs.Inferred.{AreKindsOf}
use Rattle.th_accept.specs.Accepted.{StandFor, HasKindsOf, HasAllKinds, IsAccepted}
use Rattle.th_runs.specs.Verified.{IsRead, HasItsKinds, IsVerified}
use Rattle.th_coarse.specs.Report.{report_of, survivors}
use Rattle.th_coarse.specs.Safety.{AreAllJoined}
use Rattle.th_coarse.specs.declared.judged.Judged.{Judged}
use Rattle.th_words.specs.declared.command.Command.{Command}
use Rattle.th_words.specs.declared.command.Command.TheVariants.{Check, Run}
use Rattle.th_top.specs.Outcome.{reports, outcome_of, GivesReport, IsOutcomeOf, refused, program, GivesRun, no_events, no_event, whole, IsChecked, at_reading, behind_reading, IsOutcomeOfScript, bad_line, good_lines, IsRun, at_script_reading, behind_script_reading, Comes}

-- ---- accepted programs were read and linked, and their code has kinds

all_read : (files : List NamedFile) (classes : List ClassFile) → StandFor files classes → AllByRecursion IsRead classes
all_read [] [] stand = tt
all_read [] (c ∷ classes) stand = absurd stand
all_read (f ∷ files) [] stand = absurd stand
all_read (f ∷ files) (c ∷ classes) stand = ((f.1, stand.0), all_read files classes stand.1)

its_kinds : (m : Member) → HasKindsOf m → HasItsKinds m
its_kinds m has code coded =
    let are = subst (λ (o : Option Code). AreKindsOf m o has.0) coded has.1 in
    (are.table, are.has)

all_kinds : (methods : List Member) → AllByRecursion HasKindsOf methods → AllByRecursion HasItsKinds methods
all_kinds [] have = tt
all_kinds (m ∷ methods) have = (its_kinds m have.0, all_kinds methods have.1)

each_has_kinds : (classes : List ClassFile) → AllByRecursion HasAllKinds classes → AllByRecursion (λ (c : ClassFile). AllByRecursion HasItsKinds c.methods) classes
each_has_kinds [] have = tt
each_has_kinds (c ∷ classes) have = (all_kinds c.methods have.0, each_has_kinds classes have.1)

pub verified : (files : List NamedFile) (classes : List ClassFile) → IsAccepted files classes → IsVerified classes
verified files classes accepted = record { read = all_read files classes accepted.stand; linked = accepted.linked; kinds = each_has_kinds classes accepted.kinds }

-- ---- the report of an outcome

abbrev Survive : Type 0
Survive = (lifecycle : Lifecycle) (classes : List ClassFile) → IsVerified classes → AreAllJoined lifecycle classes (survivors (report_of classes))

no_report : {A : Type 0} (unread : Unread) (classes : List ClassFile) (report : List Judged) → reports classes report ≡ outcome_of unread → A
no_report (Missing name) classes report e = absurd (let h : ⊥ = cc e in h)
no_report (Failed name) classes report e = absurd (let h : ⊥ = cc e in h)
no_report (BadLine list offset) classes report e = absurd (let h : ⊥ = cc e in h)
no_report TooManyFiles classes report e = absurd (let h : ⊥ = cc e in h)
no_report (TooManyBytes name) classes report e = absurd (let h : ⊥ = cc e in h)

joined_of_files : Survive → (files : List NamedFile) (classes : List ClassFile) (report : List Judged) (lifecycle : Lifecycle) → IsOutcomeOf GivesReport files (reports classes report)
    → AreAllJoined lifecycle classes (survivors report)
joined_of_files law files classes report lifecycle (refused r is e) = absurd (let h : ⊥ = cc e in h)
joined_of_files law files classes report lifecycle (program others is e) =
    let same : others ≡ classes = cc e in
    let told : report_of others ≡ report = cc e in
    subst (λ (r : List Judged). AreAllJoined lifecycle classes (survivors r)) told
    (subst (λ (cs : List ClassFile). AreAllJoined lifecycle cs (survivors (report_of others))) same (law lifecycle others (verified files others is.accepted)))

-- a run has no report
not_given : {A : Type 0} (script : List ℕ) (fuel : ℕ) (lifecycle : Lifecycle) (others classes : List ClassFile) (report : List Judged)
    → GivesRun script fuel lifecycle others (reports classes report) → A
not_given script fuel lifecycle others classes report (no_events error is e) = absurd (let h : ⊥ = cc e in h)
not_given script fuel lifecycle others classes report (no_event events fault is run e) = absurd (let h : ⊥ = cc e in h)
not_given script fuel lifecycle others classes report (whole events came is run e) = absurd (let h : ⊥ = cc e in h)

not_of_files : {A : Type 0} (script : List ℕ) (fuel : ℕ) (lifecycle : Lifecycle) (files : List NamedFile) (classes : List ClassFile) (report : List Judged)
    → IsOutcomeOf (GivesRun script fuel lifecycle) files (reports classes report) → A
not_of_files script fuel lifecycle files classes report (refused r is e) = absurd (let h : ⊥ = cc e in h)
not_of_files script fuel lifecycle files classes report (program others is gives) = not_given script fuel lifecycle others classes report gives

not_of_script : {A : Type 0} (script : List ℕ) (fuel : ℕ) (lifecycle : Lifecycle) (files : List NamedFile) (classes : List ClassFile) (report : List Judged)
    → IsOutcomeOfScript script fuel lifecycle files (reports classes report) → A
not_of_script script fuel lifecycle files classes report (bad_line line is e) = absurd (let h : ⊥ = cc e in h)
not_of_script script fuel lifecycle files classes report (good_lines is of) = not_of_files script fuel lifecycle files classes report of

not_run : {A : Type 0} (told : Option (List NamedFile)) (script : List ℕ) (fuel : ℕ) (lifecycle : Lifecycle) (operands : List (List ℕ)) (classes : List ClassFile) (report : List Judged)
    → IsRun told script fuel lifecycle operands (reports classes report) → A
not_run told script fuel lifecycle operands classes report (at_script_reading unread ends e) = no_report unread classes report e
not_run told script fuel lifecycle operands classes report (behind_script_reading bytes files is of) = not_of_script bytes fuel lifecycle files classes report of

joined_of_checked : Survive → (told : Option (List NamedFile)) (list : Option (List ℕ)) (operands : List (List ℕ)) (classes : List ClassFile) (report : List Judged) (lifecycle : Lifecycle)
    → IsChecked told list operands (reports classes report) → AreAllJoined lifecycle classes (survivors report)
joined_of_checked law told list operands classes report lifecycle (at_reading unread ends e) = no_report unread classes report e
joined_of_checked law told list operands classes report lifecycle (behind_reading files is of) = joined_of_files law files classes report lifecycle of

pub all_joined : Survive → (told : Option (List NamedFile)) (command : Command) (classes : List ClassFile) (report : List Judged) (lifecycle : Lifecycle)
    → Comes told command (reports classes report) → AreAllJoined lifecycle classes (survivors report)
all_joined law told (Check budget workers list order operands) classes report lifecycle comes = joined_of_checked law told list operands classes report lifecycle comes
all_joined law told (Run script fuel order operands) classes report lifecycle comes = not_run told script fuel order operands classes report comes

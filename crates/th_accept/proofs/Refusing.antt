-- What follows from the answers at all files and at all classes.
use Rattle.std.proofs.Common.{◌≡◌, ℕ, suc, ◌<◌, List, ◌∷◌, ◌++◌, length, take, drop, get_or, None, Some, Result, Ok, Err, ap, sym, ◌∙◌, subst, Vec, Global}
use Rattle.std.specs.Prelude.{IfOk}
use Rattle.std.specs.List.{AllByRecursion, AllZip}
use Rattle.th_base.specs.declared.fail.Fail.{Fail}
use Rattle.th_base.specs.declared.fail.Fail.TheVariants.{Refused, NoMemory}
use Rattle.th_syntax.specs.declared.class_file.ClassFile.{ClassFile}
use Rattle.th_syntax.specs.declared.class_file.Member.{Member}
use Rattle.th_syntax.specs.declared.refusal.Refusal.{Refusal}
use Rattle.th_kinds.specs.Inferred as kinds
use Rattle.th_accept.specs.Accepted.{File, StandFor, HasKindsOf, HasAllKinds, IsFileRefused, AreKindsRefused}
use Rattle.th_accept.specs.Answers.{AnswersFile, AnswersClass, IfRefused, first_error, values_before}
use Rattle.th_accept.proofs.Ordered.{all_good, first_bad, all_of, cut_at}

-- ---- one class

pub method_refused : (class : ClassFile) (fail : Fail Refusal) (i : ℕ) (m : Member) → i < length class.methods → m ≡ get_or class.methods i m → AllByRecursion HasKindsOf (take i class.methods)
    → kinds.IfRefused {X = Unit {0}} (Err fail) (kinds.IsConflict class.name m) → AnswersClass class (Err fail)
method_refused class (Refused refusal) i m within is fine conflict = record {
  before = take i class.methods;
  method = m;
  behind = drop (suc i) class.methods;
  methods_are = cut_at class.methods i m within ∙ ap (λ (x : Member). take i class.methods ++ x ∷ drop (suc i) class.methods) (sym is);
  fine = fine;
  conflict = conflict;
}
method_refused class NoMemory i m within is fine conflict = tt

-- ---- all classes

pub all_have_kinds : (classes : List ClassFile) (answers : List (Result (Unit {0}) (Fail Refusal))) → AllZip AnswersClass classes answers → first_error answers ≡ None → AllByRecursion HasAllKinds classes
all_have_kinds classes answers each none = all_of HasAllKinds classes (values_before answers) (all_good AnswersClass classes answers each none)

pub kinds_refused : (classes : List ClassFile) (answers : List (Result (Unit {0}) (Fail Refusal))) (fail : Fail Refusal) → AllZip AnswersClass classes answers
    → IfRefused {X = Unit {0}} (Err fail) (λ refusal. first_error answers ≡ Some (Refused refusal)) → IfRefused {X = Unit {0}} (Err fail) (AreKindsRefused classes)
kinds_refused classes answers (Refused refusal) each some =
    let found = first_bad AnswersClass classes answers refusal each some in
    record { before = found.before; class = found.item; behind = found.behind; classes_are = found.items_are; fine = all_of HasAllKinds found.before found.values found.good; method = found.bad }
kinds_refused classes answers NoMemory each some = tt

-- ---- all files

pub all_stand : (r : Result (Vec ClassFile Global) (Fail Refusal)) (files : List File) (answers : List (Result ClassFile (Fail Refusal))) → AllZip AnswersFile files answers
    → IfOk r (λ values. first_error answers ≡ None) → IfOk r (λ values. values.items ≡ values_before answers) → IfOk r (λ classes. StandFor files classes.items)
all_stand (Ok classes) files answers each none values =
    subst (StandFor files) (sym values) (all_good AnswersFile files answers each none)
all_stand (Err e) files answers each none values = tt

pub file_refused : (r : Result (Vec ClassFile Global) (Fail Refusal)) (files : List File) (answers : List (Result ClassFile (Fail Refusal))) → AllZip AnswersFile files answers
    → IfRefused r (λ refusal. first_error answers ≡ Some (Refused refusal)) → IfRefused r (IsFileRefused files)
file_refused (Ok classes) files answers each some = tt
file_refused (Err (Refused refusal)) files answers each some =
    let found = first_bad AnswersFile files answers refusal each some in
    record { before = found.before; file = found.item; behind = found.behind; files_are = found.items_are; classes = found.values; stand = found.good; flaw = found.bad.0; first = found.bad.1; refusal_is = found.bad.2 }
file_refused (Err NoMemory) files answers each some = tt

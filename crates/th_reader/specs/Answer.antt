-- What the reader answers of a file.
use Rattle.std.specs.Prelude.{◌≡◌, ℕ, List, [], Result, Ok, Err}
use Rattle.th_base.specs.declared.fail.Fail.{Fail}
use Rattle.th_base.specs.declared.fail.Fail.TheVariants.{Refused, NoMemory}
use Rattle.th_syntax.specs.declared.class_file.ClassFile.{ClassFile}
use Rattle.th_syntax.specs.declared.refusal.Flaw.{Flaw}
use Rattle.th_syntax.specs.declared.refusal.Refusal.{Refusal}

-- the refusal of a file for a flaw: its number and its offset, the file's name and no member
abbrev pub IsRefusal : List ℕ → Flaw → Refusal → Type 0
IsRefusal file flaw refusal = refusal ≡ record { number = flaw.number; class = file; member = []; offset = flaw.offset }

-- a fact of a refusal
abbrev pub IfFileRefused : {X : Type 0} → Result X (Fail Refusal) → (Refusal → Type 0) → Type 0
IfFileRefused (Ok x) P = Unit {0}
IfFileRefused (Err (Refused refusal)) P = P refusal
IfFileRefused (Err NoMemory) P = Unit {0}

-- the value is given exactly where there is one, and else the refusal for the flaw, or memory ran out
abbrev pub AnswersFile : List ℕ → Result ClassFile (Fail Refusal) → Result ClassFile Flaw → Type 0
AnswersFile file (Ok value) given = given ≡ Ok value
AnswersFile file (Err (Refused refusal)) given = (flaw : Flaw) × (given ≡ Err flaw) × IsRefusal file flaw refusal
AnswersFile file (Err NoMemory) given = Unit {0}

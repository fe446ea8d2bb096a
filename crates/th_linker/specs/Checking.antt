-- What the checks of linking answer, and the condition under which members have numbers.
use Rattle.std.specs.Prelude.{ℕ, ◌≡◌, ◌<◌, ◌^◌, List, [], length, slice_get, sum_by, Some, Result, Ok, Err}
use Rattle.th_base.specs.declared.fail.Fail.{Fail}
use Rattle.th_base.specs.declared.fail.Fail.TheVariants.{Refused, NoMemory}
use Rattle.th_syntax.specs.declared.class_file.ClassFile.{ClassFile}
use Rattle.th_syntax.specs.declared.refusal.Refusal.{Refusal}
use Rattle.th_syntax.specs.Program.{all_classes}

-- the first refusal of those that a check finds, or memory ran out
abbrev pub Refuses : Fail Refusal → List Refusal → Type 0
Refuses (Refused refusal) found = slice_get found 0 ≡ Some refusal
Refuses NoMemory found = Unit {0}

-- a check finds nothing, or is refused for the first that it finds
abbrev pub Checks : {X : Type 0} → Result X (Fail Refusal) → List Refusal → Type 0
Checks (Ok x) found = found ≡ []
Checks (Err fail) found = Refuses fail found

-- a fact of a refusal, unless memory ran out
abbrev pub OnRefused : Fail Refusal → (Refusal → Type 0) → Type 0
OnRefused (Refused refusal) P = P refusal
OnRefused NoMemory P = Unit {0}

-- a fact of the refusal of a call
abbrev pub IfRefused : {X : Type 0} → Result X (Fail Refusal) → (Refusal → Type 0) → Type 0
IfRefused (Ok x) P = Unit {0}
IfRefused (Err fail) P = OnRefused fail P

-- the classes of a program, its fields and its methods have numbers of 32 bits
pub record AreNumbered (files : List ClassFile) : Type 0 where
  pub classes : length (all_classes files) < 2 ^ 32
  pub fields : sum_by (λ c. length c.fields) (all_classes files) < 2 ^ 32
  pub methods : sum_by (λ c. length c.methods) (all_classes files) < 2 ^ 32

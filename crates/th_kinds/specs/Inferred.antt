-- What the kinds of a method are, and why it is refused.
use Rattle.std.specs.Prelude.{◌≡◌, ℕ, List, [], ◌++◌, Option, None, Some, Result, Ok, Err}
use Rattle.th_base.specs.declared.fail.Fail.{Fail}
use Rattle.th_base.specs.declared.fail.Fail.TheVariants.{Refused, NoMemory}
use Rattle.th_syntax.specs.declared.class_file.Member.{Member}
use Rattle.th_syntax.specs.declared.class_file.Code.{Code}
use Rattle.th_syntax.specs.declared.refusal.Refusal.{Refusal}
use Rattle.th_syntax.specs.Kinds.{KindsAt}
use Rattle.th_syntax.specs.KindTable.{KindsBefore, AreKinds, HasFirstConflict}
use Rattle.th_kinds.specs.declared.inference.TheConstants.{KIND_CONFLICT}

-- the kinds of a method's code, and none of a method without code
abbrev pub AreKindsOf : Member → Option Code → List KindsBefore → Type 0
AreKindsOf m None kinds = kinds ≡ []
AreKindsOf m (Some code) kinds = AreKinds m code kinds

-- the refusal of a method of a class for the first conflict of its kinds
pub record IsConflict (class : List ℕ) (m : Member) (refusal : Refusal) : Type 0 where
  pub code : Code
  pub coded : m.code ≡ Some code
  pub table : ℕ → KindsAt
  pub conflict : HasFirstConflict m code table refusal.offset
  pub number : refusal.number ≡ KIND_CONFLICT
  pub class_name : refusal.class ≡ class
  pub member : refusal.member ≡ m.name ++ m.descriptor

-- it holds of the refusal, where there is one
abbrev pub IfRefused : {X : Type 0} → Result X (Fail Refusal) → (Refusal → Type 0) → Type 0
IfRefused (Ok x) P = Unit {0}
IfRefused (Err (Refused refusal)) P = P refusal
IfRefused (Err NoMemory) P = Unit {0}

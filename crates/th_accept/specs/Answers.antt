-- Private to the calls: what each answers of one file or one class.
use Rattle.std.specs.Prelude.{◌≡◌, ◌<◌, ◌^◌, length, List, [], ◌∷◌, Option, None, Some, Result, Ok, Err, Contains, ⊤}
use Rattle.th_base.specs.declared.fail.Fail.{Fail}
use Rattle.th_base.specs.declared.fail.Fail.TheVariants.{Refused, NoMemory}
use Rattle.th_syntax.specs.declared.class_file.ClassFile.{ClassFile}
use Rattle.th_syntax.specs.declared.class_file.Code.{Code}
use Rattle.th_syntax.specs.declared.class_file.Member.{Member}
use Rattle.th_syntax.specs.declared.refusal.Flaw.{Flaw}
use Rattle.th_syntax.specs.declared.refusal.Refusal.{Refusal}
use Rattle.th_syntax.specs.ClassGrammar.{IsClassFile}
use Rattle.th_syntax.specs.FirstFlaw.{FirstFlaw}
use Rattle.th_reader.specs.Answer.{IsRefusal}
use Rattle.th_kinds.specs.Flowing.{FlowsWell}
use Rattle.th_accept.specs.Accepted.{File, HasAllKinds, IsMethodRefused}

-- the answer at one file; want of memory is free
abbrev pub AnswersFile : File → Result ClassFile (Fail Refusal) → Type 0
AnswersFile file (Ok class) = IsClassFile file.1 class
AnswersFile file (Err (Refused refusal)) = (flaw : Flaw) × FirstFlaw file.1 flaw × IsRefusal file.0 flaw refusal
AnswersFile file (Err NoMemory) = ⊤

-- an offset of 32 bits leads anywhere in a file
abbrev pub IsShort : File → Type 0
IsShort file = length file.1 < 2 ^ 32

-- control stays within the code of each method of a class, as the kinds of its methods ask
abbrev pub FlowsThroughout : ClassFile → Type 0
FlowsThroughout class = (m : Member) (code : Code) → Contains class.methods m → m.code ≡ Some code → FlowsWell code.instrs

-- the answer at one class
abbrev pub AnswersClass : ClassFile → Result (Unit {0}) (Fail Refusal) → Type 0
AnswersClass class (Ok done) = HasAllKinds class
AnswersClass class (Err (Refused refusal)) = IsMethodRefused class refusal
AnswersClass class (Err NoMemory) = ⊤

-- a fact of the refusal, where there is one
abbrev pub IfRefused : {X : Type 0} → Result X (Fail Refusal) → (Refusal → Type 0) → Type 0
IfRefused (Ok x) P = ⊤
IfRefused (Err (Refused refusal)) P = P refusal
IfRefused (Err NoMemory) P = ⊤

-- ---- answers in order

-- the values before the first error, and that error, if there is one
abbrev pub values_before : {X E : Type 0} → List (Result X E) → List X
values_before [] = []
values_before (Ok x ∷ answers) = x ∷ values_before answers
values_before (Err e ∷ answers) = []

abbrev pub first_error : {X E : Type 0} → List (Result X E) → Option E
first_error [] = None
first_error (Ok x ∷ answers) = first_error answers
first_error (Err e ∷ answers) = Some e

-- Small programs whose runs are worked out in full: one Activity that stores itself into a static
-- field when it is created, and one that also clears the field when it is destroyed.
use Rattle.std.specs.Prelude.{ℕ, zero, suc, false, List, [], ◌∷◌, ◌++◌, codes, map, Option, None, Some}
use Rattle.std.specs.Option.{option_and_then}
use Rattle.th_syntax.specs.declared.class_file.ClassFile.{ClassFile}
use Rattle.th_syntax.specs.declared.class_file.Member.{Member}
use Rattle.th_syntax.specs.declared.instr.Instr.{Instr}
use Rattle.th_syntax.specs.declared.instr.Instr.TheVariants.{ALoad, Null, InvokeSpecial, PutStatic, Return}
use Rattle.th_syntax.specs.declared.instr.MemberRef.{MemberRef}
use Rattle.th_base.specs.declared.built_in.TheConstants.{ACTIVITY}
use Rattle.th_syntax.specs.Machine.{Value, Instance, Done, State, class_id}
use Rattle.th_syntax.specs.Program.{built_in_classes}
use Rattle.th_syntax.specs.Step.{step}

-- the static field `Act.last`
abbrev pub last_field : Member
last_field = record { access = 8; name = codes "last"; descriptor = codes "Landroid/app/Activity;"; constant = None; code = None }

abbrev pub last_ref : MemberRef
last_ref = record { owner = codes "Act"; name = codes "last"; descriptor = codes "Landroid/app/Activity;" }

abbrev pub super_constructor : MemberRef
super_constructor = record { owner = ACTIVITY.now; name = codes "<init>"; descriptor = codes "()V" }

-- a method of two instructions, of one and of three bytes, and `return`
abbrev pub method_of_two : List ℕ → List ℕ → Instr → Instr → Member
method_of_two name descriptor first second = record {
  access = 1;
  name = name;
  descriptor = descriptor;
  constant = None;
  code = Some record { max_stack = 1; max_locals = 2; instrs = (0, first) ∷ (1, second) ∷ (4, Return) ∷ []; handlers = 0 };
}

-- calls the superclass's constructor
abbrev pub constructor_method : Member
constructor_method = method_of_two (codes "<init>") (codes "()V") (ALoad 0) (InvokeSpecial super_constructor)

-- stores the object itself
abbrev pub storing_method : Member
storing_method = method_of_two (codes "onCreate") (codes "(Landroid/os/Bundle;)V") (ALoad 0) (PutStatic last_ref)

-- stores null
abbrev pub clearing_method : Member
clearing_method = method_of_two (codes "onDestroy") (codes "()V") Null (PutStatic last_ref)

-- an Activity with these fields and methods
abbrev pub activity_with : List Member → List Member → ClassFile
activity_with fields methods = record {
  major = 52;
  access = 33;
  name = codes "Act";
  super_name = Some ACTIVITY.now;
  interfaces = [];
  fields = fields;
  methods = methods;
}

-- an Activity without fields
abbrev pub plain_program : List ClassFile
plain_program = activity_with [] (constructor_method ∷ []) ∷ []

-- one that stores itself
abbrev pub storing_program : List ClassFile
storing_program = activity_with (last_field ∷ []) (constructor_method ∷ storing_method ∷ []) ∷ []

-- one that stores itself, and clears the field
abbrev pub clearing_program : List ClassFile
clearing_program = activity_with (last_field ∷ []) (constructor_method ∷ storing_method ∷ clearing_method ∷ []) ∷ []

-- so many steps, where there is a state to begin with
abbrev pub steps : List ClassFile → ℕ → Option State → Option State
steps files zero s = s
steps files (suc n) s = steps files n (option_and_then (step files) s)

-- nothing runs, all classes are initialised, and the object at address 0 is of class 11, and
-- launched, at this stage
abbrev pub one_launched : List Value → ℕ → State
one_launched statics stage = record {
  heap = Instance (class_id 11) [] ∷ [];
  statics = statics;
  marks = map (λ c. Done) built_in_classes ++ Done ∷ [];
  frames = [];
  launched = record { object = 0; stage = stage } ∷ [];
  ended = false;
}

-- The classes of the generated program: a vector, and Activity classes of three kinds in turn. Each
-- class keeps something in a static field of its own, and the field keeps one of its objects for good,
-- never, or only if vectors were one.
use Rattle.std.specs.Prelude.{ℕ, zero, suc, ◌+◌, ◌%◌, ◌++◌, List, [], ◌∷◌, codes, pos, negsuc}
use Rattle.std.specs.Fmt.{decimal}
use Rattle.th_base.specs.declared.operation.Relation.TheVariants.{Ge, Le}
use Rattle.th_syntax.specs.declared.instr.MemberRef.{MemberRef}
use Rattle.th_syntax.specs.declared.instr.StackOp.TheVariants as stack
use Rattle.th_syntax.specs.declared.instr.Instr.{Instr}
use Rattle.th_base.specs.declared.operation.Elem.TheVariants as elem
use Rattle.th_syntax.specs.declared.instr.Instr.TheVariants.{Int, ALoad, ArrayStore, Stack, IfZero, IfInts, Return, GetStatic, PutStatic, GetField, PutField, InvokeVirtual, InvokeSpecial, New, ANewArray}
use Rattle.th_gen.specs.declared.draft.ClassWriter.{ClassWriter}
use Rattle.th_gen.specs.declared.draft.DraftField.{DraftField}
use Rattle.th_gen.specs.declared.draft.DraftMethod.{DraftMethod}

-- ---- names

abbrev pub object_name : List ℕ
object_name = codes "java/lang/Object"

abbrev pub activity_name : List ℕ
activity_name = codes "android/app/Activity"

abbrev pub vec_name : List ℕ
vec_name = codes "gen/Vec"

-- the name of the class of this number
abbrev pub class_name : ℕ → List ℕ
class_name number = codes "gen/A" ++ decimal number

abbrev pub object_type : List ℕ
object_type = codes "Ljava/lang/Object;"

abbrev pub array_type : List ℕ
array_type = codes "[Ljava/lang/Object;"

abbrev pub member : List ℕ → List ℕ → List ℕ → MemberRef
member owner name descriptor = record { owner = owner; name = name; descriptor = descriptor }

-- a class's constructor without parameters
abbrev pub constructor : List ℕ → MemberRef
constructor owner = member owner (codes "<init>") (codes "()V")

-- ---- members

abbrev pub public_method : List ℕ → List ℕ → ℕ → ℕ → List Instr → DraftMethod
public_method name descriptor max_stack max_locals instrs =
    record { access = 1; name = name; descriptor = descriptor; max_stack = max_stack; max_locals = max_locals; instrs = instrs }

abbrev pub class_initialiser : ℕ → List Instr → DraftMethod
class_initialiser max_stack instrs = record { access = 8; name = codes "<clinit>"; descriptor = codes "()V"; max_stack = max_stack; max_locals = 0; instrs = instrs }

abbrev pub static_field : List ℕ → List ℕ → DraftField
static_field name descriptor = record { access = 8; name = name; descriptor = descriptor }

abbrev pub plain_field : List ℕ → List ℕ → DraftField
plain_field name descriptor = record { access = 0; name = name; descriptor = descriptor }

-- a constructor that does nothing but call the superclass's
abbrev pub plain_constructor : List ℕ → DraftMethod
plain_constructor super_name = public_method (codes "<init>") (codes "()V") 1 1 (ALoad 0 ∷ InvokeSpecial (constructor super_name) ∷ Return ∷ [])

abbrev pub on_create : ℕ → List Instr → DraftMethod
on_create max_stack instrs = public_method (codes "onCreate") (codes "(Landroid/os/Bundle;)V") max_stack 2 instrs

-- a new object of a class
abbrev pub make : List ℕ → List Instr → List Instr
make name more = New name ∷ Stack stack.Dup ∷ InvokeSpecial (constructor name) ∷ more

-- the method that pushes an object
abbrev pub push_name : List ℕ
push_name = codes "push"

abbrev pub push_type : List ℕ
push_type = codes "(Ljava/lang/Object;)V"

-- ---- the vector: it shares one empty array until something is pushed, and one is never grown

abbrev pub size_field : MemberRef
size_field = member vec_name (codes "sz") (codes "I")

abbrev pub capacity_field : MemberRef
capacity_field = member vec_name (codes "cap") (codes "I")

abbrev pub table_field : MemberRef
table_field = member vec_name (codes "tbl") array_type

abbrev pub empty_field : MemberRef
empty_field = member vec_name (codes "EMPTY") array_type

abbrev pub vec_constructor : DraftMethod
vec_constructor = public_method (codes "<init>") (codes "()V") 2 1 (
    ALoad 0 ∷ InvokeSpecial (constructor object_name)
    ∷ ALoad 0 ∷ Int (pos 0) ∷ PutField size_field
    ∷ ALoad 0 ∷ Int (negsuc 0) ∷ PutField capacity_field
    ∷ ALoad 0 ∷ GetStatic empty_field ∷ PutField table_field
    ∷ Return ∷ [])

abbrev pub vec_push : DraftMethod
vec_push = public_method push_name push_type 3 2 (
    ALoad 0 ∷ GetField size_field ∷ ALoad 0 ∷ GetField capacity_field ∷ IfInts Ge 11
    ∷ ALoad 0 ∷ GetField table_field ∷ ALoad 0 ∷ GetField size_field ∷ ALoad 1 ∷ ArrayStore elem.Ref
    ∷ Return ∷ [])

abbrev pub vec_initialiser : DraftMethod
vec_initialiser = class_initialiser 1 (Int (pos 1) ∷ ANewArray object_name ∷ PutStatic empty_field ∷ Return ∷ [])

abbrev pub vec_class : ClassWriter
vec_class = record {
  name = vec_name;
  super_name = object_name;
  fields = static_field (codes "EMPTY") array_type ∷ plain_field (codes "sz") (codes "I") ∷ plain_field (codes "cap") (codes "I") ∷ plain_field (codes "tbl") array_type ∷ [];
  methods = vec_constructor ∷ vec_push ∷ vec_initialiser ∷ [];
}

-- ---- the Activity classes

abbrev pub kept_name : List ℕ
kept_name = codes "s"

abbrev pub number_name : List ℕ
number_name = codes "n"

abbrev pub number_type : List ℕ
number_type = codes "I"

abbrev pub kept_field : List ℕ → MemberRef
kept_field owner = member owner kept_name object_type

abbrev pub number_field : List ℕ → MemberRef
number_field owner = member owner number_name number_type

abbrev pub activity_class : List ℕ → List DraftField → List DraftMethod → ClassWriter
activity_class name more_fields more_methods =
    record { name = name; super_name = activity_name; fields = static_field kept_name object_type ∷ more_fields; methods = plain_constructor activity_name ∷ more_methods }

-- it keeps the object
abbrev pub keeping_handler : List ℕ → DraftMethod
keeping_handler owner = on_create 1 (ALoad 0 ∷ PutStatic (kept_field owner) ∷ Return ∷ [])

abbrev pub keeping_class : List ℕ → ClassWriter
keeping_class name = activity_class name [] (keeping_handler name ∷ [])

-- it keeps the object where a number is below 0 and above 0
abbrev pub guarded_handler : List ℕ → DraftMethod
guarded_handler owner = on_create 1 (
    GetStatic (number_field owner) ∷ IfZero Ge 6 ∷ GetStatic (number_field owner) ∷ IfZero Le 6
    ∷ ALoad 0 ∷ PutStatic (kept_field owner) ∷ Return ∷ [])

abbrev pub guarded_class : List ℕ → ClassWriter
guarded_class name = activity_class name (static_field number_name number_type ∷ []) (guarded_handler name ∷ [])

-- it keeps a vector, and pushes the object to another one
abbrev pub vec_keeper : List ℕ → DraftMethod
vec_keeper owner = class_initialiser 2 (make vec_name (PutStatic (kept_field owner) ∷ Return ∷ []))

abbrev pub pushing_handler : DraftMethod
pushing_handler = on_create 2 (make vec_name (ALoad 0 ∷ InvokeVirtual (member vec_name push_name push_type) ∷ Return ∷ []))

abbrev pub pushing_class : List ℕ → ClassWriter
pushing_class name = activity_class name [] (vec_keeper name ∷ pushing_handler ∷ [])

abbrev pub class_of_kind : ℕ → List ℕ → ClassWriter
class_of_kind zero name = keeping_class name
class_of_kind (suc zero) name = guarded_class name
class_of_kind (suc (suc kind)) name = pushing_class name

abbrev pub class_numbered : ℕ → ClassWriter
class_numbered number = class_of_kind (number % 3) (class_name number)

-- so many classes, the first of which has this number
abbrev pub classes_from : ℕ → ℕ → List ClassWriter
classes_from number zero = []
classes_from number (suc more) = class_numbered number ∷ classes_from (number + 1) more

-- the vector, and so many Activity classes
abbrev pub generated_classes : ℕ → List ClassWriter
generated_classes count = vec_class ∷ classes_from 0 count

-- Small Activities whose runs are worked out in full: some are joined with a static field afterwards.
use Rattle.std.specs.Prelude.{ℕ, pos, negsuc, List, [], ◌∷◌, ◌++◌, codes}
use Rattle.th_base.specs.declared.operation.ArithOp.TheVariants.{Add}
use Rattle.th_base.specs.declared.operation.Elem.TheVariants.{Ref}
use Rattle.th_base.specs.declared.operation.Relation.TheVariants.{Eq, Ne, Ge, Gt, Le}
use Rattle.th_syntax.specs.declared.class_file.ClassFile.{ClassFile}
use Rattle.th_syntax.specs.declared.class_file.Member.{Member}
use Rattle.th_syntax.specs.declared.instr.StackOp.TheVariants.{Dup2}
use Rattle.th_syntax.specs.declared.instr.Instr.{Instr}
use Rattle.th_syntax.specs.declared.instr.Instr.TheVariants.{Nop, Int, Long, ILoad, ALoad, IStore, ArrayStore, Stack, Arith, LArith, L2I, IfZero, IfInts, Return, GetStatic, PutStatic, GetField, PutField, InvokeVirtual, InvokeSpecial, InvokeStatic, ANewArray, ArrayLength}
use Rattle.th_syntax.specs.declared.instr.MemberRef.{MemberRef}
use Rattle.th_syntax.specs.Machine.{IntValue, NullValue, Address, Object, Instance, Array, Done, State, class_id}
use Rattle.th_syntax.specs.WorkedEffects.{field, method, class_named, field_id, int, long, ref}
use Rattle.th_syntax.specs.WorkedRuns.{at_rest, object_field, constructor_below, plain_method, static_method, creation, activity_class, object_class, making}

-- the field of the Activity that holds any object
abbrev pub own_field : List ℕ → MemberRef
own_field name = ref (codes "Act") name (codes "Ljava/lang/Object;")

-- it stores itself into a static field
abbrev pub stores_itself : List (ℕ × Instr)
stores_itself = (20, ALoad 0) ∷ (21, PutStatic (own_field (codes "s"))) ∷ []

-- ---- growing arrays: all empty ones share an array, and pushing finds no room in it

abbrev pub in_vector : List ℕ → List ℕ → MemberRef
in_vector name descriptor = ref (codes "Vec") name descriptor

abbrev pub vector_constructor : Member
vector_constructor = method 1 (codes "<init>") (codes "()V") 1
    ((0, ALoad 0) ∷ (1, InvokeSpecial (ref (codes "java/lang/Object") (codes "<init>") (codes "()V"))) ∷ (4, ALoad 0) ∷ (5, Int (pos 0))
    ∷ (6, PutField (in_vector (codes "sz") (codes "I"))) ∷ (9, ALoad 0) ∷ (10, Int (negsuc 0))
    ∷ (11, PutField (in_vector (codes "cap") (codes "I"))) ∷ (14, ALoad 0)
    ∷ (15, GetStatic (in_vector (codes "EMPTY") (codes "[Ljava/lang/Object;")))
    ∷ (18, PutField (in_vector (codes "tbl") (codes "[Ljava/lang/Object;"))) ∷ (21, Return) ∷ [])

abbrev pub vector_push : Member
vector_push = method 1 (codes "push") (codes "(Ljava/lang/Object;)V") 2
    ((0, ALoad 0) ∷ (1, GetField (in_vector (codes "sz") (codes "I"))) ∷ (4, ALoad 0) ∷ (5, GetField (in_vector (codes "cap") (codes "I")))
    ∷ (8, IfInts Ge 21) ∷ (11, ALoad 0) ∷ (12, GetField (in_vector (codes "tbl") (codes "[Ljava/lang/Object;"))) ∷ (15, ALoad 0)
    ∷ (16, GetField (in_vector (codes "sz") (codes "I"))) ∷ (19, ALoad 1) ∷ (20, ArrayStore Ref) ∷ (21, Return) ∷ [])

abbrev pub vector_class : ClassFile
vector_class = class_named 33 (codes "Vec") (codes "java/lang/Object") []
    (field 8 (codes "EMPTY") (codes "[Ljava/lang/Object;") ∷ field 0 (codes "sz") (codes "I") ∷ field 0 (codes "cap") (codes "I")
    ∷ field 0 (codes "tbl") (codes "[Ljava/lang/Object;") ∷ [])
    (vector_constructor ∷ vector_push
    ∷ static_method (codes "<clinit>") ((0, Int (pos 1)) ∷ (1, ANewArray (codes "java/lang/Object"))
    ∷ (4, PutStatic (in_vector (codes "EMPTY") (codes "[Ljava/lang/Object;"))) ∷ (7, Return) ∷ []) ∷ [])

abbrev pub vector_program : List ClassFile
vector_program =
    vector_class
    ∷ activity_class (field 8 (codes "objs") (codes "LVec;") ∷ [])
    (static_method (codes "<clinit>")
    (making 0 (codes "Vec") ++ ((7, PutStatic (ref (codes "Act") (codes "objs") (codes "LVec;"))) ∷ (10, Return) ∷ []))
    ∷ creation (making 0 (codes "Vec")
    ++ ((7, ALoad 0) ∷ (8, InvokeVirtual (in_vector (codes "push") (codes "(Ljava/lang/Object;)V"))) ∷ (11, Return) ∷ [])) ∷ []) ∷ []

-- a vector that is empty, with the array at address 0
abbrev pub empty_vector : Object
empty_vector = Instance (class_id 11) ((field_id 1, int 0) ∷ (field_id 2, IntValue (negsuc 0)) ∷ (field_id 3, Address 0) ∷ [])

abbrev pub vector_created : State
vector_created = at_rest
    (Array (codes "[Ljava/lang/Object;") (NullValue ∷ []) ∷ empty_vector ∷ Instance (class_id 12) [] ∷ empty_vector ∷ [])
    (Address 0 ∷ int 0 ∷ int 0 ∷ NullValue ∷ Address 1 ∷ []) (Done ∷ Done ∷ []) 2

-- ---- a sum past the greatest int: one store is made, and another is not

abbrev pub own_int : MemberRef
own_int = ref (codes "Act") (codes "n") (codes "I")

abbrev pub overflowing_program : List ClassFile
overflowing_program =
    activity_class (field 8 (codes "n") (codes "I") ∷ object_field (codes "s") ∷ object_field (codes "t") ∷ [])
    (plain_method (codes "onStart") ((0, Int (pos 2147483647)) ∷ (2, PutStatic own_int) ∷ (5, Return) ∷ [])
    ∷ creation ((0, GetStatic own_int) ∷ (3, IStore 2) ∷ (4, ILoad 2) ∷ (5, Int (pos 1)) ∷ (6, Arith Add) ∷ (7, ILoad 2)
    ∷ (8, IfInts Gt 24) ∷ stores_itself
    ++ ((24, ILoad 2) ∷ (25, IfZero Ge 36) ∷ (28, ILoad 2) ∷ (29, IfZero Le 36) ∷ (32, ALoad 0) ∷ (33, PutStatic (own_field (codes "t")))
    ∷ (36, Return) ∷ [])) ∷ []) ∷ []

abbrev pub overflowing_created : State
overflowing_created = at_rest (Instance (class_id 11) [] ∷ []) (int 2147483647 ∷ Address 0 ∷ NullValue ∷ []) (Done ∷ []) 0

-- ---- an initialiser that calls a method of the subclass whose initialisation called it

abbrev pub initialising_program : List ClassFile
initialising_program =
    object_class (codes "P") (object_field (codes "s") ∷ [])
    (static_method (codes "<clinit>") ((0, InvokeStatic (ref (codes "Q") (codes "m") (codes "()V"))) ∷ making 3 (codes "Act")
    ++ ((10, PutStatic (ref (codes "P") (codes "s") (codes "Ljava/lang/Object;"))) ∷ (13, Return) ∷ [])) ∷ [])
    ∷ class_named 33 (codes "Q") (codes "P") [] [] (constructor_below (codes "P") ∷ static_method (codes "m") ((0, Return) ∷ []) ∷ [])
    ∷ activity_class [] (creation ((0, InvokeStatic (ref (codes "Q") (codes "m") (codes "()V"))) ∷ (3, Return) ∷ []) ∷ []) ∷ []

abbrev pub initialising_created : State
initialising_created = at_rest (Instance (class_id 13) [] ∷ Instance (class_id 13) [] ∷ []) (Address 1 ∷ []) (Done ∷ Done ∷ Done ∷ []) 0

-- ---- a field of the Activity that one handler sets and another reads

abbrev pub resuming_program : List ClassFile
resuming_program =
    activity_class (field 0 (codes "f") (codes "Ljava/lang/Object;") ∷ object_field (codes "s") ∷ [])
    (plain_method (codes "onPause") ((0, ALoad 0) ∷ (1, ALoad 0) ∷ (2, PutField (own_field (codes "f"))) ∷ (5, Return) ∷ [])
    ∷ plain_method (codes "onResume")
    ((0, ALoad 0) ∷ (1, GetField (own_field (codes "f"))) ∷ (4, PutStatic (own_field (codes "s"))) ∷ (7, Return) ∷ []) ∷ []) ∷ []

abbrev pub resuming_resumed : State
resuming_resumed = at_rest (Instance (class_id 11) ((field_id 0, Address 0) ∷ []) ∷ []) (NullValue ∷ Address 0 ∷ []) (Done ∷ []) 0

-- ---- a long whose low half is 0

abbrev pub own_long : MemberRef
own_long = ref (codes "Act") (codes "n") (codes "J")

abbrev pub halving_program : List ClassFile
halving_program =
    activity_class (field 8 (codes "n") (codes "J") ∷ object_field (codes "s") ∷ [])
    (creation ((0, GetStatic own_long) ∷ (3, Long (pos 4294967296)) ∷ (6, LArith Add) ∷ (7, Stack Dup2) ∷ (8, PutStatic own_long)
    ∷ (11, L2I) ∷ (12, IfZero Ne 24) ∷ stores_itself ++ ((24, Return) ∷ [])) ∷ []) ∷ []

abbrev pub halving_created : State
halving_created = at_rest (Instance (class_id 11) [] ∷ []) (long 4294967296 ∷ Address 0 ∷ []) (Done ∷ []) 0

-- ---- a store into an array without elements, with a test of its length and without

abbrev pub own_array : MemberRef
own_array = ref (codes "Act") (codes "arr") (codes "[Ljava/lang/Object;")

abbrev pub array_store : List (ℕ × Instr)
array_store = (7, GetStatic own_array) ∷ (10, Int (pos 0)) ∷ (11, ALoad 0) ∷ (12, ArrayStore Ref) ∷ (13, Return) ∷ []

abbrev pub array_program : List (ℕ × Instr) → List ClassFile
array_program instrs =
    activity_class (field 8 (codes "arr") (codes "[Ljava/lang/Object;") ∷ [])
    (static_method (codes "<clinit>")
    ((0, Int (pos 0)) ∷ (1, ANewArray (codes "java/lang/Object")) ∷ (4, PutStatic own_array) ∷ (7, Return) ∷ [])
    ∷ creation instrs ∷ []) ∷ []

abbrev pub testing_program : List ClassFile
testing_program = array_program ((0, GetStatic own_array) ∷ (3, ArrayLength) ∷ (4, IfZero Eq 13) ∷ array_store)

abbrev pub untesting_program : List ClassFile
untesting_program = array_program ((0, Nop) ∷ array_store)

abbrev pub array_launched : State
array_launched = at_rest (Array (codes "[Ljava/lang/Object;") [] ∷ Instance (class_id 11) [] ∷ []) (Address 0 ∷ []) (Done ∷ []) 1

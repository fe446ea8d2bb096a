-- Class files that are linked with each other, and others, with what each pass refuses of them.
use Rattle.std.specs.Prelude.{ℕ, List, [], ◌∷◌, ◌++◌, replicate, codes, Option, None, Some}
use Rattle.th_base.specs.declared.built_in.TheConstants.{OBJECT, CLONEABLE, ACTIVITY, BUNDLE}
use Rattle.th_syntax.specs.declared.cause.TheConstants as cause
use Rattle.th_syntax.specs.declared.class_file.ClassFile.{ClassFile}
use Rattle.th_syntax.specs.declared.class_file.Member.{Member}
use Rattle.th_syntax.specs.declared.instr.Instr.{Instr}
use Rattle.th_syntax.specs.declared.instr.Instr.TheVariants.{Null, Return, Throw, IfNull, GetStatic, PutStatic, GetField, PutField, InvokeVirtual, InvokeSpecial, InvokeInterface, InvokeStatic, New, NewArray, ANewArray, CheckCast, InstanceOf}
use Rattle.th_syntax.specs.declared.instr.MemberRef.{MemberRef}
use Rattle.th_syntax.specs.declared.instr.Primitive.TheVariants as primitive
use Rattle.th_syntax.specs.declared.refusal.Refusal.{Refusal}
use Rattle.th_syntax.specs.LinkChecks.{Fault, fault_of, refusal_of}

-- ---- parts

-- a class or an interface by its flags, its name, its supertypes and its members
abbrev pub class_with : ℕ → List ℕ → Option (List ℕ) → List (List ℕ) → List Member → List Member → ClassFile
class_with access name super interfaces fields methods =
    record { major = 52; access = access; name = name; super_name = super; interfaces = interfaces; fields = fields; methods = methods }

-- a class without supertypes of its own and without members
abbrev pub bare_class : List ℕ → ClassFile
bare_class name = class_with 33 name (Some OBJECT.now) [] [] []

-- a class with these methods alone
abbrev pub class_of_methods : List ℕ → List Member → ClassFile
class_of_methods name methods = class_with 33 name (Some OBJECT.now) [] [] methods

abbrev pub member_with : ℕ → List ℕ → List ℕ → Member
member_with access name descriptor = record { access = access; name = name; descriptor = descriptor; constant = None; code = None }

abbrev pub method_of_code : ℕ → List ℕ → List ℕ → List (ℕ × Instr) → Member
method_of_code access name descriptor instrs =
    record (member_with access name descriptor) { code = Some record { max_stack = 2; max_locals = 2; instrs = instrs; handlers = 0 } }

-- a method without parameters and without a result
abbrev pub plain_method : List ℕ → List (ℕ × Instr) → Member
plain_method name instrs = method_of_code 1 name (codes "()V") instrs

-- a method that returns at once
abbrev pub returning : ℕ → List ℕ → List ℕ → Member
returning access name descriptor = method_of_code access name descriptor ((0, Return) ∷ [])

abbrev pub ref_of : List ℕ → List ℕ → List ℕ → MemberRef
ref_of owner name descriptor = record { owner = owner; name = name; descriptor = descriptor }

-- a method without parameters and without a result
abbrev pub call_of : List ℕ → List ℕ → MemberRef
call_of owner name = ref_of owner name (codes "()V")

-- ---- classes that are linked

-- The interface I has a static field and an initialiser, J extends it, the class A implements both I
-- and J, and B extends A and implements I. What B calls is declared by A, by I, or inherited. Behind
-- its last instruction stands one that no path reaches.
abbrev pub user_class : ClassFile
user_class = class_with 33 (codes "B") (Some (codes "A")) (codes "I" ∷ []) [] (
    plain_method (codes "uses") (
    (0, GetStatic (ref_of (codes "B") (codes "s") (codes "LA;")))
    ∷ (3, PutStatic (ref_of (codes "A") (codes "s") (codes "LA;")))
    ∷ (6, GetStatic (ref_of (codes "B") (codes "k") (codes "I")))
    ∷ (9, GetField (ref_of (codes "B") (codes "f") (codes "I")))
    ∷ (12, PutField (ref_of (codes "A") (codes "f") (codes "I")))
    ∷ (15, InvokeVirtual (call_of (codes "B") (codes "m")))
    ∷ (18, InvokeVirtual (call_of (codes "A") (codes "p")))
    ∷ (21, InvokeSpecial (call_of (codes "A") (codes "<init>")))
    ∷ (24, InvokeInterface (call_of (codes "J") (codes "m")))
    ∷ (29, InvokeStatic (call_of (codes "B") (codes "q")))
    ∷ (32, New (codes "A"))
    ∷ (35, ANewArray (codes "[LA;"))
    ∷ (38, ANewArray (codes "[[Z"))
    ∷ (41, NewArray primitive.Int)
    ∷ (43, CheckCast (codes "B"))
    ∷ (46, InstanceOf (codes "J"))
    ∷ (49, Return)
    ∷ (50, New (codes "Gone"))
    ∷ []) ∷ [])

abbrev pub used_class : ClassFile
used_class = class_with 33 (codes "A") (Some OBJECT.now) (codes "I" ∷ codes "J" ∷ [])
    (member_with 8 (codes "s") (codes "LA;") ∷ member_with 0 (codes "f") (codes "I") ∷ member_with 0 (codes "f") (codes "J") ∷ [])
    (returning 1 (codes "<init>") (codes "()V")
    ∷ returning 1 (codes "m") (codes "()V")
    ∷ returning 2 (codes "p") (codes "()V")
    ∷ returning 8 (codes "q") (codes "()V")
    ∷ returning 8 (codes "q") (codes "(I)V") ∷ [])

abbrev pub extending_interface : ClassFile
extending_interface = class_with 1537 (codes "J") (Some OBJECT.now) (codes "I" ∷ []) [] []

abbrev pub root_interface : ClassFile
root_interface = class_with 1537 (codes "I") (Some OBJECT.now) [] (member_with 25 (codes "k") (codes "I") ∷ [])
    (member_with 1025 (codes "m") (codes "()V")
    ∷ member_with 1033 (codes "n") (codes "()V")
    ∷ returning 8 (codes "<clinit>") (codes "()V") ∷ [])

abbrev pub linked_files : List ClassFile
linked_files = user_class ∷ used_class ∷ extending_interface ∷ root_interface ∷ []

-- ---- lists of class files that a pass refuses, and its refusals

abbrev pub Refused : Type 0
Refused = List ClassFile × List Refusal

-- each of a class: its name twice, its name built in, a missing class, a wrong supertype, a wrong member
abbrev pub twice : List ℕ → Refusal
twice class = refusal_of cause.DUPLICATE class [] 0

abbrev pub is_built : List ℕ → Refusal
is_built class = refusal_of cause.BUILT_IN class [] 0

abbrev pub no_class : List ℕ → List ℕ → Refusal
no_class class name = refusal_of cause.MISSING_CLASS class name 0

abbrev pub no_super : List ℕ → List ℕ → Refusal
no_super class name = refusal_of cause.SUPER class name 0

abbrev pub no_member : List ℕ → List ℕ → Refusal
no_member class member = refusal_of cause.MEMBER class member 0

-- names: twice, three times, and built in
abbrev pub refused_names : List Refused
refused_names =
    (bare_class (codes "A") ∷ bare_class (codes "B") ∷ bare_class (codes "A") ∷ [], twice (codes "A") ∷ [])
    ∷ (bare_class (codes "A") ∷ bare_class (codes "A") ∷ bare_class (codes "A") ∷ [], twice (codes "A") ∷ twice (codes "A") ∷ [])
    ∷ (bare_class (codes "A") ∷ bare_class BUNDLE.now ∷ [], is_built BUNDLE.now ∷ [])
    ∷ (
      bare_class OBJECT.now ∷ bare_class OBJECT.now ∷ [],
      is_built OBJECT.now ∷ twice OBJECT.now ∷ is_built OBJECT.now ∷ [],
    )
    ∷ []

-- one class, with these flags and supertypes
abbrev pub below : ℕ → Option (List ℕ) → List (List ℕ) → List ClassFile
below access super interfaces = class_with access (codes "A") super interfaces [] [] ∷ []

-- supertypes: none, missing, and of the wrong kind; and the order of several
abbrev pub refused_supertypes : List Refused
refused_supertypes =
    (below 33 None [], no_super (codes "A") [] ∷ [])
    ∷ (below 33 (Some (codes "android/app/Fragment")) [], no_class (codes "A") (codes "android/app/Fragment") ∷ [])
    ∷ (below 33 (Some CLONEABLE.now) [], no_super (codes "A") CLONEABLE.now ∷ [])
    ∷ (below 1537 (Some ACTIVITY.now) [], no_super (codes "A") ACTIVITY.now ∷ [])
    ∷ (below 1537 (Some CLONEABLE.now) [], no_super (codes "A") CLONEABLE.now ∷ [])
    ∷ (below 33 (Some OBJECT.now) (codes "Gone" ∷ []), no_class (codes "A") (codes "Gone") ∷ [])
    ∷ (below 1537 (Some OBJECT.now) (BUNDLE.now ∷ CLONEABLE.now ∷ []), no_super (codes "A") BUNDLE.now ∷ [])
    ∷ (
      class_with 33 (codes "B") (Some (codes "A")) (codes "A" ∷ codes "Gone" ∷ []) [] [] ∷ below 1537 (Some OBJECT.now) [],
      no_super (codes "B") (codes "A") ∷ no_class (codes "B") (codes "Gone") ∷ [],
    )
    ∷ (
      class_with 33 (codes "B") None (BUNDLE.now ∷ []) [] [] ∷ below 33 (Some (codes "Gone")) [],
      no_super (codes "B") [] ∷ no_super (codes "B") BUNDLE.now ∷ no_class (codes "A") (codes "Gone") ∷ [],
    )
    ∷ []

-- one class with these members
abbrev pub having : List Member → List Member → List ClassFile
having fields methods = class_with 33 (codes "A") (Some OBJECT.now) [] fields methods ∷ []

-- members: twice, with code or without it wrongly, and initialisers; and the order of several
abbrev pub refused_members : List Refused
refused_members = (
  having (
      member_with 8 (codes "x") (codes "I")
      ∷ member_with 0 (codes "x") (codes "J")
      ∷ member_with 0 (codes "y") (codes "I")
      ∷ member_with 0 (codes "x") (codes "I")
      ∷ []) [],
  no_member (codes "A") (codes "x:I") ∷ [],
)
    ∷ (
      having [] (
          returning 1 (codes "m") (codes "()V")
          ∷ returning 1 (codes "n") (codes "()V")
          ∷ returning 1 (codes "m") (codes "(I)V")
          ∷ returning 9 (codes "m") (codes "()V")
          ∷ []),
      no_member (codes "A") (codes "m()V") ∷ [],
    )
    ∷ (having [] (returning 1025 (codes "m") (codes "()V") ∷ []), no_member (codes "A") (codes "m()V") ∷ [])
    ∷ (having [] (member_with 1 (codes "m") (codes "()I") ∷ []), no_member (codes "A") (codes "m()I") ∷ [])
    ∷ (having [] (returning 1 (codes "<clinit>") (codes "()V") ∷ []), no_member (codes "A") (codes "<clinit>()V") ∷ [])
    ∷ (having [] (returning 8 (codes "<clinit>") (codes "(I)V") ∷ []), no_member (codes "A") (codes "<clinit>(I)V") ∷ [])
    ∷ (having [] (member_with 1032 (codes "<clinit>") (codes "()V") ∷ []), no_member (codes "A") (codes "<clinit>()V") ∷ [])
    ∷ (
      having (member_with 0 (codes "x") (codes "I") ∷ member_with 0 (codes "x") (codes "I") ∷ [])
          (member_with 1 (codes "m") (codes "()V") ∷ [])
          ++ class_with 1537 (codes "B") (Some OBJECT.now) [] [] (member_with 1 (codes "n") (codes "()V") ∷ []) ∷ [],
      no_member (codes "A") (codes "x:I") ∷ no_member (codes "A") (codes "m()V") ∷ no_member (codes "B") (codes "n()V") ∷ [],
    )
    ∷ []

-- instructions, and what is missing of what they name among the linked classes
abbrev pub refused_uses : List (Instr × List Fault)
refused_uses =
    -- fields: no class, none of the name, none of the descriptor, static or not
    (GetStatic (ref_of (codes "Gone") (codes "s") (codes "LA;")), fault_of cause.MISSING_CLASS (codes "Gone") ∷ [])
    ∷ (PutField (ref_of (codes "Gone") (codes "f") (codes "I")), fault_of cause.MISSING_CLASS (codes "Gone") ∷ [])
    ∷ (PutStatic (ref_of (codes "B") (codes "t") (codes "LA;")), fault_of cause.MISSING_MEMBER (codes "B.t:LA;") ∷ [])
    ∷ (GetField (ref_of (codes "B") (codes "f") (codes "Z")), fault_of cause.MISSING_MEMBER (codes "B.f:Z") ∷ [])
    ∷ (GetStatic (ref_of (codes "J") (codes "f") (codes "I")), fault_of cause.MISSING_MEMBER (codes "J.f:I") ∷ [])
    ∷ (GetStatic (ref_of (codes "B") (codes "f") (codes "I")), fault_of cause.MEMBER (codes "B.f:I") ∷ [])
    ∷ (PutStatic (ref_of (codes "A") (codes "f") (codes "I")), fault_of cause.MEMBER (codes "A.f:I") ∷ [])
    ∷ (GetField (ref_of (codes "A") (codes "s") (codes "LA;")), fault_of cause.MEMBER (codes "A.s:LA;") ∷ [])
    ∷ (PutField (ref_of (codes "B") (codes "k") (codes "I")), fault_of cause.MEMBER (codes "B.k:I") ∷ [])
    -- methods: no class, none of the name, none of the descriptor; initialisers aren't inherited
    ∷ (InvokeVirtual (call_of (codes "Gone") (codes "m")), fault_of cause.MISSING_CLASS (codes "Gone") ∷ [])
    ∷ (InvokeInterface (call_of (codes "Gone") (codes "m")), fault_of cause.MISSING_CLASS (codes "Gone") ∷ [])
    ∷ (InvokeVirtual (call_of (codes "B") (codes "o")), fault_of cause.MISSING_MEMBER (codes "B.o()V") ∷ [])
    ∷ (InvokeStatic (ref_of (codes "B") (codes "q") (codes "(J)V")), fault_of cause.MISSING_MEMBER (codes "B.q(J)V") ∷ [])
    ∷ (InvokeSpecial (call_of (codes "B") (codes "<init>")), fault_of cause.MISSING_MEMBER (codes "B.<init>()V") ∷ [])
    ∷ (InvokeInterface (call_of (codes "J") (codes "p")), fault_of cause.MISSING_MEMBER (codes "J.p()V") ∷ [])
    -- static or not
    ∷ (InvokeVirtual (call_of (codes "B") (codes "q")), fault_of cause.MEMBER (codes "B.q()V") ∷ [])
    ∷ (InvokeSpecial (call_of (codes "A") (codes "q")), fault_of cause.MEMBER (codes "A.q()V") ∷ [])
    ∷ (InvokeStatic (call_of (codes "A") (codes "m")), fault_of cause.MEMBER (codes "A.m()V") ∷ [])
    ∷ (InvokeInterface (call_of (codes "J") (codes "n")), fault_of cause.MEMBER (codes "J.n()V") ∷ [])
    -- a class where an interface must be named, and the reverse
    ∷ (InvokeInterface (call_of (codes "A") (codes "m")), fault_of cause.MEMBER (codes "A.m()V") ∷ [])
    ∷ (InvokeVirtual (call_of (codes "J") (codes "m")), fault_of cause.MEMBER (codes "J.m()V") ∷ [])
    ∷ (InvokeSpecial (call_of (codes "I") (codes "m")), fault_of cause.MEMBER (codes "I.m()V") ∷ [])
    ∷ (InvokeStatic (call_of (codes "I") (codes "n")), fault_of cause.MEMBER (codes "I.n()V") ∷ [])
    -- methods of arrays
    ∷ (InvokeVirtual (call_of (codes "[LA;") (codes "m")), fault_of cause.MISSING_MEMBER (codes "[LA;.m()V") ∷ [])
    ∷ (InvokeVirtual (call_of (codes "[Z") (codes "m")), fault_of cause.MISSING_MEMBER (codes "[Z.m()V") ∷ [])
    ∷ (
      InvokeVirtual (call_of (codes "[[LGone;") (codes "m")),
      fault_of cause.MISSING_CLASS (codes "Gone") ∷ fault_of cause.MISSING_MEMBER (codes "[[LGone;.m()V") ∷ [],
    )
    -- classes, and those of elements
    ∷ (New (codes "Gone"), fault_of cause.MISSING_CLASS (codes "Gone") ∷ [])
    ∷ (ANewArray (codes "Gone"), fault_of cause.MISSING_CLASS (codes "Gone") ∷ [])
    ∷ (ANewArray (codes "[LGone;"), fault_of cause.MISSING_CLASS (codes "Gone") ∷ [])
    ∷ (CheckCast (codes "[[LGone;"), fault_of cause.MISSING_CLASS (codes "Gone") ∷ [])
    ∷ (InstanceOf (codes "Gone"), fault_of cause.MISSING_CLASS (codes "Gone") ∷ [])
    ∷ []

-- two classes whose code names missing ones, in a branch too; no path reaches offset 5
abbrev pub using_files : List ClassFile
using_files =
    class_of_methods (codes "B") (
    plain_method (codes "m") (
    (0, Null) ∷ (1, IfNull 8) ∷ (4, Throw) ∷ (5, New (codes "F")) ∷ (8, New (codes "G")) ∷ (11, New (codes "H"))
    ∷ (14, Return) ∷ [])
    ∷ plain_method (codes "n") ((0, InvokeVirtual (call_of (codes "[LG;") (codes "m"))) ∷ (3, Return) ∷ []) ∷ [])
    ∷ class_of_methods (codes "A") (plain_method (codes "m") ((0, New (codes "K")) ∷ (3, Return) ∷ []) ∷ []) ∷ []

abbrev pub using_refusals : List Refusal
using_refusals =
    refusal_of cause.MISSING_CLASS (codes "B") (codes "G") 8
    ∷ refusal_of cause.MISSING_CLASS (codes "B") (codes "H") 11
    ∷ no_class (codes "B") (codes "G")
    ∷ refusal_of cause.MISSING_MEMBER (codes "B") (codes "[LG;.m()V") 0
    ∷ no_class (codes "A") (codes "K")
    ∷ []

-- a class with so many methods, as 17 belong to built-in ones
abbrev pub crowded_files : ℕ → List ClassFile
crowded_files n = having [] (replicate n (returning 1 (codes "m") (codes "()V")))

-- A fault for each pass, the last pass first: code that names a missing class, a method without code, two
-- classes above each other with one below them, a missing superclass, and a name that comes twice.
abbrev pub faulty_files : List ClassFile
faulty_files =
    class_of_methods (codes "User") (plain_method (codes "m") ((0, New (codes "Gone")) ∷ (3, Return) ∷ []) ∷ [])
    ∷ class_of_methods (codes "Empty") (member_with 1 (codes "m") (codes "()V") ∷ [])
    ∷ class_with 33 (codes "A") (Some (codes "B")) [] [] []
    ∷ class_with 33 (codes "B") (Some (codes "C")) (CLONEABLE.now ∷ []) [] []
    ∷ class_with 33 (codes "C") (Some (codes "B")) [] [] []
    ∷ class_with 33 (codes "Low") (Some (codes "Gone")) [] [] []
    ∷ bare_class (codes "Twice")
    ∷ bare_class (codes "Twice")
    ∷ []

-- A small program by hand: a class of growing arrays whose empty ones share one array, and an Activity
-- that keeps one in a static field and pushes itself onto another.
use Rattle.std.specs.Prelude.{List, [], ◌∷◌, ◌++◌, None, ℕ, codes, true, false, pos, negsuc, Some}
use Rattle.th_base.specs.declared.class.ClassInfo.{ClassInfo}
use Rattle.th_base.specs.declared.operation.Relation.TheVariants.{Ge, Lt}
use Rattle.th_base.specs.BuiltIn.{built_in_classes}
use Rattle.th_ir.specs.declared.facts.Facts.{Facts}
use Rattle.th_ir.specs.declared.program.RegProgram.{RegProgram}
use Rattle.th_ir.specs.declared.program.Place.TheVariants.{Launch, Event, Code}
use Rattle.th_ir.specs.declared.stmt.CallKind.TheVariants.{Virtual}
use Rattle.th_ir.specs.declared.stmt.Condition.TheVariants.{Ints}
use Rattle.th_ir.specs.declared.stmt.Stmt.TheVariants.{Nop, Const, Null, Copy, Assume, GetStatic, PutStatic, GetField, PutField, PutElem, New, NewArray, Call, Init, Return, Pick}
use Rattle.th_ir.specs.Harness.{to}
use Rattle.th_ir.specs.Worked.{class_info, field_info, method_info, static_method_info, reg, site, node, own, harness_method, call_special, built_in_methods, built_in_nodes, built_in_refs, no_sites, call_of}

-- the classes of the files, and all classes
abbrev pub vector_files : List ClassInfo
vector_files =
    class_info (codes "Vec") 0
    (field_info 0 true (codes "EMPTY") (codes "[Ljava/lang/Object;")
    ∷ field_info 1 false (codes "sz") (codes "I")
    ∷ field_info 2 false (codes "cap") (codes "I")
    ∷ field_info 3 false (codes "tbl") (codes "[Ljava/lang/Object;")
    ∷ [])
    (method_info 17 (codes "<init>") (codes "()V")
    ∷ method_info 18 (codes "push") (codes "(Ljava/lang/Object;)V")
    ∷ static_method_info 19 (codes "<clinit>") (codes "()V")
    ∷ [])
    ∷ class_info (codes "Act") 10
    (field_info 4 true (codes "objs") (codes "LVec;") ∷ [])
    (method_info 20 (codes "<init>") (codes "()V")
    ∷ static_method_info 21 (codes "<clinit>") (codes "()V")
    ∷ method_info 22 (codes "onCreate") (codes "(Landroid/os/Bundle;)V")
    ∷ [])
    ∷ []

abbrev pub vector_classes : List ClassInfo
vector_classes = built_in_classes ++ vector_files

abbrev pub vector_program : RegProgram
vector_program = record {
  methods =
      built_in_methods
      ++ (own 11 17 (reg 19 ∷ []) 28
      ∷ own 11 29 (reg 23 ∷ reg 24 ∷ []) 42
      ∷ own 11 45 [] 48
      ∷ own 12 49 (reg 33 ∷ []) 51
      ∷ own 12 52 [] 57
      ∷ own 12 58 (reg 35 ∷ reg 36 ∷ []) 64
      ∷ harness_method 65 68
      ∷ harness_method 69 73
      ∷ harness_method 74 76
      ∷ harness_method 77 79
      ∷ harness_method 80 82
      ∷ harness_method 83 85
      ∷ harness_method 86 88
      ∷ harness_method 89 91
      ∷ harness_method 92 96
      ∷ []);
  nodes =
      built_in_nodes
      ++ (node 17 0 Nop (to 18)
      ∷ node 17 1 (call_special 0 (reg 19 ∷ [])) (to 19)
      ∷ node 17 4 Nop (to 20)
      ∷ node 17 5 (Const (reg 20) (pos 0)) (to 21)
      ∷ node 17 6 (PutField (reg 19) record { 0 = 1 } (reg 20)) (to 22)
      ∷ node 17 9 Nop (to 23)
      ∷ node 17 10 (Const (reg 21) (negsuc 0)) (to 24)
      ∷ node 17 11 (PutField (reg 19) record { 0 = 2 } (reg 21)) (to 25)
      ∷ node 17 14 Nop (to 26)
      ∷ node 17 15 (GetStatic (reg 22) record { 0 = 0 }) (to 27)
      ∷ node 17 18 (PutField (reg 19) record { 0 = 3 } (reg 22)) (to 28)
      ∷ node 17 21 (Return None) []
      ∷ node 18 0 Nop (to 30)
      ∷ node 18 1 (GetField (reg 25) (reg 23) record { 0 = 1 }) (to 31)
      ∷ node 18 4 Nop (to 32)
      ∷ node 18 5 (GetField (reg 26) (reg 23) record { 0 = 2 }) (to 33)
      ∷ node 18 8 Nop (record { 0 = 34 } ∷ record { 0 = 35 } ∷ [])
      ∷ node 18 8 (Assume (Ints Ge (reg 25) (Some (reg 26)))) (to 43)
      ∷ node 18 8 (Assume (Ints Lt (reg 25) (Some (reg 26)))) (to 36)
      ∷ node 18 11 Nop (to 37)
      ∷ node 18 12 (GetField (reg 27) (reg 23) record { 0 = 3 }) (to 38)
      ∷ node 18 15 Nop (to 39)
      ∷ node 18 16 (GetField (reg 28) (reg 23) record { 0 = 1 }) (to 40)
      ∷ node 18 19 Nop (to 41)
      ∷ node 18 20 (PutElem (reg 27) (reg 24)) (to 44)
      ∷ node 18 21 (Return None) []
      ∷ node 18 21 (Copy ((reg 29, reg 23) ∷ (reg 30, reg 24) ∷ [])) (to 42)
      ∷ node 18 21 (Copy ((reg 29, reg 23) ∷ (reg 30, reg 24) ∷ [])) (to 42)
      ∷ node 19 0 (Const (reg 31) (pos 1)) (to 46)
      ∷ node 19 1 (NewArray (reg 32) record { 0 = 2 } (reg 31)) (to 47)
      ∷ node 19 4 (PutStatic record { 0 = 0 } (reg 32)) (to 48)
      ∷ node 19 7 (Return None) []
      ∷ node 20 0 Nop (to 50)
      ∷ node 20 1 (call_special 8 (reg 33 ∷ [])) (to 51)
      ∷ node 20 4 (Return None) []
      ∷ node 21 0 (Init record { 0 = 11 }) (to 53)
      ∷ node 21 0 (New (reg 34) record { 0 = 3 }) (to 54)
      ∷ node 21 3 Nop (to 55)
      ∷ node 21 4 (call_special 17 (reg 34 ∷ [])) (to 56)
      ∷ node 21 7 (PutStatic record { 0 = 4 } (reg 34)) (to 57)
      ∷ node 21 10 (Return None) []
      ∷ node 22 0 (Init record { 0 = 11 }) (to 59)
      ∷ node 22 0 (New (reg 37) record { 0 = 4 }) (to 60)
      ∷ node 22 3 Nop (to 61)
      ∷ node 22 4 (call_special 17 (reg 37 ∷ [])) (to 62)
      ∷ node 22 7 Nop (to 63)
      ∷ node 22 8 (Call None Virtual record { 0 = 18 } (reg 37 ∷ reg 35 ∷ [])) (to 64)
      ∷ node 22 11 (Return None) []
      ∷ node 23 0 (Init record { 0 = 12 }) (to 66)
      ∷ node 23 0 (New (reg 38) record { 0 = 0 }) (to 67)
      ∷ node 23 0 (call_special 20 (reg 38 ∷ [])) (to 68)
      ∷ node 23 0 (Return None) []
      ∷ node 24 0 (Pick (reg 39) record { 0 = 12 }) (record { 0 = 70 } ∷ record { 0 = 71 } ∷ [])
      ∷ node 24 0 (Null (reg 40)) (to 72)
      ∷ node 24 0 (New (reg 40) record { 0 = 1 }) (to 72)
      ∷ node 24 0 (Call None Virtual record { 0 = 9 } (reg 39 ∷ reg 40 ∷ [])) (to 73)
      ∷ node 24 0 (Return None) []
      ∷ node 25 0 (Pick (reg 41) record { 0 = 12 }) (to 75)
      ∷ node 25 0 (Call None Virtual record { 0 = 10 } (reg 41 ∷ [])) (to 76)
      ∷ node 25 0 (Return None) []
      ∷ node 26 0 (Pick (reg 42) record { 0 = 12 }) (to 78)
      ∷ node 26 0 (Call None Virtual record { 0 = 11 } (reg 42 ∷ [])) (to 79)
      ∷ node 26 0 (Return None) []
      ∷ node 27 0 (Pick (reg 43) record { 0 = 12 }) (to 81)
      ∷ node 27 0 (Call None Virtual record { 0 = 12 } (reg 43 ∷ [])) (to 82)
      ∷ node 27 0 (Return None) []
      ∷ node 28 0 (Pick (reg 44) record { 0 = 12 }) (to 84)
      ∷ node 28 0 (Call None Virtual record { 0 = 13 } (reg 44 ∷ [])) (to 85)
      ∷ node 28 0 (Return None) []
      ∷ node 29 0 (Pick (reg 45) record { 0 = 12 }) (to 87)
      ∷ node 29 0 (Call None Virtual record { 0 = 14 } (reg 45 ∷ [])) (to 88)
      ∷ node 29 0 (Return None) []
      ∷ node 30 0 (Pick (reg 46) record { 0 = 12 }) (to 90)
      ∷ node 30 0 (Call None Virtual record { 0 = 15 } (reg 46 ∷ [])) (to 91)
      ∷ node 30 0 (Return None) []
      ∷ node 31 0 (Pick (reg 47) record { 0 = 12 }) (record { 0 = 93 } ∷ record { 0 = 94 } ∷ [])
      ∷ node 31 0 (Null (reg 48)) (to 95)
      ∷ node 31 0 (New (reg 48) record { 0 = 1 }) (to 95)
      ∷ node 31 0 (Call None Virtual record { 0 = 16 } (reg 47 ∷ reg 48 ∷ [])) (to 96)
      ∷ node 31 0 (Return None) []
      ∷ []);
  sites = site (codes "Act") (Launch record { 0 = 12 })
      ∷ site (codes "android/os/Bundle") Event
      ∷ site (codes "[Ljava/lang/Object;") (Code record { 0 = 19 } 1)
      ∷ site (codes "Vec") (Code record { 0 = 21 } 0)
      ∷ site (codes "Vec") (Code record { 0 = 22 } 0)
      ∷ [];
  harness =
      record { 0 = 23 } ∷ record { 0 = 24 } ∷ record { 0 = 25 } ∷ record { 0 = 26 } ∷ record { 0 = 27 } ∷
      record { 0 = 28 } ∷ record { 0 = 29 } ∷ record { 0 = 30 } ∷ record { 0 = 31 } ∷ [];
  refs = built_in_refs ++ (19 ∷ 22 ∷ 23 ∷ 24 ∷ 27 ∷ 29 ∷ 30 ∷ 32 ∷ 33 ∷ 34 ∷ 35 ∷ 36 ∷ 37 ∷ 38 ∷ 39 ∷ 40 ∷ 41 ∷ 42 ∷ 43 ∷ 44 ∷
      45 ∷ 46 ∷ 47 ∷ 48 ∷ []);
  ints = [];
  strings = [];
}

-- the sets of its facts, register by register
abbrev pub vector_facts : Facts
vector_facts = record {
  regs =
      (3 ∷ 4 ∷ []) ∷ no_sites ∷ no_sites ∷ no_sites ∷ no_sites ∷ no_sites ∷ no_sites ∷ no_sites ∷
      (0 ∷ []) ∷ no_sites ∷ no_sites ∷ (0 ∷ []) ∷ (0 ∷ []) ∷ (0 ∷ []) ∷ (0 ∷ []) ∷ (0 ∷ []) ∷
      (0 ∷ []) ∷ (0 ∷ []) ∷ (1 ∷ []) ∷ (3 ∷ 4 ∷ []) ∷ no_sites ∷ no_sites ∷ (2 ∷ []) ∷ (4 ∷ []) ∷
      (0 ∷ []) ∷ no_sites ∷ no_sites ∷ (2 ∷ []) ∷ no_sites ∷ (4 ∷ []) ∷ (0 ∷ []) ∷ no_sites ∷
      (2 ∷ []) ∷ (0 ∷ []) ∷ (3 ∷ []) ∷ (0 ∷ []) ∷ (1 ∷ []) ∷ (4 ∷ []) ∷ (0 ∷ []) ∷ (0 ∷ []) ∷
      (1 ∷ []) ∷ (0 ∷ []) ∷ (0 ∷ []) ∷ (0 ∷ []) ∷ (0 ∷ []) ∷ (0 ∷ []) ∷ (0 ∷ []) ∷ (0 ∷ []) ∷
      (1 ∷ []) ∷
      [];
  statics = (2 ∷ []) ∷ no_sites ∷ no_sites ∷ no_sites ∷ (3 ∷ []) ∷ [];
  cells = (record { 0 = 3 }, record { 0 = 3 }, (2 ∷ [])) ∷ (record { 0 = 4 }, record { 0 = 3 }, (2 ∷ [])) ∷ [];
  elems = (record { 0 = 2 }, (0 ∷ [])) ∷ [];
  calls =
      call_of 18 0 ∷ call_of 50 8 ∷ call_of 55 17 ∷ call_of 61 17 ∷ call_of 63 18 ∷ call_of 67 20 ∷
      call_of 72 22 ∷ call_of 75 10 ∷ call_of 78 11 ∷ call_of 81 12 ∷ call_of 84 13 ∷ call_of 87 14 ∷
      call_of 90 15 ∷ call_of 95 16 ∷
      [];
  reached = 0 ∷ 8 ∷ 10 ∷ 11 ∷ 12 ∷ 13 ∷ 14 ∷ 15 ∷ 16 ∷ 17 ∷ 18 ∷ 19 ∷ 20 ∷ 21 ∷ 22 ∷ 23 ∷ 24 ∷ 25 ∷ 26 ∷ 27 ∷ 28 ∷ 29 ∷ 30 ∷ 31 ∷ [];
}

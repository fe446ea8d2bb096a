-- A small program by hand: an Activity stores objects of a class and of its subclass into an array,
-- reads one and calls a method on it that both declare, and keeps what it returns.
use Rattle.std.specs.Prelude.{List, [], ◌∷◌, ◌++◌, None, ℕ, codes, true, pos, Some, slice_get, ◌≡◌}
use Rattle.th_base.specs.declared.class.ClassInfo.{ClassInfo}
use Rattle.th_base.specs.declared.operation.Elem.TheVariants.{Ref}
use Rattle.th_base.specs.BuiltIn.{built_in_classes}
use Rattle.th_ir.specs.declared.facts.Facts.{Facts}
use Rattle.th_ir.specs.declared.program.RegProgram.{RegProgram}
use Rattle.th_ir.specs.declared.program.Place.TheVariants.{Launch, Event, Code}
use Rattle.th_ir.specs.declared.stmt.CallKind.TheVariants.{Virtual}
use Rattle.th_ir.specs.declared.stmt.Stmt.TheVariants.{Nop, Const, Null, PutStatic, GetElem, PutElem, New, NewArray, Call, Init, Return, Pick}
use Rattle.th_ir.specs.Harness.{to}
use Rattle.th_ir.specs.Machine.{RegState, RegValue, NullValue, Address, IntValue, RegObject, new_object, initial_state, Array}
use Rattle.th_ir.specs.Effects.{Sets, SetsStatic, SetsElement, Makes, Enters, Leaves, new_array}
use Rattle.th_ir.specs.Applied.{stepped, started}
use Rattle.th_ir.specs.Worked.{class_info, field_info, method_info, reg, site, node, own, harness_method, call_special, built_in_methods, built_in_nodes, built_in_refs, no_sites, call_of}

-- the classes of the files, and all classes
abbrev pub receivers_files : List ClassInfo
receivers_files =
    class_info (codes "A") 0
    []
    (method_info 17 (codes "<init>") (codes "()V")
    ∷ method_info 18 (codes "get") (codes "()Ljava/lang/Object;")
    ∷ [])
    ∷ class_info (codes "B") 11
    []
    (method_info 19 (codes "<init>") (codes "()V")
    ∷ method_info 20 (codes "get") (codes "()Ljava/lang/Object;")
    ∷ [])
    ∷ class_info (codes "Act") 10
    (field_info 0 true (codes "s") (codes "Ljava/lang/Object;") ∷ [])
    (method_info 21 (codes "<init>") (codes "()V")
    ∷ method_info 22 (codes "onCreate") (codes "(Landroid/os/Bundle;)V")
    ∷ [])
    ∷ []

abbrev pub receivers_classes : List ClassInfo
receivers_classes = built_in_classes ++ receivers_files

abbrev pub receivers_program : RegProgram
receivers_program = record {
  methods =
      built_in_methods
      ++ (own 11 17 (reg 19 ∷ []) 19
      ∷ own 11 20 (reg 20 ∷ []) 21
      ∷ own 12 22 (reg 21 ∷ []) 24
      ∷ own 12 25 (reg 22 ∷ []) 26
      ∷ own 13 27 (reg 23 ∷ []) 29
      ∷ own 13 30 (reg 24 ∷ reg 25 ∷ []) 52
      ∷ harness_method 53 56
      ∷ harness_method 57 61
      ∷ harness_method 62 64
      ∷ harness_method 65 67
      ∷ harness_method 68 70
      ∷ harness_method 71 73
      ∷ harness_method 74 76
      ∷ harness_method 77 79
      ∷ harness_method 80 84
      ∷ []);
  nodes =
      built_in_nodes
      ++ (node 17 0 Nop (to 18)
      ∷ node 17 1 (call_special 0 (reg 19 ∷ [])) (to 19)
      ∷ node 17 4 (Return None) []
      ∷ node 18 0 Nop (to 21)
      ∷ node 18 1 (Return (Some (reg 20))) []
      ∷ node 19 0 Nop (to 23)
      ∷ node 19 1 (call_special 17 (reg 21 ∷ [])) (to 24)
      ∷ node 19 4 (Return None) []
      ∷ node 20 0 Nop (to 26)
      ∷ node 20 1 (Return (Some (reg 22))) []
      ∷ node 21 0 Nop (to 28)
      ∷ node 21 1 (call_special 8 (reg 23 ∷ [])) (to 29)
      ∷ node 21 4 (Return None) []
      ∷ node 22 0 (Const (reg 26) (pos 2)) (to 31)
      ∷ node 22 1 (NewArray (reg 27) record { 0 = 2 } (reg 26)) (to 32)
      ∷ node 22 4 Nop (to 33)
      ∷ node 22 5 Nop (to 34)
      ∷ node 22 6 (Const (reg 28) (pos 0)) (to 35)
      ∷ node 22 7 (Init record { 0 = 11 }) (to 36)
      ∷ node 22 7 (New (reg 29) record { 0 = 3 }) (to 37)
      ∷ node 22 10 Nop (to 38)
      ∷ node 22 11 (call_special 17 (reg 29 ∷ [])) (to 39)
      ∷ node 22 14 (PutElem (reg 27) (reg 29)) (to 40)
      ∷ node 22 15 Nop (to 41)
      ∷ node 22 16 (Const (reg 30) (pos 1)) (to 42)
      ∷ node 22 17 (Init record { 0 = 12 }) (to 43)
      ∷ node 22 17 (New (reg 31) record { 0 = 4 }) (to 44)
      ∷ node 22 20 Nop (to 45)
      ∷ node 22 21 (call_special 19 (reg 31 ∷ [])) (to 46)
      ∷ node 22 24 (PutElem (reg 27) (reg 31)) (to 47)
      ∷ node 22 25 Nop (to 48)
      ∷ node 22 26 (Const (reg 32) (pos 1)) (to 49)
      ∷ node 22 27 (GetElem (reg 33) (reg 27) Ref) (to 50)
      ∷ node 22 28 (Call (Some (reg 34)) Virtual record { 0 = 18 } (reg 33 ∷ [])) (to 51)
      ∷ node 22 31 (PutStatic record { 0 = 0 } (reg 34)) (to 52)
      ∷ node 22 34 (Return None) []
      ∷ node 23 0 (Init record { 0 = 13 }) (to 54)
      ∷ node 23 0 (New (reg 35) record { 0 = 0 }) (to 55)
      ∷ node 23 0 (call_special 21 (reg 35 ∷ [])) (to 56)
      ∷ node 23 0 (Return None) []
      ∷ node 24 0 (Pick (reg 36) record { 0 = 13 }) (record { 0 = 58 } ∷ record { 0 = 59 } ∷ [])
      ∷ node 24 0 (Null (reg 37)) (to 60)
      ∷ node 24 0 (New (reg 37) record { 0 = 1 }) (to 60)
      ∷ node 24 0 (Call None Virtual record { 0 = 9 } (reg 36 ∷ reg 37 ∷ [])) (to 61)
      ∷ node 24 0 (Return None) []
      ∷ node 25 0 (Pick (reg 38) record { 0 = 13 }) (to 63)
      ∷ node 25 0 (Call None Virtual record { 0 = 10 } (reg 38 ∷ [])) (to 64)
      ∷ node 25 0 (Return None) []
      ∷ node 26 0 (Pick (reg 39) record { 0 = 13 }) (to 66)
      ∷ node 26 0 (Call None Virtual record { 0 = 11 } (reg 39 ∷ [])) (to 67)
      ∷ node 26 0 (Return None) []
      ∷ node 27 0 (Pick (reg 40) record { 0 = 13 }) (to 69)
      ∷ node 27 0 (Call None Virtual record { 0 = 12 } (reg 40 ∷ [])) (to 70)
      ∷ node 27 0 (Return None) []
      ∷ node 28 0 (Pick (reg 41) record { 0 = 13 }) (to 72)
      ∷ node 28 0 (Call None Virtual record { 0 = 13 } (reg 41 ∷ [])) (to 73)
      ∷ node 28 0 (Return None) []
      ∷ node 29 0 (Pick (reg 42) record { 0 = 13 }) (to 75)
      ∷ node 29 0 (Call None Virtual record { 0 = 14 } (reg 42 ∷ [])) (to 76)
      ∷ node 29 0 (Return None) []
      ∷ node 30 0 (Pick (reg 43) record { 0 = 13 }) (to 78)
      ∷ node 30 0 (Call None Virtual record { 0 = 15 } (reg 43 ∷ [])) (to 79)
      ∷ node 30 0 (Return None) []
      ∷ node 31 0 (Pick (reg 44) record { 0 = 13 }) (record { 0 = 81 } ∷ record { 0 = 82 } ∷ [])
      ∷ node 31 0 (Null (reg 45)) (to 83)
      ∷ node 31 0 (New (reg 45) record { 0 = 1 }) (to 83)
      ∷ node 31 0 (Call None Virtual record { 0 = 16 } (reg 44 ∷ reg 45 ∷ [])) (to 84)
      ∷ node 31 0 (Return None) []
      ∷ []);
  sites = site (codes "Act") (Launch record { 0 = 13 })
      ∷ site (codes "android/os/Bundle") Event
      ∷ site (codes "[LA;") (Code record { 0 = 22 } 1)
      ∷ site (codes "A") (Code record { 0 = 22 } 7)
      ∷ site (codes "B") (Code record { 0 = 22 } 17)
      ∷ [];
  harness =
      record { 0 = 23 } ∷ record { 0 = 24 } ∷ record { 0 = 25 } ∷ record { 0 = 26 } ∷ record { 0 = 27 } ∷
      record { 0 = 28 } ∷ record { 0 = 29 } ∷ record { 0 = 30 } ∷ record { 0 = 31 } ∷ [];
  refs = built_in_refs ++ (19 ∷ 20 ∷ 21 ∷ 22 ∷ 23 ∷ 24 ∷ 25 ∷ 27 ∷ 29 ∷ 31 ∷ 33 ∷ 34 ∷ 35 ∷ 36 ∷ 37 ∷ 38 ∷ 39 ∷ 40 ∷ 41 ∷ 42 ∷
      43 ∷ 44 ∷ 45 ∷ []);
  ints = [];
  strings = [];
}

-- the sets of its facts, register by register
abbrev pub receivers_facts : Facts
receivers_facts = record {
  regs =
      (3 ∷ 4 ∷ []) ∷ no_sites ∷ no_sites ∷ no_sites ∷ no_sites ∷ no_sites ∷ no_sites ∷ no_sites ∷
      (0 ∷ []) ∷ no_sites ∷ no_sites ∷ (0 ∷ []) ∷ (0 ∷ []) ∷ (0 ∷ []) ∷ (0 ∷ []) ∷ (0 ∷ []) ∷
      (0 ∷ []) ∷ (0 ∷ []) ∷ (1 ∷ []) ∷ (3 ∷ 4 ∷ []) ∷ (3 ∷ []) ∷ (4 ∷ []) ∷ (4 ∷ []) ∷ (0 ∷ []) ∷
      (0 ∷ []) ∷ (1 ∷ []) ∷ no_sites ∷ (2 ∷ []) ∷ no_sites ∷ (3 ∷ []) ∷ no_sites ∷ (4 ∷ []) ∷
      no_sites ∷ (3 ∷ 4 ∷ []) ∷ (3 ∷ 4 ∷ []) ∷ (0 ∷ []) ∷ (0 ∷ []) ∷ (1 ∷ []) ∷ (0 ∷ []) ∷ (0 ∷ []) ∷
      (0 ∷ []) ∷ (0 ∷ []) ∷ (0 ∷ []) ∷ (0 ∷ []) ∷ (0 ∷ []) ∷ (1 ∷ []) ∷
      [];
  statics = (3 ∷ 4 ∷ []) ∷ [];
  cells = [];
  elems = (record { 0 = 2 }, (3 ∷ 4 ∷ [])) ∷ [];
  calls =
      call_of 18 0 ∷ call_of 23 17 ∷ call_of 28 8 ∷ call_of 38 17 ∷ call_of 45 19 ∷ call_of 50 18 ∷
      call_of 50 20 ∷ call_of 55 21 ∷ call_of 60 22 ∷ call_of 63 10 ∷ call_of 66 11 ∷ call_of 69 12 ∷
      call_of 72 13 ∷ call_of 75 14 ∷ call_of 78 15 ∷ call_of 83 16 ∷
      [];
  reached = 0 ∷ 8 ∷ 10 ∷ 11 ∷ 12 ∷ 13 ∷ 14 ∷ 15 ∷ 16 ∷ 17 ∷ 18 ∷ 19 ∷ 20 ∷ 21 ∷ 22 ∷ 23 ∷ 24 ∷ 25 ∷ 26 ∷ 27 ∷ 28 ∷ 29 ∷ 30 ∷ 31 ∷ [];
}

-- ---- a run

abbrev pub receivers_0 : RegState
receivers_0 = initial_state receivers_classes receivers_program

abbrev pub receivers_1 : RegState
receivers_1 = started receivers_program receivers_0 23

abbrev pub receivers_2 : RegState
receivers_2 = stepped receivers_program receivers_1 (Sets []) 0

abbrev pub receivers_3 : RegState
receivers_3 = stepped receivers_program receivers_2 (Makes 35 (new_object receivers_classes 13 0)) 0

abbrev pub receivers_4 : RegState
receivers_4 = stepped receivers_program receivers_3 (Enters 21 (Address 0 ∷ [])) 0

abbrev pub receivers_5 : RegState
receivers_5 = stepped receivers_program receivers_4 (Sets []) 0

abbrev pub receivers_6 : RegState
receivers_6 = stepped receivers_program receivers_5 (Enters 8 (Address 0 ∷ [])) 0

abbrev pub receivers_7 : RegState
receivers_7 = stepped receivers_program receivers_6 (Leaves None) 0

abbrev pub receivers_8 : RegState
receivers_8 = stepped receivers_program receivers_7 (Leaves None) 0

abbrev pub receivers_9 : RegState
receivers_9 = stepped receivers_program receivers_8 (Leaves None) 0

abbrev pub receivers_10 : RegState
receivers_10 = started receivers_program receivers_9 24

abbrev pub receivers_11 : RegState
receivers_11 = stepped receivers_program receivers_10 (Sets ((36, Address 0) ∷ [])) 0

abbrev pub receivers_12 : RegState
receivers_12 = stepped receivers_program receivers_11 (Sets ((37, NullValue) ∷ [])) 0

abbrev pub receivers_13 : RegState
receivers_13 = stepped receivers_program receivers_12 (Enters 22 (Address 0 ∷ NullValue ∷ [])) 0

abbrev pub receivers_14 : RegState
receivers_14 = stepped receivers_program receivers_13 (Sets ((26, IntValue (pos 2)) ∷ [])) 0

abbrev pub receivers_15 : RegState
receivers_15 = stepped receivers_program receivers_14 (Makes 27 (new_array receivers_program 2 2)) 0

abbrev pub receivers_16 : RegState
receivers_16 = stepped receivers_program receivers_15 (Sets []) 0

abbrev pub receivers_17 : RegState
receivers_17 = stepped receivers_program receivers_16 (Sets []) 0

abbrev pub receivers_18 : RegState
receivers_18 = stepped receivers_program receivers_17 (Sets ((28, IntValue (pos 0)) ∷ [])) 0

abbrev pub receivers_19 : RegState
receivers_19 = stepped receivers_program receivers_18 (Sets []) 0

abbrev pub receivers_20 : RegState
receivers_20 = stepped receivers_program receivers_19 (Makes 29 (new_object receivers_classes 11 3)) 0

abbrev pub receivers_21 : RegState
receivers_21 = stepped receivers_program receivers_20 (Sets []) 0

abbrev pub receivers_22 : RegState
receivers_22 = stepped receivers_program receivers_21 (Enters 17 (Address 2 ∷ [])) 0

abbrev pub receivers_23 : RegState
receivers_23 = stepped receivers_program receivers_22 (Sets []) 0

abbrev pub receivers_24 : RegState
receivers_24 = stepped receivers_program receivers_23 (Enters 0 (Address 2 ∷ [])) 0

abbrev pub receivers_25 : RegState
receivers_25 = stepped receivers_program receivers_24 (Leaves None) 0

abbrev pub receivers_26 : RegState
receivers_26 = stepped receivers_program receivers_25 (Leaves None) 0

abbrev pub receivers_27 : RegState
receivers_27 = stepped receivers_program receivers_26 (SetsElement 1 0 (Address 2)) 0

abbrev pub receivers_28 : RegState
receivers_28 = stepped receivers_program receivers_27 (Sets []) 0

abbrev pub receivers_29 : RegState
receivers_29 = stepped receivers_program receivers_28 (Sets ((30, IntValue (pos 1)) ∷ [])) 0

abbrev pub receivers_30 : RegState
receivers_30 = stepped receivers_program receivers_29 (Sets []) 0

abbrev pub receivers_31 : RegState
receivers_31 = stepped receivers_program receivers_30 (Makes 31 (new_object receivers_classes 12 4)) 0

abbrev pub receivers_32 : RegState
receivers_32 = stepped receivers_program receivers_31 (Sets []) 0

abbrev pub receivers_33 : RegState
receivers_33 = stepped receivers_program receivers_32 (Enters 19 (Address 3 ∷ [])) 0

abbrev pub receivers_34 : RegState
receivers_34 = stepped receivers_program receivers_33 (Sets []) 0

abbrev pub receivers_35 : RegState
receivers_35 = stepped receivers_program receivers_34 (Enters 17 (Address 3 ∷ [])) 0

abbrev pub receivers_36 : RegState
receivers_36 = stepped receivers_program receivers_35 (Sets []) 0

abbrev pub receivers_37 : RegState
receivers_37 = stepped receivers_program receivers_36 (Enters 0 (Address 3 ∷ [])) 0

abbrev pub receivers_38 : RegState
receivers_38 = stepped receivers_program receivers_37 (Leaves None) 0

abbrev pub receivers_39 : RegState
receivers_39 = stepped receivers_program receivers_38 (Leaves None) 0

abbrev pub receivers_40 : RegState
receivers_40 = stepped receivers_program receivers_39 (Leaves None) 0

abbrev pub receivers_41 : RegState
receivers_41 = stepped receivers_program receivers_40 (SetsElement 1 1 (Address 3)) 0

abbrev pub receivers_42 : RegState
receivers_42 = stepped receivers_program receivers_41 (Sets []) 0

abbrev pub receivers_43 : RegState
receivers_43 = stepped receivers_program receivers_42 (Sets ((32, IntValue (pos 1)) ∷ [])) 0

abbrev pub receivers_44 : RegState
receivers_44 = stepped receivers_program receivers_43 (Sets ((33, Address 3) ∷ [])) 0

abbrev pub receivers_45 : RegState
receivers_45 = stepped receivers_program receivers_44 (Enters 20 (Address 3 ∷ [])) 0

abbrev pub receivers_46 : RegState
receivers_46 = stepped receivers_program receivers_45 (Sets []) 0

abbrev pub receivers_47 : RegState
receivers_47 = stepped receivers_program receivers_46 (Leaves (Some 22)) 0

abbrev pub receivers_48 : RegState
receivers_48 = stepped receivers_program receivers_47 (SetsStatic 0 (Address 3)) 0

abbrev pub receivers_49 : RegState
receivers_49 = stepped receivers_program receivers_48 (Leaves None) 0

abbrev pub receivers_50 : RegState
receivers_50 = stepped receivers_program receivers_49 (Leaves None) 0

-- the object at the address is an array with these elements
abbrev pub HoldsElements : RegState → ℕ → List RegValue → Type 0
HoldsElements s a elements = (o : RegObject) × (slice_get s.heap a ≡ Some o) × (o.contents ≡ Array elements)

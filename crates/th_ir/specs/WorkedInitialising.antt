-- A small program by hand: the initialiser of P calls a static method of its subclass Q and stores a new
-- Activity; the Activity calls that method when it is created.
use Rattle.std.specs.Prelude.{List, [], ◌∷◌, ◌++◌, None, ℕ, codes, true}
use Rattle.th_base.specs.declared.class.ClassInfo.{ClassInfo}
use Rattle.th_base.specs.BuiltIn.{built_in_classes}
use Rattle.th_ir.specs.declared.facts.Facts.{Facts}
use Rattle.th_ir.specs.declared.program.RegProgram.{RegProgram}
use Rattle.th_ir.specs.declared.program.Place.TheVariants.{Launch, Event, Code}
use Rattle.th_ir.specs.declared.stmt.CallKind.TheVariants.{Virtual, Static}
use Rattle.th_ir.specs.declared.stmt.Stmt.TheVariants.{Nop, Null, PutStatic, New, Call, Init, Return, Pick}
use Rattle.th_ir.specs.Harness.{to}
use Rattle.th_ir.specs.Machine.{RegState, NullValue, Address, new_object, initial_state}
use Rattle.th_ir.specs.Effects.{Sets, SetsStatic, Makes, Enters, Leaves}
use Rattle.th_ir.specs.Applied.{stepped, started}
use Rattle.th_ir.specs.Worked.{class_info, field_info, method_info, static_method_info, reg, site, node, own, harness_method, call_special, built_in_methods, built_in_nodes, built_in_refs, no_sites, call_of}

-- the classes of the files, and all classes
abbrev pub initialising_files : List ClassInfo
initialising_files =
    class_info (codes "P") 0
    (field_info 0 true (codes "s") (codes "Ljava/lang/Object;") ∷ [])
    (method_info 17 (codes "<init>") (codes "()V")
    ∷ static_method_info 18 (codes "<clinit>") (codes "()V")
    ∷ [])
    ∷ class_info (codes "Q") 11
    []
    (method_info 19 (codes "<init>") (codes "()V")
    ∷ static_method_info 20 (codes "m") (codes "()V")
    ∷ [])
    ∷ class_info (codes "Act") 10
    []
    (method_info 21 (codes "<init>") (codes "()V")
    ∷ method_info 22 (codes "onCreate") (codes "(Landroid/os/Bundle;)V")
    ∷ [])
    ∷ []

abbrev pub initialising_classes : List ClassInfo
initialising_classes = built_in_classes ++ initialising_files

abbrev pub initialising_program : RegProgram
initialising_program = record {
  methods =
      built_in_methods
      ++ (own 11 17 (reg 19 ∷ []) 19
      ∷ own 11 20 [] 27
      ∷ own 12 28 (reg 21 ∷ []) 30
      ∷ own 12 31 [] 31
      ∷ own 13 32 (reg 22 ∷ []) 34
      ∷ own 13 35 (reg 23 ∷ reg 24 ∷ []) 37
      ∷ harness_method 38 41
      ∷ harness_method 42 46
      ∷ harness_method 47 49
      ∷ harness_method 50 52
      ∷ harness_method 53 55
      ∷ harness_method 56 58
      ∷ harness_method 59 61
      ∷ harness_method 62 64
      ∷ harness_method 65 69
      ∷ []);
  nodes =
      built_in_nodes
      ++ (node 17 0 Nop (to 18)
      ∷ node 17 1 (call_special 0 (reg 19 ∷ [])) (to 19)
      ∷ node 17 4 (Return None) []
      ∷ node 18 0 (Init record { 0 = 12 }) (to 21)
      ∷ node 18 0 (Call None Static record { 0 = 20 } []) (to 22)
      ∷ node 18 3 (Init record { 0 = 13 }) (to 23)
      ∷ node 18 3 (New (reg 20) record { 0 = 2 }) (to 24)
      ∷ node 18 6 Nop (to 25)
      ∷ node 18 7 (call_special 21 (reg 20 ∷ [])) (to 26)
      ∷ node 18 10 (PutStatic record { 0 = 0 } (reg 20)) (to 27)
      ∷ node 18 13 (Return None) []
      ∷ node 19 0 Nop (to 29)
      ∷ node 19 1 (call_special 17 (reg 21 ∷ [])) (to 30)
      ∷ node 19 4 (Return None) []
      ∷ node 20 0 (Return None) []
      ∷ node 21 0 Nop (to 33)
      ∷ node 21 1 (call_special 8 (reg 22 ∷ [])) (to 34)
      ∷ node 21 4 (Return None) []
      ∷ node 22 0 (Init record { 0 = 12 }) (to 36)
      ∷ node 22 0 (Call None Static record { 0 = 20 } []) (to 37)
      ∷ node 22 3 (Return None) []
      ∷ node 23 0 (Init record { 0 = 13 }) (to 39)
      ∷ node 23 0 (New (reg 25) record { 0 = 0 }) (to 40)
      ∷ node 23 0 (call_special 21 (reg 25 ∷ [])) (to 41)
      ∷ node 23 0 (Return None) []
      ∷ node 24 0 (Pick (reg 26) record { 0 = 13 }) (record { 0 = 43 } ∷ record { 0 = 44 } ∷ [])
      ∷ node 24 0 (Null (reg 27)) (to 45)
      ∷ node 24 0 (New (reg 27) record { 0 = 1 }) (to 45)
      ∷ node 24 0 (Call None Virtual record { 0 = 9 } (reg 26 ∷ reg 27 ∷ [])) (to 46)
      ∷ node 24 0 (Return None) []
      ∷ node 25 0 (Pick (reg 28) record { 0 = 13 }) (to 48)
      ∷ node 25 0 (Call None Virtual record { 0 = 10 } (reg 28 ∷ [])) (to 49)
      ∷ node 25 0 (Return None) []
      ∷ node 26 0 (Pick (reg 29) record { 0 = 13 }) (to 51)
      ∷ node 26 0 (Call None Virtual record { 0 = 11 } (reg 29 ∷ [])) (to 52)
      ∷ node 26 0 (Return None) []
      ∷ node 27 0 (Pick (reg 30) record { 0 = 13 }) (to 54)
      ∷ node 27 0 (Call None Virtual record { 0 = 12 } (reg 30 ∷ [])) (to 55)
      ∷ node 27 0 (Return None) []
      ∷ node 28 0 (Pick (reg 31) record { 0 = 13 }) (to 57)
      ∷ node 28 0 (Call None Virtual record { 0 = 13 } (reg 31 ∷ [])) (to 58)
      ∷ node 28 0 (Return None) []
      ∷ node 29 0 (Pick (reg 32) record { 0 = 13 }) (to 60)
      ∷ node 29 0 (Call None Virtual record { 0 = 14 } (reg 32 ∷ [])) (to 61)
      ∷ node 29 0 (Return None) []
      ∷ node 30 0 (Pick (reg 33) record { 0 = 13 }) (to 63)
      ∷ node 30 0 (Call None Virtual record { 0 = 15 } (reg 33 ∷ [])) (to 64)
      ∷ node 30 0 (Return None) []
      ∷ node 31 0 (Pick (reg 34) record { 0 = 13 }) (record { 0 = 66 } ∷ record { 0 = 67 } ∷ [])
      ∷ node 31 0 (Null (reg 35)) (to 68)
      ∷ node 31 0 (New (reg 35) record { 0 = 1 }) (to 68)
      ∷ node 31 0 (Call None Virtual record { 0 = 16 } (reg 34 ∷ reg 35 ∷ [])) (to 69)
      ∷ node 31 0 (Return None) []
      ∷ []);
  sites = site (codes "Act") (Launch record { 0 = 13 })
      ∷ site (codes "android/os/Bundle") Event
      ∷ site (codes "Act") (Code record { 0 = 18 } 3)
      ∷ [];
  harness =
      record { 0 = 23 } ∷ record { 0 = 24 } ∷ record { 0 = 25 } ∷ record { 0 = 26 } ∷ record { 0 = 27 } ∷
      record { 0 = 28 } ∷ record { 0 = 29 } ∷ record { 0 = 30 } ∷ record { 0 = 31 } ∷ [];
  refs = built_in_refs ++ (19 ∷ 20 ∷ 21 ∷ 22 ∷ 23 ∷ 24 ∷ 25 ∷ 26 ∷ 27 ∷ 28 ∷ 29 ∷ 30 ∷ 31 ∷ 32 ∷ 33 ∷ 34 ∷ 35 ∷ []);
  ints = [];
  strings = [];
}

-- the sets of its facts, register by register
abbrev pub initialising_facts : Facts
initialising_facts = record {
  regs =
      no_sites ∷ no_sites ∷ no_sites ∷ no_sites ∷ no_sites ∷ no_sites ∷ no_sites ∷ no_sites ∷
      (0 ∷ 2 ∷ []) ∷ no_sites ∷ no_sites ∷ (0 ∷ []) ∷ (0 ∷ []) ∷ (0 ∷ []) ∷ (0 ∷ []) ∷ (0 ∷ []) ∷
      (0 ∷ []) ∷ (0 ∷ []) ∷ (1 ∷ []) ∷ no_sites ∷ (2 ∷ []) ∷ no_sites ∷ (0 ∷ 2 ∷ []) ∷ (0 ∷ []) ∷
      (1 ∷ []) ∷ (0 ∷ []) ∷ (0 ∷ []) ∷ (1 ∷ []) ∷ (0 ∷ []) ∷ (0 ∷ []) ∷ (0 ∷ []) ∷ (0 ∷ []) ∷
      (0 ∷ []) ∷ (0 ∷ []) ∷ (0 ∷ []) ∷ (1 ∷ []) ∷
      [];
  statics = (2 ∷ []) ∷ [];
  cells = [];
  elems = [];
  calls =
      call_of 21 20 ∷ call_of 25 21 ∷ call_of 33 8 ∷ call_of 36 20 ∷ call_of 40 21 ∷ call_of 45 22 ∷
      call_of 48 10 ∷ call_of 51 11 ∷ call_of 54 12 ∷ call_of 57 13 ∷ call_of 60 14 ∷ call_of 63 15 ∷
      call_of 68 16 ∷
      [];
  reached = 8 ∷ 10 ∷ 11 ∷ 12 ∷ 13 ∷ 14 ∷ 15 ∷ 16 ∷ 18 ∷ 20 ∷ 21 ∷ 22 ∷ 23 ∷ 24 ∷ 25 ∷ 26 ∷ 27 ∷ 28 ∷ 29 ∷ 30 ∷ 31 ∷ [];
}

-- ---- a run

abbrev pub initialising_0 : RegState
initialising_0 = initial_state initialising_classes initialising_program

abbrev pub initialising_1 : RegState
initialising_1 = started initialising_program initialising_0 23

abbrev pub initialising_2 : RegState
initialising_2 = stepped initialising_program initialising_1 (Sets []) 0

abbrev pub initialising_3 : RegState
initialising_3 = stepped initialising_program initialising_2 (Makes 25 (new_object initialising_classes 13 0)) 0

abbrev pub initialising_4 : RegState
initialising_4 = stepped initialising_program initialising_3 (Enters 21 (Address 0 ∷ [])) 0

abbrev pub initialising_5 : RegState
initialising_5 = stepped initialising_program initialising_4 (Sets []) 0

abbrev pub initialising_6 : RegState
initialising_6 = stepped initialising_program initialising_5 (Enters 8 (Address 0 ∷ [])) 0

abbrev pub initialising_7 : RegState
initialising_7 = stepped initialising_program initialising_6 (Leaves None) 0

abbrev pub initialising_8 : RegState
initialising_8 = stepped initialising_program initialising_7 (Leaves None) 0

abbrev pub initialising_9 : RegState
initialising_9 = stepped initialising_program initialising_8 (Leaves None) 0

abbrev pub initialising_10 : RegState
initialising_10 = started initialising_program initialising_9 24

abbrev pub initialising_11 : RegState
initialising_11 = stepped initialising_program initialising_10 (Sets ((26, Address 0) ∷ [])) 0

abbrev pub initialising_12 : RegState
initialising_12 = stepped initialising_program initialising_11 (Sets ((27, NullValue) ∷ [])) 0

abbrev pub initialising_13 : RegState
initialising_13 = stepped initialising_program initialising_12 (Enters 22 (Address 0 ∷ NullValue ∷ [])) 0

abbrev pub initialising_14 : RegState
initialising_14 = stepped initialising_program initialising_13 (Enters 18 []) 0

abbrev pub initialising_15 : RegState
initialising_15 = stepped initialising_program initialising_14 (Sets []) 0

abbrev pub initialising_16 : RegState
initialising_16 = stepped initialising_program initialising_15 (Enters 20 []) 0

abbrev pub initialising_17 : RegState
initialising_17 = stepped initialising_program initialising_16 (Leaves None) 0

abbrev pub initialising_18 : RegState
initialising_18 = stepped initialising_program initialising_17 (Sets []) 0

abbrev pub initialising_19 : RegState
initialising_19 = stepped initialising_program initialising_18 (Makes 20 (new_object initialising_classes 13 2)) 0

abbrev pub initialising_20 : RegState
initialising_20 = stepped initialising_program initialising_19 (Sets []) 0

abbrev pub initialising_21 : RegState
initialising_21 = stepped initialising_program initialising_20 (Enters 21 (Address 1 ∷ [])) 0

abbrev pub initialising_22 : RegState
initialising_22 = stepped initialising_program initialising_21 (Sets []) 0

abbrev pub initialising_23 : RegState
initialising_23 = stepped initialising_program initialising_22 (Enters 8 (Address 1 ∷ [])) 0

abbrev pub initialising_24 : RegState
initialising_24 = stepped initialising_program initialising_23 (Leaves None) 0

abbrev pub initialising_25 : RegState
initialising_25 = stepped initialising_program initialising_24 (Leaves None) 0

abbrev pub initialising_26 : RegState
initialising_26 = stepped initialising_program initialising_25 (SetsStatic 0 (Address 1)) 0

abbrev pub initialising_27 : RegState
initialising_27 = stepped initialising_program initialising_26 (Leaves None) 0

abbrev pub initialising_28 : RegState
initialising_28 = stepped initialising_program initialising_27 (Sets []) 0

abbrev pub initialising_29 : RegState
initialising_29 = stepped initialising_program initialising_28 (Enters 20 []) 0

abbrev pub initialising_30 : RegState
initialising_30 = stepped initialising_program initialising_29 (Leaves None) 0

abbrev pub initialising_31 : RegState
initialising_31 = stepped initialising_program initialising_30 (Leaves None) 0

abbrev pub initialising_32 : RegState
initialising_32 = stepped initialising_program initialising_31 (Leaves None) 0

-- A small program by hand: an Activity that stores itself into its static field `last` when it is
-- created, under the lifecycle that allows every handler.
use Rattle.std.specs.Prelude.{List, [], ◌∷◌, ◌++◌, None, ℕ, codes, true}
use Rattle.th_base.specs.declared.class.ClassInfo.{ClassInfo}
use Rattle.th_base.specs.BuiltIn.{built_in_classes}
use Rattle.th_ir.specs.declared.facts.Facts.{Facts}
use Rattle.th_ir.specs.declared.program.RegProgram.{RegProgram}
use Rattle.th_ir.specs.declared.program.Place.TheVariants.{Launch, Event}
use Rattle.th_ir.specs.declared.stmt.CallKind.TheVariants.{Virtual}
use Rattle.th_ir.specs.declared.stmt.Stmt.{Stmt}
use Rattle.th_ir.specs.declared.stmt.Stmt.TheVariants.{Nop, Null, PutStatic, New, Call, Init, Return, Pick}
use Rattle.th_ir.specs.Harness.{to}
use Rattle.th_ir.specs.Machine.{RegState, NullValue, Address, new_object, initial_state}
use Rattle.th_ir.specs.Effects.{Sets, SetsStatic, Makes, Enters, Leaves}
use Rattle.th_ir.specs.Applied.{stepped, started}
use Rattle.th_ir.specs.Worked.{class_info, field_info, method_info, reg, site, node, own, harness_method, call_special, built_in_methods, built_in_nodes, built_in_refs, no_sites, call_of}

-- the classes of the files, and all classes
abbrev pub storing_files : List ClassInfo
storing_files =
    class_info (codes "Act") 10
    (field_info 0 true (codes "last") (codes "Landroid/app/Activity;") ∷ [])
    (method_info 17 (codes "<init>") (codes "()V")
    ∷ method_info 18 (codes "onCreate") (codes "(Landroid/os/Bundle;)V")
    ∷ [])
    ∷ []

abbrev pub storing_classes : List ClassInfo
storing_classes = built_in_classes ++ storing_files

abbrev pub storing_program : RegProgram
storing_program = record {
  methods =
      built_in_methods
      ++ (own 11 17 (reg 19 ∷ []) 19
      ∷ own 11 20 (reg 20 ∷ reg 21 ∷ []) 22
      ∷ harness_method 23 26
      ∷ harness_method 27 31
      ∷ harness_method 32 34
      ∷ harness_method 35 37
      ∷ harness_method 38 40
      ∷ harness_method 41 43
      ∷ harness_method 44 46
      ∷ harness_method 47 49
      ∷ harness_method 50 54
      ∷ []);
  nodes =
      built_in_nodes
      ++ (node 17 0 Nop (to 18)
      ∷ node 17 1 (call_special 8 (reg 19 ∷ [])) (to 19)
      ∷ node 17 4 (Return None) []
      ∷ node 18 0 Nop (to 21)
      ∷ node 18 1 (PutStatic record { 0 = 0 } (reg 20)) (to 22)
      ∷ node 18 4 (Return None) []
      ∷ node 19 0 (Init record { 0 = 11 }) (to 24)
      ∷ node 19 0 (New (reg 22) record { 0 = 0 }) (to 25)
      ∷ node 19 0 (call_special 17 (reg 22 ∷ [])) (to 26)
      ∷ node 19 0 (Return None) []
      ∷ node 20 0 (Pick (reg 23) record { 0 = 11 }) (record { 0 = 28 } ∷ record { 0 = 29 } ∷ [])
      ∷ node 20 0 (Null (reg 24)) (to 30)
      ∷ node 20 0 (New (reg 24) record { 0 = 1 }) (to 30)
      ∷ node 20 0 (Call None Virtual record { 0 = 9 } (reg 23 ∷ reg 24 ∷ [])) (to 31)
      ∷ node 20 0 (Return None) []
      ∷ node 21 0 (Pick (reg 25) record { 0 = 11 }) (to 33)
      ∷ node 21 0 (Call None Virtual record { 0 = 10 } (reg 25 ∷ [])) (to 34)
      ∷ node 21 0 (Return None) []
      ∷ node 22 0 (Pick (reg 26) record { 0 = 11 }) (to 36)
      ∷ node 22 0 (Call None Virtual record { 0 = 11 } (reg 26 ∷ [])) (to 37)
      ∷ node 22 0 (Return None) []
      ∷ node 23 0 (Pick (reg 27) record { 0 = 11 }) (to 39)
      ∷ node 23 0 (Call None Virtual record { 0 = 12 } (reg 27 ∷ [])) (to 40)
      ∷ node 23 0 (Return None) []
      ∷ node 24 0 (Pick (reg 28) record { 0 = 11 }) (to 42)
      ∷ node 24 0 (Call None Virtual record { 0 = 13 } (reg 28 ∷ [])) (to 43)
      ∷ node 24 0 (Return None) []
      ∷ node 25 0 (Pick (reg 29) record { 0 = 11 }) (to 45)
      ∷ node 25 0 (Call None Virtual record { 0 = 14 } (reg 29 ∷ [])) (to 46)
      ∷ node 25 0 (Return None) []
      ∷ node 26 0 (Pick (reg 30) record { 0 = 11 }) (to 48)
      ∷ node 26 0 (Call None Virtual record { 0 = 15 } (reg 30 ∷ [])) (to 49)
      ∷ node 26 0 (Return None) []
      ∷ node 27 0 (Pick (reg 31) record { 0 = 11 }) (record { 0 = 51 } ∷ record { 0 = 52 } ∷ [])
      ∷ node 27 0 (Null (reg 32)) (to 53)
      ∷ node 27 0 (New (reg 32) record { 0 = 1 }) (to 53)
      ∷ node 27 0 (Call None Virtual record { 0 = 16 } (reg 31 ∷ reg 32 ∷ [])) (to 54)
      ∷ node 27 0 (Return None) []
      ∷ []);
  sites = site (codes "Act") (Launch record { 0 = 11 })
      ∷ site (codes "android/os/Bundle") Event
      ∷ [];
  harness =
      record { 0 = 19 } ∷ record { 0 = 20 } ∷ record { 0 = 21 } ∷ record { 0 = 22 } ∷ record { 0 = 23 } ∷
      record { 0 = 24 } ∷ record { 0 = 25 } ∷ record { 0 = 26 } ∷ record { 0 = 27 } ∷ [];
  refs = built_in_refs ++ (19 ∷ 20 ∷ 21 ∷ 22 ∷ 23 ∷ 24 ∷ 25 ∷ 26 ∷ 27 ∷ 28 ∷ 29 ∷ 30 ∷ 31 ∷ 32 ∷ []);
  ints = [];
  strings = [];
}

-- the sets of its facts, register by register
abbrev pub storing_facts : Facts
storing_facts = record {
  regs =
      no_sites ∷ no_sites ∷ no_sites ∷ no_sites ∷ no_sites ∷ no_sites ∷ no_sites ∷ no_sites ∷
      (0 ∷ []) ∷ no_sites ∷ no_sites ∷ (0 ∷ []) ∷ (0 ∷ []) ∷ (0 ∷ []) ∷ (0 ∷ []) ∷ (0 ∷ []) ∷
      (0 ∷ []) ∷ (0 ∷ []) ∷ (1 ∷ []) ∷ (0 ∷ []) ∷ (0 ∷ []) ∷ (1 ∷ []) ∷ (0 ∷ []) ∷ (0 ∷ []) ∷
      (1 ∷ []) ∷ (0 ∷ []) ∷ (0 ∷ []) ∷ (0 ∷ []) ∷ (0 ∷ []) ∷ (0 ∷ []) ∷ (0 ∷ []) ∷ (0 ∷ []) ∷
      (1 ∷ []) ∷
      [];
  statics = (0 ∷ []) ∷ [];
  cells = [];
  elems = [];
  calls =
      call_of 18 8 ∷ call_of 25 17 ∷ call_of 30 18 ∷ call_of 33 10 ∷ call_of 36 11 ∷ call_of 39 12 ∷
      call_of 42 13 ∷ call_of 45 14 ∷ call_of 48 15 ∷ call_of 53 16 ∷
      [];
  reached = 8 ∷ 10 ∷ 11 ∷ 12 ∷ 13 ∷ 14 ∷ 15 ∷ 16 ∷ 17 ∷ 18 ∷ 19 ∷ 20 ∷ 21 ∷ 22 ∷ 23 ∷ 24 ∷ 25 ∷ 26 ∷ 27 ∷ [];
}

-- ---- a run

abbrev pub storing_0 : RegState
storing_0 = initial_state storing_classes storing_program

abbrev pub storing_1 : RegState
storing_1 = started storing_program storing_0 19

abbrev pub storing_2 : RegState
storing_2 = stepped storing_program storing_1 (Sets []) 0

abbrev pub storing_3 : RegState
storing_3 = stepped storing_program storing_2 (Makes 22 (new_object storing_classes 11 0)) 0

abbrev pub storing_4 : RegState
storing_4 = stepped storing_program storing_3 (Enters 17 (Address 0 ∷ [])) 0

abbrev pub storing_5 : RegState
storing_5 = stepped storing_program storing_4 (Sets []) 0

abbrev pub storing_6 : RegState
storing_6 = stepped storing_program storing_5 (Enters 8 (Address 0 ∷ [])) 0

abbrev pub storing_7 : RegState
storing_7 = stepped storing_program storing_6 (Leaves None) 0

abbrev pub storing_8 : RegState
storing_8 = stepped storing_program storing_7 (Leaves None) 0

abbrev pub storing_9 : RegState
storing_9 = stepped storing_program storing_8 (Leaves None) 0

abbrev pub storing_10 : RegState
storing_10 = started storing_program storing_9 20

abbrev pub storing_11 : RegState
storing_11 = stepped storing_program storing_10 (Sets ((23, Address 0) ∷ [])) 0

abbrev pub storing_12 : RegState
storing_12 = stepped storing_program storing_11 (Sets ((24, NullValue) ∷ [])) 0

abbrev pub storing_13 : RegState
storing_13 = stepped storing_program storing_12 (Enters 18 (Address 0 ∷ NullValue ∷ [])) 0

abbrev pub storing_14 : RegState
storing_14 = stepped storing_program storing_13 (Sets []) 0

abbrev pub storing_15 : RegState
storing_15 = stepped storing_program storing_14 (SetsStatic 0 (Address 0)) 0

abbrev pub storing_16 : RegState
storing_16 = stepped storing_program storing_15 (Leaves None) 0

abbrev pub storing_17 : RegState
storing_17 = stepped storing_program storing_16 (Leaves None) 0

-- ---- a state that no run reaches

-- where the address of a Bundle is listed as launched
abbrev pub of_a_bundle : RegState
of_a_bundle = record (initial_state storing_classes storing_program) { heap = new_object storing_classes 8 1 ∷ []; launched = 0 ∷ [] }

abbrev pub picks : Stmt
picks = Pick (reg 23) record { 0 = 11 }

-- A small program by hand: a static field with a String constant, into which the initialiser stores the
-- same String.
use Rattle.std.specs.Prelude.{List, [], ◌∷◌, ◌++◌, None, ℕ, codes, true}
use Rattle.th_base.specs.declared.class.ClassInfo.{ClassInfo}
use Rattle.th_base.specs.BuiltIn.{built_in_classes}
use Rattle.th_ir.specs.declared.facts.Facts.{Facts}
use Rattle.th_ir.specs.declared.program.RegProgram.{RegProgram}
use Rattle.th_ir.specs.declared.program.Place.TheVariants.{Str as StringConstant, Launch, Event}
use Rattle.th_ir.specs.declared.stmt.CallKind.TheVariants.{Virtual}
use Rattle.th_ir.specs.declared.stmt.Stmt.TheVariants.{Nop, Null, Str, PutStatic, New, Call, Init, Return, Pick}
use Rattle.th_ir.specs.Harness.{to}
use Rattle.th_ir.specs.Machine.{RegState, Address, new_object, initial_state}
use Rattle.th_ir.specs.Effects.{Sets, SetsStatic, Makes, Enters, Leaves}
use Rattle.th_ir.specs.Applied.{stepped, started}
use Rattle.th_ir.specs.Worked.{class_info, field_info, method_info, static_method_info, reg, site, node, own, harness_method, call_special, built_in_methods, built_in_nodes, built_in_refs, no_sites, call_of}

-- the classes of the files, and all classes
abbrev pub naming_files : List ClassInfo
naming_files =
    class_info (codes "Act") 10
    (field_info 0 true (codes "name") (codes "Ljava/lang/String;") ∷ [])
    (method_info 17 (codes "<init>") (codes "()V")
    ∷ static_method_info 18 (codes "<clinit>") (codes "()V")
    ∷ [])
    ∷ []

abbrev pub naming_classes : List ClassInfo
naming_classes = built_in_classes ++ naming_files

abbrev pub naming_program : RegProgram
naming_program = record {
  methods =
      built_in_methods
      ++ (own 11 17 (reg 19 ∷ []) 19
      ∷ own 11 20 [] 22
      ∷ harness_method 23 26
      ∷ harness_method 27 31
      ∷ harness_method 32 34
      ∷ harness_method 35 37
      ∷ harness_method 38 40
      ∷ harness_method 41 43
      ∷ harness_method 44 46
      ∷ harness_method 47 49
      ∷ harness_method 50 54
      ∷ []);
  nodes =
      built_in_nodes
      ++ (node 17 0 Nop (to 18)
      ∷ node 17 1 (call_special 8 (reg 19 ∷ [])) (to 19)
      ∷ node 17 4 (Return None) []
      ∷ node 18 0 (Str (reg 20) record { 0 = 0 }) (to 21)
      ∷ node 18 2 (PutStatic record { 0 = 0 } (reg 20)) (to 22)
      ∷ node 18 5 (Return None) []
      ∷ node 19 0 (Init record { 0 = 11 }) (to 24)
      ∷ node 19 0 (New (reg 21) record { 0 = 1 }) (to 25)
      ∷ node 19 0 (call_special 17 (reg 21 ∷ [])) (to 26)
      ∷ node 19 0 (Return None) []
      ∷ node 20 0 (Pick (reg 22) record { 0 = 11 }) (record { 0 = 28 } ∷ record { 0 = 29 } ∷ [])
      ∷ node 20 0 (Null (reg 23)) (to 30)
      ∷ node 20 0 (New (reg 23) record { 0 = 2 }) (to 30)
      ∷ node 20 0 (Call None Virtual record { 0 = 9 } (reg 22 ∷ reg 23 ∷ [])) (to 31)
      ∷ node 20 0 (Return None) []
      ∷ node 21 0 (Pick (reg 24) record { 0 = 11 }) (to 33)
      ∷ node 21 0 (Call None Virtual record { 0 = 10 } (reg 24 ∷ [])) (to 34)
      ∷ node 21 0 (Return None) []
      ∷ node 22 0 (Pick (reg 25) record { 0 = 11 }) (to 36)
      ∷ node 22 0 (Call None Virtual record { 0 = 11 } (reg 25 ∷ [])) (to 37)
      ∷ node 22 0 (Return None) []
      ∷ node 23 0 (Pick (reg 26) record { 0 = 11 }) (to 39)
      ∷ node 23 0 (Call None Virtual record { 0 = 12 } (reg 26 ∷ [])) (to 40)
      ∷ node 23 0 (Return None) []
      ∷ node 24 0 (Pick (reg 27) record { 0 = 11 }) (to 42)
      ∷ node 24 0 (Call None Virtual record { 0 = 13 } (reg 27 ∷ [])) (to 43)
      ∷ node 24 0 (Return None) []
      ∷ node 25 0 (Pick (reg 28) record { 0 = 11 }) (to 45)
      ∷ node 25 0 (Call None Virtual record { 0 = 14 } (reg 28 ∷ [])) (to 46)
      ∷ node 25 0 (Return None) []
      ∷ node 26 0 (Pick (reg 29) record { 0 = 11 }) (to 48)
      ∷ node 26 0 (Call None Virtual record { 0 = 15 } (reg 29 ∷ [])) (to 49)
      ∷ node 26 0 (Return None) []
      ∷ node 27 0 (Pick (reg 30) record { 0 = 11 }) (record { 0 = 51 } ∷ record { 0 = 52 } ∷ [])
      ∷ node 27 0 (Null (reg 31)) (to 53)
      ∷ node 27 0 (New (reg 31) record { 0 = 2 }) (to 53)
      ∷ node 27 0 (Call None Virtual record { 0 = 16 } (reg 30 ∷ reg 31 ∷ [])) (to 54)
      ∷ node 27 0 (Return None) []
      ∷ []);
  sites = site (codes "java/lang/String") (StringConstant (codes "x"))
      ∷ site (codes "Act") (Launch record { 0 = 11 })
      ∷ site (codes "android/os/Bundle") Event
      ∷ [];
  harness =
      record { 0 = 19 } ∷ record { 0 = 20 } ∷ record { 0 = 21 } ∷ record { 0 = 22 } ∷ record { 0 = 23 } ∷
      record { 0 = 24 } ∷ record { 0 = 25 } ∷ record { 0 = 26 } ∷ record { 0 = 27 } ∷ [];
  refs = built_in_refs ++ (19 ∷ 20 ∷ 21 ∷ 22 ∷ 23 ∷ 24 ∷ 25 ∷ 26 ∷ 27 ∷ 28 ∷ 29 ∷ 30 ∷ 31 ∷ []);
  ints = [];
  strings = (record { 0 = 0 }, record { 0 = 0 }) ∷ [];
}

-- the sets of its facts, register by register
abbrev pub naming_facts : Facts
naming_facts = record {
  regs =
      no_sites ∷ no_sites ∷ no_sites ∷ no_sites ∷ no_sites ∷ no_sites ∷ no_sites ∷ no_sites ∷
      (1 ∷ []) ∷ (1 ∷ []) ∷ (2 ∷ []) ∷ (1 ∷ []) ∷ (1 ∷ []) ∷ (1 ∷ []) ∷ (1 ∷ []) ∷ (1 ∷ []) ∷
      (1 ∷ []) ∷ (1 ∷ []) ∷ (2 ∷ []) ∷ (1 ∷ []) ∷ (0 ∷ []) ∷ (1 ∷ []) ∷ (1 ∷ []) ∷ (2 ∷ []) ∷
      (1 ∷ []) ∷ (1 ∷ []) ∷ (1 ∷ []) ∷ (1 ∷ []) ∷ (1 ∷ []) ∷ (1 ∷ []) ∷ (1 ∷ []) ∷ (2 ∷ []) ∷
      [];
  statics = (0 ∷ []) ∷ [];
  cells = [];
  elems = [];
  calls =
      call_of 18 8 ∷ call_of 25 17 ∷ call_of 30 9 ∷ call_of 33 10 ∷ call_of 36 11 ∷ call_of 39 12 ∷
      call_of 42 13 ∷ call_of 45 14 ∷ call_of 48 15 ∷ call_of 53 16 ∷
      [];
  reached = 8 ∷ 9 ∷ 10 ∷ 11 ∷ 12 ∷ 13 ∷ 14 ∷ 15 ∷ 16 ∷ 17 ∷ 18 ∷ 19 ∷ 20 ∷ 21 ∷ 22 ∷ 23 ∷ 24 ∷ 25 ∷ 26 ∷ 27 ∷ [];
}

-- ---- a run

abbrev pub naming_0 : RegState
naming_0 = initial_state naming_classes naming_program

abbrev pub naming_1 : RegState
naming_1 = started naming_program naming_0 19

abbrev pub naming_2 : RegState
naming_2 = stepped naming_program naming_1 (Enters 18 []) 0

abbrev pub naming_3 : RegState
naming_3 = stepped naming_program naming_2 (Sets ((20, Address 0) ∷ [])) 0

abbrev pub naming_4 : RegState
naming_4 = stepped naming_program naming_3 (SetsStatic 0 (Address 0)) 0

abbrev pub naming_5 : RegState
naming_5 = stepped naming_program naming_4 (Leaves None) 0

abbrev pub naming_6 : RegState
naming_6 = stepped naming_program naming_5 (Sets []) 0

abbrev pub naming_7 : RegState
naming_7 = stepped naming_program naming_6 (Makes 21 (new_object naming_classes 11 1)) 0

abbrev pub naming_8 : RegState
naming_8 = stepped naming_program naming_7 (Enters 17 (Address 1 ∷ [])) 0

abbrev pub naming_9 : RegState
naming_9 = stepped naming_program naming_8 (Sets []) 0

abbrev pub naming_10 : RegState
naming_10 = stepped naming_program naming_9 (Enters 8 (Address 1 ∷ [])) 0

abbrev pub naming_11 : RegState
naming_11 = stepped naming_program naming_10 (Leaves None) 0

abbrev pub naming_12 : RegState
naming_12 = stepped naming_program naming_11 (Leaves None) 0

abbrev pub naming_13 : RegState
naming_13 = stepped naming_program naming_12 (Leaves None) 0

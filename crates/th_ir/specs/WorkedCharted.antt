-- The register form, by hand, of the Activity that stores itself when it is created, under the
-- lifecycle's chart.
use Rattle.std.specs.Prelude.{List, [], ◌∷◌, ◌++◌, None, ℕ, codes, pos, Some, slice_get, ◌≡◌}
use Rattle.th_ir.specs.declared.program.RegProgram.{RegProgram}
use Rattle.th_ir.specs.declared.program.Place.TheVariants.{Launch, Event}
use Rattle.th_ir.specs.declared.stmt.CallKind.TheVariants.{Virtual}
use Rattle.th_ir.specs.declared.stmt.Condition.TheVariants.{Key}
use Rattle.th_ir.specs.declared.stmt.Stmt.TheVariants.{Nop, Const, Null, Assume, PutStatic, GetField, PutField, New, Call, Init, Return, Pick}
use Rattle.th_ir.specs.Fields.{stage_field}
use Rattle.th_ir.specs.Harness.{to}
use Rattle.th_ir.specs.Machine.{RegState, Address, IntValue, RegObject, field_value, new_object, initial_state}
use Rattle.th_ir.specs.Effects.{Sets, SetsStatic, SetsField, Makes, Enters, Leaves}
use Rattle.th_ir.specs.WorkedStoring.{storing_classes}
use Rattle.th_ir.specs.Applied.{stepped, started}
use Rattle.th_ir.specs.Worked.{reg, site, node, own, harness_method, call_special, built_in_methods, built_in_nodes, built_in_refs}

abbrev pub charted_program : RegProgram
charted_program = record {
  methods =
      built_in_methods
      ++ (own 11 17 (reg 19 ∷ []) 19
      ∷ own 11 20 (reg 20 ∷ reg 21 ∷ []) 22
      ∷ harness_method 23 26
      ∷ harness_method 27 35
      ∷ harness_method 36 42
      ∷ harness_method 43 49
      ∷ harness_method 50 56
      ∷ harness_method 57 63
      ∷ harness_method 64 70
      ∷ harness_method 71 77
      ∷ harness_method 78 84
      ∷ harness_method 85 91
      ∷ harness_method 92 100
      ∷ harness_method 101 109
      ∷ []);
  nodes =
      built_in_nodes
      ++ (node 17 0 Nop (to 18)
      ∷ node 17 1 (call_special 8 (reg 19 ∷ [])) (to 19)
      ∷ node 17 4 (Return None) []
      ∷ node 18 0 Nop (to 21)
      ∷ node 18 1 (PutStatic record { 0 = 0 } (reg 20)) (to 22)
      ∷ node 18 4 (Return None) []
      ∷ node 19 0 (Init record { 0 = 11 }) (to 24)
      ∷ node 19 0 (New (reg 22) record { 0 = 0 }) (to 25)
      ∷ node 19 0 (call_special 17 (reg 22 ∷ [])) (to 26)
      ∷ node 19 0 (Return None) []
      ∷ node 20 0 (Pick (reg 23) record { 0 = 11 }) (to 28)
      ∷ node 20 0 (GetField (reg 24) (reg 23) record { 0 = stage_field }) (to 29)
      ∷ node 20 0 (Assume (Key (reg 24) (pos 0))) (to 30)
      ∷ node 20 0 (Const (reg 25) (pos 1)) (to 31)
      ∷ node 20 0 (PutField (reg 23) record { 0 = stage_field } (reg 25)) (record { 0 = 32 } ∷ record { 0 = 33 } ∷ [])
      ∷ node 20 0 (Null (reg 26)) (to 34)
      ∷ node 20 0 (New (reg 26) record { 0 = 1 }) (to 34)
      ∷ node 20 0 (Call None Virtual record { 0 = 9 } (reg 23 ∷ reg 26 ∷ [])) (to 35)
      ∷ node 20 0 (Return None) []
      ∷ node 21 0 (Pick (reg 27) record { 0 = 11 }) (to 37)
      ∷ node 21 0 (GetField (reg 28) (reg 27) record { 0 = stage_field }) (to 38)
      ∷ node 21 0 (Assume (Key (reg 28) (pos 1))) (to 39)
      ∷ node 21 0 (Const (reg 29) (pos 2)) (to 40)
      ∷ node 21 0 (PutField (reg 27) record { 0 = stage_field } (reg 29)) (to 41)
      ∷ node 21 0 (Call None Virtual record { 0 = 10 } (reg 27 ∷ [])) (to 42)
      ∷ node 21 0 (Return None) []
      ∷ node 22 0 (Pick (reg 30) record { 0 = 11 }) (to 44)
      ∷ node 22 0 (GetField (reg 31) (reg 30) record { 0 = stage_field }) (to 45)
      ∷ node 22 0 (Assume (Key (reg 31) (pos 6))) (to 46)
      ∷ node 22 0 (Const (reg 32) (pos 2)) (to 47)
      ∷ node 22 0 (PutField (reg 30) record { 0 = stage_field } (reg 32)) (to 48)
      ∷ node 22 0 (Call None Virtual record { 0 = 10 } (reg 30 ∷ [])) (to 49)
      ∷ node 22 0 (Return None) []
      ∷ node 23 0 (Pick (reg 33) record { 0 = 11 }) (to 51)
      ∷ node 23 0 (GetField (reg 34) (reg 33) record { 0 = stage_field }) (to 52)
      ∷ node 23 0 (Assume (Key (reg 34) (pos 2))) (to 53)
      ∷ node 23 0 (Const (reg 35) (pos 3)) (to 54)
      ∷ node 23 0 (PutField (reg 33) record { 0 = stage_field } (reg 35)) (to 55)
      ∷ node 23 0 (Call None Virtual record { 0 = 12 } (reg 33 ∷ [])) (to 56)
      ∷ node 23 0 (Return None) []
      ∷ node 24 0 (Pick (reg 36) record { 0 = 11 }) (to 58)
      ∷ node 24 0 (GetField (reg 37) (reg 36) record { 0 = stage_field }) (to 59)
      ∷ node 24 0 (Assume (Key (reg 37) (pos 4))) (to 60)
      ∷ node 24 0 (Const (reg 38) (pos 3)) (to 61)
      ∷ node 24 0 (PutField (reg 36) record { 0 = stage_field } (reg 38)) (to 62)
      ∷ node 24 0 (Call None Virtual record { 0 = 12 } (reg 36 ∷ [])) (to 63)
      ∷ node 24 0 (Return None) []
      ∷ node 25 0 (Pick (reg 39) record { 0 = 11 }) (to 65)
      ∷ node 25 0 (GetField (reg 40) (reg 39) record { 0 = stage_field }) (to 66)
      ∷ node 25 0 (Assume (Key (reg 40) (pos 3))) (to 67)
      ∷ node 25 0 (Const (reg 41) (pos 4)) (to 68)
      ∷ node 25 0 (PutField (reg 39) record { 0 = stage_field } (reg 41)) (to 69)
      ∷ node 25 0 (Call None Virtual record { 0 = 13 } (reg 39 ∷ [])) (to 70)
      ∷ node 25 0 (Return None) []
      ∷ node 26 0 (Pick (reg 42) record { 0 = 11 }) (to 72)
      ∷ node 26 0 (GetField (reg 43) (reg 42) record { 0 = stage_field }) (to 73)
      ∷ node 26 0 (Assume (Key (reg 43) (pos 4))) (to 74)
      ∷ node 26 0 (Const (reg 44) (pos 5)) (to 75)
      ∷ node 26 0 (PutField (reg 42) record { 0 = stage_field } (reg 44)) (to 76)
      ∷ node 26 0 (Call None Virtual record { 0 = 14 } (reg 42 ∷ [])) (to 77)
      ∷ node 26 0 (Return None) []
      ∷ node 27 0 (Pick (reg 45) record { 0 = 11 }) (to 79)
      ∷ node 27 0 (GetField (reg 46) (reg 45) record { 0 = stage_field }) (to 80)
      ∷ node 27 0 (Assume (Key (reg 46) (pos 5))) (to 81)
      ∷ node 27 0 (Const (reg 47) (pos 6)) (to 82)
      ∷ node 27 0 (PutField (reg 45) record { 0 = stage_field } (reg 47)) (to 83)
      ∷ node 27 0 (Call None Virtual record { 0 = 11 } (reg 45 ∷ [])) (to 84)
      ∷ node 27 0 (Return None) []
      ∷ node 28 0 (Pick (reg 48) record { 0 = 11 }) (to 86)
      ∷ node 28 0 (GetField (reg 49) (reg 48) record { 0 = stage_field }) (to 87)
      ∷ node 28 0 (Assume (Key (reg 49) (pos 5))) (to 88)
      ∷ node 28 0 (Const (reg 50) (pos 7)) (to 89)
      ∷ node 28 0 (PutField (reg 48) record { 0 = stage_field } (reg 50)) (to 90)
      ∷ node 28 0 (Call None Virtual record { 0 = 15 } (reg 48 ∷ [])) (to 91)
      ∷ node 28 0 (Return None) []
      ∷ node 29 0 (Pick (reg 51) record { 0 = 11 }) (to 93)
      ∷ node 29 0 (GetField (reg 52) (reg 51) record { 0 = stage_field }) (to 94)
      ∷ node 29 0 (Assume (Key (reg 52) (pos 4))) (to 95)
      ∷ node 29 0 (Const (reg 53) (pos 4)) (to 96)
      ∷ node 29 0 (PutField (reg 51) record { 0 = stage_field } (reg 53)) (record { 0 = 97 } ∷ record { 0 = 98 } ∷ [])
      ∷ node 29 0 (Null (reg 54)) (to 99)
      ∷ node 29 0 (New (reg 54) record { 0 = 1 }) (to 99)
      ∷ node 29 0 (Call None Virtual record { 0 = 16 } (reg 51 ∷ reg 54 ∷ [])) (to 100)
      ∷ node 29 0 (Return None) []
      ∷ node 30 0 (Pick (reg 55) record { 0 = 11 }) (to 102)
      ∷ node 30 0 (GetField (reg 56) (reg 55) record { 0 = stage_field }) (to 103)
      ∷ node 30 0 (Assume (Key (reg 56) (pos 5))) (to 104)
      ∷ node 30 0 (Const (reg 57) (pos 5)) (to 105)
      ∷ node 30 0 (PutField (reg 55) record { 0 = stage_field } (reg 57)) (record { 0 = 106 } ∷ record { 0 = 107 } ∷ [])
      ∷ node 30 0 (Null (reg 58)) (to 108)
      ∷ node 30 0 (New (reg 58) record { 0 = 1 }) (to 108)
      ∷ node 30 0 (Call None Virtual record { 0 = 16 } (reg 55 ∷ reg 58 ∷ [])) (to 109)
      ∷ node 30 0 (Return None) []
      ∷ []);
  sites = site (codes "Act") (Launch record { 0 = 11 })
      ∷ site (codes "android/os/Bundle") Event
      ∷ [];
  harness =
      record { 0 = 19 } ∷ record { 0 = 20 } ∷ record { 0 = 21 } ∷ record { 0 = 22 } ∷ record { 0 = 23 } ∷
      record { 0 = 24 } ∷ record { 0 = 25 } ∷ record { 0 = 26 } ∷ record { 0 = 27 } ∷ record { 0 = 28 } ∷
      record { 0 = 29 } ∷ record { 0 = 30 } ∷ [];
  refs = built_in_refs ++ (19 ∷ 20 ∷ 21 ∷ 22 ∷ 23 ∷ 26 ∷ 27 ∷ 30 ∷ 33 ∷ 36 ∷ 39 ∷ 42 ∷ 45 ∷ 48 ∷ 51 ∷ 54 ∷ 55 ∷ 58 ∷ []);
  ints = [];
  strings = [];
}

-- ---- a run

abbrev pub charted_0 : RegState
charted_0 = initial_state storing_classes charted_program

abbrev pub charted_1 : RegState
charted_1 = started charted_program charted_0 19

abbrev pub charted_2 : RegState
charted_2 = stepped charted_program charted_1 (Sets []) 0

abbrev pub charted_3 : RegState
charted_3 = stepped charted_program charted_2 (Makes 22 (new_object storing_classes 11 0)) 0

abbrev pub charted_4 : RegState
charted_4 = stepped charted_program charted_3 (Enters 17 (Address 0 ∷ [])) 0

abbrev pub charted_5 : RegState
charted_5 = stepped charted_program charted_4 (Sets []) 0

abbrev pub charted_6 : RegState
charted_6 = stepped charted_program charted_5 (Enters 8 (Address 0 ∷ [])) 0

abbrev pub charted_7 : RegState
charted_7 = stepped charted_program charted_6 (Leaves None) 0

abbrev pub charted_8 : RegState
charted_8 = stepped charted_program charted_7 (Leaves None) 0

abbrev pub charted_9 : RegState
charted_9 = stepped charted_program charted_8 (Leaves None) 0

abbrev pub charted_10 : RegState
charted_10 = started charted_program charted_9 20

abbrev pub charted_11 : RegState
charted_11 = stepped charted_program charted_10 (Sets ((23, Address 0) ∷ [])) 0

abbrev pub charted_12 : RegState
charted_12 = stepped charted_program charted_11 (Sets ((24, IntValue (pos 0)) ∷ [])) 0

abbrev pub charted_13 : RegState
charted_13 = stepped charted_program charted_12 (Sets []) 0

abbrev pub charted_14 : RegState
charted_14 = stepped charted_program charted_13 (Sets ((25, IntValue (pos 1)) ∷ [])) 0

abbrev pub charted_15 : RegState
charted_15 = stepped charted_program charted_14 (SetsField 0 stage_field (IntValue (pos 1))) 1

abbrev pub charted_16 : RegState
charted_16 = stepped charted_program charted_15 (Makes 26 (new_object storing_classes 8 1)) 0

abbrev pub charted_17 : RegState
charted_17 = stepped charted_program charted_16 (Enters 18 (Address 0 ∷ Address 1 ∷ [])) 0

abbrev pub charted_18 : RegState
charted_18 = stepped charted_program charted_17 (Sets []) 0

abbrev pub charted_19 : RegState
charted_19 = stepped charted_program charted_18 (SetsStatic 0 (Address 0)) 0

abbrev pub charted_20 : RegState
charted_20 = stepped charted_program charted_19 (Leaves None) 0

abbrev pub charted_21 : RegState
charted_21 = stepped charted_program charted_20 (Leaves None) 0

abbrev pub charted_22 : RegState
charted_22 = started charted_program charted_21 21

abbrev pub charted_23 : RegState
charted_23 = stepped charted_program charted_22 (Sets ((27, Address 0) ∷ [])) 0

abbrev pub charted_24 : RegState
charted_24 = stepped charted_program charted_23 (Sets ((28, IntValue (pos 1)) ∷ [])) 0

abbrev pub charted_25 : RegState
charted_25 = stepped charted_program charted_24 (Sets []) 0

abbrev pub charted_26 : RegState
charted_26 = stepped charted_program charted_25 (Sets ((29, IntValue (pos 2)) ∷ [])) 0

abbrev pub charted_27 : RegState
charted_27 = stepped charted_program charted_26 (SetsField 0 stage_field (IntValue (pos 2))) 0

abbrev pub charted_28 : RegState
charted_28 = stepped charted_program charted_27 (Enters 10 (Address 0 ∷ [])) 0

abbrev pub charted_29 : RegState
charted_29 = stepped charted_program charted_28 (Leaves None) 0

abbrev pub charted_30 : RegState
charted_30 = stepped charted_program charted_29 (Leaves None) 0

-- ---- a handler that the stage does not allow

-- started before it is created
abbrev pub refused_1 : RegState
refused_1 = started charted_program charted_9 21

abbrev pub refused_2 : RegState
refused_2 = stepped charted_program refused_1 (Sets ((27, Address 0) ∷ [])) 0

abbrev pub refused_3 : RegState
refused_3 = stepped charted_program refused_2 (Sets ((28, IntValue (pos 0)) ∷ [])) 0

-- the object at the address is at this stage
abbrev pub IsAtStage : RegState → ℕ → ℕ → Type 0
IsAtStage s a stage = (o : RegObject) × (slice_get s.heap a ≡ Some o) × (field_value stage_field o.contents ≡ Some (IntValue (pos stage)))

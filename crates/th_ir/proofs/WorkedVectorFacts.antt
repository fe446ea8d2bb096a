-- The facts of the program of growing arrays are the least that hold the rules: each comes from
-- earlier ones by one rule.
use Rattle.std.proofs.Common.{◌≡◌, List, [], ◌∷◌, true, None, Some, map, refl}
use Rattle.th_ir.specs.declared.stmt.CallKind.TheVariants.{Virtual, Special}
use Rattle.th_ir.specs.FactSets.{FactSets, AreListed, cell_key, elem_key, call_key}
use Rattle.th_ir.specs.Rules.{CallFlows, HoldsRules, LeastFacts}
use Rattle.th_ir.specs.Worked.{reg}
use Rattle.th_ir.specs.WorkedVector.{vector_classes, vector_program, vector_facts}
use Rattle.th_ir.proofs.ListedFacts.{HasListed, says_within}
use Rattle.th_ir.proofs.TestedFacts.{holds_rules, all_ascend, ascends, listed_set, in_order}

-- no facts that hold the rules say less
module _ (u : FactSets) (rules : HoldsRules vector_classes vector_program u) where
  reached_23 : u.reached 23 ≡ true
  reached_23 = rules.harness record { 0 = 23 } (0, refl)

  reached_24 : u.reached 24 ≡ true
  reached_24 = rules.harness record { 0 = 24 } (1, refl)

  reached_25 : u.reached 25 ≡ true
  reached_25 = rules.harness record { 0 = 25 } (2, refl)

  reached_26 : u.reached 26 ≡ true
  reached_26 = rules.harness record { 0 = 26 } (3, refl)

  reached_27 : u.reached 27 ≡ true
  reached_27 = rules.harness record { 0 = 27 } (4, refl)

  reached_28 : u.reached 28 ≡ true
  reached_28 = rules.harness record { 0 = 28 } (5, refl)

  reached_29 : u.reached 29 ≡ true
  reached_29 = rules.harness record { 0 = 29 } (6, refl)

  reached_30 : u.reached 30 ≡ true
  reached_30 = rules.harness record { 0 = 30 } (7, refl)

  reached_31 : u.reached 31 ≡ true
  reached_31 = rules.harness record { 0 = 31 } (8, refl)

  reached_21 : u.reached 21 ≡ true
  reached_21 = rules.nodes 65 _ refl reached_23 21 record { class = 12; info = _; above = refl; declared = refl; number = refl }

  reg_38_0 : u.reg 38 0 ≡ true
  reg_38_0 = rules.nodes 66 _ refl reached_23

  call_67_20 : u.call 67 20 ≡ true
  call_67_20 = (rules.nodes 67 _ refl reached_23).targets (reg 38) 0 20 refl reg_38_0 refl

  flows_67_20 : CallFlows vector_classes vector_program u None (Special (Some record { 0 = 20 })) 20 (reg 38 ∷ []) 20
  flows_67_20 = (rules.nodes 67 _ refl reached_23).flows 20 call_67_20

  reached_20 : u.reached 20 ≡ true
  reached_20 = flows_67_20.reached

  reg_33_0 : u.reg 33 0 ≡ true
  reg_33_0 = (flows_67_20.arguments _ refl).0 0 reg_38_0 refl

  reg_39_0 : u.reg 39 0 ≡ true
  reg_39_0 = rules.nodes 69 _ refl reached_24 0 refl

  reg_40_1 : u.reg 40 1 ≡ true
  reg_40_1 = rules.nodes 71 _ refl reached_24

  call_72_22 : u.call 72 22 ≡ true
  call_72_22 = (rules.nodes 72 _ refl reached_24).targets (reg 39) 0 22 refl reg_39_0 refl

  flows_72_22 : CallFlows vector_classes vector_program u None Virtual 9 (reg 39 ∷ reg 40 ∷ []) 22
  flows_72_22 = (rules.nodes 72 _ refl reached_24).flows 22 call_72_22

  reached_22 : u.reached 22 ≡ true
  reached_22 = flows_72_22.reached

  reg_35_0 : u.reg 35 0 ≡ true
  reg_35_0 = (flows_72_22.arguments _ refl).0 0 reg_39_0 refl

  reg_36_1 : u.reg 36 1 ≡ true
  reg_36_1 = (flows_72_22.arguments _ refl).1.0 1 reg_40_1

  reg_41_0 : u.reg 41 0 ≡ true
  reg_41_0 = rules.nodes 74 _ refl reached_25 0 refl

  call_75_10 : u.call 75 10 ≡ true
  call_75_10 = (rules.nodes 75 _ refl reached_25).targets (reg 41) 0 10 refl reg_41_0 refl

  flows_75_10 : CallFlows vector_classes vector_program u None Virtual 10 (reg 41 ∷ []) 10
  flows_75_10 = (rules.nodes 75 _ refl reached_25).flows 10 call_75_10

  reached_10 : u.reached 10 ≡ true
  reached_10 = flows_75_10.reached

  reg_11_0 : u.reg 11 0 ≡ true
  reg_11_0 = (flows_75_10.arguments _ refl).0 0 reg_41_0 refl

  reg_42_0 : u.reg 42 0 ≡ true
  reg_42_0 = rules.nodes 77 _ refl reached_26 0 refl

  call_78_11 : u.call 78 11 ≡ true
  call_78_11 = (rules.nodes 78 _ refl reached_26).targets (reg 42) 0 11 refl reg_42_0 refl

  flows_78_11 : CallFlows vector_classes vector_program u None Virtual 11 (reg 42 ∷ []) 11
  flows_78_11 = (rules.nodes 78 _ refl reached_26).flows 11 call_78_11

  reached_11 : u.reached 11 ≡ true
  reached_11 = flows_78_11.reached

  reg_12_0 : u.reg 12 0 ≡ true
  reg_12_0 = (flows_78_11.arguments _ refl).0 0 reg_42_0 refl

  reg_43_0 : u.reg 43 0 ≡ true
  reg_43_0 = rules.nodes 80 _ refl reached_27 0 refl

  call_81_12 : u.call 81 12 ≡ true
  call_81_12 = (rules.nodes 81 _ refl reached_27).targets (reg 43) 0 12 refl reg_43_0 refl

  flows_81_12 : CallFlows vector_classes vector_program u None Virtual 12 (reg 43 ∷ []) 12
  flows_81_12 = (rules.nodes 81 _ refl reached_27).flows 12 call_81_12

  reached_12 : u.reached 12 ≡ true
  reached_12 = flows_81_12.reached

  reg_13_0 : u.reg 13 0 ≡ true
  reg_13_0 = (flows_81_12.arguments _ refl).0 0 reg_43_0 refl

  reg_44_0 : u.reg 44 0 ≡ true
  reg_44_0 = rules.nodes 83 _ refl reached_28 0 refl

  call_84_13 : u.call 84 13 ≡ true
  call_84_13 = (rules.nodes 84 _ refl reached_28).targets (reg 44) 0 13 refl reg_44_0 refl

  flows_84_13 : CallFlows vector_classes vector_program u None Virtual 13 (reg 44 ∷ []) 13
  flows_84_13 = (rules.nodes 84 _ refl reached_28).flows 13 call_84_13

  reached_13 : u.reached 13 ≡ true
  reached_13 = flows_84_13.reached

  reg_14_0 : u.reg 14 0 ≡ true
  reg_14_0 = (flows_84_13.arguments _ refl).0 0 reg_44_0 refl

  reg_45_0 : u.reg 45 0 ≡ true
  reg_45_0 = rules.nodes 86 _ refl reached_29 0 refl

  call_87_14 : u.call 87 14 ≡ true
  call_87_14 = (rules.nodes 87 _ refl reached_29).targets (reg 45) 0 14 refl reg_45_0 refl

  flows_87_14 : CallFlows vector_classes vector_program u None Virtual 14 (reg 45 ∷ []) 14
  flows_87_14 = (rules.nodes 87 _ refl reached_29).flows 14 call_87_14

  reached_14 : u.reached 14 ≡ true
  reached_14 = flows_87_14.reached

  reg_15_0 : u.reg 15 0 ≡ true
  reg_15_0 = (flows_87_14.arguments _ refl).0 0 reg_45_0 refl

  reg_46_0 : u.reg 46 0 ≡ true
  reg_46_0 = rules.nodes 89 _ refl reached_30 0 refl

  call_90_15 : u.call 90 15 ≡ true
  call_90_15 = (rules.nodes 90 _ refl reached_30).targets (reg 46) 0 15 refl reg_46_0 refl

  flows_90_15 : CallFlows vector_classes vector_program u None Virtual 15 (reg 46 ∷ []) 15
  flows_90_15 = (rules.nodes 90 _ refl reached_30).flows 15 call_90_15

  reached_15 : u.reached 15 ≡ true
  reached_15 = flows_90_15.reached

  reg_16_0 : u.reg 16 0 ≡ true
  reg_16_0 = (flows_90_15.arguments _ refl).0 0 reg_46_0 refl

  reg_47_0 : u.reg 47 0 ≡ true
  reg_47_0 = rules.nodes 92 _ refl reached_31 0 refl

  reg_48_1 : u.reg 48 1 ≡ true
  reg_48_1 = rules.nodes 94 _ refl reached_31

  call_95_16 : u.call 95 16 ≡ true
  call_95_16 = (rules.nodes 95 _ refl reached_31).targets (reg 47) 0 16 refl reg_47_0 refl

  flows_95_16 : CallFlows vector_classes vector_program u None Virtual 16 (reg 47 ∷ reg 48 ∷ []) 16
  flows_95_16 = (rules.nodes 95 _ refl reached_31).flows 16 call_95_16

  reached_16 : u.reached 16 ≡ true
  reached_16 = flows_95_16.reached

  reg_17_0 : u.reg 17 0 ≡ true
  reg_17_0 = (flows_95_16.arguments _ refl).0 0 reg_47_0 refl

  reg_18_1 : u.reg 18 1 ≡ true
  reg_18_1 = (flows_95_16.arguments _ refl).1.0 1 reg_48_1

  call_50_8 : u.call 50 8 ≡ true
  call_50_8 = (rules.nodes 50 _ refl reached_20).targets (reg 33) 0 8 refl reg_33_0 refl

  flows_50_8 : CallFlows vector_classes vector_program u None (Special (Some record { 0 = 8 })) 8 (reg 33 ∷ []) 8
  flows_50_8 = (rules.nodes 50 _ refl reached_20).flows 8 call_50_8

  reached_8 : u.reached 8 ≡ true
  reached_8 = flows_50_8.reached

  reg_8_0 : u.reg 8 0 ≡ true
  reg_8_0 = (flows_50_8.arguments _ refl).0 0 reg_33_0 refl

  reached_19 : u.reached 19 ≡ true
  reached_19 = rules.nodes 52 _ refl reached_21 19 record { class = 11; info = _; above = refl; declared = refl; number = refl }

  reg_34_3 : u.reg 34 3 ≡ true
  reg_34_3 = rules.nodes 53 _ refl reached_21

  call_55_17 : u.call 55 17 ≡ true
  call_55_17 = (rules.nodes 55 _ refl reached_21).targets (reg 34) 3 17 refl reg_34_3 refl

  flows_55_17 : CallFlows vector_classes vector_program u None (Special (Some record { 0 = 17 })) 17 (reg 34 ∷ []) 17
  flows_55_17 = (rules.nodes 55 _ refl reached_21).flows 17 call_55_17

  reached_17 : u.reached 17 ≡ true
  reached_17 = flows_55_17.reached

  reg_19_3 : u.reg 19 3 ≡ true
  reg_19_3 = (flows_55_17.arguments _ refl).0 3 reg_34_3 refl

  static_4_3 : u.static 4 3 ≡ true
  static_4_3 = rules.nodes 56 _ refl reached_21 3 reg_34_3

  reg_37_4 : u.reg 37 4 ≡ true
  reg_37_4 = rules.nodes 59 _ refl reached_22

  call_61_17 : u.call 61 17 ≡ true
  call_61_17 = (rules.nodes 61 _ refl reached_22).targets (reg 37) 4 17 refl reg_37_4 refl

  flows_61_17 : CallFlows vector_classes vector_program u None (Special (Some record { 0 = 17 })) 17 (reg 37 ∷ []) 17
  flows_61_17 = (rules.nodes 61 _ refl reached_22).flows 17 call_61_17

  reg_19_4 : u.reg 19 4 ≡ true
  reg_19_4 = (flows_61_17.arguments _ refl).0 4 reg_37_4 refl

  call_63_18 : u.call 63 18 ≡ true
  call_63_18 = (rules.nodes 63 _ refl reached_22).targets (reg 37) 4 18 refl reg_37_4 refl

  flows_63_18 : CallFlows vector_classes vector_program u None Virtual 18 (reg 37 ∷ reg 35 ∷ []) 18
  flows_63_18 = (rules.nodes 63 _ refl reached_22).flows 18 call_63_18

  reached_18 : u.reached 18 ≡ true
  reached_18 = flows_63_18.reached

  reg_23_4 : u.reg 23 4 ≡ true
  reg_23_4 = (flows_63_18.arguments _ refl).0 4 reg_37_4 refl

  reg_24_0 : u.reg 24 0 ≡ true
  reg_24_0 = (flows_63_18.arguments _ refl).1.0 0 reg_35_0

  call_18_0 : u.call 18 0 ≡ true
  call_18_0 = (rules.nodes 18 _ refl reached_17).targets (reg 19) 3 0 refl reg_19_3 refl

  flows_18_0 : CallFlows vector_classes vector_program u None (Special (Some record { 0 = 0 })) 0 (reg 19 ∷ []) 0
  flows_18_0 = (rules.nodes 18 _ refl reached_17).flows 0 call_18_0

  reached_0 : u.reached 0 ≡ true
  reached_0 = flows_18_0.reached

  reg_0_3 : u.reg 0 3 ≡ true
  reg_0_3 = (flows_18_0.arguments _ refl).0 3 reg_19_3 refl

  reg_0_4 : u.reg 0 4 ≡ true
  reg_0_4 = (flows_18_0.arguments _ refl).0 4 reg_19_4 refl

  reg_29_4 : u.reg 29 4 ≡ true
  reg_29_4 = (rules.nodes 43 _ refl reached_18).0 4 reg_23_4

  reg_30_0 : u.reg 30 0 ≡ true
  reg_30_0 = (rules.nodes 43 _ refl reached_18).1.0 0 reg_24_0

  reg_32_2 : u.reg 32 2 ≡ true
  reg_32_2 = rules.nodes 46 _ refl reached_19

  static_0_2 : u.static 0 2 ≡ true
  static_0_2 = rules.nodes 47 _ refl reached_19 2 reg_32_2

  reg_22_2 : u.reg 22 2 ≡ true
  reg_22_2 = rules.nodes 26 _ refl reached_17 2 static_0_2

  cell_3_3_2 : u.cell 3 3 2 ≡ true
  cell_3_3_2 = rules.nodes 27 _ refl reached_17 3 reg_19_3 refl 2 reg_22_2

  cell_4_3_2 : u.cell 4 3 2 ≡ true
  cell_4_3_2 = rules.nodes 27 _ refl reached_17 4 reg_19_4 refl 2 reg_22_2

  reg_27_2 : u.reg 27 2 ≡ true
  reg_27_2 = rules.nodes 37 _ refl reached_18 4 reg_23_4 refl 2 cell_4_3_2

  elem_2_0 : u.elem 2 0 ≡ true
  elem_2_0 = rules.nodes 41 _ refl reached_18 2 0 reg_27_2 refl reg_24_0 refl

  listed : HasListed vector_facts u
  listed = record {
    regs = ((reg_0_3, (reg_0_4, tt)), (tt, (tt, (tt, (tt, (tt, (tt, (tt, ((reg_8_0, tt), (tt, (tt, ((reg_11_0, tt), ((reg_12_0, tt), ((reg_13_0, tt), ((reg_14_0, tt), ((reg_15_0, tt), ((reg_16_0, tt), ((reg_17_0, tt), ((reg_18_1, tt), ((reg_19_3, (reg_19_4, tt)), (tt, (tt, ((reg_22_2, tt), ((reg_23_4, tt), ((reg_24_0, tt), (tt, (tt, ((reg_27_2, tt), (tt, ((reg_29_4, tt), ((reg_30_0, tt), (tt, ((reg_32_2, tt), ((reg_33_0, tt), ((reg_34_3, tt), ((reg_35_0, tt), ((reg_36_1, tt), ((reg_37_4, tt), ((reg_38_0, tt), ((reg_39_0, tt), ((reg_40_1, tt), ((reg_41_0, tt), ((reg_42_0, tt), ((reg_43_0, tt), ((reg_44_0, tt), ((reg_45_0, tt), ((reg_46_0, tt), ((reg_47_0, tt), ((reg_48_1, tt), tt)))))))))))))))))))))))))))))))))))))))))))))))));
    statics = ((static_0_2, tt), (tt, (tt, (tt, ((static_4_3, tt), tt)))));
    cells = ((cell_3_3_2, tt), ((cell_4_3_2, tt), tt));
    elems = ((elem_2_0, tt), tt);
    calls = (call_18_0, (call_50_8, (call_55_17, (call_61_17, (call_63_18, (call_67_20, (call_72_22, (call_75_10, (call_78_11, (call_81_12, (call_84_13, (call_87_14, (call_90_15, (call_95_16, tt))))))))))))));
    reached = (reached_0, (reached_8, (reached_10, (reached_11, (reached_12, (reached_13, (reached_14, (reached_15, (reached_16, (reached_17, (reached_18, (reached_19, (reached_20, (reached_21, (reached_22, (reached_23, (reached_24, (reached_25, (reached_26, (reached_27, (reached_28, (reached_29, (reached_30, (reached_31, tt))))))))))))))))))))))));
  }

are_listed : AreListed vector_classes vector_program vector_facts
are_listed = record {
  regs = refl;
  regs_ascend = all_ascend vector_facts.regs refl;
  statics = refl;
  statics_ascend = all_ascend vector_facts.statics refl;
  cells = (listed_set (2 ∷ []) refl, (listed_set (2 ∷ []) refl, tt));
  cells_ascend = in_order (map cell_key vector_facts.cells) refl;
  elems = (listed_set (0 ∷ []) refl, tt);
  elems_ascend = in_order (map elem_key vector_facts.elems) refl;
  calls_ascend = in_order (map call_key vector_facts.calls) refl;
  reached_ascends = ascends vector_facts.reached refl;
}

pub least : LeastFacts vector_classes vector_program vector_facts
least = record {
  least = record {
    holds = holds_rules vector_classes vector_program vector_facts refl refl refl;
    least = λ u rules. says_within vector_facts u (listed u rules);
  };
  listed = are_listed;
}

-- The facts of the program of two receivers at one call are the least that hold the rules: each comes from
-- earlier ones by one rule.
use Rattle.std.proofs.Common.{◌≡◌, List, [], ◌∷◌, true, None, Some, map, refl}
use Rattle.th_ir.specs.declared.stmt.CallKind.TheVariants.{Virtual, Special}
use Rattle.th_ir.specs.FactSets.{FactSets, AreListed, cell_key, elem_key, call_key}
use Rattle.th_ir.specs.Rules.{CallFlows, HoldsRules, LeastFacts}
use Rattle.th_ir.specs.Worked.{reg}
use Rattle.th_ir.specs.WorkedReceivers.{receivers_classes, receivers_program, receivers_facts}
use Rattle.th_ir.proofs.ListedFacts.{HasListed, says_within}
use Rattle.th_ir.proofs.TestedFacts.{holds_rules, all_ascend, ascends, listed_set, in_order}

-- no facts that hold the rules say less
module _ (u : FactSets) (rules : HoldsRules receivers_classes receivers_program u) where
  reached_23 : u.reached 23 ≡ true
  reached_23 = rules.harness record { 0 = 23 } (0, refl)

  reached_24 : u.reached 24 ≡ true
  reached_24 = rules.harness record { 0 = 24 } (1, refl)

  reached_25 : u.reached 25 ≡ true
  reached_25 = rules.harness record { 0 = 25 } (2, refl)

  reached_26 : u.reached 26 ≡ true
  reached_26 = rules.harness record { 0 = 26 } (3, refl)

  reached_27 : u.reached 27 ≡ true
  reached_27 = rules.harness record { 0 = 27 } (4, refl)

  reached_28 : u.reached 28 ≡ true
  reached_28 = rules.harness record { 0 = 28 } (5, refl)

  reached_29 : u.reached 29 ≡ true
  reached_29 = rules.harness record { 0 = 29 } (6, refl)

  reached_30 : u.reached 30 ≡ true
  reached_30 = rules.harness record { 0 = 30 } (7, refl)

  reached_31 : u.reached 31 ≡ true
  reached_31 = rules.harness record { 0 = 31 } (8, refl)

  reg_35_0 : u.reg 35 0 ≡ true
  reg_35_0 = rules.nodes 54 _ refl reached_23

  call_55_21 : u.call 55 21 ≡ true
  call_55_21 = (rules.nodes 55 _ refl reached_23).targets (reg 35) 0 21 refl reg_35_0 refl

  flows_55_21 : CallFlows receivers_classes receivers_program u None (Special (Some record { 0 = 21 })) 21 (reg 35 ∷ []) 21
  flows_55_21 = (rules.nodes 55 _ refl reached_23).flows 21 call_55_21

  reached_21 : u.reached 21 ≡ true
  reached_21 = flows_55_21.reached

  reg_23_0 : u.reg 23 0 ≡ true
  reg_23_0 = (flows_55_21.arguments _ refl).0 0 reg_35_0 refl

  reg_36_0 : u.reg 36 0 ≡ true
  reg_36_0 = rules.nodes 57 _ refl reached_24 0 refl

  reg_37_1 : u.reg 37 1 ≡ true
  reg_37_1 = rules.nodes 59 _ refl reached_24

  call_60_22 : u.call 60 22 ≡ true
  call_60_22 = (rules.nodes 60 _ refl reached_24).targets (reg 36) 0 22 refl reg_36_0 refl

  flows_60_22 : CallFlows receivers_classes receivers_program u None Virtual 9 (reg 36 ∷ reg 37 ∷ []) 22
  flows_60_22 = (rules.nodes 60 _ refl reached_24).flows 22 call_60_22

  reached_22 : u.reached 22 ≡ true
  reached_22 = flows_60_22.reached

  reg_24_0 : u.reg 24 0 ≡ true
  reg_24_0 = (flows_60_22.arguments _ refl).0 0 reg_36_0 refl

  reg_25_1 : u.reg 25 1 ≡ true
  reg_25_1 = (flows_60_22.arguments _ refl).1.0 1 reg_37_1

  reg_38_0 : u.reg 38 0 ≡ true
  reg_38_0 = rules.nodes 62 _ refl reached_25 0 refl

  call_63_10 : u.call 63 10 ≡ true
  call_63_10 = (rules.nodes 63 _ refl reached_25).targets (reg 38) 0 10 refl reg_38_0 refl

  flows_63_10 : CallFlows receivers_classes receivers_program u None Virtual 10 (reg 38 ∷ []) 10
  flows_63_10 = (rules.nodes 63 _ refl reached_25).flows 10 call_63_10

  reached_10 : u.reached 10 ≡ true
  reached_10 = flows_63_10.reached

  reg_11_0 : u.reg 11 0 ≡ true
  reg_11_0 = (flows_63_10.arguments _ refl).0 0 reg_38_0 refl

  reg_39_0 : u.reg 39 0 ≡ true
  reg_39_0 = rules.nodes 65 _ refl reached_26 0 refl

  call_66_11 : u.call 66 11 ≡ true
  call_66_11 = (rules.nodes 66 _ refl reached_26).targets (reg 39) 0 11 refl reg_39_0 refl

  flows_66_11 : CallFlows receivers_classes receivers_program u None Virtual 11 (reg 39 ∷ []) 11
  flows_66_11 = (rules.nodes 66 _ refl reached_26).flows 11 call_66_11

  reached_11 : u.reached 11 ≡ true
  reached_11 = flows_66_11.reached

  reg_12_0 : u.reg 12 0 ≡ true
  reg_12_0 = (flows_66_11.arguments _ refl).0 0 reg_39_0 refl

  reg_40_0 : u.reg 40 0 ≡ true
  reg_40_0 = rules.nodes 68 _ refl reached_27 0 refl

  call_69_12 : u.call 69 12 ≡ true
  call_69_12 = (rules.nodes 69 _ refl reached_27).targets (reg 40) 0 12 refl reg_40_0 refl

  flows_69_12 : CallFlows receivers_classes receivers_program u None Virtual 12 (reg 40 ∷ []) 12
  flows_69_12 = (rules.nodes 69 _ refl reached_27).flows 12 call_69_12

  reached_12 : u.reached 12 ≡ true
  reached_12 = flows_69_12.reached

  reg_13_0 : u.reg 13 0 ≡ true
  reg_13_0 = (flows_69_12.arguments _ refl).0 0 reg_40_0 refl

  reg_41_0 : u.reg 41 0 ≡ true
  reg_41_0 = rules.nodes 71 _ refl reached_28 0 refl

  call_72_13 : u.call 72 13 ≡ true
  call_72_13 = (rules.nodes 72 _ refl reached_28).targets (reg 41) 0 13 refl reg_41_0 refl

  flows_72_13 : CallFlows receivers_classes receivers_program u None Virtual 13 (reg 41 ∷ []) 13
  flows_72_13 = (rules.nodes 72 _ refl reached_28).flows 13 call_72_13

  reached_13 : u.reached 13 ≡ true
  reached_13 = flows_72_13.reached

  reg_14_0 : u.reg 14 0 ≡ true
  reg_14_0 = (flows_72_13.arguments _ refl).0 0 reg_41_0 refl

  reg_42_0 : u.reg 42 0 ≡ true
  reg_42_0 = rules.nodes 74 _ refl reached_29 0 refl

  call_75_14 : u.call 75 14 ≡ true
  call_75_14 = (rules.nodes 75 _ refl reached_29).targets (reg 42) 0 14 refl reg_42_0 refl

  flows_75_14 : CallFlows receivers_classes receivers_program u None Virtual 14 (reg 42 ∷ []) 14
  flows_75_14 = (rules.nodes 75 _ refl reached_29).flows 14 call_75_14

  reached_14 : u.reached 14 ≡ true
  reached_14 = flows_75_14.reached

  reg_15_0 : u.reg 15 0 ≡ true
  reg_15_0 = (flows_75_14.arguments _ refl).0 0 reg_42_0 refl

  reg_43_0 : u.reg 43 0 ≡ true
  reg_43_0 = rules.nodes 77 _ refl reached_30 0 refl

  call_78_15 : u.call 78 15 ≡ true
  call_78_15 = (rules.nodes 78 _ refl reached_30).targets (reg 43) 0 15 refl reg_43_0 refl

  flows_78_15 : CallFlows receivers_classes receivers_program u None Virtual 15 (reg 43 ∷ []) 15
  flows_78_15 = (rules.nodes 78 _ refl reached_30).flows 15 call_78_15

  reached_15 : u.reached 15 ≡ true
  reached_15 = flows_78_15.reached

  reg_16_0 : u.reg 16 0 ≡ true
  reg_16_0 = (flows_78_15.arguments _ refl).0 0 reg_43_0 refl

  reg_44_0 : u.reg 44 0 ≡ true
  reg_44_0 = rules.nodes 80 _ refl reached_31 0 refl

  reg_45_1 : u.reg 45 1 ≡ true
  reg_45_1 = rules.nodes 82 _ refl reached_31

  call_83_16 : u.call 83 16 ≡ true
  call_83_16 = (rules.nodes 83 _ refl reached_31).targets (reg 44) 0 16 refl reg_44_0 refl

  flows_83_16 : CallFlows receivers_classes receivers_program u None Virtual 16 (reg 44 ∷ reg 45 ∷ []) 16
  flows_83_16 = (rules.nodes 83 _ refl reached_31).flows 16 call_83_16

  reached_16 : u.reached 16 ≡ true
  reached_16 = flows_83_16.reached

  reg_17_0 : u.reg 17 0 ≡ true
  reg_17_0 = (flows_83_16.arguments _ refl).0 0 reg_44_0 refl

  reg_18_1 : u.reg 18 1 ≡ true
  reg_18_1 = (flows_83_16.arguments _ refl).1.0 1 reg_45_1

  call_28_8 : u.call 28 8 ≡ true
  call_28_8 = (rules.nodes 28 _ refl reached_21).targets (reg 23) 0 8 refl reg_23_0 refl

  flows_28_8 : CallFlows receivers_classes receivers_program u None (Special (Some record { 0 = 8 })) 8 (reg 23 ∷ []) 8
  flows_28_8 = (rules.nodes 28 _ refl reached_21).flows 8 call_28_8

  reached_8 : u.reached 8 ≡ true
  reached_8 = flows_28_8.reached

  reg_8_0 : u.reg 8 0 ≡ true
  reg_8_0 = (flows_28_8.arguments _ refl).0 0 reg_23_0 refl

  reg_27_2 : u.reg 27 2 ≡ true
  reg_27_2 = rules.nodes 31 _ refl reached_22

  reg_29_3 : u.reg 29 3 ≡ true
  reg_29_3 = rules.nodes 36 _ refl reached_22

  call_38_17 : u.call 38 17 ≡ true
  call_38_17 = (rules.nodes 38 _ refl reached_22).targets (reg 29) 3 17 refl reg_29_3 refl

  flows_38_17 : CallFlows receivers_classes receivers_program u None (Special (Some record { 0 = 17 })) 17 (reg 29 ∷ []) 17
  flows_38_17 = (rules.nodes 38 _ refl reached_22).flows 17 call_38_17

  reached_17 : u.reached 17 ≡ true
  reached_17 = flows_38_17.reached

  reg_19_3 : u.reg 19 3 ≡ true
  reg_19_3 = (flows_38_17.arguments _ refl).0 3 reg_29_3 refl

  elem_2_3 : u.elem 2 3 ≡ true
  elem_2_3 = rules.nodes 39 _ refl reached_22 2 3 reg_27_2 refl reg_29_3 refl

  reg_31_4 : u.reg 31 4 ≡ true
  reg_31_4 = rules.nodes 43 _ refl reached_22

  call_45_19 : u.call 45 19 ≡ true
  call_45_19 = (rules.nodes 45 _ refl reached_22).targets (reg 31) 4 19 refl reg_31_4 refl

  flows_45_19 : CallFlows receivers_classes receivers_program u None (Special (Some record { 0 = 19 })) 19 (reg 31 ∷ []) 19
  flows_45_19 = (rules.nodes 45 _ refl reached_22).flows 19 call_45_19

  reached_19 : u.reached 19 ≡ true
  reached_19 = flows_45_19.reached

  reg_21_4 : u.reg 21 4 ≡ true
  reg_21_4 = (flows_45_19.arguments _ refl).0 4 reg_31_4 refl

  elem_2_4 : u.elem 2 4 ≡ true
  elem_2_4 = rules.nodes 46 _ refl reached_22 2 4 reg_27_2 refl reg_31_4 refl

  reg_33_3 : u.reg 33 3 ≡ true
  reg_33_3 = rules.nodes 49 _ refl reached_22 2 reg_27_2 refl 3 elem_2_3

  reg_33_4 : u.reg 33 4 ≡ true
  reg_33_4 = rules.nodes 49 _ refl reached_22 2 reg_27_2 refl 4 elem_2_4

  call_50_18 : u.call 50 18 ≡ true
  call_50_18 = (rules.nodes 50 _ refl reached_22).targets (reg 33) 3 18 refl reg_33_3 refl

  call_50_20 : u.call 50 20 ≡ true
  call_50_20 = (rules.nodes 50 _ refl reached_22).targets (reg 33) 4 20 refl reg_33_4 refl

  flows_50_18 : CallFlows receivers_classes receivers_program u (Some (reg 34)) Virtual 18 (reg 33 ∷ []) 18
  flows_50_18 = (rules.nodes 50 _ refl reached_22).flows 18 call_50_18

  reached_18 : u.reached 18 ≡ true
  reached_18 = flows_50_18.reached

  reg_20_3 : u.reg 20 3 ≡ true
  reg_20_3 = (flows_50_18.arguments _ refl).0 3 reg_33_3 refl

  reg_34_3 : u.reg 34 3 ≡ true
  reg_34_3 = flows_50_18.result 21 _ (reg 20) refl refl refl 3 reg_20_3

  flows_50_20 : CallFlows receivers_classes receivers_program u (Some (reg 34)) Virtual 18 (reg 33 ∷ []) 20
  flows_50_20 = (rules.nodes 50 _ refl reached_22).flows 20 call_50_20

  reached_20 : u.reached 20 ≡ true
  reached_20 = flows_50_20.reached

  reg_22_4 : u.reg 22 4 ≡ true
  reg_22_4 = (flows_50_20.arguments _ refl).0 4 reg_33_4 refl

  reg_34_4 : u.reg 34 4 ≡ true
  reg_34_4 = flows_50_20.result 26 _ (reg 22) refl refl refl 4 reg_22_4

  static_0_3 : u.static 0 3 ≡ true
  static_0_3 = rules.nodes 51 _ refl reached_22 3 reg_34_3

  static_0_4 : u.static 0 4 ≡ true
  static_0_4 = rules.nodes 51 _ refl reached_22 4 reg_34_4

  call_18_0 : u.call 18 0 ≡ true
  call_18_0 = (rules.nodes 18 _ refl reached_17).targets (reg 19) 3 0 refl reg_19_3 refl

  flows_18_0 : CallFlows receivers_classes receivers_program u None (Special (Some record { 0 = 0 })) 0 (reg 19 ∷ []) 0
  flows_18_0 = (rules.nodes 18 _ refl reached_17).flows 0 call_18_0

  reached_0 : u.reached 0 ≡ true
  reached_0 = flows_18_0.reached

  reg_0_3 : u.reg 0 3 ≡ true
  reg_0_3 = (flows_18_0.arguments _ refl).0 3 reg_19_3 refl

  call_23_17 : u.call 23 17 ≡ true
  call_23_17 = (rules.nodes 23 _ refl reached_19).targets (reg 21) 4 17 refl reg_21_4 refl

  flows_23_17 : CallFlows receivers_classes receivers_program u None (Special (Some record { 0 = 17 })) 17 (reg 21 ∷ []) 17
  flows_23_17 = (rules.nodes 23 _ refl reached_19).flows 17 call_23_17

  reg_19_4 : u.reg 19 4 ≡ true
  reg_19_4 = (flows_23_17.arguments _ refl).0 4 reg_21_4 refl

  reg_0_4 : u.reg 0 4 ≡ true
  reg_0_4 = (flows_18_0.arguments _ refl).0 4 reg_19_4 refl

  listed : HasListed receivers_facts u
  listed = record {
    regs = ((reg_0_3, (reg_0_4, tt)), (tt, (tt, (tt, (tt, (tt, (tt, (tt, ((reg_8_0, tt), (tt, (tt, ((reg_11_0, tt), ((reg_12_0, tt), ((reg_13_0, tt), ((reg_14_0, tt), ((reg_15_0, tt), ((reg_16_0, tt), ((reg_17_0, tt), ((reg_18_1, tt), ((reg_19_3, (reg_19_4, tt)), ((reg_20_3, tt), ((reg_21_4, tt), ((reg_22_4, tt), ((reg_23_0, tt), ((reg_24_0, tt), ((reg_25_1, tt), (tt, ((reg_27_2, tt), (tt, ((reg_29_3, tt), (tt, ((reg_31_4, tt), (tt, ((reg_33_3, (reg_33_4, tt)), ((reg_34_3, (reg_34_4, tt)), ((reg_35_0, tt), ((reg_36_0, tt), ((reg_37_1, tt), ((reg_38_0, tt), ((reg_39_0, tt), ((reg_40_0, tt), ((reg_41_0, tt), ((reg_42_0, tt), ((reg_43_0, tt), ((reg_44_0, tt), ((reg_45_1, tt), tt))))))))))))))))))))))))))))))))))))))))))))));
    statics = ((static_0_3, (static_0_4, tt)), tt);
    cells = tt;
    elems = ((elem_2_3, (elem_2_4, tt)), tt);
    calls = (call_18_0, (call_23_17, (call_28_8, (call_38_17, (call_45_19, (call_50_18, (call_50_20, (call_55_21, (call_60_22, (call_63_10, (call_66_11, (call_69_12, (call_72_13, (call_75_14, (call_78_15, (call_83_16, tt))))))))))))))));
    reached = (reached_0, (reached_8, (reached_10, (reached_11, (reached_12, (reached_13, (reached_14, (reached_15, (reached_16, (reached_17, (reached_18, (reached_19, (reached_20, (reached_21, (reached_22, (reached_23, (reached_24, (reached_25, (reached_26, (reached_27, (reached_28, (reached_29, (reached_30, (reached_31, tt))))))))))))))))))))))));
  }

are_listed : AreListed receivers_classes receivers_program receivers_facts
are_listed = record {
  regs = refl;
  regs_ascend = all_ascend receivers_facts.regs refl;
  statics = refl;
  statics_ascend = all_ascend receivers_facts.statics refl;
  cells = tt;
  cells_ascend = in_order (map cell_key receivers_facts.cells) refl;
  elems = (listed_set (3 ∷ 4 ∷ []) refl, tt);
  elems_ascend = in_order (map elem_key receivers_facts.elems) refl;
  calls_ascend = in_order (map call_key receivers_facts.calls) refl;
  reached_ascends = ascends receivers_facts.reached refl;
}

pub least : LeastFacts receivers_classes receivers_program receivers_facts
least = record {
  least = record {
    holds = holds_rules receivers_classes receivers_program receivers_facts refl refl refl;
    least = λ u rules. says_within receivers_facts u (listed u rules);
  };
  listed = are_listed;
}

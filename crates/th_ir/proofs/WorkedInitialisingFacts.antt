-- The facts of the program of two initialised classes are the least that hold the rules: each comes from
-- earlier ones by one rule.
use Rattle.std.proofs.Common.{◌≡◌, List, [], ◌∷◌, true, None, Some, map, refl}
use Rattle.th_ir.specs.declared.stmt.CallKind.TheVariants.{Virtual, Special, Static}
use Rattle.th_ir.specs.FactSets.{FactSets, AreListed, cell_key, elem_key, call_key}
use Rattle.th_ir.specs.Rules.{CallFlows, HoldsRules, LeastFacts}
use Rattle.th_ir.specs.Worked.{reg}
use Rattle.th_ir.specs.WorkedInitialising.{initialising_classes, initialising_program, initialising_facts}
use Rattle.th_ir.proofs.ListedFacts.{HasListed, says_within}
use Rattle.th_ir.proofs.TestedFacts.{holds_rules, all_ascend, ascends, listed_set, in_order}

-- no facts that hold the rules say less
module _ (u : FactSets) (rules : HoldsRules initialising_classes initialising_program u) where
  reached_23 : u.reached 23 ≡ true
  reached_23 = rules.harness record { 0 = 23 } (0, refl)

  reached_24 : u.reached 24 ≡ true
  reached_24 = rules.harness record { 0 = 24 } (1, refl)

  reached_25 : u.reached 25 ≡ true
  reached_25 = rules.harness record { 0 = 25 } (2, refl)

  reached_26 : u.reached 26 ≡ true
  reached_26 = rules.harness record { 0 = 26 } (3, refl)

  reached_27 : u.reached 27 ≡ true
  reached_27 = rules.harness record { 0 = 27 } (4, refl)

  reached_28 : u.reached 28 ≡ true
  reached_28 = rules.harness record { 0 = 28 } (5, refl)

  reached_29 : u.reached 29 ≡ true
  reached_29 = rules.harness record { 0 = 29 } (6, refl)

  reached_30 : u.reached 30 ≡ true
  reached_30 = rules.harness record { 0 = 30 } (7, refl)

  reached_31 : u.reached 31 ≡ true
  reached_31 = rules.harness record { 0 = 31 } (8, refl)

  reg_25_0 : u.reg 25 0 ≡ true
  reg_25_0 = rules.nodes 39 _ refl reached_23

  call_40_21 : u.call 40 21 ≡ true
  call_40_21 = (rules.nodes 40 _ refl reached_23).targets (reg 25) 0 21 refl reg_25_0 refl

  flows_40_21 : CallFlows initialising_classes initialising_program u None (Special (Some record { 0 = 21 })) 21 (reg 25 ∷ []) 21
  flows_40_21 = (rules.nodes 40 _ refl reached_23).flows 21 call_40_21

  reached_21 : u.reached 21 ≡ true
  reached_21 = flows_40_21.reached

  reg_22_0 : u.reg 22 0 ≡ true
  reg_22_0 = (flows_40_21.arguments _ refl).0 0 reg_25_0 refl

  reg_26_0 : u.reg 26 0 ≡ true
  reg_26_0 = rules.nodes 42 _ refl reached_24 0 refl

  reg_27_1 : u.reg 27 1 ≡ true
  reg_27_1 = rules.nodes 44 _ refl reached_24

  call_45_22 : u.call 45 22 ≡ true
  call_45_22 = (rules.nodes 45 _ refl reached_24).targets (reg 26) 0 22 refl reg_26_0 refl

  flows_45_22 : CallFlows initialising_classes initialising_program u None Virtual 9 (reg 26 ∷ reg 27 ∷ []) 22
  flows_45_22 = (rules.nodes 45 _ refl reached_24).flows 22 call_45_22

  reached_22 : u.reached 22 ≡ true
  reached_22 = flows_45_22.reached

  reg_23_0 : u.reg 23 0 ≡ true
  reg_23_0 = (flows_45_22.arguments _ refl).0 0 reg_26_0 refl

  reg_24_1 : u.reg 24 1 ≡ true
  reg_24_1 = (flows_45_22.arguments _ refl).1.0 1 reg_27_1

  reg_28_0 : u.reg 28 0 ≡ true
  reg_28_0 = rules.nodes 47 _ refl reached_25 0 refl

  call_48_10 : u.call 48 10 ≡ true
  call_48_10 = (rules.nodes 48 _ refl reached_25).targets (reg 28) 0 10 refl reg_28_0 refl

  flows_48_10 : CallFlows initialising_classes initialising_program u None Virtual 10 (reg 28 ∷ []) 10
  flows_48_10 = (rules.nodes 48 _ refl reached_25).flows 10 call_48_10

  reached_10 : u.reached 10 ≡ true
  reached_10 = flows_48_10.reached

  reg_11_0 : u.reg 11 0 ≡ true
  reg_11_0 = (flows_48_10.arguments _ refl).0 0 reg_28_0 refl

  reg_29_0 : u.reg 29 0 ≡ true
  reg_29_0 = rules.nodes 50 _ refl reached_26 0 refl

  call_51_11 : u.call 51 11 ≡ true
  call_51_11 = (rules.nodes 51 _ refl reached_26).targets (reg 29) 0 11 refl reg_29_0 refl

  flows_51_11 : CallFlows initialising_classes initialising_program u None Virtual 11 (reg 29 ∷ []) 11
  flows_51_11 = (rules.nodes 51 _ refl reached_26).flows 11 call_51_11

  reached_11 : u.reached 11 ≡ true
  reached_11 = flows_51_11.reached

  reg_12_0 : u.reg 12 0 ≡ true
  reg_12_0 = (flows_51_11.arguments _ refl).0 0 reg_29_0 refl

  reg_30_0 : u.reg 30 0 ≡ true
  reg_30_0 = rules.nodes 53 _ refl reached_27 0 refl

  call_54_12 : u.call 54 12 ≡ true
  call_54_12 = (rules.nodes 54 _ refl reached_27).targets (reg 30) 0 12 refl reg_30_0 refl

  flows_54_12 : CallFlows initialising_classes initialising_program u None Virtual 12 (reg 30 ∷ []) 12
  flows_54_12 = (rules.nodes 54 _ refl reached_27).flows 12 call_54_12

  reached_12 : u.reached 12 ≡ true
  reached_12 = flows_54_12.reached

  reg_13_0 : u.reg 13 0 ≡ true
  reg_13_0 = (flows_54_12.arguments _ refl).0 0 reg_30_0 refl

  reg_31_0 : u.reg 31 0 ≡ true
  reg_31_0 = rules.nodes 56 _ refl reached_28 0 refl

  call_57_13 : u.call 57 13 ≡ true
  call_57_13 = (rules.nodes 57 _ refl reached_28).targets (reg 31) 0 13 refl reg_31_0 refl

  flows_57_13 : CallFlows initialising_classes initialising_program u None Virtual 13 (reg 31 ∷ []) 13
  flows_57_13 = (rules.nodes 57 _ refl reached_28).flows 13 call_57_13

  reached_13 : u.reached 13 ≡ true
  reached_13 = flows_57_13.reached

  reg_14_0 : u.reg 14 0 ≡ true
  reg_14_0 = (flows_57_13.arguments _ refl).0 0 reg_31_0 refl

  reg_32_0 : u.reg 32 0 ≡ true
  reg_32_0 = rules.nodes 59 _ refl reached_29 0 refl

  call_60_14 : u.call 60 14 ≡ true
  call_60_14 = (rules.nodes 60 _ refl reached_29).targets (reg 32) 0 14 refl reg_32_0 refl

  flows_60_14 : CallFlows initialising_classes initialising_program u None Virtual 14 (reg 32 ∷ []) 14
  flows_60_14 = (rules.nodes 60 _ refl reached_29).flows 14 call_60_14

  reached_14 : u.reached 14 ≡ true
  reached_14 = flows_60_14.reached

  reg_15_0 : u.reg 15 0 ≡ true
  reg_15_0 = (flows_60_14.arguments _ refl).0 0 reg_32_0 refl

  reg_33_0 : u.reg 33 0 ≡ true
  reg_33_0 = rules.nodes 62 _ refl reached_30 0 refl

  call_63_15 : u.call 63 15 ≡ true
  call_63_15 = (rules.nodes 63 _ refl reached_30).targets (reg 33) 0 15 refl reg_33_0 refl

  flows_63_15 : CallFlows initialising_classes initialising_program u None Virtual 15 (reg 33 ∷ []) 15
  flows_63_15 = (rules.nodes 63 _ refl reached_30).flows 15 call_63_15

  reached_15 : u.reached 15 ≡ true
  reached_15 = flows_63_15.reached

  reg_16_0 : u.reg 16 0 ≡ true
  reg_16_0 = (flows_63_15.arguments _ refl).0 0 reg_33_0 refl

  reg_34_0 : u.reg 34 0 ≡ true
  reg_34_0 = rules.nodes 65 _ refl reached_31 0 refl

  reg_35_1 : u.reg 35 1 ≡ true
  reg_35_1 = rules.nodes 67 _ refl reached_31

  call_68_16 : u.call 68 16 ≡ true
  call_68_16 = (rules.nodes 68 _ refl reached_31).targets (reg 34) 0 16 refl reg_34_0 refl

  flows_68_16 : CallFlows initialising_classes initialising_program u None Virtual 16 (reg 34 ∷ reg 35 ∷ []) 16
  flows_68_16 = (rules.nodes 68 _ refl reached_31).flows 16 call_68_16

  reached_16 : u.reached 16 ≡ true
  reached_16 = flows_68_16.reached

  reg_17_0 : u.reg 17 0 ≡ true
  reg_17_0 = (flows_68_16.arguments _ refl).0 0 reg_34_0 refl

  reg_18_1 : u.reg 18 1 ≡ true
  reg_18_1 = (flows_68_16.arguments _ refl).1.0 1 reg_35_1

  call_33_8 : u.call 33 8 ≡ true
  call_33_8 = (rules.nodes 33 _ refl reached_21).targets (reg 22) 0 8 refl reg_22_0 refl

  flows_33_8 : CallFlows initialising_classes initialising_program u None (Special (Some record { 0 = 8 })) 8 (reg 22 ∷ []) 8
  flows_33_8 = (rules.nodes 33 _ refl reached_21).flows 8 call_33_8

  reached_8 : u.reached 8 ≡ true
  reached_8 = flows_33_8.reached

  reg_8_0 : u.reg 8 0 ≡ true
  reg_8_0 = (flows_33_8.arguments _ refl).0 0 reg_22_0 refl

  reached_18 : u.reached 18 ≡ true
  reached_18 = rules.nodes 35 _ refl reached_22 18 record { class = 11; info = _; above = refl; declared = refl; number = refl }

  call_36_20 : u.call 36 20 ≡ true
  call_36_20 = (rules.nodes 36 _ refl reached_22).targets 20 refl

  flows_36_20 : CallFlows initialising_classes initialising_program u None Static 20 [] 20
  flows_36_20 = (rules.nodes 36 _ refl reached_22).flows 20 call_36_20

  reached_20 : u.reached 20 ≡ true
  reached_20 = flows_36_20.reached

  call_21_20 : u.call 21 20 ≡ true
  call_21_20 = (rules.nodes 21 _ refl reached_18).targets 20 refl

  flows_21_20 : CallFlows initialising_classes initialising_program u None Static 20 [] 20
  flows_21_20 = (rules.nodes 21 _ refl reached_18).flows 20 call_21_20

  reg_20_2 : u.reg 20 2 ≡ true
  reg_20_2 = rules.nodes 23 _ refl reached_18

  call_25_21 : u.call 25 21 ≡ true
  call_25_21 = (rules.nodes 25 _ refl reached_18).targets (reg 20) 2 21 refl reg_20_2 refl

  flows_25_21 : CallFlows initialising_classes initialising_program u None (Special (Some record { 0 = 21 })) 21 (reg 20 ∷ []) 21
  flows_25_21 = (rules.nodes 25 _ refl reached_18).flows 21 call_25_21

  reg_22_2 : u.reg 22 2 ≡ true
  reg_22_2 = (flows_25_21.arguments _ refl).0 2 reg_20_2 refl

  static_0_2 : u.static 0 2 ≡ true
  static_0_2 = rules.nodes 26 _ refl reached_18 2 reg_20_2

  reg_8_2 : u.reg 8 2 ≡ true
  reg_8_2 = (flows_33_8.arguments _ refl).0 2 reg_22_2 refl

  listed : HasListed initialising_facts u
  listed = record {
    regs = (tt, (tt, (tt, (tt, (tt, (tt, (tt, (tt, ((reg_8_0, (reg_8_2, tt)), (tt, (tt, ((reg_11_0, tt), ((reg_12_0, tt), ((reg_13_0, tt), ((reg_14_0, tt), ((reg_15_0, tt), ((reg_16_0, tt), ((reg_17_0, tt), ((reg_18_1, tt), (tt, ((reg_20_2, tt), (tt, ((reg_22_0, (reg_22_2, tt)), ((reg_23_0, tt), ((reg_24_1, tt), ((reg_25_0, tt), ((reg_26_0, tt), ((reg_27_1, tt), ((reg_28_0, tt), ((reg_29_0, tt), ((reg_30_0, tt), ((reg_31_0, tt), ((reg_32_0, tt), ((reg_33_0, tt), ((reg_34_0, tt), ((reg_35_1, tt), tt))))))))))))))))))))))))))))))))))));
    statics = ((static_0_2, tt), tt);
    cells = tt;
    elems = tt;
    calls = (call_21_20, (call_25_21, (call_33_8, (call_36_20, (call_40_21, (call_45_22, (call_48_10, (call_51_11, (call_54_12, (call_57_13, (call_60_14, (call_63_15, (call_68_16, tt)))))))))))));
    reached = (reached_8, (reached_10, (reached_11, (reached_12, (reached_13, (reached_14, (reached_15, (reached_16, (reached_18, (reached_20, (reached_21, (reached_22, (reached_23, (reached_24, (reached_25, (reached_26, (reached_27, (reached_28, (reached_29, (reached_30, (reached_31, tt)))))))))))))))))))));
  }

are_listed : AreListed initialising_classes initialising_program initialising_facts
are_listed = record {
  regs = refl;
  regs_ascend = all_ascend initialising_facts.regs refl;
  statics = refl;
  statics_ascend = all_ascend initialising_facts.statics refl;
  cells = tt;
  cells_ascend = in_order (map cell_key initialising_facts.cells) refl;
  elems = tt;
  elems_ascend = in_order (map elem_key initialising_facts.elems) refl;
  calls_ascend = in_order (map call_key initialising_facts.calls) refl;
  reached_ascends = ascends initialising_facts.reached refl;
}

pub least : LeastFacts initialising_classes initialising_program initialising_facts
least = record {
  least = record {
    holds = holds_rules initialising_classes initialising_program initialising_facts refl refl refl;
    least = λ u rules. says_within initialising_facts u (listed u rules);
  };
  listed = are_listed;
}

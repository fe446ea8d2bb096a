-- The facts of the program of a String constant are the least that hold the rules: each comes from
-- earlier ones by one rule.
use Rattle.std.proofs.Common.{◌≡◌, List, [], ◌∷◌, true, None, Some, map, refl}
use Rattle.th_ir.specs.declared.stmt.CallKind.TheVariants.{Virtual, Special}
use Rattle.th_ir.specs.FactSets.{FactSets, AreListed, cell_key, elem_key, call_key}
use Rattle.th_ir.specs.Rules.{CallFlows, HoldsRules, LeastFacts}
use Rattle.th_ir.specs.Worked.{reg}
use Rattle.th_ir.specs.WorkedNaming.{naming_classes, naming_program, naming_facts}
use Rattle.th_ir.proofs.ListedFacts.{HasListed, says_within}
use Rattle.th_ir.proofs.TestedFacts.{holds_rules, all_ascend, ascends, listed_set, in_order}

-- no facts that hold the rules say less
module _ (u : FactSets) (rules : HoldsRules naming_classes naming_program u) where
  reached_19 : u.reached 19 ≡ true
  reached_19 = rules.harness record { 0 = 19 } (0, refl)

  reached_20 : u.reached 20 ≡ true
  reached_20 = rules.harness record { 0 = 20 } (1, refl)

  reached_21 : u.reached 21 ≡ true
  reached_21 = rules.harness record { 0 = 21 } (2, refl)

  reached_22 : u.reached 22 ≡ true
  reached_22 = rules.harness record { 0 = 22 } (3, refl)

  reached_23 : u.reached 23 ≡ true
  reached_23 = rules.harness record { 0 = 23 } (4, refl)

  reached_24 : u.reached 24 ≡ true
  reached_24 = rules.harness record { 0 = 24 } (5, refl)

  reached_25 : u.reached 25 ≡ true
  reached_25 = rules.harness record { 0 = 25 } (6, refl)

  reached_26 : u.reached 26 ≡ true
  reached_26 = rules.harness record { 0 = 26 } (7, refl)

  reached_27 : u.reached 27 ≡ true
  reached_27 = rules.harness record { 0 = 27 } (8, refl)

  static_0_0 : u.static 0 0 ≡ true
  static_0_0 = rules.constants.0

  reached_18 : u.reached 18 ≡ true
  reached_18 = rules.nodes 23 _ refl reached_19 18 record { class = 11; info = _; above = refl; declared = refl; number = refl }

  reg_21_1 : u.reg 21 1 ≡ true
  reg_21_1 = rules.nodes 24 _ refl reached_19

  call_25_17 : u.call 25 17 ≡ true
  call_25_17 = (rules.nodes 25 _ refl reached_19).targets (reg 21) 1 17 refl reg_21_1 refl

  flows_25_17 : CallFlows naming_classes naming_program u None (Special (Some record { 0 = 17 })) 17 (reg 21 ∷ []) 17
  flows_25_17 = (rules.nodes 25 _ refl reached_19).flows 17 call_25_17

  reached_17 : u.reached 17 ≡ true
  reached_17 = flows_25_17.reached

  reg_19_1 : u.reg 19 1 ≡ true
  reg_19_1 = (flows_25_17.arguments _ refl).0 1 reg_21_1 refl

  reg_22_1 : u.reg 22 1 ≡ true
  reg_22_1 = rules.nodes 27 _ refl reached_20 1 refl

  reg_23_2 : u.reg 23 2 ≡ true
  reg_23_2 = rules.nodes 29 _ refl reached_20

  call_30_9 : u.call 30 9 ≡ true
  call_30_9 = (rules.nodes 30 _ refl reached_20).targets (reg 22) 1 9 refl reg_22_1 refl

  flows_30_9 : CallFlows naming_classes naming_program u None Virtual 9 (reg 22 ∷ reg 23 ∷ []) 9
  flows_30_9 = (rules.nodes 30 _ refl reached_20).flows 9 call_30_9

  reached_9 : u.reached 9 ≡ true
  reached_9 = flows_30_9.reached

  reg_9_1 : u.reg 9 1 ≡ true
  reg_9_1 = (flows_30_9.arguments _ refl).0 1 reg_22_1 refl

  reg_10_2 : u.reg 10 2 ≡ true
  reg_10_2 = (flows_30_9.arguments _ refl).1.0 2 reg_23_2

  reg_24_1 : u.reg 24 1 ≡ true
  reg_24_1 = rules.nodes 32 _ refl reached_21 1 refl

  call_33_10 : u.call 33 10 ≡ true
  call_33_10 = (rules.nodes 33 _ refl reached_21).targets (reg 24) 1 10 refl reg_24_1 refl

  flows_33_10 : CallFlows naming_classes naming_program u None Virtual 10 (reg 24 ∷ []) 10
  flows_33_10 = (rules.nodes 33 _ refl reached_21).flows 10 call_33_10

  reached_10 : u.reached 10 ≡ true
  reached_10 = flows_33_10.reached

  reg_11_1 : u.reg 11 1 ≡ true
  reg_11_1 = (flows_33_10.arguments _ refl).0 1 reg_24_1 refl

  reg_25_1 : u.reg 25 1 ≡ true
  reg_25_1 = rules.nodes 35 _ refl reached_22 1 refl

  call_36_11 : u.call 36 11 ≡ true
  call_36_11 = (rules.nodes 36 _ refl reached_22).targets (reg 25) 1 11 refl reg_25_1 refl

  flows_36_11 : CallFlows naming_classes naming_program u None Virtual 11 (reg 25 ∷ []) 11
  flows_36_11 = (rules.nodes 36 _ refl reached_22).flows 11 call_36_11

  reached_11 : u.reached 11 ≡ true
  reached_11 = flows_36_11.reached

  reg_12_1 : u.reg 12 1 ≡ true
  reg_12_1 = (flows_36_11.arguments _ refl).0 1 reg_25_1 refl

  reg_26_1 : u.reg 26 1 ≡ true
  reg_26_1 = rules.nodes 38 _ refl reached_23 1 refl

  call_39_12 : u.call 39 12 ≡ true
  call_39_12 = (rules.nodes 39 _ refl reached_23).targets (reg 26) 1 12 refl reg_26_1 refl

  flows_39_12 : CallFlows naming_classes naming_program u None Virtual 12 (reg 26 ∷ []) 12
  flows_39_12 = (rules.nodes 39 _ refl reached_23).flows 12 call_39_12

  reached_12 : u.reached 12 ≡ true
  reached_12 = flows_39_12.reached

  reg_13_1 : u.reg 13 1 ≡ true
  reg_13_1 = (flows_39_12.arguments _ refl).0 1 reg_26_1 refl

  reg_27_1 : u.reg 27 1 ≡ true
  reg_27_1 = rules.nodes 41 _ refl reached_24 1 refl

  call_42_13 : u.call 42 13 ≡ true
  call_42_13 = (rules.nodes 42 _ refl reached_24).targets (reg 27) 1 13 refl reg_27_1 refl

  flows_42_13 : CallFlows naming_classes naming_program u None Virtual 13 (reg 27 ∷ []) 13
  flows_42_13 = (rules.nodes 42 _ refl reached_24).flows 13 call_42_13

  reached_13 : u.reached 13 ≡ true
  reached_13 = flows_42_13.reached

  reg_14_1 : u.reg 14 1 ≡ true
  reg_14_1 = (flows_42_13.arguments _ refl).0 1 reg_27_1 refl

  reg_28_1 : u.reg 28 1 ≡ true
  reg_28_1 = rules.nodes 44 _ refl reached_25 1 refl

  call_45_14 : u.call 45 14 ≡ true
  call_45_14 = (rules.nodes 45 _ refl reached_25).targets (reg 28) 1 14 refl reg_28_1 refl

  flows_45_14 : CallFlows naming_classes naming_program u None Virtual 14 (reg 28 ∷ []) 14
  flows_45_14 = (rules.nodes 45 _ refl reached_25).flows 14 call_45_14

  reached_14 : u.reached 14 ≡ true
  reached_14 = flows_45_14.reached

  reg_15_1 : u.reg 15 1 ≡ true
  reg_15_1 = (flows_45_14.arguments _ refl).0 1 reg_28_1 refl

  reg_29_1 : u.reg 29 1 ≡ true
  reg_29_1 = rules.nodes 47 _ refl reached_26 1 refl

  call_48_15 : u.call 48 15 ≡ true
  call_48_15 = (rules.nodes 48 _ refl reached_26).targets (reg 29) 1 15 refl reg_29_1 refl

  flows_48_15 : CallFlows naming_classes naming_program u None Virtual 15 (reg 29 ∷ []) 15
  flows_48_15 = (rules.nodes 48 _ refl reached_26).flows 15 call_48_15

  reached_15 : u.reached 15 ≡ true
  reached_15 = flows_48_15.reached

  reg_16_1 : u.reg 16 1 ≡ true
  reg_16_1 = (flows_48_15.arguments _ refl).0 1 reg_29_1 refl

  reg_30_1 : u.reg 30 1 ≡ true
  reg_30_1 = rules.nodes 50 _ refl reached_27 1 refl

  reg_31_2 : u.reg 31 2 ≡ true
  reg_31_2 = rules.nodes 52 _ refl reached_27

  call_53_16 : u.call 53 16 ≡ true
  call_53_16 = (rules.nodes 53 _ refl reached_27).targets (reg 30) 1 16 refl reg_30_1 refl

  flows_53_16 : CallFlows naming_classes naming_program u None Virtual 16 (reg 30 ∷ reg 31 ∷ []) 16
  flows_53_16 = (rules.nodes 53 _ refl reached_27).flows 16 call_53_16

  reached_16 : u.reached 16 ≡ true
  reached_16 = flows_53_16.reached

  reg_17_1 : u.reg 17 1 ≡ true
  reg_17_1 = (flows_53_16.arguments _ refl).0 1 reg_30_1 refl

  reg_18_2 : u.reg 18 2 ≡ true
  reg_18_2 = (flows_53_16.arguments _ refl).1.0 2 reg_31_2

  call_18_8 : u.call 18 8 ≡ true
  call_18_8 = (rules.nodes 18 _ refl reached_17).targets (reg 19) 1 8 refl reg_19_1 refl

  flows_18_8 : CallFlows naming_classes naming_program u None (Special (Some record { 0 = 8 })) 8 (reg 19 ∷ []) 8
  flows_18_8 = (rules.nodes 18 _ refl reached_17).flows 8 call_18_8

  reached_8 : u.reached 8 ≡ true
  reached_8 = flows_18_8.reached

  reg_8_1 : u.reg 8 1 ≡ true
  reg_8_1 = (flows_18_8.arguments _ refl).0 1 reg_19_1 refl

  reg_20_0 : u.reg 20 0 ≡ true
  reg_20_0 = rules.nodes 20 _ refl reached_18

  listed : HasListed naming_facts u
  listed = record {
    regs = (tt, (tt, (tt, (tt, (tt, (tt, (tt, (tt, ((reg_8_1, tt), ((reg_9_1, tt), ((reg_10_2, tt), ((reg_11_1, tt), ((reg_12_1, tt), ((reg_13_1, tt), ((reg_14_1, tt), ((reg_15_1, tt), ((reg_16_1, tt), ((reg_17_1, tt), ((reg_18_2, tt), ((reg_19_1, tt), ((reg_20_0, tt), ((reg_21_1, tt), ((reg_22_1, tt), ((reg_23_2, tt), ((reg_24_1, tt), ((reg_25_1, tt), ((reg_26_1, tt), ((reg_27_1, tt), ((reg_28_1, tt), ((reg_29_1, tt), ((reg_30_1, tt), ((reg_31_2, tt), tt))))))))))))))))))))))))))))))));
    statics = ((static_0_0, tt), tt);
    cells = tt;
    elems = tt;
    calls = (call_18_8, (call_25_17, (call_30_9, (call_33_10, (call_36_11, (call_39_12, (call_42_13, (call_45_14, (call_48_15, (call_53_16, tt))))))))));
    reached = (reached_8, (reached_9, (reached_10, (reached_11, (reached_12, (reached_13, (reached_14, (reached_15, (reached_16, (reached_17, (reached_18, (reached_19, (reached_20, (reached_21, (reached_22, (reached_23, (reached_24, (reached_25, (reached_26, (reached_27, tt))))))))))))))))))));
  }

are_listed : AreListed naming_classes naming_program naming_facts
are_listed = record {
  regs = refl;
  regs_ascend = all_ascend naming_facts.regs refl;
  statics = refl;
  statics_ascend = all_ascend naming_facts.statics refl;
  cells = tt;
  cells_ascend = in_order (map cell_key naming_facts.cells) refl;
  elems = tt;
  elems_ascend = in_order (map elem_key naming_facts.elems) refl;
  calls_ascend = in_order (map call_key naming_facts.calls) refl;
  reached_ascends = ascends naming_facts.reached refl;
}

pub least : LeastFacts naming_classes naming_program naming_facts
least = record {
  least = record {
    holds = holds_rules naming_classes naming_program naming_facts refl refl refl;
    least = λ u rules. says_within naming_facts u (listed u rules);
  };
  listed = are_listed;
}

-- The run of the program of two receivers at one call, computed step by step.
use Rattle.std.proofs.Common.{inl, [], ◌∷◌, None, Some, pos, refl}
use Rattle.th_ir.specs.Machine.{NullValue, Address, IntValue, new_object}
use Rattle.th_ir.specs.Effects.{Sets, SetsStatic, SetsElement, Makes, Enters, Leaves, new_array}
use Rattle.th_ir.specs.Step.{RegReachable}
use Rattle.th_ir.specs.Worked.{reg}
use Rattle.th_ir.specs.WorkedReceivers.{receivers_classes, receivers_program, receivers_0, receivers_1, receivers_2, receivers_3, receivers_4, receivers_5, receivers_6, receivers_7, receivers_8, receivers_9, receivers_10, receivers_11, receivers_12, receivers_13, receivers_14, receivers_15, receivers_16, receivers_17, receivers_18, receivers_19, receivers_20, receivers_21, receivers_22, receivers_23, receivers_24, receivers_25, receivers_26, receivers_27, receivers_28, receivers_29, receivers_30, receivers_31, receivers_32, receivers_33, receivers_34, receivers_35, receivers_36, receivers_37, receivers_38, receivers_39, receivers_40, receivers_41, receivers_42, receivers_43, receivers_44, receivers_45, receivers_46, receivers_47, receivers_48, receivers_49, receivers_50}
use Rattle.th_ir.proofs.Applied.{chosen, begun}

run_0 : RegReachable receivers_classes receivers_program receivers_0
run_0 = ([], refl)

pub run_1 : RegReachable receivers_classes receivers_program receivers_1
run_1 = begun receivers_classes receivers_program receivers_0 receivers_1 record { 0 = 23 } run_0 refl (0, refl) refl

pub run_2 : RegReachable receivers_classes receivers_program receivers_2
run_2 = chosen receivers_classes receivers_program receivers_1 receivers_2 run_1 record {
  frame = _;
  below = _;
  frames = refl;
  node = _;
  stands = refl;
  change = Sets [];
  effect = inl refl;
  successor = 0;
  next = refl;
}

pub run_3 : RegReachable receivers_classes receivers_program receivers_3
run_3 = chosen receivers_classes receivers_program receivers_2 receivers_3 run_2 record {
  frame = _;
  below = _;
  frames = refl;
  node = _;
  stands = refl;
  change = Makes 35 (new_object receivers_classes 13 0);
  effect = (13, refl, refl);
  successor = 0;
  next = refl;
}

pub run_4 : RegReachable receivers_classes receivers_program receivers_4
run_4 = chosen receivers_classes receivers_program receivers_3 receivers_4 run_3 record {
  frame = _;
  below = _;
  frames = refl;
  node = _;
  stands = refl;
  change = Enters 21 (Address 0 ∷ []);
  effect = record { receiver = reg 35; first = refl; at = record { address = 0; object = _; value = refl; stands = refl }; to = 21; target = refl; change = refl };
  successor = 0;
  next = refl;
}

pub run_5 : RegReachable receivers_classes receivers_program receivers_5
run_5 = chosen receivers_classes receivers_program receivers_4 receivers_5 run_4 record {
  frame = _;
  below = _;
  frames = refl;
  node = _;
  stands = refl;
  change = Sets [];
  effect = refl;
  successor = 0;
  next = refl;
}

pub run_6 : RegReachable receivers_classes receivers_program receivers_6
run_6 = chosen receivers_classes receivers_program receivers_5 receivers_6 run_5 record {
  frame = _;
  below = _;
  frames = refl;
  node = _;
  stands = refl;
  change = Enters 8 (Address 0 ∷ []);
  effect = record { receiver = reg 23; first = refl; at = record { address = 0; object = _; value = refl; stands = refl }; to = 8; target = refl; change = refl };
  successor = 0;
  next = refl;
}

pub run_7 : RegReachable receivers_classes receivers_program receivers_7
run_7 = chosen receivers_classes receivers_program receivers_6 receivers_7 run_6 record {
  frame = _;
  below = _;
  frames = refl;
  node = _;
  stands = refl;
  change = Leaves None;
  effect = refl;
  successor = 0;
  next = refl;
}

pub run_8 : RegReachable receivers_classes receivers_program receivers_8
run_8 = chosen receivers_classes receivers_program receivers_7 receivers_8 run_7 record {
  frame = _;
  below = _;
  frames = refl;
  node = _;
  stands = refl;
  change = Leaves None;
  effect = refl;
  successor = 0;
  next = refl;
}

pub run_9 : RegReachable receivers_classes receivers_program receivers_9
run_9 = chosen receivers_classes receivers_program receivers_8 receivers_9 run_8 record {
  frame = _;
  below = _;
  frames = refl;
  node = _;
  stands = refl;
  change = Leaves None;
  effect = refl;
  successor = 0;
  next = refl;
}

pub run_10 : RegReachable receivers_classes receivers_program receivers_10
run_10 = begun receivers_classes receivers_program receivers_9 receivers_10 record { 0 = 24 } run_9 refl (1, refl) refl

pub run_11 : RegReachable receivers_classes receivers_program receivers_11
run_11 = chosen receivers_classes receivers_program receivers_10 receivers_11 run_10 record {
  frame = _;
  below = _;
  frames = refl;
  node = _;
  stands = refl;
  change = Sets ((36, Address 0) ∷ []);
  effect = (0, _, (0, refl), refl, refl, refl);
  successor = 0;
  next = refl;
}

pub run_12 : RegReachable receivers_classes receivers_program receivers_12
run_12 = chosen receivers_classes receivers_program receivers_11 receivers_12 run_11 record {
  frame = _;
  below = _;
  frames = refl;
  node = _;
  stands = refl;
  change = Sets ((37, NullValue) ∷ []);
  effect = refl;
  successor = 0;
  next = refl;
}

pub run_13 : RegReachable receivers_classes receivers_program receivers_13
run_13 = chosen receivers_classes receivers_program receivers_12 receivers_13 run_12 record {
  frame = _;
  below = _;
  frames = refl;
  node = _;
  stands = refl;
  change = Enters 22 (Address 0 ∷ NullValue ∷ []);
  effect = record { receiver = reg 36; first = refl; at = record { address = 0; object = _; value = refl; stands = refl }; to = 22; target = refl; change = refl };
  successor = 0;
  next = refl;
}

pub run_14 : RegReachable receivers_classes receivers_program receivers_14
run_14 = chosen receivers_classes receivers_program receivers_13 receivers_14 run_13 record {
  frame = _;
  below = _;
  frames = refl;
  node = _;
  stands = refl;
  change = Sets ((26, IntValue (pos 2)) ∷ []);
  effect = refl;
  successor = 0;
  next = refl;
}

pub run_15 : RegReachable receivers_classes receivers_program receivers_15
run_15 = chosen receivers_classes receivers_program receivers_14 receivers_15 run_14 record {
  frame = _;
  below = _;
  frames = refl;
  node = _;
  stands = refl;
  change = Makes 27 (new_array receivers_program 2 2);
  effect = (2, refl, refl);
  successor = 0;
  next = refl;
}

pub run_16 : RegReachable receivers_classes receivers_program receivers_16
run_16 = chosen receivers_classes receivers_program receivers_15 receivers_16 run_15 record {
  frame = _;
  below = _;
  frames = refl;
  node = _;
  stands = refl;
  change = Sets [];
  effect = refl;
  successor = 0;
  next = refl;
}

pub run_17 : RegReachable receivers_classes receivers_program receivers_17
run_17 = chosen receivers_classes receivers_program receivers_16 receivers_17 run_16 record {
  frame = _;
  below = _;
  frames = refl;
  node = _;
  stands = refl;
  change = Sets [];
  effect = refl;
  successor = 0;
  next = refl;
}

pub run_18 : RegReachable receivers_classes receivers_program receivers_18
run_18 = chosen receivers_classes receivers_program receivers_17 receivers_18 run_17 record {
  frame = _;
  below = _;
  frames = refl;
  node = _;
  stands = refl;
  change = Sets ((28, IntValue (pos 0)) ∷ []);
  effect = refl;
  successor = 0;
  next = refl;
}

pub run_19 : RegReachable receivers_classes receivers_program receivers_19
run_19 = chosen receivers_classes receivers_program receivers_18 receivers_19 run_18 record {
  frame = _;
  below = _;
  frames = refl;
  node = _;
  stands = refl;
  change = Sets [];
  effect = inl refl;
  successor = 0;
  next = refl;
}

pub run_20 : RegReachable receivers_classes receivers_program receivers_20
run_20 = chosen receivers_classes receivers_program receivers_19 receivers_20 run_19 record {
  frame = _;
  below = _;
  frames = refl;
  node = _;
  stands = refl;
  change = Makes 29 (new_object receivers_classes 11 3);
  effect = (11, refl, refl);
  successor = 0;
  next = refl;
}

pub run_21 : RegReachable receivers_classes receivers_program receivers_21
run_21 = chosen receivers_classes receivers_program receivers_20 receivers_21 run_20 record {
  frame = _;
  below = _;
  frames = refl;
  node = _;
  stands = refl;
  change = Sets [];
  effect = refl;
  successor = 0;
  next = refl;
}

pub run_22 : RegReachable receivers_classes receivers_program receivers_22
run_22 = chosen receivers_classes receivers_program receivers_21 receivers_22 run_21 record {
  frame = _;
  below = _;
  frames = refl;
  node = _;
  stands = refl;
  change = Enters 17 (Address 2 ∷ []);
  effect = record { receiver = reg 29; first = refl; at = record { address = 2; object = _; value = refl; stands = refl }; to = 17; target = refl; change = refl };
  successor = 0;
  next = refl;
}

pub run_23 : RegReachable receivers_classes receivers_program receivers_23
run_23 = chosen receivers_classes receivers_program receivers_22 receivers_23 run_22 record {
  frame = _;
  below = _;
  frames = refl;
  node = _;
  stands = refl;
  change = Sets [];
  effect = refl;
  successor = 0;
  next = refl;
}

pub run_24 : RegReachable receivers_classes receivers_program receivers_24
run_24 = chosen receivers_classes receivers_program receivers_23 receivers_24 run_23 record {
  frame = _;
  below = _;
  frames = refl;
  node = _;
  stands = refl;
  change = Enters 0 (Address 2 ∷ []);
  effect = record { receiver = reg 19; first = refl; at = record { address = 2; object = _; value = refl; stands = refl }; to = 0; target = refl; change = refl };
  successor = 0;
  next = refl;
}

pub run_25 : RegReachable receivers_classes receivers_program receivers_25
run_25 = chosen receivers_classes receivers_program receivers_24 receivers_25 run_24 record {
  frame = _;
  below = _;
  frames = refl;
  node = _;
  stands = refl;
  change = Leaves None;
  effect = refl;
  successor = 0;
  next = refl;
}

pub run_26 : RegReachable receivers_classes receivers_program receivers_26
run_26 = chosen receivers_classes receivers_program receivers_25 receivers_26 run_25 record {
  frame = _;
  below = _;
  frames = refl;
  node = _;
  stands = refl;
  change = Leaves None;
  effect = refl;
  successor = 0;
  next = refl;
}

pub run_27 : RegReachable receivers_classes receivers_program receivers_27
run_27 = chosen receivers_classes receivers_program receivers_26 receivers_27 run_26 record {
  frame = _;
  below = _;
  frames = refl;
  node = _;
  stands = refl;
  change = SetsElement 1 0 (Address 2);
  effect = (record { at = record { address = 1; object = _; value = refl; stands = refl }; kind_is = refl; place = 0; value = NullValue; stands = refl }, refl, refl);
  successor = 0;
  next = refl;
}

pub run_28 : RegReachable receivers_classes receivers_program receivers_28
run_28 = chosen receivers_classes receivers_program receivers_27 receivers_28 run_27 record {
  frame = _;
  below = _;
  frames = refl;
  node = _;
  stands = refl;
  change = Sets [];
  effect = refl;
  successor = 0;
  next = refl;
}

pub run_29 : RegReachable receivers_classes receivers_program receivers_29
run_29 = chosen receivers_classes receivers_program receivers_28 receivers_29 run_28 record {
  frame = _;
  below = _;
  frames = refl;
  node = _;
  stands = refl;
  change = Sets ((30, IntValue (pos 1)) ∷ []);
  effect = refl;
  successor = 0;
  next = refl;
}

pub run_30 : RegReachable receivers_classes receivers_program receivers_30
run_30 = chosen receivers_classes receivers_program receivers_29 receivers_30 run_29 record {
  frame = _;
  below = _;
  frames = refl;
  node = _;
  stands = refl;
  change = Sets [];
  effect = inl refl;
  successor = 0;
  next = refl;
}

pub run_31 : RegReachable receivers_classes receivers_program receivers_31
run_31 = chosen receivers_classes receivers_program receivers_30 receivers_31 run_30 record {
  frame = _;
  below = _;
  frames = refl;
  node = _;
  stands = refl;
  change = Makes 31 (new_object receivers_classes 12 4);
  effect = (12, refl, refl);
  successor = 0;
  next = refl;
}

pub run_32 : RegReachable receivers_classes receivers_program receivers_32
run_32 = chosen receivers_classes receivers_program receivers_31 receivers_32 run_31 record {
  frame = _;
  below = _;
  frames = refl;
  node = _;
  stands = refl;
  change = Sets [];
  effect = refl;
  successor = 0;
  next = refl;
}

pub run_33 : RegReachable receivers_classes receivers_program receivers_33
run_33 = chosen receivers_classes receivers_program receivers_32 receivers_33 run_32 record {
  frame = _;
  below = _;
  frames = refl;
  node = _;
  stands = refl;
  change = Enters 19 (Address 3 ∷ []);
  effect = record { receiver = reg 31; first = refl; at = record { address = 3; object = _; value = refl; stands = refl }; to = 19; target = refl; change = refl };
  successor = 0;
  next = refl;
}

pub run_34 : RegReachable receivers_classes receivers_program receivers_34
run_34 = chosen receivers_classes receivers_program receivers_33 receivers_34 run_33 record {
  frame = _;
  below = _;
  frames = refl;
  node = _;
  stands = refl;
  change = Sets [];
  effect = refl;
  successor = 0;
  next = refl;
}

pub run_35 : RegReachable receivers_classes receivers_program receivers_35
run_35 = chosen receivers_classes receivers_program receivers_34 receivers_35 run_34 record {
  frame = _;
  below = _;
  frames = refl;
  node = _;
  stands = refl;
  change = Enters 17 (Address 3 ∷ []);
  effect = record { receiver = reg 21; first = refl; at = record { address = 3; object = _; value = refl; stands = refl }; to = 17; target = refl; change = refl };
  successor = 0;
  next = refl;
}

pub run_36 : RegReachable receivers_classes receivers_program receivers_36
run_36 = chosen receivers_classes receivers_program receivers_35 receivers_36 run_35 record {
  frame = _;
  below = _;
  frames = refl;
  node = _;
  stands = refl;
  change = Sets [];
  effect = refl;
  successor = 0;
  next = refl;
}

pub run_37 : RegReachable receivers_classes receivers_program receivers_37
run_37 = chosen receivers_classes receivers_program receivers_36 receivers_37 run_36 record {
  frame = _;
  below = _;
  frames = refl;
  node = _;
  stands = refl;
  change = Enters 0 (Address 3 ∷ []);
  effect = record { receiver = reg 19; first = refl; at = record { address = 3; object = _; value = refl; stands = refl }; to = 0; target = refl; change = refl };
  successor = 0;
  next = refl;
}

pub run_38 : RegReachable receivers_classes receivers_program receivers_38
run_38 = chosen receivers_classes receivers_program receivers_37 receivers_38 run_37 record {
  frame = _;
  below = _;
  frames = refl;
  node = _;
  stands = refl;
  change = Leaves None;
  effect = refl;
  successor = 0;
  next = refl;
}

pub run_39 : RegReachable receivers_classes receivers_program receivers_39
run_39 = chosen receivers_classes receivers_program receivers_38 receivers_39 run_38 record {
  frame = _;
  below = _;
  frames = refl;
  node = _;
  stands = refl;
  change = Leaves None;
  effect = refl;
  successor = 0;
  next = refl;
}

pub run_40 : RegReachable receivers_classes receivers_program receivers_40
run_40 = chosen receivers_classes receivers_program receivers_39 receivers_40 run_39 record {
  frame = _;
  below = _;
  frames = refl;
  node = _;
  stands = refl;
  change = Leaves None;
  effect = refl;
  successor = 0;
  next = refl;
}

pub run_41 : RegReachable receivers_classes receivers_program receivers_41
run_41 = chosen receivers_classes receivers_program receivers_40 receivers_41 run_40 record {
  frame = _;
  below = _;
  frames = refl;
  node = _;
  stands = refl;
  change = SetsElement 1 1 (Address 3);
  effect = (record { at = record { address = 1; object = _; value = refl; stands = refl }; kind_is = refl; place = 1; value = NullValue; stands = refl }, refl, refl);
  successor = 0;
  next = refl;
}

pub run_42 : RegReachable receivers_classes receivers_program receivers_42
run_42 = chosen receivers_classes receivers_program receivers_41 receivers_42 run_41 record {
  frame = _;
  below = _;
  frames = refl;
  node = _;
  stands = refl;
  change = Sets [];
  effect = refl;
  successor = 0;
  next = refl;
}

pub run_43 : RegReachable receivers_classes receivers_program receivers_43
run_43 = chosen receivers_classes receivers_program receivers_42 receivers_43 run_42 record {
  frame = _;
  below = _;
  frames = refl;
  node = _;
  stands = refl;
  change = Sets ((32, IntValue (pos 1)) ∷ []);
  effect = refl;
  successor = 0;
  next = refl;
}

pub run_44 : RegReachable receivers_classes receivers_program receivers_44
run_44 = chosen receivers_classes receivers_program receivers_43 receivers_44 run_43 record {
  frame = _;
  below = _;
  frames = refl;
  node = _;
  stands = refl;
  change = Sets ((33, Address 3) ∷ []);
  effect = (record { at = record { address = 1; object = _; value = refl; stands = refl }; kind_is = refl; place = 1; value = Address 3; stands = refl }, refl);
  successor = 0;
  next = refl;
}

pub run_45 : RegReachable receivers_classes receivers_program receivers_45
run_45 = chosen receivers_classes receivers_program receivers_44 receivers_45 run_44 record {
  frame = _;
  below = _;
  frames = refl;
  node = _;
  stands = refl;
  change = Enters 20 (Address 3 ∷ []);
  effect = record { receiver = reg 33; first = refl; at = record { address = 3; object = _; value = refl; stands = refl }; to = 20; target = refl; change = refl };
  successor = 0;
  next = refl;
}

pub run_46 : RegReachable receivers_classes receivers_program receivers_46
run_46 = chosen receivers_classes receivers_program receivers_45 receivers_46 run_45 record {
  frame = _;
  below = _;
  frames = refl;
  node = _;
  stands = refl;
  change = Sets [];
  effect = refl;
  successor = 0;
  next = refl;
}

pub run_47 : RegReachable receivers_classes receivers_program receivers_47
run_47 = chosen receivers_classes receivers_program receivers_46 receivers_47 run_46 record {
  frame = _;
  below = _;
  frames = refl;
  node = _;
  stands = refl;
  change = Leaves (Some 22);
  effect = refl;
  successor = 0;
  next = refl;
}

pub run_48 : RegReachable receivers_classes receivers_program receivers_48
run_48 = chosen receivers_classes receivers_program receivers_47 receivers_48 run_47 record {
  frame = _;
  below = _;
  frames = refl;
  node = _;
  stands = refl;
  change = SetsStatic 0 (Address 3);
  effect = refl;
  successor = 0;
  next = refl;
}

pub run_49 : RegReachable receivers_classes receivers_program receivers_49
run_49 = chosen receivers_classes receivers_program receivers_48 receivers_49 run_48 record {
  frame = _;
  below = _;
  frames = refl;
  node = _;
  stands = refl;
  change = Leaves None;
  effect = refl;
  successor = 0;
  next = refl;
}

pub run_50 : RegReachable receivers_classes receivers_program receivers_50
run_50 = chosen receivers_classes receivers_program receivers_49 receivers_50 run_49 record {
  frame = _;
  below = _;
  frames = refl;
  node = _;
  stands = refl;
  change = Leaves None;
  effect = refl;
  successor = 0;
  next = refl;
}

-- The run of the program of the Activity that stores itself, under the chart,, computed step by step.
use Rattle.std.proofs.Common.{inl, [], ◌∷◌, None, pos, refl}
use Rattle.th_ir.specs.Machine.{Address, IntValue, new_object}
use Rattle.th_ir.specs.Effects.{Sets, SetsStatic, SetsField, Makes, Enters, Leaves}
use Rattle.th_ir.specs.Fields.{stage_field}
use Rattle.th_ir.specs.Step.{RegReachable}
use Rattle.th_ir.specs.Worked.{reg}
use Rattle.th_ir.specs.WorkedStoring.{storing_classes}
use Rattle.th_ir.specs.WorkedCharted.{charted_program, charted_0, charted_1, charted_2, charted_3, charted_4, charted_5, charted_6, charted_7, charted_8, charted_9, charted_10, charted_11, charted_12, charted_13, charted_14, charted_15, charted_16, charted_17, charted_18, charted_19, charted_20, charted_21, charted_22, charted_23, charted_24, charted_25, charted_26, charted_27, charted_28, charted_29, charted_30}
use Rattle.th_ir.proofs.Applied.{chosen, begun}

run_0 : RegReachable storing_classes charted_program charted_0
run_0 = ([], refl)

pub run_1 : RegReachable storing_classes charted_program charted_1
run_1 = begun storing_classes charted_program charted_0 charted_1 record { 0 = 19 } run_0 refl (0, refl) refl

pub run_2 : RegReachable storing_classes charted_program charted_2
run_2 = chosen storing_classes charted_program charted_1 charted_2 run_1 record {
  frame = _;
  below = _;
  frames = refl;
  node = _;
  stands = refl;
  change = Sets [];
  effect = inl refl;
  successor = 0;
  next = refl;
}

pub run_3 : RegReachable storing_classes charted_program charted_3
run_3 = chosen storing_classes charted_program charted_2 charted_3 run_2 record {
  frame = _;
  below = _;
  frames = refl;
  node = _;
  stands = refl;
  change = Makes 22 (new_object storing_classes 11 0);
  effect = (11, refl, refl);
  successor = 0;
  next = refl;
}

pub run_4 : RegReachable storing_classes charted_program charted_4
run_4 = chosen storing_classes charted_program charted_3 charted_4 run_3 record {
  frame = _;
  below = _;
  frames = refl;
  node = _;
  stands = refl;
  change = Enters 17 (Address 0 ∷ []);
  effect = record { receiver = reg 22; first = refl; at = record { address = 0; object = _; value = refl; stands = refl }; to = 17; target = refl; change = refl };
  successor = 0;
  next = refl;
}

pub run_5 : RegReachable storing_classes charted_program charted_5
run_5 = chosen storing_classes charted_program charted_4 charted_5 run_4 record {
  frame = _;
  below = _;
  frames = refl;
  node = _;
  stands = refl;
  change = Sets [];
  effect = refl;
  successor = 0;
  next = refl;
}

pub run_6 : RegReachable storing_classes charted_program charted_6
run_6 = chosen storing_classes charted_program charted_5 charted_6 run_5 record {
  frame = _;
  below = _;
  frames = refl;
  node = _;
  stands = refl;
  change = Enters 8 (Address 0 ∷ []);
  effect = record { receiver = reg 19; first = refl; at = record { address = 0; object = _; value = refl; stands = refl }; to = 8; target = refl; change = refl };
  successor = 0;
  next = refl;
}

pub run_7 : RegReachable storing_classes charted_program charted_7
run_7 = chosen storing_classes charted_program charted_6 charted_7 run_6 record {
  frame = _;
  below = _;
  frames = refl;
  node = _;
  stands = refl;
  change = Leaves None;
  effect = refl;
  successor = 0;
  next = refl;
}

pub run_8 : RegReachable storing_classes charted_program charted_8
run_8 = chosen storing_classes charted_program charted_7 charted_8 run_7 record {
  frame = _;
  below = _;
  frames = refl;
  node = _;
  stands = refl;
  change = Leaves None;
  effect = refl;
  successor = 0;
  next = refl;
}

pub run_9 : RegReachable storing_classes charted_program charted_9
run_9 = chosen storing_classes charted_program charted_8 charted_9 run_8 record {
  frame = _;
  below = _;
  frames = refl;
  node = _;
  stands = refl;
  change = Leaves None;
  effect = refl;
  successor = 0;
  next = refl;
}

pub run_10 : RegReachable storing_classes charted_program charted_10
run_10 = begun storing_classes charted_program charted_9 charted_10 record { 0 = 20 } run_9 refl (1, refl) refl

pub run_11 : RegReachable storing_classes charted_program charted_11
run_11 = chosen storing_classes charted_program charted_10 charted_11 run_10 record {
  frame = _;
  below = _;
  frames = refl;
  node = _;
  stands = refl;
  change = Sets ((23, Address 0) ∷ []);
  effect = (0, _, (0, refl), refl, refl, refl);
  successor = 0;
  next = refl;
}

pub run_12 : RegReachable storing_classes charted_program charted_12
run_12 = chosen storing_classes charted_program charted_11 charted_12 run_11 record {
  frame = _;
  below = _;
  frames = refl;
  node = _;
  stands = refl;
  change = Sets ((24, IntValue (pos 0)) ∷ []);
  effect = (record { address = 0; object = _; value = refl; stands = refl }, IntValue (pos 0), refl, refl);
  successor = 0;
  next = refl;
}

pub run_13 : RegReachable storing_classes charted_program charted_13
run_13 = chosen storing_classes charted_program charted_12 charted_13 run_12 record {
  frame = _;
  below = _;
  frames = refl;
  node = _;
  stands = refl;
  change = Sets [];
  effect = (refl, refl);
  successor = 0;
  next = refl;
}

pub run_14 : RegReachable storing_classes charted_program charted_14
run_14 = chosen storing_classes charted_program charted_13 charted_14 run_13 record {
  frame = _;
  below = _;
  frames = refl;
  node = _;
  stands = refl;
  change = Sets ((25, IntValue (pos 1)) ∷ []);
  effect = refl;
  successor = 0;
  next = refl;
}

pub run_15 : RegReachable storing_classes charted_program charted_15
run_15 = chosen storing_classes charted_program charted_14 charted_15 run_14 record {
  frame = _;
  below = _;
  frames = refl;
  node = _;
  stands = refl;
  change = SetsField 0 stage_field (IntValue (pos 1));
  effect = (record { address = 0; object = _; value = refl; stands = refl }, IntValue (pos 0), refl, refl);
  successor = 1;
  next = refl;
}

pub run_16 : RegReachable storing_classes charted_program charted_16
run_16 = chosen storing_classes charted_program charted_15 charted_16 run_15 record {
  frame = _;
  below = _;
  frames = refl;
  node = _;
  stands = refl;
  change = Makes 26 (new_object storing_classes 8 1);
  effect = (8, refl, refl);
  successor = 0;
  next = refl;
}

pub run_17 : RegReachable storing_classes charted_program charted_17
run_17 = chosen storing_classes charted_program charted_16 charted_17 run_16 record {
  frame = _;
  below = _;
  frames = refl;
  node = _;
  stands = refl;
  change = Enters 18 (Address 0 ∷ Address 1 ∷ []);
  effect = record { receiver = reg 23; first = refl; at = record { address = 0; object = _; value = refl; stands = refl }; to = 18; target = refl; change = refl };
  successor = 0;
  next = refl;
}

pub run_18 : RegReachable storing_classes charted_program charted_18
run_18 = chosen storing_classes charted_program charted_17 charted_18 run_17 record {
  frame = _;
  below = _;
  frames = refl;
  node = _;
  stands = refl;
  change = Sets [];
  effect = refl;
  successor = 0;
  next = refl;
}

pub run_19 : RegReachable storing_classes charted_program charted_19
run_19 = chosen storing_classes charted_program charted_18 charted_19 run_18 record {
  frame = _;
  below = _;
  frames = refl;
  node = _;
  stands = refl;
  change = SetsStatic 0 (Address 0);
  effect = refl;
  successor = 0;
  next = refl;
}

pub run_20 : RegReachable storing_classes charted_program charted_20
run_20 = chosen storing_classes charted_program charted_19 charted_20 run_19 record {
  frame = _;
  below = _;
  frames = refl;
  node = _;
  stands = refl;
  change = Leaves None;
  effect = refl;
  successor = 0;
  next = refl;
}

pub run_21 : RegReachable storing_classes charted_program charted_21
run_21 = chosen storing_classes charted_program charted_20 charted_21 run_20 record {
  frame = _;
  below = _;
  frames = refl;
  node = _;
  stands = refl;
  change = Leaves None;
  effect = refl;
  successor = 0;
  next = refl;
}

pub run_22 : RegReachable storing_classes charted_program charted_22
run_22 = begun storing_classes charted_program charted_21 charted_22 record { 0 = 21 } run_21 refl (2, refl) refl

pub run_23 : RegReachable storing_classes charted_program charted_23
run_23 = chosen storing_classes charted_program charted_22 charted_23 run_22 record {
  frame = _;
  below = _;
  frames = refl;
  node = _;
  stands = refl;
  change = Sets ((27, Address 0) ∷ []);
  effect = (0, _, (0, refl), refl, refl, refl);
  successor = 0;
  next = refl;
}

pub run_24 : RegReachable storing_classes charted_program charted_24
run_24 = chosen storing_classes charted_program charted_23 charted_24 run_23 record {
  frame = _;
  below = _;
  frames = refl;
  node = _;
  stands = refl;
  change = Sets ((28, IntValue (pos 1)) ∷ []);
  effect = (record { address = 0; object = _; value = refl; stands = refl }, IntValue (pos 1), refl, refl);
  successor = 0;
  next = refl;
}

pub run_25 : RegReachable storing_classes charted_program charted_25
run_25 = chosen storing_classes charted_program charted_24 charted_25 run_24 record {
  frame = _;
  below = _;
  frames = refl;
  node = _;
  stands = refl;
  change = Sets [];
  effect = (refl, refl);
  successor = 0;
  next = refl;
}

pub run_26 : RegReachable storing_classes charted_program charted_26
run_26 = chosen storing_classes charted_program charted_25 charted_26 run_25 record {
  frame = _;
  below = _;
  frames = refl;
  node = _;
  stands = refl;
  change = Sets ((29, IntValue (pos 2)) ∷ []);
  effect = refl;
  successor = 0;
  next = refl;
}

pub run_27 : RegReachable storing_classes charted_program charted_27
run_27 = chosen storing_classes charted_program charted_26 charted_27 run_26 record {
  frame = _;
  below = _;
  frames = refl;
  node = _;
  stands = refl;
  change = SetsField 0 stage_field (IntValue (pos 2));
  effect = (record { address = 0; object = _; value = refl; stands = refl }, IntValue (pos 1), refl, refl);
  successor = 0;
  next = refl;
}

pub run_28 : RegReachable storing_classes charted_program charted_28
run_28 = chosen storing_classes charted_program charted_27 charted_28 run_27 record {
  frame = _;
  below = _;
  frames = refl;
  node = _;
  stands = refl;
  change = Enters 10 (Address 0 ∷ []);
  effect = record { receiver = reg 27; first = refl; at = record { address = 0; object = _; value = refl; stands = refl }; to = 10; target = refl; change = refl };
  successor = 0;
  next = refl;
}

pub run_29 : RegReachable storing_classes charted_program charted_29
run_29 = chosen storing_classes charted_program charted_28 charted_29 run_28 record {
  frame = _;
  below = _;
  frames = refl;
  node = _;
  stands = refl;
  change = Leaves None;
  effect = refl;
  successor = 0;
  next = refl;
}

pub run_30 : RegReachable storing_classes charted_program charted_30
run_30 = chosen storing_classes charted_program charted_29 charted_30 run_29 record {
  frame = _;
  below = _;
  frames = refl;
  node = _;
  stands = refl;
  change = Leaves None;
  effect = refl;
  successor = 0;
  next = refl;
}

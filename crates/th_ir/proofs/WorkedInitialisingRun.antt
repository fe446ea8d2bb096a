-- The run of the program of two initialised classes, computed step by step.
use Rattle.std.proofs.Common.{inl, inr, [], ◌∷◌, None, refl}
use Rattle.th_ir.specs.Machine.{NullValue, Address, new_object}
use Rattle.th_ir.specs.Effects.{Sets, SetsStatic, Makes, Enters, Leaves}
use Rattle.th_ir.specs.Step.{RegReachable}
use Rattle.th_ir.specs.Worked.{reg}
use Rattle.th_ir.specs.WorkedInitialising.{initialising_classes, initialising_program, initialising_0, initialising_1, initialising_2, initialising_3, initialising_4, initialising_5, initialising_6, initialising_7, initialising_8, initialising_9, initialising_10, initialising_11, initialising_12, initialising_13, initialising_14, initialising_15, initialising_16, initialising_17, initialising_18, initialising_19, initialising_20, initialising_21, initialising_22, initialising_23, initialising_24, initialising_25, initialising_26, initialising_27, initialising_28, initialising_29, initialising_30, initialising_31, initialising_32}
use Rattle.th_ir.proofs.Applied.{chosen, begun}

run_0 : RegReachable initialising_classes initialising_program initialising_0
run_0 = ([], refl)

pub run_1 : RegReachable initialising_classes initialising_program initialising_1
run_1 = begun initialising_classes initialising_program initialising_0 initialising_1 record { 0 = 23 } run_0 refl (0, refl) refl

pub run_2 : RegReachable initialising_classes initialising_program initialising_2
run_2 = chosen initialising_classes initialising_program initialising_1 initialising_2 run_1 record {
  frame = _;
  below = _;
  frames = refl;
  node = _;
  stands = refl;
  change = Sets [];
  effect = inl refl;
  successor = 0;
  next = refl;
}

pub run_3 : RegReachable initialising_classes initialising_program initialising_3
run_3 = chosen initialising_classes initialising_program initialising_2 initialising_3 run_2 record {
  frame = _;
  below = _;
  frames = refl;
  node = _;
  stands = refl;
  change = Makes 25 (new_object initialising_classes 13 0);
  effect = (13, refl, refl);
  successor = 0;
  next = refl;
}

pub run_4 : RegReachable initialising_classes initialising_program initialising_4
run_4 = chosen initialising_classes initialising_program initialising_3 initialising_4 run_3 record {
  frame = _;
  below = _;
  frames = refl;
  node = _;
  stands = refl;
  change = Enters 21 (Address 0 ∷ []);
  effect = record { receiver = reg 25; first = refl; at = record { address = 0; object = _; value = refl; stands = refl }; to = 21; target = refl; change = refl };
  successor = 0;
  next = refl;
}

pub run_5 : RegReachable initialising_classes initialising_program initialising_5
run_5 = chosen initialising_classes initialising_program initialising_4 initialising_5 run_4 record {
  frame = _;
  below = _;
  frames = refl;
  node = _;
  stands = refl;
  change = Sets [];
  effect = refl;
  successor = 0;
  next = refl;
}

pub run_6 : RegReachable initialising_classes initialising_program initialising_6
run_6 = chosen initialising_classes initialising_program initialising_5 initialising_6 run_5 record {
  frame = _;
  below = _;
  frames = refl;
  node = _;
  stands = refl;
  change = Enters 8 (Address 0 ∷ []);
  effect = record { receiver = reg 22; first = refl; at = record { address = 0; object = _; value = refl; stands = refl }; to = 8; target = refl; change = refl };
  successor = 0;
  next = refl;
}

pub run_7 : RegReachable initialising_classes initialising_program initialising_7
run_7 = chosen initialising_classes initialising_program initialising_6 initialising_7 run_6 record {
  frame = _;
  below = _;
  frames = refl;
  node = _;
  stands = refl;
  change = Leaves None;
  effect = refl;
  successor = 0;
  next = refl;
}

pub run_8 : RegReachable initialising_classes initialising_program initialising_8
run_8 = chosen initialising_classes initialising_program initialising_7 initialising_8 run_7 record {
  frame = _;
  below = _;
  frames = refl;
  node = _;
  stands = refl;
  change = Leaves None;
  effect = refl;
  successor = 0;
  next = refl;
}

pub run_9 : RegReachable initialising_classes initialising_program initialising_9
run_9 = chosen initialising_classes initialising_program initialising_8 initialising_9 run_8 record {
  frame = _;
  below = _;
  frames = refl;
  node = _;
  stands = refl;
  change = Leaves None;
  effect = refl;
  successor = 0;
  next = refl;
}

pub run_10 : RegReachable initialising_classes initialising_program initialising_10
run_10 = begun initialising_classes initialising_program initialising_9 initialising_10 record { 0 = 24 } run_9 refl (1, refl) refl

pub run_11 : RegReachable initialising_classes initialising_program initialising_11
run_11 = chosen initialising_classes initialising_program initialising_10 initialising_11 run_10 record {
  frame = _;
  below = _;
  frames = refl;
  node = _;
  stands = refl;
  change = Sets ((26, Address 0) ∷ []);
  effect = (0, _, (0, refl), refl, refl, refl);
  successor = 0;
  next = refl;
}

pub run_12 : RegReachable initialising_classes initialising_program initialising_12
run_12 = chosen initialising_classes initialising_program initialising_11 initialising_12 run_11 record {
  frame = _;
  below = _;
  frames = refl;
  node = _;
  stands = refl;
  change = Sets ((27, NullValue) ∷ []);
  effect = refl;
  successor = 0;
  next = refl;
}

pub run_13 : RegReachable initialising_classes initialising_program initialising_13
run_13 = chosen initialising_classes initialising_program initialising_12 initialising_13 run_12 record {
  frame = _;
  below = _;
  frames = refl;
  node = _;
  stands = refl;
  change = Enters 22 (Address 0 ∷ NullValue ∷ []);
  effect = record { receiver = reg 26; first = refl; at = record { address = 0; object = _; value = refl; stands = refl }; to = 22; target = refl; change = refl };
  successor = 0;
  next = refl;
}

pub run_14 : RegReachable initialising_classes initialising_program initialising_14
run_14 = chosen initialising_classes initialising_program initialising_13 initialising_14 run_13 record {
  frame = _;
  below = _;
  frames = refl;
  node = _;
  stands = refl;
  change = Enters 18 [];
  effect = inr (18, record { class = 11; info = _; above = refl; declared = refl; number = refl }, refl);
  successor = 0;
  next = refl;
}

pub run_15 : RegReachable initialising_classes initialising_program initialising_15
run_15 = chosen initialising_classes initialising_program initialising_14 initialising_15 run_14 record {
  frame = _;
  below = _;
  frames = refl;
  node = _;
  stands = refl;
  change = Sets [];
  effect = inl refl;
  successor = 0;
  next = refl;
}

pub run_16 : RegReachable initialising_classes initialising_program initialising_16
run_16 = chosen initialising_classes initialising_program initialising_15 initialising_16 run_15 record {
  frame = _;
  below = _;
  frames = refl;
  node = _;
  stands = refl;
  change = Enters 20 [];
  effect = (20, refl, refl);
  successor = 0;
  next = refl;
}

pub run_17 : RegReachable initialising_classes initialising_program initialising_17
run_17 = chosen initialising_classes initialising_program initialising_16 initialising_17 run_16 record {
  frame = _;
  below = _;
  frames = refl;
  node = _;
  stands = refl;
  change = Leaves None;
  effect = refl;
  successor = 0;
  next = refl;
}

pub run_18 : RegReachable initialising_classes initialising_program initialising_18
run_18 = chosen initialising_classes initialising_program initialising_17 initialising_18 run_17 record {
  frame = _;
  below = _;
  frames = refl;
  node = _;
  stands = refl;
  change = Sets [];
  effect = inl refl;
  successor = 0;
  next = refl;
}

pub run_19 : RegReachable initialising_classes initialising_program initialising_19
run_19 = chosen initialising_classes initialising_program initialising_18 initialising_19 run_18 record {
  frame = _;
  below = _;
  frames = refl;
  node = _;
  stands = refl;
  change = Makes 20 (new_object initialising_classes 13 2);
  effect = (13, refl, refl);
  successor = 0;
  next = refl;
}

pub run_20 : RegReachable initialising_classes initialising_program initialising_20
run_20 = chosen initialising_classes initialising_program initialising_19 initialising_20 run_19 record {
  frame = _;
  below = _;
  frames = refl;
  node = _;
  stands = refl;
  change = Sets [];
  effect = refl;
  successor = 0;
  next = refl;
}

pub run_21 : RegReachable initialising_classes initialising_program initialising_21
run_21 = chosen initialising_classes initialising_program initialising_20 initialising_21 run_20 record {
  frame = _;
  below = _;
  frames = refl;
  node = _;
  stands = refl;
  change = Enters 21 (Address 1 ∷ []);
  effect = record { receiver = reg 20; first = refl; at = record { address = 1; object = _; value = refl; stands = refl }; to = 21; target = refl; change = refl };
  successor = 0;
  next = refl;
}

pub run_22 : RegReachable initialising_classes initialising_program initialising_22
run_22 = chosen initialising_classes initialising_program initialising_21 initialising_22 run_21 record {
  frame = _;
  below = _;
  frames = refl;
  node = _;
  stands = refl;
  change = Sets [];
  effect = refl;
  successor = 0;
  next = refl;
}

pub run_23 : RegReachable initialising_classes initialising_program initialising_23
run_23 = chosen initialising_classes initialising_program initialising_22 initialising_23 run_22 record {
  frame = _;
  below = _;
  frames = refl;
  node = _;
  stands = refl;
  change = Enters 8 (Address 1 ∷ []);
  effect = record { receiver = reg 22; first = refl; at = record { address = 1; object = _; value = refl; stands = refl }; to = 8; target = refl; change = refl };
  successor = 0;
  next = refl;
}

pub run_24 : RegReachable initialising_classes initialising_program initialising_24
run_24 = chosen initialising_classes initialising_program initialising_23 initialising_24 run_23 record {
  frame = _;
  below = _;
  frames = refl;
  node = _;
  stands = refl;
  change = Leaves None;
  effect = refl;
  successor = 0;
  next = refl;
}

pub run_25 : RegReachable initialising_classes initialising_program initialising_25
run_25 = chosen initialising_classes initialising_program initialising_24 initialising_25 run_24 record {
  frame = _;
  below = _;
  frames = refl;
  node = _;
  stands = refl;
  change = Leaves None;
  effect = refl;
  successor = 0;
  next = refl;
}

pub run_26 : RegReachable initialising_classes initialising_program initialising_26
run_26 = chosen initialising_classes initialising_program initialising_25 initialising_26 run_25 record {
  frame = _;
  below = _;
  frames = refl;
  node = _;
  stands = refl;
  change = SetsStatic 0 (Address 1);
  effect = refl;
  successor = 0;
  next = refl;
}

pub run_27 : RegReachable initialising_classes initialising_program initialising_27
run_27 = chosen initialising_classes initialising_program initialising_26 initialising_27 run_26 record {
  frame = _;
  below = _;
  frames = refl;
  node = _;
  stands = refl;
  change = Leaves None;
  effect = refl;
  successor = 0;
  next = refl;
}

pub run_28 : RegReachable initialising_classes initialising_program initialising_28
run_28 = chosen initialising_classes initialising_program initialising_27 initialising_28 run_27 record {
  frame = _;
  below = _;
  frames = refl;
  node = _;
  stands = refl;
  change = Sets [];
  effect = inl refl;
  successor = 0;
  next = refl;
}

pub run_29 : RegReachable initialising_classes initialising_program initialising_29
run_29 = chosen initialising_classes initialising_program initialising_28 initialising_29 run_28 record {
  frame = _;
  below = _;
  frames = refl;
  node = _;
  stands = refl;
  change = Enters 20 [];
  effect = (20, refl, refl);
  successor = 0;
  next = refl;
}

pub run_30 : RegReachable initialising_classes initialising_program initialising_30
run_30 = chosen initialising_classes initialising_program initialising_29 initialising_30 run_29 record {
  frame = _;
  below = _;
  frames = refl;
  node = _;
  stands = refl;
  change = Leaves None;
  effect = refl;
  successor = 0;
  next = refl;
}

pub run_31 : RegReachable initialising_classes initialising_program initialising_31
run_31 = chosen initialising_classes initialising_program initialising_30 initialising_31 run_30 record {
  frame = _;
  below = _;
  frames = refl;
  node = _;
  stands = refl;
  change = Leaves None;
  effect = refl;
  successor = 0;
  next = refl;
}

pub run_32 : RegReachable initialising_classes initialising_program initialising_32
run_32 = chosen initialising_classes initialising_program initialising_31 initialising_32 run_31 record {
  frame = _;
  below = _;
  frames = refl;
  node = _;
  stands = refl;
  change = Leaves None;
  effect = refl;
  successor = 0;
  next = refl;
}

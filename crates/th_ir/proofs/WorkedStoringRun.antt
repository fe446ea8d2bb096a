-- The run of the program of the Activity that stores itself, computed step by step.
use Rattle.std.proofs.Common.{inl, [], ◌∷◌, None, refl}
use Rattle.th_ir.specs.Machine.{NullValue, Address, new_object}
use Rattle.th_ir.specs.Effects.{Sets, SetsStatic, Makes, Enters, Leaves}
use Rattle.th_ir.specs.Step.{RegReachable}
use Rattle.th_ir.specs.Worked.{reg}
use Rattle.th_ir.specs.WorkedStoring.{storing_classes, storing_program, storing_0, storing_1, storing_2, storing_3, storing_4, storing_5, storing_6, storing_7, storing_8, storing_9, storing_10, storing_11, storing_12, storing_13, storing_14, storing_15, storing_16, storing_17}
use Rattle.th_ir.proofs.Applied.{chosen, begun}

run_0 : RegReachable storing_classes storing_program storing_0
run_0 = ([], refl)

pub run_1 : RegReachable storing_classes storing_program storing_1
run_1 = begun storing_classes storing_program storing_0 storing_1 record { 0 = 19 } run_0 refl (0, refl) refl

pub run_2 : RegReachable storing_classes storing_program storing_2
run_2 = chosen storing_classes storing_program storing_1 storing_2 run_1 record {
  frame = _;
  below = _;
  frames = refl;
  node = _;
  stands = refl;
  change = Sets [];
  effect = inl refl;
  successor = 0;
  next = refl;
}

pub run_3 : RegReachable storing_classes storing_program storing_3
run_3 = chosen storing_classes storing_program storing_2 storing_3 run_2 record {
  frame = _;
  below = _;
  frames = refl;
  node = _;
  stands = refl;
  change = Makes 22 (new_object storing_classes 11 0);
  effect = (11, refl, refl);
  successor = 0;
  next = refl;
}

pub run_4 : RegReachable storing_classes storing_program storing_4
run_4 = chosen storing_classes storing_program storing_3 storing_4 run_3 record {
  frame = _;
  below = _;
  frames = refl;
  node = _;
  stands = refl;
  change = Enters 17 (Address 0 ∷ []);
  effect = record { receiver = reg 22; first = refl; at = record { address = 0; object = _; value = refl; stands = refl }; to = 17; target = refl; change = refl };
  successor = 0;
  next = refl;
}

pub run_5 : RegReachable storing_classes storing_program storing_5
run_5 = chosen storing_classes storing_program storing_4 storing_5 run_4 record {
  frame = _;
  below = _;
  frames = refl;
  node = _;
  stands = refl;
  change = Sets [];
  effect = refl;
  successor = 0;
  next = refl;
}

pub run_6 : RegReachable storing_classes storing_program storing_6
run_6 = chosen storing_classes storing_program storing_5 storing_6 run_5 record {
  frame = _;
  below = _;
  frames = refl;
  node = _;
  stands = refl;
  change = Enters 8 (Address 0 ∷ []);
  effect = record { receiver = reg 19; first = refl; at = record { address = 0; object = _; value = refl; stands = refl }; to = 8; target = refl; change = refl };
  successor = 0;
  next = refl;
}

pub run_7 : RegReachable storing_classes storing_program storing_7
run_7 = chosen storing_classes storing_program storing_6 storing_7 run_6 record {
  frame = _;
  below = _;
  frames = refl;
  node = _;
  stands = refl;
  change = Leaves None;
  effect = refl;
  successor = 0;
  next = refl;
}

pub run_8 : RegReachable storing_classes storing_program storing_8
run_8 = chosen storing_classes storing_program storing_7 storing_8 run_7 record {
  frame = _;
  below = _;
  frames = refl;
  node = _;
  stands = refl;
  change = Leaves None;
  effect = refl;
  successor = 0;
  next = refl;
}

pub run_9 : RegReachable storing_classes storing_program storing_9
run_9 = chosen storing_classes storing_program storing_8 storing_9 run_8 record {
  frame = _;
  below = _;
  frames = refl;
  node = _;
  stands = refl;
  change = Leaves None;
  effect = refl;
  successor = 0;
  next = refl;
}

pub run_10 : RegReachable storing_classes storing_program storing_10
run_10 = begun storing_classes storing_program storing_9 storing_10 record { 0 = 20 } run_9 refl (1, refl) refl

pub run_11 : RegReachable storing_classes storing_program storing_11
run_11 = chosen storing_classes storing_program storing_10 storing_11 run_10 record {
  frame = _;
  below = _;
  frames = refl;
  node = _;
  stands = refl;
  change = Sets ((23, Address 0) ∷ []);
  effect = (0, _, (0, refl), refl, refl, refl);
  successor = 0;
  next = refl;
}

pub run_12 : RegReachable storing_classes storing_program storing_12
run_12 = chosen storing_classes storing_program storing_11 storing_12 run_11 record {
  frame = _;
  below = _;
  frames = refl;
  node = _;
  stands = refl;
  change = Sets ((24, NullValue) ∷ []);
  effect = refl;
  successor = 0;
  next = refl;
}

pub run_13 : RegReachable storing_classes storing_program storing_13
run_13 = chosen storing_classes storing_program storing_12 storing_13 run_12 record {
  frame = _;
  below = _;
  frames = refl;
  node = _;
  stands = refl;
  change = Enters 18 (Address 0 ∷ NullValue ∷ []);
  effect = record { receiver = reg 23; first = refl; at = record { address = 0; object = _; value = refl; stands = refl }; to = 18; target = refl; change = refl };
  successor = 0;
  next = refl;
}

pub run_14 : RegReachable storing_classes storing_program storing_14
run_14 = chosen storing_classes storing_program storing_13 storing_14 run_13 record {
  frame = _;
  below = _;
  frames = refl;
  node = _;
  stands = refl;
  change = Sets [];
  effect = refl;
  successor = 0;
  next = refl;
}

pub run_15 : RegReachable storing_classes storing_program storing_15
run_15 = chosen storing_classes storing_program storing_14 storing_15 run_14 record {
  frame = _;
  below = _;
  frames = refl;
  node = _;
  stands = refl;
  change = SetsStatic 0 (Address 0);
  effect = refl;
  successor = 0;
  next = refl;
}

pub run_16 : RegReachable storing_classes storing_program storing_16
run_16 = chosen storing_classes storing_program storing_15 storing_16 run_15 record {
  frame = _;
  below = _;
  frames = refl;
  node = _;
  stands = refl;
  change = Leaves None;
  effect = refl;
  successor = 0;
  next = refl;
}

pub run_17 : RegReachable storing_classes storing_program storing_17
run_17 = chosen storing_classes storing_program storing_16 storing_17 run_16 record {
  frame = _;
  below = _;
  frames = refl;
  node = _;
  stands = refl;
  change = Leaves None;
  effect = refl;
  successor = 0;
  next = refl;
}

-- The run of the program of a String constant, computed step by step.
use Rattle.std.proofs.Common.{inl, inr, [], ◌∷◌, None, refl}
use Rattle.th_ir.specs.Machine.{Address, new_object}
use Rattle.th_ir.specs.Effects.{Sets, SetsStatic, Makes, Enters, Leaves}
use Rattle.th_ir.specs.Step.{RegReachable}
use Rattle.th_ir.specs.Worked.{reg}
use Rattle.th_ir.specs.WorkedNaming.{naming_classes, naming_program, naming_0, naming_1, naming_2, naming_3, naming_4, naming_5, naming_6, naming_7, naming_8, naming_9, naming_10, naming_11, naming_12, naming_13}
use Rattle.th_ir.proofs.Applied.{chosen, begun}

run_0 : RegReachable naming_classes naming_program naming_0
run_0 = ([], refl)

pub run_1 : RegReachable naming_classes naming_program naming_1
run_1 = begun naming_classes naming_program naming_0 naming_1 record { 0 = 19 } run_0 refl (0, refl) refl

pub run_2 : RegReachable naming_classes naming_program naming_2
run_2 = chosen naming_classes naming_program naming_1 naming_2 run_1 record {
  frame = _;
  below = _;
  frames = refl;
  node = _;
  stands = refl;
  change = Enters 18 [];
  effect = inr (18, record { class = 11; info = _; above = refl; declared = refl; number = refl }, refl);
  successor = 0;
  next = refl;
}

pub run_3 : RegReachable naming_classes naming_program naming_3
run_3 = chosen naming_classes naming_program naming_2 naming_3 run_2 record {
  frame = _;
  below = _;
  frames = refl;
  node = _;
  stands = refl;
  change = Sets ((20, Address 0) ∷ []);
  effect = refl;
  successor = 0;
  next = refl;
}

pub run_4 : RegReachable naming_classes naming_program naming_4
run_4 = chosen naming_classes naming_program naming_3 naming_4 run_3 record {
  frame = _;
  below = _;
  frames = refl;
  node = _;
  stands = refl;
  change = SetsStatic 0 (Address 0);
  effect = refl;
  successor = 0;
  next = refl;
}

pub run_5 : RegReachable naming_classes naming_program naming_5
run_5 = chosen naming_classes naming_program naming_4 naming_5 run_4 record {
  frame = _;
  below = _;
  frames = refl;
  node = _;
  stands = refl;
  change = Leaves None;
  effect = refl;
  successor = 0;
  next = refl;
}

pub run_6 : RegReachable naming_classes naming_program naming_6
run_6 = chosen naming_classes naming_program naming_5 naming_6 run_5 record {
  frame = _;
  below = _;
  frames = refl;
  node = _;
  stands = refl;
  change = Sets [];
  effect = inl refl;
  successor = 0;
  next = refl;
}

pub run_7 : RegReachable naming_classes naming_program naming_7
run_7 = chosen naming_classes naming_program naming_6 naming_7 run_6 record {
  frame = _;
  below = _;
  frames = refl;
  node = _;
  stands = refl;
  change = Makes 21 (new_object naming_classes 11 1);
  effect = (11, refl, refl);
  successor = 0;
  next = refl;
}

pub run_8 : RegReachable naming_classes naming_program naming_8
run_8 = chosen naming_classes naming_program naming_7 naming_8 run_7 record {
  frame = _;
  below = _;
  frames = refl;
  node = _;
  stands = refl;
  change = Enters 17 (Address 1 ∷ []);
  effect = record { receiver = reg 21; first = refl; at = record { address = 1; object = _; value = refl; stands = refl }; to = 17; target = refl; change = refl };
  successor = 0;
  next = refl;
}

pub run_9 : RegReachable naming_classes naming_program naming_9
run_9 = chosen naming_classes naming_program naming_8 naming_9 run_8 record {
  frame = _;
  below = _;
  frames = refl;
  node = _;
  stands = refl;
  change = Sets [];
  effect = refl;
  successor = 0;
  next = refl;
}

pub run_10 : RegReachable naming_classes naming_program naming_10
run_10 = chosen naming_classes naming_program naming_9 naming_10 run_9 record {
  frame = _;
  below = _;
  frames = refl;
  node = _;
  stands = refl;
  change = Enters 8 (Address 1 ∷ []);
  effect = record { receiver = reg 19; first = refl; at = record { address = 1; object = _; value = refl; stands = refl }; to = 8; target = refl; change = refl };
  successor = 0;
  next = refl;
}

pub run_11 : RegReachable naming_classes naming_program naming_11
run_11 = chosen naming_classes naming_program naming_10 naming_11 run_10 record {
  frame = _;
  below = _;
  frames = refl;
  node = _;
  stands = refl;
  change = Leaves None;
  effect = refl;
  successor = 0;
  next = refl;
}

pub run_12 : RegReachable naming_classes naming_program naming_12
run_12 = chosen naming_classes naming_program naming_11 naming_12 run_11 record {
  frame = _;
  below = _;
  frames = refl;
  node = _;
  stands = refl;
  change = Leaves None;
  effect = refl;
  successor = 0;
  next = refl;
}

pub run_13 : RegReachable naming_classes naming_program naming_13
run_13 = chosen naming_classes naming_program naming_12 naming_13 run_12 record {
  frame = _;
  below = _;
  frames = refl;
  node = _;
  stands = refl;
  change = Leaves None;
  effect = refl;
  successor = 0;
  next = refl;
}

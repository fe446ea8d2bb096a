-- The program of two initialised classes is well formed, its harness included.
use Rattle.std.proofs.Common.{ℕ, List, [], ◌∷◌, refl, lit<}
use Rattle.th_base.specs.declared.lifecycle.Lifecycle.TheVariants.{Any}
use Rattle.th_ir.specs.Harness.{Parts, HasNodes, IsEventSite, HasHarness, launch_nodes, handler_nodes}
use Rattle.th_ir.specs.WellFormed.{IsWellFormed}
use Rattle.th_ir.specs.Worked.{reg}
use Rattle.th_ir.specs.WorkedInitialising.{initialising_files, initialising_classes, initialising_program}
use Rattle.th_ir.proofs.TestedPrograms.{numbered_methods, numbered_fields, are_methods, are_nodes, are_apart, others_ordinary, in_range, apart_object}
use Rattle.th_ir.proofs.TestedSites.{all_placed, place_once, all_launched}
use Rattle.th_ir.proofs.WorkedHandlers.{handler_at}

event : IsEventSite initialising_classes initialising_program 1
event = record { site = _; stands = refl; place = refl; class = refl }

abbrev pub parts_23 : Parts
parts_23 = record {
  first = 38;
  object = reg 25;
  stage = reg 26;
  next_stage = reg 26;
  bundle = reg 26;
  site = record { 0 = 0 };
  event = record { 0 = 1 };
  callee = record { 0 = 21 };
}

nodes_23 : HasNodes initialising_program 23 38 (launch_nodes 13 parts_23)
nodes_23 = record {
  method = _;
  stands = refl;
  owner = refl;
  params = refl;
  entry = refl;
  nodes_stand = (refl, (refl, (refl, (refl, tt))));
  only = in_range initialising_program 23 38 42 refl;
}

abbrev pub parts_24 : Parts
parts_24 = record {
  first = 42;
  object = reg 26;
  stage = reg 27;
  next_stage = reg 27;
  bundle = reg 27;
  site = record { 0 = 0 };
  event = record { 0 = 1 };
  callee = record { 0 = 9 };
}

nodes_24 : HasNodes initialising_program 24 42 (handler_nodes 13 (handler_at 0) parts_24)
nodes_24 = record {
  method = _;
  stands = refl;
  owner = refl;
  params = refl;
  entry = refl;
  nodes_stand = (refl, (refl, (refl, (refl, (refl, tt)))));
  only = in_range initialising_program 24 42 47 refl;
}

abbrev pub parts_25 : Parts
parts_25 = record {
  first = 47;
  object = reg 28;
  stage = reg 29;
  next_stage = reg 29;
  bundle = reg 29;
  site = record { 0 = 0 };
  event = record { 0 = 1 };
  callee = record { 0 = 10 };
}

nodes_25 : HasNodes initialising_program 25 47 (handler_nodes 13 (handler_at 1) parts_25)
nodes_25 = record {
  method = _;
  stands = refl;
  owner = refl;
  params = refl;
  entry = refl;
  nodes_stand = (refl, (refl, (refl, tt)));
  only = in_range initialising_program 25 47 50 refl;
}

abbrev pub parts_26 : Parts
parts_26 = record {
  first = 50;
  object = reg 29;
  stage = reg 30;
  next_stage = reg 30;
  bundle = reg 30;
  site = record { 0 = 0 };
  event = record { 0 = 1 };
  callee = record { 0 = 11 };
}

nodes_26 : HasNodes initialising_program 26 50 (handler_nodes 13 (handler_at 2) parts_26)
nodes_26 = record {
  method = _;
  stands = refl;
  owner = refl;
  params = refl;
  entry = refl;
  nodes_stand = (refl, (refl, (refl, tt)));
  only = in_range initialising_program 26 50 53 refl;
}

abbrev pub parts_27 : Parts
parts_27 = record {
  first = 53;
  object = reg 30;
  stage = reg 31;
  next_stage = reg 31;
  bundle = reg 31;
  site = record { 0 = 0 };
  event = record { 0 = 1 };
  callee = record { 0 = 12 };
}

nodes_27 : HasNodes initialising_program 27 53 (handler_nodes 13 (handler_at 3) parts_27)
nodes_27 = record {
  method = _;
  stands = refl;
  owner = refl;
  params = refl;
  entry = refl;
  nodes_stand = (refl, (refl, (refl, tt)));
  only = in_range initialising_program 27 53 56 refl;
}

abbrev pub parts_28 : Parts
parts_28 = record {
  first = 56;
  object = reg 31;
  stage = reg 32;
  next_stage = reg 32;
  bundle = reg 32;
  site = record { 0 = 0 };
  event = record { 0 = 1 };
  callee = record { 0 = 13 };
}

nodes_28 : HasNodes initialising_program 28 56 (handler_nodes 13 (handler_at 4) parts_28)
nodes_28 = record {
  method = _;
  stands = refl;
  owner = refl;
  params = refl;
  entry = refl;
  nodes_stand = (refl, (refl, (refl, tt)));
  only = in_range initialising_program 28 56 59 refl;
}

abbrev pub parts_29 : Parts
parts_29 = record {
  first = 59;
  object = reg 32;
  stage = reg 33;
  next_stage = reg 33;
  bundle = reg 33;
  site = record { 0 = 0 };
  event = record { 0 = 1 };
  callee = record { 0 = 14 };
}

nodes_29 : HasNodes initialising_program 29 59 (handler_nodes 13 (handler_at 5) parts_29)
nodes_29 = record {
  method = _;
  stands = refl;
  owner = refl;
  params = refl;
  entry = refl;
  nodes_stand = (refl, (refl, (refl, tt)));
  only = in_range initialising_program 29 59 62 refl;
}

abbrev pub parts_30 : Parts
parts_30 = record {
  first = 62;
  object = reg 33;
  stage = reg 34;
  next_stage = reg 34;
  bundle = reg 34;
  site = record { 0 = 0 };
  event = record { 0 = 1 };
  callee = record { 0 = 15 };
}

nodes_30 : HasNodes initialising_program 30 62 (handler_nodes 13 (handler_at 6) parts_30)
nodes_30 = record {
  method = _;
  stands = refl;
  owner = refl;
  params = refl;
  entry = refl;
  nodes_stand = (refl, (refl, (refl, tt)));
  only = in_range initialising_program 30 62 65 refl;
}

abbrev pub parts_31 : Parts
parts_31 = record {
  first = 65;
  object = reg 34;
  stage = reg 35;
  next_stage = reg 35;
  bundle = reg 35;
  site = record { 0 = 0 };
  event = record { 0 = 1 };
  callee = record { 0 = 16 };
}

nodes_31 : HasNodes initialising_program 31 65 (handler_nodes 13 (handler_at 7) parts_31)
nodes_31 = record {
  method = _;
  stands = refl;
  owner = refl;
  params = refl;
  entry = refl;
  nodes_stand = (refl, (refl, (refl, (refl, (refl, tt)))));
  only = in_range initialising_program 31 65 70 refl;
}

pub has_harness : HasHarness initialising_classes Any initialising_program
has_harness = (
  refl,
  (parts_23, apart_object parts_23 refl, (refl, record { info = _; declared = refl; number = refl }, nodes_23)),
  (
    refl,
    (parts_24, apart_object parts_24 refl, (record { event = event; callee = record { info = _; declared = refl; number = refl } }, nodes_24)),
    (
      refl,
      (parts_25, apart_object parts_25 refl, (record { event = event; callee = record { info = _; declared = refl; number = refl } }, nodes_25)),
      (
        refl,
        (parts_26, apart_object parts_26 refl, (record { event = event; callee = record { info = _; declared = refl; number = refl } }, nodes_26)),
        (
          refl,
          (parts_27, apart_object parts_27 refl, (record { event = event; callee = record { info = _; declared = refl; number = refl } }, nodes_27)),
          (
            refl,
            (parts_28, apart_object parts_28 refl, (record { event = event; callee = record { info = _; declared = refl; number = refl } }, nodes_28)),
            (
              refl,
              (parts_29, apart_object parts_29 refl, (record { event = event; callee = record { info = _; declared = refl; number = refl } }, nodes_29)),
              (
                refl,
                (parts_30, apart_object parts_30 refl, (record { event = event; callee = record { info = _; declared = refl; number = refl } }, nodes_30)),
                (refl, (parts_31, apart_object parts_31 refl, (record { event = event; callee = record { info = _; declared = refl; number = refl } }, nodes_31)), tt),
              ),
            ),
          ),
        ),
      ),
    ),
  ),
)

-- the method that uses each register
abbrev pub users : List ℕ
users =
    0 ∷ 1 ∷ 2 ∷ 3 ∷ 4 ∷ 5 ∷ 6 ∷ 7 ∷ 8 ∷ 9 ∷ 9 ∷ 10 ∷ 11 ∷ 12 ∷ 13 ∷ 14 ∷ 15 ∷ 16 ∷ 16 ∷ 17 ∷ 18 ∷ 19 ∷
    21 ∷ 22 ∷ 22 ∷ 23 ∷ 24 ∷ 24 ∷ 25 ∷ 26 ∷ 27 ∷ 28 ∷ 29 ∷ 30 ∷ 31 ∷ 31 ∷ []

pub well_formed : IsWellFormed initialising_classes initialising_program
well_formed = record {
  numbers = record {
    files = initialising_files;
    built_in = refl;
    names = (refl, (refl, (refl, (refl, (refl, (refl, (refl, (refl, (refl, (refl, (refl, (refl, (refl, (refl, tt))))))))))))));
    methods = numbered_methods initialising_classes refl;
    fields = numbered_fields initialising_classes refl;
    few_fields = lit< tt;
  };
  methods = are_methods initialising_classes initialising_program refl refl refl;
  nodes = are_nodes initialising_classes initialising_program (λ n. n) refl;
  registers = are_apart users initialising_program refl refl;
  sites = record {
    placed = all_placed initialising_classes initialising_program refl;
    once = λ s k x y is other same. place_once initialising_program.sites s k x y refl is other same;
    strings_first = (λ e. absurd cc, λ e. (refl, (refl, tt)));
    launches = all_launched initialising_classes initialising_program 0 refl;
    event = (1, event);
  };
  constants = record { ints = tt; ints_once = tt; strings = tt; strings_once = tt };
  harness = record { lifecycle = Any; methods = has_harness; others = others_ordinary initialising_program refl };
}

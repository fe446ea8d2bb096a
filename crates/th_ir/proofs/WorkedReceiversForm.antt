-- The program of two receivers at one call is well formed, its harness included.
use Rattle.std.proofs.Common.{ℕ, List, [], ◌∷◌, refl, lit<}
use Rattle.th_base.specs.declared.lifecycle.Lifecycle.TheVariants.{Any}
use Rattle.th_ir.specs.Harness.{Parts, HasNodes, IsEventSite, HasHarness, launch_nodes, handler_nodes}
use Rattle.th_ir.specs.WellFormed.{IsWellFormed}
use Rattle.th_ir.specs.Worked.{reg}
use Rattle.th_ir.specs.WorkedReceivers.{receivers_files, receivers_classes, receivers_program}
use Rattle.th_ir.proofs.TestedPrograms.{numbered_methods, numbered_fields, are_methods, are_nodes, are_apart, others_ordinary, in_range, apart_object}
use Rattle.th_ir.proofs.TestedSites.{all_placed, place_once, all_launched}
use Rattle.th_ir.proofs.WorkedHandlers.{handler_at}

event : IsEventSite receivers_classes receivers_program 1
event = record { site = _; stands = refl; place = refl; class = refl }

abbrev pub parts_23 : Parts
parts_23 = record {
  first = 53;
  object = reg 35;
  stage = reg 36;
  next_stage = reg 36;
  bundle = reg 36;
  site = record { 0 = 0 };
  event = record { 0 = 1 };
  callee = record { 0 = 21 };
}

nodes_23 : HasNodes receivers_program 23 53 (launch_nodes 13 parts_23)
nodes_23 = record {
  method = _;
  stands = refl;
  owner = refl;
  params = refl;
  entry = refl;
  nodes_stand = (refl, (refl, (refl, (refl, tt))));
  only = in_range receivers_program 23 53 57 refl;
}

abbrev pub parts_24 : Parts
parts_24 = record {
  first = 57;
  object = reg 36;
  stage = reg 37;
  next_stage = reg 37;
  bundle = reg 37;
  site = record { 0 = 0 };
  event = record { 0 = 1 };
  callee = record { 0 = 9 };
}

nodes_24 : HasNodes receivers_program 24 57 (handler_nodes 13 (handler_at 0) parts_24)
nodes_24 = record {
  method = _;
  stands = refl;
  owner = refl;
  params = refl;
  entry = refl;
  nodes_stand = (refl, (refl, (refl, (refl, (refl, tt)))));
  only = in_range receivers_program 24 57 62 refl;
}

abbrev pub parts_25 : Parts
parts_25 = record {
  first = 62;
  object = reg 38;
  stage = reg 39;
  next_stage = reg 39;
  bundle = reg 39;
  site = record { 0 = 0 };
  event = record { 0 = 1 };
  callee = record { 0 = 10 };
}

nodes_25 : HasNodes receivers_program 25 62 (handler_nodes 13 (handler_at 1) parts_25)
nodes_25 = record {
  method = _;
  stands = refl;
  owner = refl;
  params = refl;
  entry = refl;
  nodes_stand = (refl, (refl, (refl, tt)));
  only = in_range receivers_program 25 62 65 refl;
}

abbrev pub parts_26 : Parts
parts_26 = record {
  first = 65;
  object = reg 39;
  stage = reg 40;
  next_stage = reg 40;
  bundle = reg 40;
  site = record { 0 = 0 };
  event = record { 0 = 1 };
  callee = record { 0 = 11 };
}

nodes_26 : HasNodes receivers_program 26 65 (handler_nodes 13 (handler_at 2) parts_26)
nodes_26 = record {
  method = _;
  stands = refl;
  owner = refl;
  params = refl;
  entry = refl;
  nodes_stand = (refl, (refl, (refl, tt)));
  only = in_range receivers_program 26 65 68 refl;
}

abbrev pub parts_27 : Parts
parts_27 = record {
  first = 68;
  object = reg 40;
  stage = reg 41;
  next_stage = reg 41;
  bundle = reg 41;
  site = record { 0 = 0 };
  event = record { 0 = 1 };
  callee = record { 0 = 12 };
}

nodes_27 : HasNodes receivers_program 27 68 (handler_nodes 13 (handler_at 3) parts_27)
nodes_27 = record {
  method = _;
  stands = refl;
  owner = refl;
  params = refl;
  entry = refl;
  nodes_stand = (refl, (refl, (refl, tt)));
  only = in_range receivers_program 27 68 71 refl;
}

abbrev pub parts_28 : Parts
parts_28 = record {
  first = 71;
  object = reg 41;
  stage = reg 42;
  next_stage = reg 42;
  bundle = reg 42;
  site = record { 0 = 0 };
  event = record { 0 = 1 };
  callee = record { 0 = 13 };
}

nodes_28 : HasNodes receivers_program 28 71 (handler_nodes 13 (handler_at 4) parts_28)
nodes_28 = record {
  method = _;
  stands = refl;
  owner = refl;
  params = refl;
  entry = refl;
  nodes_stand = (refl, (refl, (refl, tt)));
  only = in_range receivers_program 28 71 74 refl;
}

abbrev pub parts_29 : Parts
parts_29 = record {
  first = 74;
  object = reg 42;
  stage = reg 43;
  next_stage = reg 43;
  bundle = reg 43;
  site = record { 0 = 0 };
  event = record { 0 = 1 };
  callee = record { 0 = 14 };
}

nodes_29 : HasNodes receivers_program 29 74 (handler_nodes 13 (handler_at 5) parts_29)
nodes_29 = record {
  method = _;
  stands = refl;
  owner = refl;
  params = refl;
  entry = refl;
  nodes_stand = (refl, (refl, (refl, tt)));
  only = in_range receivers_program 29 74 77 refl;
}

abbrev pub parts_30 : Parts
parts_30 = record {
  first = 77;
  object = reg 43;
  stage = reg 44;
  next_stage = reg 44;
  bundle = reg 44;
  site = record { 0 = 0 };
  event = record { 0 = 1 };
  callee = record { 0 = 15 };
}

nodes_30 : HasNodes receivers_program 30 77 (handler_nodes 13 (handler_at 6) parts_30)
nodes_30 = record {
  method = _;
  stands = refl;
  owner = refl;
  params = refl;
  entry = refl;
  nodes_stand = (refl, (refl, (refl, tt)));
  only = in_range receivers_program 30 77 80 refl;
}

abbrev pub parts_31 : Parts
parts_31 = record {
  first = 80;
  object = reg 44;
  stage = reg 45;
  next_stage = reg 45;
  bundle = reg 45;
  site = record { 0 = 0 };
  event = record { 0 = 1 };
  callee = record { 0 = 16 };
}

nodes_31 : HasNodes receivers_program 31 80 (handler_nodes 13 (handler_at 7) parts_31)
nodes_31 = record {
  method = _;
  stands = refl;
  owner = refl;
  params = refl;
  entry = refl;
  nodes_stand = (refl, (refl, (refl, (refl, (refl, tt)))));
  only = in_range receivers_program 31 80 85 refl;
}

pub has_harness : HasHarness receivers_classes Any receivers_program
has_harness = (
  refl,
  (parts_23, apart_object parts_23 refl, (refl, record { info = _; declared = refl; number = refl }, nodes_23)),
  (
    refl,
    (parts_24, apart_object parts_24 refl, (record { event = event; callee = record { info = _; declared = refl; number = refl } }, nodes_24)),
    (
      refl,
      (parts_25, apart_object parts_25 refl, (record { event = event; callee = record { info = _; declared = refl; number = refl } }, nodes_25)),
      (
        refl,
        (parts_26, apart_object parts_26 refl, (record { event = event; callee = record { info = _; declared = refl; number = refl } }, nodes_26)),
        (
          refl,
          (parts_27, apart_object parts_27 refl, (record { event = event; callee = record { info = _; declared = refl; number = refl } }, nodes_27)),
          (
            refl,
            (parts_28, apart_object parts_28 refl, (record { event = event; callee = record { info = _; declared = refl; number = refl } }, nodes_28)),
            (
              refl,
              (parts_29, apart_object parts_29 refl, (record { event = event; callee = record { info = _; declared = refl; number = refl } }, nodes_29)),
              (
                refl,
                (parts_30, apart_object parts_30 refl, (record { event = event; callee = record { info = _; declared = refl; number = refl } }, nodes_30)),
                (refl, (parts_31, apart_object parts_31 refl, (record { event = event; callee = record { info = _; declared = refl; number = refl } }, nodes_31)), tt),
              ),
            ),
          ),
        ),
      ),
    ),
  ),
)

-- the method that uses each register
abbrev pub users : List ℕ
users =
    0 ∷ 1 ∷ 2 ∷ 3 ∷ 4 ∷ 5 ∷ 6 ∷ 7 ∷ 8 ∷ 9 ∷ 9 ∷ 10 ∷ 11 ∷ 12 ∷ 13 ∷ 14 ∷ 15 ∷ 16 ∷ 16 ∷ 17 ∷ 18 ∷ 19 ∷
    20 ∷ 21 ∷ 22 ∷ 22 ∷ 22 ∷ 22 ∷ 22 ∷ 22 ∷ 22 ∷ 22 ∷ 22 ∷ 22 ∷ 22 ∷ 23 ∷ 24 ∷ 24 ∷ 25 ∷ 26 ∷ 27 ∷ 28 ∷
    29 ∷ 30 ∷ 31 ∷ 31 ∷ []

pub well_formed : IsWellFormed receivers_classes receivers_program
well_formed = record {
  numbers = record {
    files = receivers_files;
    built_in = refl;
    names = (refl, (refl, (refl, (refl, (refl, (refl, (refl, (refl, (refl, (refl, (refl, (refl, (refl, (refl, tt))))))))))))));
    methods = numbered_methods receivers_classes refl;
    fields = numbered_fields receivers_classes refl;
    few_fields = lit< tt;
  };
  methods = are_methods receivers_classes receivers_program refl refl refl;
  nodes = are_nodes receivers_classes receivers_program (λ n. n) refl;
  registers = are_apart users receivers_program refl refl;
  sites = record {
    placed = all_placed receivers_classes receivers_program refl;
    once = λ s k x y is other same. place_once receivers_program.sites s k x y refl is other same;
    strings_first = (λ e. absurd cc, λ e. (refl, (refl, (refl, (refl, tt)))));
    launches = all_launched receivers_classes receivers_program 0 refl;
    event = (1, event);
  };
  constants = record { ints = tt; ints_once = tt; strings = tt; strings_once = tt };
  harness = record { lifecycle = Any; methods = has_harness; others = others_ordinary receivers_program refl };
}

-- The program of the Activity that stores itself, under the chart, is well formed, its harness included.
use Rattle.std.proofs.Common.{ℕ, List, [], ◌∷◌, refl, lit<}
use Rattle.th_base.specs.declared.lifecycle.Lifecycle.TheVariants.{Chart}
use Rattle.th_ir.specs.Harness.{Parts, HasNodes, IsEventSite, HasHarness, launch_nodes, row_nodes}
use Rattle.th_ir.specs.WellFormed.{IsWellFormed}
use Rattle.th_ir.specs.Worked.{reg}
use Rattle.th_ir.specs.WorkedStoring.{storing_files, storing_classes}
use Rattle.th_ir.specs.WorkedCharted.{charted_program}
use Rattle.th_ir.proofs.TestedPrograms.{numbered_methods, numbered_fields, are_methods, are_nodes, are_apart, others_ordinary, in_range, apart_object}
use Rattle.th_ir.proofs.TestedSites.{all_placed, place_once, all_launched}
use Rattle.th_ir.proofs.WorkedHandlers.{row_at}

event : IsEventSite storing_classes charted_program 1
event = record { site = _; stands = refl; place = refl; class = refl }

abbrev pub parts_19 : Parts
parts_19 = record {
  first = 23;
  object = reg 22;
  stage = reg 23;
  next_stage = reg 23;
  bundle = reg 23;
  site = record { 0 = 0 };
  event = record { 0 = 1 };
  callee = record { 0 = 17 };
}

nodes_19 : HasNodes charted_program 19 23 (launch_nodes 11 parts_19)
nodes_19 = record {
  method = _;
  stands = refl;
  owner = refl;
  params = refl;
  entry = refl;
  nodes_stand = (refl, (refl, (refl, (refl, tt))));
  only = in_range charted_program 19 23 27 refl;
}

abbrev pub parts_20 : Parts
parts_20 = record {
  first = 27;
  object = reg 23;
  stage = reg 24;
  next_stage = reg 25;
  bundle = reg 26;
  site = record { 0 = 0 };
  event = record { 0 = 1 };
  callee = record { 0 = 9 };
}

nodes_20 : HasNodes charted_program 20 27 (row_nodes 11 (row_at 0) parts_20)
nodes_20 = record {
  method = _;
  stands = refl;
  owner = refl;
  params = refl;
  entry = refl;
  nodes_stand = (refl, (refl, (refl, (refl, (refl, (refl, (refl, (refl, (refl, tt)))))))));
  only = in_range charted_program 20 27 36 refl;
}

abbrev pub parts_21 : Parts
parts_21 = record {
  first = 36;
  object = reg 27;
  stage = reg 28;
  next_stage = reg 29;
  bundle = reg 28;
  site = record { 0 = 0 };
  event = record { 0 = 1 };
  callee = record { 0 = 10 };
}

nodes_21 : HasNodes charted_program 21 36 (row_nodes 11 (row_at 1) parts_21)
nodes_21 = record {
  method = _;
  stands = refl;
  owner = refl;
  params = refl;
  entry = refl;
  nodes_stand = (refl, (refl, (refl, (refl, (refl, (refl, (refl, tt)))))));
  only = in_range charted_program 21 36 43 refl;
}

abbrev pub parts_22 : Parts
parts_22 = record {
  first = 43;
  object = reg 30;
  stage = reg 31;
  next_stage = reg 32;
  bundle = reg 31;
  site = record { 0 = 0 };
  event = record { 0 = 1 };
  callee = record { 0 = 10 };
}

nodes_22 : HasNodes charted_program 22 43 (row_nodes 11 (row_at 2) parts_22)
nodes_22 = record {
  method = _;
  stands = refl;
  owner = refl;
  params = refl;
  entry = refl;
  nodes_stand = (refl, (refl, (refl, (refl, (refl, (refl, (refl, tt)))))));
  only = in_range charted_program 22 43 50 refl;
}

abbrev pub parts_23 : Parts
parts_23 = record {
  first = 50;
  object = reg 33;
  stage = reg 34;
  next_stage = reg 35;
  bundle = reg 34;
  site = record { 0 = 0 };
  event = record { 0 = 1 };
  callee = record { 0 = 12 };
}

nodes_23 : HasNodes charted_program 23 50 (row_nodes 11 (row_at 3) parts_23)
nodes_23 = record {
  method = _;
  stands = refl;
  owner = refl;
  params = refl;
  entry = refl;
  nodes_stand = (refl, (refl, (refl, (refl, (refl, (refl, (refl, tt)))))));
  only = in_range charted_program 23 50 57 refl;
}

abbrev pub parts_24 : Parts
parts_24 = record {
  first = 57;
  object = reg 36;
  stage = reg 37;
  next_stage = reg 38;
  bundle = reg 37;
  site = record { 0 = 0 };
  event = record { 0 = 1 };
  callee = record { 0 = 12 };
}

nodes_24 : HasNodes charted_program 24 57 (row_nodes 11 (row_at 4) parts_24)
nodes_24 = record {
  method = _;
  stands = refl;
  owner = refl;
  params = refl;
  entry = refl;
  nodes_stand = (refl, (refl, (refl, (refl, (refl, (refl, (refl, tt)))))));
  only = in_range charted_program 24 57 64 refl;
}

abbrev pub parts_25 : Parts
parts_25 = record {
  first = 64;
  object = reg 39;
  stage = reg 40;
  next_stage = reg 41;
  bundle = reg 40;
  site = record { 0 = 0 };
  event = record { 0 = 1 };
  callee = record { 0 = 13 };
}

nodes_25 : HasNodes charted_program 25 64 (row_nodes 11 (row_at 5) parts_25)
nodes_25 = record {
  method = _;
  stands = refl;
  owner = refl;
  params = refl;
  entry = refl;
  nodes_stand = (refl, (refl, (refl, (refl, (refl, (refl, (refl, tt)))))));
  only = in_range charted_program 25 64 71 refl;
}

abbrev pub parts_26 : Parts
parts_26 = record {
  first = 71;
  object = reg 42;
  stage = reg 43;
  next_stage = reg 44;
  bundle = reg 43;
  site = record { 0 = 0 };
  event = record { 0 = 1 };
  callee = record { 0 = 14 };
}

nodes_26 : HasNodes charted_program 26 71 (row_nodes 11 (row_at 6) parts_26)
nodes_26 = record {
  method = _;
  stands = refl;
  owner = refl;
  params = refl;
  entry = refl;
  nodes_stand = (refl, (refl, (refl, (refl, (refl, (refl, (refl, tt)))))));
  only = in_range charted_program 26 71 78 refl;
}

abbrev pub parts_27 : Parts
parts_27 = record {
  first = 78;
  object = reg 45;
  stage = reg 46;
  next_stage = reg 47;
  bundle = reg 46;
  site = record { 0 = 0 };
  event = record { 0 = 1 };
  callee = record { 0 = 11 };
}

nodes_27 : HasNodes charted_program 27 78 (row_nodes 11 (row_at 7) parts_27)
nodes_27 = record {
  method = _;
  stands = refl;
  owner = refl;
  params = refl;
  entry = refl;
  nodes_stand = (refl, (refl, (refl, (refl, (refl, (refl, (refl, tt)))))));
  only = in_range charted_program 27 78 85 refl;
}

abbrev pub parts_28 : Parts
parts_28 = record {
  first = 85;
  object = reg 48;
  stage = reg 49;
  next_stage = reg 50;
  bundle = reg 49;
  site = record { 0 = 0 };
  event = record { 0 = 1 };
  callee = record { 0 = 15 };
}

nodes_28 : HasNodes charted_program 28 85 (row_nodes 11 (row_at 8) parts_28)
nodes_28 = record {
  method = _;
  stands = refl;
  owner = refl;
  params = refl;
  entry = refl;
  nodes_stand = (refl, (refl, (refl, (refl, (refl, (refl, (refl, tt)))))));
  only = in_range charted_program 28 85 92 refl;
}

abbrev pub parts_29 : Parts
parts_29 = record {
  first = 92;
  object = reg 51;
  stage = reg 52;
  next_stage = reg 53;
  bundle = reg 54;
  site = record { 0 = 0 };
  event = record { 0 = 1 };
  callee = record { 0 = 16 };
}

nodes_29 : HasNodes charted_program 29 92 (row_nodes 11 (row_at 9) parts_29)
nodes_29 = record {
  method = _;
  stands = refl;
  owner = refl;
  params = refl;
  entry = refl;
  nodes_stand = (refl, (refl, (refl, (refl, (refl, (refl, (refl, (refl, (refl, tt)))))))));
  only = in_range charted_program 29 92 101 refl;
}

abbrev pub parts_30 : Parts
parts_30 = record {
  first = 101;
  object = reg 55;
  stage = reg 56;
  next_stage = reg 57;
  bundle = reg 58;
  site = record { 0 = 0 };
  event = record { 0 = 1 };
  callee = record { 0 = 16 };
}

nodes_30 : HasNodes charted_program 30 101 (row_nodes 11 (row_at 10) parts_30)
nodes_30 = record {
  method = _;
  stands = refl;
  owner = refl;
  params = refl;
  entry = refl;
  nodes_stand = (refl, (refl, (refl, (refl, (refl, (refl, (refl, (refl, (refl, tt)))))))));
  only = in_range charted_program 30 101 110 refl;
}

pub has_harness : HasHarness storing_classes Chart charted_program
has_harness = (
  refl,
  (parts_19, apart_object parts_19 refl, (refl, record { info = _; declared = refl; number = refl }, nodes_19)),
  (
    refl,
    (parts_20, apart_object parts_20 refl, (record { event = event; callee = record { info = _; declared = refl; number = refl } }, nodes_20)),
    (
      refl,
      (parts_21, apart_object parts_21 refl, (record { event = event; callee = record { info = _; declared = refl; number = refl } }, nodes_21)),
      (
        refl,
        (parts_22, apart_object parts_22 refl, (record { event = event; callee = record { info = _; declared = refl; number = refl } }, nodes_22)),
        (
          refl,
          (parts_23, apart_object parts_23 refl, (record { event = event; callee = record { info = _; declared = refl; number = refl } }, nodes_23)),
          (
            refl,
            (parts_24, apart_object parts_24 refl, (record { event = event; callee = record { info = _; declared = refl; number = refl } }, nodes_24)),
            (
              refl,
              (parts_25, apart_object parts_25 refl, (record { event = event; callee = record { info = _; declared = refl; number = refl } }, nodes_25)),
              (
                refl,
                (parts_26, apart_object parts_26 refl, (record { event = event; callee = record { info = _; declared = refl; number = refl } }, nodes_26)),
                (
                  refl,
                  (parts_27, apart_object parts_27 refl, (record { event = event; callee = record { info = _; declared = refl; number = refl } }, nodes_27)),
                  (
                    refl,
                    (parts_28, apart_object parts_28 refl, (record { event = event; callee = record { info = _; declared = refl; number = refl } }, nodes_28)),
                    (
                      refl,
                      (parts_29, apart_object parts_29 refl, (record { event = event; callee = record { info = _; declared = refl; number = refl } }, nodes_29)),
                      (refl, (parts_30, apart_object parts_30 refl, (record { event = event; callee = record { info = _; declared = refl; number = refl } }, nodes_30)), tt),
                    ),
                  ),
                ),
              ),
            ),
          ),
        ),
      ),
    ),
  ),
)

-- the method that uses each register
abbrev pub users : List ℕ
users =
    0 ∷ 1 ∷ 2 ∷ 3 ∷ 4 ∷ 5 ∷ 6 ∷ 7 ∷ 8 ∷ 9 ∷ 9 ∷ 10 ∷ 11 ∷ 12 ∷ 13 ∷ 14 ∷ 15 ∷ 16 ∷ 16 ∷ 17 ∷ 18 ∷ 18 ∷
    19 ∷ 20 ∷ 20 ∷ 20 ∷ 20 ∷ 21 ∷ 21 ∷ 21 ∷ 22 ∷ 22 ∷ 22 ∷ 23 ∷ 23 ∷ 23 ∷ 24 ∷ 24 ∷ 24 ∷ 25 ∷ 25 ∷ 25 ∷
    26 ∷ 26 ∷ 26 ∷ 27 ∷ 27 ∷ 27 ∷ 28 ∷ 28 ∷ 28 ∷ 29 ∷ 29 ∷ 29 ∷ 29 ∷ 30 ∷ 30 ∷ 30 ∷ 30 ∷ []

pub well_formed : IsWellFormed storing_classes charted_program
well_formed = record {
  numbers = record {
    files = storing_files;
    built_in = refl;
    names = (refl, (refl, (refl, (refl, (refl, (refl, (refl, (refl, (refl, (refl, (refl, (refl, tt))))))))))));
    methods = numbered_methods storing_classes refl;
    fields = numbered_fields storing_classes refl;
    few_fields = lit< tt;
  };
  methods = are_methods storing_classes charted_program refl refl refl;
  nodes = are_nodes storing_classes charted_program (λ n. n) refl;
  registers = are_apart users charted_program refl refl;
  sites = record {
    placed = all_placed storing_classes charted_program refl;
    once = λ s k x y is other same. place_once charted_program.sites s k x y refl is other same;
    strings_first = (λ e. absurd cc, λ e. (refl, tt));
    launches = all_launched storing_classes charted_program 0 refl;
    event = (1, event);
  };
  constants = record { ints = tt; ints_once = tt; strings = tt; strings_once = tt };
  harness = record { lifecycle = Chart; methods = has_harness; others = others_ordinary charted_program refl };
}

-- The program of a String constant is well formed, its harness included.
use Rattle.std.proofs.Common.{ℕ, List, [], ◌∷◌, refl, lit<}
use Rattle.th_base.specs.declared.lifecycle.Lifecycle.TheVariants.{Any}
use Rattle.th_ir.specs.Harness.{Parts, HasNodes, IsEventSite, HasHarness, launch_nodes, handler_nodes}
use Rattle.th_ir.specs.WellFormed.{IsWellFormed}
use Rattle.th_ir.specs.Worked.{reg}
use Rattle.th_ir.specs.WorkedNaming.{naming_files, naming_classes, naming_program}
use Rattle.th_ir.proofs.TestedPrograms.{numbered_methods, numbered_fields, are_methods, are_nodes, are_apart, others_ordinary, in_range, apart_object}
use Rattle.th_ir.proofs.TestedSites.{all_placed, place_once, all_launched}
use Rattle.th_ir.proofs.WorkedHandlers.{handler_at}

event : IsEventSite naming_classes naming_program 2
event = record { site = _; stands = refl; place = refl; class = refl }

abbrev pub parts_19 : Parts
parts_19 = record {
  first = 23;
  object = reg 21;
  stage = reg 22;
  next_stage = reg 22;
  bundle = reg 22;
  site = record { 0 = 1 };
  event = record { 0 = 2 };
  callee = record { 0 = 17 };
}

nodes_19 : HasNodes naming_program 19 23 (launch_nodes 11 parts_19)
nodes_19 = record {
  method = _;
  stands = refl;
  owner = refl;
  params = refl;
  entry = refl;
  nodes_stand = (refl, (refl, (refl, (refl, tt))));
  only = in_range naming_program 19 23 27 refl;
}

abbrev pub parts_20 : Parts
parts_20 = record {
  first = 27;
  object = reg 22;
  stage = reg 23;
  next_stage = reg 23;
  bundle = reg 23;
  site = record { 0 = 1 };
  event = record { 0 = 2 };
  callee = record { 0 = 9 };
}

nodes_20 : HasNodes naming_program 20 27 (handler_nodes 11 (handler_at 0) parts_20)
nodes_20 = record {
  method = _;
  stands = refl;
  owner = refl;
  params = refl;
  entry = refl;
  nodes_stand = (refl, (refl, (refl, (refl, (refl, tt)))));
  only = in_range naming_program 20 27 32 refl;
}

abbrev pub parts_21 : Parts
parts_21 = record {
  first = 32;
  object = reg 24;
  stage = reg 25;
  next_stage = reg 25;
  bundle = reg 25;
  site = record { 0 = 1 };
  event = record { 0 = 2 };
  callee = record { 0 = 10 };
}

nodes_21 : HasNodes naming_program 21 32 (handler_nodes 11 (handler_at 1) parts_21)
nodes_21 = record {
  method = _;
  stands = refl;
  owner = refl;
  params = refl;
  entry = refl;
  nodes_stand = (refl, (refl, (refl, tt)));
  only = in_range naming_program 21 32 35 refl;
}

abbrev pub parts_22 : Parts
parts_22 = record {
  first = 35;
  object = reg 25;
  stage = reg 26;
  next_stage = reg 26;
  bundle = reg 26;
  site = record { 0 = 1 };
  event = record { 0 = 2 };
  callee = record { 0 = 11 };
}

nodes_22 : HasNodes naming_program 22 35 (handler_nodes 11 (handler_at 2) parts_22)
nodes_22 = record {
  method = _;
  stands = refl;
  owner = refl;
  params = refl;
  entry = refl;
  nodes_stand = (refl, (refl, (refl, tt)));
  only = in_range naming_program 22 35 38 refl;
}

abbrev pub parts_23 : Parts
parts_23 = record {
  first = 38;
  object = reg 26;
  stage = reg 27;
  next_stage = reg 27;
  bundle = reg 27;
  site = record { 0 = 1 };
  event = record { 0 = 2 };
  callee = record { 0 = 12 };
}

nodes_23 : HasNodes naming_program 23 38 (handler_nodes 11 (handler_at 3) parts_23)
nodes_23 = record {
  method = _;
  stands = refl;
  owner = refl;
  params = refl;
  entry = refl;
  nodes_stand = (refl, (refl, (refl, tt)));
  only = in_range naming_program 23 38 41 refl;
}

abbrev pub parts_24 : Parts
parts_24 = record {
  first = 41;
  object = reg 27;
  stage = reg 28;
  next_stage = reg 28;
  bundle = reg 28;
  site = record { 0 = 1 };
  event = record { 0 = 2 };
  callee = record { 0 = 13 };
}

nodes_24 : HasNodes naming_program 24 41 (handler_nodes 11 (handler_at 4) parts_24)
nodes_24 = record {
  method = _;
  stands = refl;
  owner = refl;
  params = refl;
  entry = refl;
  nodes_stand = (refl, (refl, (refl, tt)));
  only = in_range naming_program 24 41 44 refl;
}

abbrev pub parts_25 : Parts
parts_25 = record {
  first = 44;
  object = reg 28;
  stage = reg 29;
  next_stage = reg 29;
  bundle = reg 29;
  site = record { 0 = 1 };
  event = record { 0 = 2 };
  callee = record { 0 = 14 };
}

nodes_25 : HasNodes naming_program 25 44 (handler_nodes 11 (handler_at 5) parts_25)
nodes_25 = record {
  method = _;
  stands = refl;
  owner = refl;
  params = refl;
  entry = refl;
  nodes_stand = (refl, (refl, (refl, tt)));
  only = in_range naming_program 25 44 47 refl;
}

abbrev pub parts_26 : Parts
parts_26 = record {
  first = 47;
  object = reg 29;
  stage = reg 30;
  next_stage = reg 30;
  bundle = reg 30;
  site = record { 0 = 1 };
  event = record { 0 = 2 };
  callee = record { 0 = 15 };
}

nodes_26 : HasNodes naming_program 26 47 (handler_nodes 11 (handler_at 6) parts_26)
nodes_26 = record {
  method = _;
  stands = refl;
  owner = refl;
  params = refl;
  entry = refl;
  nodes_stand = (refl, (refl, (refl, tt)));
  only = in_range naming_program 26 47 50 refl;
}

abbrev pub parts_27 : Parts
parts_27 = record {
  first = 50;
  object = reg 30;
  stage = reg 31;
  next_stage = reg 31;
  bundle = reg 31;
  site = record { 0 = 1 };
  event = record { 0 = 2 };
  callee = record { 0 = 16 };
}

nodes_27 : HasNodes naming_program 27 50 (handler_nodes 11 (handler_at 7) parts_27)
nodes_27 = record {
  method = _;
  stands = refl;
  owner = refl;
  params = refl;
  entry = refl;
  nodes_stand = (refl, (refl, (refl, (refl, (refl, tt)))));
  only = in_range naming_program 27 50 55 refl;
}

pub has_harness : HasHarness naming_classes Any naming_program
has_harness = (
  refl,
  (parts_19, apart_object parts_19 refl, (refl, record { info = _; declared = refl; number = refl }, nodes_19)),
  (
    refl,
    (parts_20, apart_object parts_20 refl, (record { event = event; callee = record { info = _; declared = refl; number = refl } }, nodes_20)),
    (
      refl,
      (parts_21, apart_object parts_21 refl, (record { event = event; callee = record { info = _; declared = refl; number = refl } }, nodes_21)),
      (
        refl,
        (parts_22, apart_object parts_22 refl, (record { event = event; callee = record { info = _; declared = refl; number = refl } }, nodes_22)),
        (
          refl,
          (parts_23, apart_object parts_23 refl, (record { event = event; callee = record { info = _; declared = refl; number = refl } }, nodes_23)),
          (
            refl,
            (parts_24, apart_object parts_24 refl, (record { event = event; callee = record { info = _; declared = refl; number = refl } }, nodes_24)),
            (
              refl,
              (parts_25, apart_object parts_25 refl, (record { event = event; callee = record { info = _; declared = refl; number = refl } }, nodes_25)),
              (
                refl,
                (parts_26, apart_object parts_26 refl, (record { event = event; callee = record { info = _; declared = refl; number = refl } }, nodes_26)),
                (refl, (parts_27, apart_object parts_27 refl, (record { event = event; callee = record { info = _; declared = refl; number = refl } }, nodes_27)), tt),
              ),
            ),
          ),
        ),
      ),
    ),
  ),
)

-- the method that uses each register
abbrev pub users : List ℕ
users =
    0 ∷ 1 ∷ 2 ∷ 3 ∷ 4 ∷ 5 ∷ 6 ∷ 7 ∷ 8 ∷ 9 ∷ 9 ∷ 10 ∷ 11 ∷ 12 ∷ 13 ∷ 14 ∷ 15 ∷ 16 ∷ 16 ∷ 17 ∷ 18 ∷ 19 ∷
    20 ∷ 20 ∷ 21 ∷ 22 ∷ 23 ∷ 24 ∷ 25 ∷ 26 ∷ 27 ∷ 27 ∷ []

pub well_formed : IsWellFormed naming_classes naming_program
well_formed = record {
  numbers = record {
    files = naming_files;
    built_in = refl;
    names = (refl, (refl, (refl, (refl, (refl, (refl, (refl, (refl, (refl, (refl, (refl, (refl, tt))))))))))));
    methods = numbered_methods naming_classes refl;
    fields = numbered_fields naming_classes refl;
    few_fields = lit< tt;
  };
  methods = are_methods naming_classes naming_program refl refl refl;
  nodes = are_nodes naming_classes naming_program (λ n. n) refl;
  registers = are_apart users naming_program refl refl;
  sites = record {
    placed = all_placed naming_classes naming_program refl;
    once = λ s k x y is other same. place_once naming_program.sites s k x y refl is other same;
    strings_first = (λ e. (λ e. absurd cc, λ e. (refl, tt)), λ e. absurd cc);
    launches = all_launched naming_classes naming_program 1 refl;
    event = (2, event);
  };
  constants = record { ints = tt; ints_once = tt; strings = (((refl, refl), refl), tt); strings_once = (refl, tt) };
  harness = record { lifecycle = Any; methods = has_harness; others = others_ordinary naming_program refl };
}

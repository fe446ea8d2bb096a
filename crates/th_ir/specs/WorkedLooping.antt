-- A method by hand with a loop, behind which two branches meet.
use Rattle.std.specs.Prelude.{true, [], ◌∷◌, None}
use Rattle.th_ir.specs.declared.program.RegProgram.{RegProgram}
use Rattle.th_ir.specs.declared.stmt.Stmt.TheVariants.{Nop, Copy, Return}
use Rattle.th_ir.specs.Harness.{to}
use Rattle.th_ir.specs.Worked.{node}

-- the loop goes by the nodes 1, 2 and 3; the branches of 4 meet at 7
abbrev pub looping_program : RegProgram
looping_program = record {
  methods = record { owner = None; entry = record { 0 = 0 }; params = []; returns = to 7 } ∷ [];
  nodes =
      node 0 0 (Copy []) (to 1)
      ∷ record (node 0 0 Nop (record { 0 = 2 } ∷ record { 0 = 4 } ∷ [])) { loop_head = true }
      ∷ node 0 1 Nop (to 3)
      ∷ node 0 0 (Copy []) (to 1)
      ∷ node 0 2 Nop (record { 0 = 5 } ∷ record { 0 = 6 } ∷ [])
      ∷ node 0 3 (Copy []) (to 7)
      ∷ node 0 3 (Copy []) (to 7)
      ∷ node 0 3 (Return None) []
      ∷ [];
  sites = [];
  harness = [];
  refs = [];
  ints = [];
  strings = [];
}

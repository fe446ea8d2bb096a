use Rattle.std.proofs.Common.{◌≡◌, take}
use Rattle.std.specs.List.{flat_map}
use Rattle.th_gen.specs.Items.{with_items, instr_items}
use Rattle.th_gen.proofs.pool.add_instrs.Given as goal

-- the entries of those before this one were added
abbrev pub invariant-loop-instr : goal.invariant-loop-instr
invariant-loop-instr l = l.items.keys ≡ with_items l.initial.items.keys (flat_map instr_items (take l.instr-index l.instrs))

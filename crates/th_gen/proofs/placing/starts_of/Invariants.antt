use Rattle.std.proofs.Common.{◌≡◌, ◌≤◌, ◌++◌, drop}
use Rattle.th_gen.specs.Placing as spec
use Rattle.th_gen.proofs.placing.starts_of.Given as goal

-- with those of the instructions that are left, the offsets and the end are those of all
abbrev pub invariant-loop-instr : goal.invariant-loop-instr
invariant-loop-instr l =
    (l.offsets.items ++ spec.starts_from l.pool.items.keys l.pc (drop l.instr-index l.instrs) ≡ spec.starts_from l.pool.items.keys 0 l.instrs)
    × (spec.code_end l.pool.items.keys l.pc (drop l.instr-index l.instrs) ≡ spec.code_end l.pool.items.keys 0 l.instrs)
    × (l.pc ≤ 65535)

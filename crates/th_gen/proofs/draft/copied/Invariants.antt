use Rattle.std.proofs.Common.{◌≡◌, take}
use Rattle.th_gen.proofs.draft.copied.Given as goal

-- the instructions before this one were copied
abbrev pub invariant-loop-instr : goal.invariant-loop-instr
invariant-loop-instr l = l.copy ≡ take l.instr-index l.instrs

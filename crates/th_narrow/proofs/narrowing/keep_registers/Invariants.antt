use Rattle.std.proofs.Common.{take}
use Rattle.th_narrow.specs.Rounds.{Enforces, Bounds, register_set}
use Rattle.th_narrow.proofs.narrowing.keep_registers.Given as goal

-- the registers so far
abbrev pub invariant-loop-pair : goal.invariant-loop-pair
invariant-loop-pair l = Enforces (Bounds (register_set l.sets) (take l.pair-index l.regs)) l.fn.syms l.syms

use Rattle.std.proofs.Common.{take}
use Rattle.th_narrow.specs.Rounds.{Enforces, Bounds, static_set}
use Rattle.th_narrow.proofs.narrowing.keep_statics.Given as goal

-- the static fields so far
abbrev pub invariant-loop-pair : goal.invariant-loop-pair
invariant-loop-pair l = Enforces (Bounds (static_set l.sets) (take l.pair-index l.statics)) l.fn.syms l.syms

use Rattle.std.proofs.Common.{◌≡◌, ◌++◌, take}
use Rattle.std.specs.Int.{w32, cast_unsigned}
use Rattle.std.specs.List.{flat_map}
use Rattle.th_gen.specs.ClassText as text
use Rattle.th_gen.specs.Placing.{start_at}
use Rattle.th_gen.proofs.code.put_pairs.Given as goal

-- the bytes of those before this one were written
abbrev pub invariant-loop-key : goal.invariant-loop-key
invariant-loop-key l = l.out.items ≡ l.initial.out.items ++ flat_map (λ pair. text.u4 (cast_unsigned w32 pair.0) ++ text.far l.pc (start_at l.starts pair.1)) (take l.key-index l.pairs)

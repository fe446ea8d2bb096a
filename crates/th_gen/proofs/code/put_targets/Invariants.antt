use Rattle.std.proofs.Common.{◌≡◌, ◌++◌, take}
use Rattle.std.specs.List.{flat_map}
use Rattle.th_gen.specs.ClassText as text
use Rattle.th_gen.specs.Placing.{start_at}
use Rattle.th_gen.proofs.code.put_targets.Given as goal

-- the bytes of those before this one were written
abbrev pub invariant-loop-place : goal.invariant-loop-place
invariant-loop-place l = l.out.items ≡ l.initial.out.items ++ flat_map (λ place. text.far l.pc (start_at l.starts place)) (take l.place-index l.places)

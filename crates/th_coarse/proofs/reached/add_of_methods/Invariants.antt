use Rattle.std.proofs.Common.{◌≡◌, ◌++◌, take, map}
use Rattle.std.specs.Prelude.{flat_map}
use Rattle.th_coarse.specs.Coarse.{reached_in}
use Rattle.th_coarse.proofs.reached.add_of_methods.Given as goal

-- the reached instructions of the methods so far are added
abbrev pub invariant-loop-method : goal.invariant-loop-method
invariant-loop-method l = map (λ i. i.now) l.instrs.items ≡ map (λ i. i.now) l.initial.instrs.items ++ flat_map reached_in (take l.method-index l.methods)

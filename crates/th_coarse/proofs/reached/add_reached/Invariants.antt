use Rattle.std.proofs.Common.{◌≡◌, ◌++◌, take, map}
use Rattle.std.specs.Prelude.{filter}
use Rattle.th_base.specs.IdSet.{has}
use Rattle.th_coarse.proofs.reached.add_reached.Given as goal

-- those of the instructions so far that are reached are added
abbrev pub invariant-loop-placed : goal.invariant-loop-placed
invariant-loop-placed l =
    map (λ i. i.now) l.instrs.items ≡ map (λ i. i.now) l.initial.instrs.items ++ map (λ i. i.1) (filter (λ i. has l.reached i.0) (take l.placed-index l.code))

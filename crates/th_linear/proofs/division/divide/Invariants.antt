use Rattle.std.proofs.Common.{◌≡◌, take, drop}
use Rattle.th_linear.specs.Normal.{scaled}
use Rattle.th_linear.proofs.division.divide.Given as goal

abbrev pub invariant-loop-term : goal.invariant-loop-term
invariant-loop-term l =
    (take l.term-index l.fn.coefs.items ≡ scaled l.fn.g (take l.term-index l.term-items))
    × (drop l.term-index l.fn.coefs.items ≡ drop l.term-index l.term-items)

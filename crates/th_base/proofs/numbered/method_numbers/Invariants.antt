use Rattle.std.proofs.Common.{◌≡◌, map, take}
use Rattle.th_base.specs.Numbered.{method_numbers}
use Rattle.th_base.proofs.numbered.method_numbers.Given as goal

abbrev pub invariant-loop-class : goal.invariant-loop-class
invariant-loop-class l = l.numbers.items ≡ method_numbers (take l.class-index l.classes)

abbrev pub invariant-loop-method : goal.invariant-loop-method
invariant-loop-method l = l.own.items ≡ map (λ x. x.id.0) (take l.method-index l.method-items)

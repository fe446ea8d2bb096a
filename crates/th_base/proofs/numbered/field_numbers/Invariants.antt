use Rattle.std.proofs.Common.{◌≡◌, map, take}
use Rattle.th_base.specs.Numbered.{field_numbers}
use Rattle.th_base.proofs.numbered.field_numbers.Given as goal

abbrev pub invariant-loop-class : goal.invariant-loop-class
invariant-loop-class l = l.numbers.items ≡ field_numbers (take l.class-index l.classes)

abbrev pub invariant-loop-field : goal.invariant-loop-field
invariant-loop-field l = l.own.items ≡ map (λ x. x.id.0) (take l.field-index l.field-items)

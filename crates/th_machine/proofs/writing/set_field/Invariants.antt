use Rattle.std.proofs.Common.{◌≡◌, ◌++◌, length, map, take, drop}
use Rattle.th_machine.specs.Writing.{field_after}
use Rattle.th_machine.proofs.writing.set_field.Given as goal

-- the fields so far have their values, the others stay
abbrev pub invariant-loop-place : goal.invariant-loop-place
invariant-loop-place l = record {
  so_far : l.fields ≡ map (field_after l.field l.value) (take l.place l.fn.fields) ++ drop l.place l.fn.fields;
  size : length l.fields ≡ length l.fn.fields;
}

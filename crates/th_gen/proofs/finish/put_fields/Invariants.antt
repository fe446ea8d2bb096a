use Rattle.std.proofs.Common.{◌≡◌, ◌++◌, take}
use Rattle.std.specs.List.{flat_map}
use Rattle.th_gen.specs.ClassText as text
use Rattle.th_gen.proofs.finish.put_fields.Given as goal

-- the bytes of those before this one were written
abbrev pub invariant-loop-field : goal.invariant-loop-field
invariant-loop-field l = l.out.items ≡ l.initial.out.items ++ flat_map (text.field_bytes l.pool.items.keys) (take l.field-index l.fields)

use Rattle.std.proofs.Common.{◌≡◌, take}
use Rattle.std.specs.List.{flat_map}
use Rattle.th_gen.specs.Items.{with_items, field_items}
use Rattle.th_gen.proofs.pool.add_fields.Given as goal

-- the entries of those before this one were added
abbrev pub invariant-loop-field : goal.invariant-loop-field
invariant-loop-field l = l.items.keys ≡ with_items l.initial.items.keys (flat_map field_items (take l.field-index l.fields))

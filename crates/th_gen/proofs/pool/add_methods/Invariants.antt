use Rattle.std.proofs.Common.{◌≡◌, take}
use Rattle.std.specs.List.{flat_map}
use Rattle.th_gen.specs.Items.{with_items, method_items}
use Rattle.th_gen.proofs.pool.add_methods.Given as goal

-- the entries of those before this one were added
abbrev pub invariant-loop-method : goal.invariant-loop-method
invariant-loop-method l = l.items.keys ≡ with_items l.initial.items.keys (flat_map method_items (take l.method-index l.methods))

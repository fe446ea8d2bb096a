use Rattle.std.proofs.Common.{◌≡◌, false, take}
use Rattle.th_graph.specs.Stores.{any_holds}
use Rattle.th_graph.proofs.store_index.any_holds.Given as goal

abbrev pub invariant-loop-place : goal.invariant-loop-place
invariant-loop-place l = any_holds l.strings l.field.0 l.site.0 (take l.place-index l.places) ≡ false

use Rattle.std.proofs.Common.{◌≡◌, drop}
use Rattle.th_syntax.specs.Checks.{attributes_named}
use Rattle.th_reader.specs.RawView.{attributes_view}
use Rattle.th_reader.proofs.attributes.next_named.Given as goal

abbrev pub invariant-loop-i : goal.invariant-loop-i
invariant-loop-i l = attributes_named l.pool l.name (attributes_view (drop l.i l.attributes)) ≡ attributes_named l.pool l.name (attributes_view l.attributes)

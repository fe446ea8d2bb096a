use Rattle.std.proofs.Common.{◌≡◌, length}
use Rattle.th_kinds.specs.Kept.{seen_kept, IsNothing}
use Rattle.th_kinds.proofs.first.nowhere.Given as goal

abbrev pub invariant-loop-added : goal.invariant-loop-added
invariant-loop-added l = record { long : length l.kept.items ≡ l._added; nothing : IsNothing (seen_kept l.kept.items) }

use Rattle.std.proofs.Common.{◌≡◌, drop}
use Rattle.std.specs.List.{list_any}
use Rattle.th_steps.proofs.firsts.has_alike.Given as goal

-- what is left decides
abbrev pub invariant-loop-other : goal.invariant-loop-other
invariant-loop-other g l = list_any (λ y. g.A.Alike.alike y l.item) (drop l.other-index l.items) ≡ list_any (λ y. g.A.Alike.alike y l.item) l.items

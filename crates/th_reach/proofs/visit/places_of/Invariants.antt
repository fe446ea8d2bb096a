use Rattle.std.proofs.Common.{◌≡◌, ℕ, ◌==◌, take, nat_eq}
use Rattle.std.specs.List.{position_from}
use Rattle.indexmap.specs.IndexMap.{get}
use Rattle.th_reach.proofs.visit.places_of.Given as goal

-- the instructions so far stand in the table
abbrev pub invariant-loop-place : goal.invariant-loop-place
invariant-loop-place l = (offset : ℕ) → get nat_eq l.places offset ≡ position_from (λ i. i.0 == offset) 0 (take l.place l.instrs)

use Rattle.std.proofs.Common.{◌≡◌, ℕ, ◌<◌, ◌≤◌, slice_index_or}
use Rattle.th_linear.specs.Forms.{Form}
use Rattle.th_pure.specs.declared.distinct.Entry.{Entry}
use Rattle.th_pure.proofs.distinct.is_at.Given as goal

-- the facts of the entries so far are others
abbrev pub invariant-loop-j : goal.invariant-loop-j
invariant-loop-j l =
    (i : ℕ) (e : Entry) (f : Form) → l.at ≤ i → i < l.j → slice_index_or l.facts (slice_index_or l.entries i e).place f ≡ l.fact → ⊥

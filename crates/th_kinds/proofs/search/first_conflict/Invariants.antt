use Rattle.std.proofs.Common.{◌≡◌}
use Rattle.th_syntax.specs.declared.class_file.Member.{Member}
use Rattle.th_syntax.specs.KindRows.{result_slots}
use Rattle.th_kinds.specs.States.{seen_state}
use Rattle.th_kinds.specs.Kept.{seen_kept}
use Rattle.th_kinds.specs.Places.{AreFitting}
use Rattle.th_kinds.specs.Walk.{falls_in, state_at}
use Rattle.th_kinds.proofs.search.first_conflict.Given as goal

abbrev pub invariant-loop-place : goal.invariant-loop-place
invariant-loop-place l = record {
  state : seen_state l.fallen ≡ falls_in (seen_state l.entry) l.listing.instrs.now (seen_kept l.kept) l.place;
  fit : (m : Member) → result_slots m.descriptor ≡ l.gives → AreFitting m l.code l.listing.instrs.now (state_at (seen_state l.entry) l.listing.instrs.now (seen_kept l.kept)) l.place;
}

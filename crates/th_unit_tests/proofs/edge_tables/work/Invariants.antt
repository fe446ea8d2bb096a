use Rattle.std.proofs.Common.{◌≡◌, None}
use Rattle.th_unit_tests.proofs.edge_tables.work.Given as goal

abbrev pub invariant-loop-number : goal.invariant-loop-number
invariant-loop-number l = (l.seat.table ≡ l.initial.seat.table) × (l.seat.view.part ≡ l.initial.seat.view.part) × (l.seat.view.in_flight ≡ None)

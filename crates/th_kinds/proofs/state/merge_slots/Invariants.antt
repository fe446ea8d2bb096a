use Rattle.std.proofs.Common.{◌≡◌, ◌<◌, ◌≤◌, true, false}
use Rattle.th_kinds.specs.States.{merged_front, slots_room}
use Rattle.th_kinds.proofs.state.merge_slots.Given as goal

abbrev pub invariant-loop-at : goal.invariant-loop-at
invariant-loop-at l = record {
  front : l.known ≡ merged_front l.at l.brought l.initial.known;
  same : l.changed ≡ false → l.known ≡ l.initial.known;
  most : slots_room l.known ≤ slots_room l.initial.known;
  less : l.changed ≡ true → slots_room l.known < slots_room l.initial.known;
}

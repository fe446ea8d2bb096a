use Rattle.std.proofs.Common.{◌≡◌, ◌≤◌}
use Rattle.std.specs.Prelude.{vec_len, vec_capacity}
use Rattle.std.specs.Slots.{slots_items}
use Rattle.th_edge_table.specs.Running.{words_from}
use Rattle.th_edge_table.proofs.table.read_words.Given as goal

abbrev pub invariant-loop-edge : goal.invariant-loop-edge
invariant-loop-edge l = (l.words.items ≡ words_from (slots_items l.closed.words) l.edge) × (vec_len l.words ≡ l.edge) × (l.edges ≤ vec_capacity l.words)

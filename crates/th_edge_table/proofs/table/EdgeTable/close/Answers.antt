use Rattle.std.proofs.Common.{◌≡◌, ℕ, ap, subst, arith}
use Rattle.std.specs.Slots.{slots_items}
use Rattle.th_edge_table.specs.Places.{Board, Place}
use Rattle.th_edge_table.specs.Running.{Ruled}
use Rattle.th_edge_table.proofs.Closing.{Closing, closes}
use Rattle.th_edge_table.proofs.table.EdgeTable.close.Goals as goal

edges_are : (a b : Board) → a ≡ b → a.edges ≡ b.edges
edges_are a b e = ap (λ (x : Board). x.edges) e

ends : (c : goal.After-free) → Closing c.read_words-words.result.items c.args.self.edges c.args.seat.view
ends c =
    let last = c.close_with-closed.ensures.values.2 in
    let r = subst (λ (n : ℕ). Ruled n last.0) c.self.invariant.0 last.1.0 in
    closes c.self.inside.edges c.args.self.edges (slots_items c.close_with-closed.result.words) c.read_words-words.result.items last.0 c.seat.inside.seat.id c.seat.inside.seat.me.0 c.args.seat.view
    r last.2 c.read_words-words.ensures (edges_are _ _ c.self.view_is) last.1.1 c.seat.invariant.1 (ap (λ (p : Place). p.view) c.seat.view_is) c.requires.whole.0 c.requires.whole.1

pub returns-clause-len : goal.returns-clause-len
returns-clause-len c = let l = (ends c).len in omega arith

pub returns-clause-decided : goal.returns-clause-decided
returns-clause-decided c = (ends c).decided

pub returns-clause-free : goal.returns-clause-free
returns-clause-free c = (ends c).free

pub returns-clause-once : goal.returns-clause-once
returns-clause-once c = (ends c).once

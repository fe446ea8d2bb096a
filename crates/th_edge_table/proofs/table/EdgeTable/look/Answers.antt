use Rattle.std.proofs.Common.{◌≡◌, refl, sym, ap, ◌∙◌, arith}
use Rattle.th_edge_table.specs.Places.{Board, Place}
use Rattle.th_edge_table.proofs.Moves.{looks}
use Rattle.th_edge_table.proofs.table.EdgeTable.look.Goals as goal

pub load-number-requires : goal.load-number-requires
load-number-requires c =
    let n : c.self.inside.edges ≡ c.args.self.now.edges = ap (λ (b : Board). b.edges) c.self.view_is in
    let i = c.self.invariant in (
      ap (λ (p : Place). p.table) c.seat.view_is ∙ c.requires.table.0 ∙ sym (ap (λ (b : Board). b.id) c.self.view_is),
      omega arith,
      looks c.self.inside.table.shared.key c.self.inside.table.shared.table_id.slots c.seat.inside.seat.id c.args.edge c.seat.inside.seat.me (omega arith) c.seat.invariant.1,
    )

pub invariant_of-seat : goal.invariant_of-seat
invariant_of-seat c = let t = (c.load-number.ensures.2 c.args.edge refl).0 in (ap (λ m. m.1) t ∙ c.seat.invariant.0, ap (λ m. m.0.ended) t ∙ c.seat.invariant.1)

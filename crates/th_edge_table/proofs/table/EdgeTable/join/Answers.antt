use Rattle.std.proofs.Common.{sym, ap, ◌∙◌, arith}
use Rattle.th_edge_table.specs.Places.{Board, Place}
use Rattle.th_edge_table.proofs.Moves.{joins}
use Rattle.th_edge_table.proofs.table.EdgeTable.join.Goals as goal

pub join_seat-requires : goal.join_seat-requires
join_seat-requires c =
    let id = sym (ap (λ (b : Board). b.id) c.self.view_is) in
    let i = c.self.invariant in (
      ap (λ (p : Place). p.table) c.seat.view_is ∙ c.requires.table.0 ∙ id,
      ap (λ (p : Place). p.table) c.other.view_is ∙ c.requires.table.1 ∙ id,
      c.other.invariant.0,
      omega arith,
      joins c.self.inside.table.shared.key c.seat.inside.seat.id c.other.inside.seat.id c.seat.inside.seat.me.0 c.other.inside.seat.me.0 c.seat.invariant.1 c.other.invariant.1
          (ap (λ (p : Place). p.view.in_flight) c.other.view_is ∙ c.requires.idle),
    )

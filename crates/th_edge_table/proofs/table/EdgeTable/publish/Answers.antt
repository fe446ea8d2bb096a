use Rattle.std.proofs.Common.{◌≡◌, refl, sym, ap, ◌∙◌, arith}
use Rattle.th_edge_table.specs.declared.word.Word.TheVariants.{Decided}
use Rattle.th_edge_table.specs.Encoding.{word_of}
use Rattle.th_edge_table.specs.Places.{Board, Place}
use Rattle.th_edge_table.proofs.Moves.{publishes}
use Rattle.th_edge_table.proofs.Numbers.{word_back}
use Rattle.th_edge_table.proofs.table.EdgeTable.publish.Goals as goal

pub store-requires : goal.store-requires
store-requires c =
    let n : c.self.inside.edges ≡ c.args.self.now.edges = ap (λ (b : Board). b.edges) c.self.view_is in
    let i = c.self.invariant in
    let is : word_of c.encode-number.result ≡ Decided c.args.verdict = ap word_of c.encode-number.ensures ∙ word_back c.args.verdict (omega arith) in (
      ap (λ (p : Place). p.table) c.seat.view_is ∙ c.requires.table.0 ∙ sym (ap (λ (b : Board). b.id) c.self.view_is),
      omega arith,
      publishes c.self.inside.table.shared.key c.self.inside.table.shared.table_id.slots c.seat.inside.seat.id c.args.edge c.seat.inside.seat.me (omega arith) c.seat.invariant.1
          c.args.verdict c.encode-number.result (ap (λ (p : Place). p.view.in_flight) c.seat.view_is ∙ c.requires.claimed) is,
    )

pub invariant_of-seat : goal.invariant_of-seat
invariant_of-seat c =
    let is : word_of c.encode-number.result ≡ Decided c.args.verdict = ap word_of c.encode-number.ensures ∙ word_back c.args.verdict (omega arith) in
    let t = c.store.ensures.2 c.args.edge c.args.verdict refl is in
    (ap (λ m. m.1) t ∙ c.seat.invariant.0, ap (λ m. m.0.ended) t ∙ c.seat.invariant.1)

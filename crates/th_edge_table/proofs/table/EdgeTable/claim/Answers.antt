use Rattle.std.proofs.Common.{◌≡◌, refl, sym, ap, ◌∙◌, subst, arith}
use Rattle.th_edge_table.specs.declared.word.Claim.TheVariants.{Got, Taken}
use Rattle.th_edge_table.specs.declared.word.Word.TheVariants.{Free}
use Rattle.th_edge_table.specs.declared.state.CoreSeat.{CoreSeat}
use Rattle.th_edge_table.specs.Facts.{times}
use Rattle.th_edge_table.specs.Places.{Board, Place}
use Rattle.th_edge_table.proofs.table.EdgeTable.claim.Goals.{in-Free, in_default}
use Rattle.th_edge_table.proofs.Moves.{takes, claimed_lives, fresh}
use Rattle.th_edge_table.proofs.table.EdgeTable.claim.Goals as goal

pub compare_exchange-found-requires : goal.compare_exchange-found-requires
compare_exchange-found-requires c =
    let n : c.self.inside.edges ≡ c.args.self.now.edges = ap (λ (b : Board). b.edges) c.self.view_is in
    let i = c.self.invariant in (
      ap (λ (p : Place). p.table) c.seat.view_is ∙ c.requires.table.0 ∙ sym (ap (λ (b : Board). b.id) c.self.view_is),
      omega arith,
      takes c.self.inside.table.shared.key c.self.inside.table.shared.table_id.slots c.seat.inside.seat.id c.args.edge c.seat.inside.seat.me (omega arith) c.seat.invariant.1
          (ap (λ (p : Place). p.view.in_flight) c.seat.view_is ∙ c.requires.idle),
    )

pub invariant_of-seat : goal.invariant_of-seat
invariant_of-seat c =
    let t = (c.compare_exchange-found.ensures.2 c.args.edge refl).0 in
    (ap (λ m. m.1) t ∙ c.seat.invariant.0, ap (λ m. m.0.ended) t ∙ claimed_lives c.args.edge _ c.seat.inside.seat.me.0 ∙ c.seat.invariant.1)

pub returns-clause-fresh : goal.returns-clause-fresh
returns-clause-fresh c =
    let f = (c.compare_exchange-found.ensures.2 c.args.edge refl).1 in
    let v = ap (λ (p : Place). p.view) c.seat.view_is in
    let free = λ (h : c.decode.result ≡ Free). subst (λ (u : CoreSeat). times c.args.edge u.taken ≡ 0) v (fresh c.seat.inside.seat.me.0 c.args.edge _ f (sym c.decode.ensures ∙ h)) in
    elim c.match-decode.branch [ in-Free w ↦ λ _. free w.in-Free.is | in_default w ↦ λ h. let q : Taken _ ≡ Got = sym w.result-is ∙ h in absurd (cc) ]

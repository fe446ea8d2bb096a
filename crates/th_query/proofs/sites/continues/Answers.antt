use Rattle.std.proofs.Common.{◌≡◌, ◌-◌, ◌∙◌, sym, refl, arith}
use Rattle.std.proofs.lemmas.Bool.{both_ways}
use Rattle.th_query.proofs.Below.{next_number, no_next, number_at, continued}
use Rattle.th_query.proofs.sites.continues.Goals as goal
use Rattle.th_query.proofs.sites.continues.Goals.{then-at-ids-via-then-at-ids, then-at-ids-via-else-at-ids+then-ids-at}

pub returns-then-at-ids : goal.returns-then-at-ids
returns-then-at-ids c = (
  (λ e. absurd (both_ways _ refl e)),
  (λ e.
      let next = next_number c.loop-next.next c.args.high _ c.args.rest.now c.loop-next-test.true (sym c.loop-next.invariant.0 ∙ e) in
      absurd (elim c.then-at-ids.branch [
        | then-at-ids-via-then-at-ids w ↦ no_next c.args.ids.now (c.loop-next.next - c.args.low) c.loop-next.next w.if-at-ids.true next
        | then-at-ids-via-else-at-ids+then-ids-at w ↦ w.if-ids-at.true (number_at c.args.ids.now (c.loop-next.next - c.args.low) c.loop-next.next w.if-at-ids.false next)
      ])),
)

pub returns : goal.returns
returns c =
    let last = c.loop-next.auto.next-end c.requires in
    let past = c.loop-next-test.false in
    let end : c.loop-next.next ≡ c.args.high = omega (arith, last, past) in
    let both = continued c.args.low c.args.high c.loop-next.next c.args.ids.now c.args.rest.now end c.loop-next.invariant.0 in
    ((λ e. both.0 (c.are_same.ensures.0 e)), (λ e. c.are_same.ensures.1 (both.1 e)))

use Rattle.std.proofs.Common.{◌≡◌, ◌<◌, ◌∙◌, get_or, length, sym, subst, ap, arith}
use Rattle.th_paths.specs.Links.{row_at}
use Rattle.th_paths.specs.Search.{IsInRow}
use Rattle.th_paths.proofs.Places.{get_within, are_firsts, read_at}
use Rattle.th_paths.proofs.Traced.{no_step}
use Rattle.th_paths.proofs.Complete.{step_inside}
use Rattle.th_paths.proofs.Rows.{row_start, next_in, row_more, row_end, firsts_long}
use Rattle.th_paths.proofs.search.follow.Goals as goal

pub bounds-as_slice-edge : goal.bounds-as_slice-edge
bounds-as_slice-edge c =
    let links = c.args.links.now in
    let s = c.args.search.now in
    let long = firsts_long links c.requires.links in
    let inside = step_inside links.edges links.firsts.items c.args._field c.args._cut.now s.steps.items s.places.items c.args.at c.args.at no_step c.requires.followed c.requires.inside in
    subst (λ l. (get_or l c.args.at no_step).edge.0 < length c.as_slice-2.result.now) (sym c.as_slice.ensures.value)
    (subst (λ l. (get_or s.steps.items c.args.at no_step).edge.0 < length l) (sym c.as_slice-2.ensures.value) (omega (arith, long, inside)))

pub bounds-as_slice-first : goal.bounds-as_slice-first
bounds-as_slice-first c =
    let links = c.args.links.now in
    let s = c.args.search.now in
    let inside = step_inside links.edges links.firsts.items c.args._field c.args._cut.now s.steps.items s.places.items c.args.at c.args.at no_step c.requires.followed c.requires.inside in
    let edge = get_within links.edges (get_or s.steps.items c.args.at no_step).edge.0 inside in
    let first = (are_firsts links.edges links.firsts.items c.requires.links.firsts).inside (get_or s.steps.items c.args.at no_step).edge.0 edge.0 edge.1 in
    let count = c.requires.links.count in
    let rows : get_or links.firsts.items (get_or s.steps.items c.args.at no_step).edge.0 0 < length links.out.items = omega (arith, first, count) in
    subst (λ l. get_or c.as_slice-2.result.now (get_or l c.args.at no_step).edge.0 0 < length c.as_slice-3.result.now) (sym c.as_slice.ensures.value)
    (subst (λ l. get_or l (get_or s.steps.items c.args.at no_step).edge.0 0 < length c.as_slice-3.result.now) (sym c.as_slice-2.ensures.value)
    (subst (λ l. get_or links.firsts.items (get_or s.steps.items c.args.at no_step).edge.0 0 < length l) (sym c.as_slice-3.ensures.value) rows))

pub loop-next-init : goal.loop-next-init
loop-next-init c =
    let links = c.args.links.now in
    let s = c.args.search.now in
    let known = step_inside links.edges links.firsts.items c.args._field c.args._cut.now s.steps.items s.places.items c.args.at c.args.at no_step c.requires.followed c.requires.inside in
    let edge = get_within links.edges (get_or s.steps.items c.args.at no_step).edge.0 known in
    let first = (are_firsts links.edges links.firsts.items c.requires.links.firsts).inside (get_or s.steps.items c.args.at no_step).edge.0 edge.0 edge.1 in
    let count = c.requires.links.count in
    let rows : get_or links.firsts.items (get_or s.steps.items c.args.at no_step).edge.0 0 < length links.out.items = omega (arith, first, count) in
    let inside : get_or c.as_slice-2.result.now (get_or c.as_slice.result.now c.args.at no_step).edge.0 0 < length c.as_slice-3.result.now =
    subst (λ l. get_or c.as_slice-2.result.now (get_or l c.args.at no_step).edge.0 0 < length c.as_slice-3.result.now) (sym c.as_slice.ensures.value)
    (subst (λ l. get_or l (get_or s.steps.items c.args.at no_step).edge.0 0 < length c.as_slice-3.result.now) (sym c.as_slice-2.ensures.value)
    (subst (λ l. get_or links.firsts.items (get_or s.steps.items c.args.at no_step).edge.0 0 < length l) (sym c.as_slice-3.ensures.value) rows)) in
    let row : c.as_slice-next-items.result.now ≡ row_at links.out.items (get_or links.firsts.items (get_or s.steps.items c.args.at no_step).edge.0 0) =
    c.as_slice-next-items.ensures
    ∙ read_at c.as_slice-3.result.now (get_or c.as_slice-2.result.now (get_or c.as_slice.result.now c.args.at no_step).edge.0 0) c.index-as_slice-first.result c.index-as_slice-first.is inside
    ∙ ap (λ l. row_at l (get_or c.as_slice-2.result.now (get_or c.as_slice.result.now c.args.at no_step).edge.0 0)) c.as_slice-3.ensures.value
    ∙ ap (λ l. row_at links.out.items (get_or l (get_or c.as_slice.result.now c.args.at no_step).edge.0 0)) c.as_slice-2.ensures.value
    ∙ ap (λ l. row_at links.out.items (get_or links.firsts.items (get_or l c.args.at no_step).edge.0 0)) c.as_slice.ensures.value in
    record { row = row_start links c.args._field c.args._cut.now s c.args.at no_step c.as_slice-next-items.result.now c.requires.links c.requires.followed c.requires.inside row; stay = λ i t e. e }

pub offer-requires-clause-marks : goal.offer-requires-clause-marks
offer-requires-clause-marks c =
    let next = next_in c.args.links.now c.args._field c.args._cut.now c.loop-next.search c.args.at c.as_slice-next-items.result.now c.loop-next.next-index c.requires.links c.loop-next.invariant.row c.loop-next-test.true in
    let inside = next.inside in let count = c.requires.marks.count_is in
    omega (arith, inside, count)

pub offer-requires-clause-firsts : goal.offer-requires-clause-firsts
offer-requires-clause-firsts c =
    let next = next_in c.args.links.now c.args._field c.args._cut.now c.loop-next.search c.args.at c.as_slice-next-items.result.now c.loop-next.next-index c.requires.links c.loop-next.invariant.row c.loop-next-test.true in
    let inside = next.inside in let long = firsts_long c.args.links.now c.requires.links in
    omega (arith, inside, long)

pub offer-requires-clause-places : goal.offer-requires-clause-places
offer-requires-clause-places c =
    let next = next_in c.args.links.now c.args._field c.args._cut.now c.loop-next.search c.args.at c.as_slice-next-items.result.now c.loop-next.next-index c.requires.links c.loop-next.invariant.row c.loop-next-test.true in
    let first = next.first in let places = c.loop-next.invariant.row.following.search.places_are in
    omega (arith, first, places)

pub loop-next-preserved : goal.loop-next-preserved
loop-next-preserved c =
    let goes = row_more c.args.links.now c.args._field c.args._cut.now c.args.marks.now c.loop-next.search c.offer.new.search c.args.at c.as_slice-next-items.result.now c.loop-next.next-index
    c.requires.links c.requires.marks c.loop-next.invariant.row c.loop-next-test.true c.in_ok-offer.ensures in
    record { row = goes.at; stay = λ i s e. goes.stay i s (c.loop-next.invariant.stay i s e) }

pub returns-clause-followed : goal.returns-clause-followed
returns-clause-followed c =
    let row = c.as_slice-next-items.result.now in
    let past = c.loop-next-test.false in let within = c.loop-next.auto.next-index-end in
    let all : c.loop-next.next-index ≡ length row = omega (arith, past, within) in
    row_end c.args.links.now c.args._field c.args._cut.now c.loop-next.search c.args.at row c.requires.links
    (subst (λ n. IsInRow c.args.links.now c.args._field c.args._cut.now c.loop-next.search c.args.at row n) all c.loop-next.invariant.row)

pub returns-clause-stay : goal.returns-clause-stay
returns-clause-stay c = c.loop-next.invariant.stay

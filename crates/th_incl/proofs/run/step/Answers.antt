use Rattle.std.proofs.Common.{◌≡◌, [], length, refl, sym, ap, ◌∙◌, subst, arith}
use Rattle.std.specs.Vec.{with_items}
use Rattle.std.specs.List.{Contains}
use Rattle.std.proofs.lemmas.Bool.{iff_false}
use Rattle.std.proofs.lemmas.List.{with_items_is, length-set}
use Rattle.th_base.specs.IdSet.{union_of}
use Rattle.th_incl.specs.Least.{set_at}
use Rattle.th_incl.specs.Run.{out_at, Spreads}
use Rattle.th_incl.specs.Kept.{Settles}
use Rattle.th_incl.specs.declared.work.Work.{Work}
use Rattle.th_incl.proofs.Through.{read_at}
use Rattle.th_incl.proofs.Rounds.{no_length}
use Rattle.th_incl.proofs.Steps.{spreads_nothing, steps_by}
use Rattle.th_incl.proofs.run.step.Goals as goal

pub returns-then-is_empty-clause-steps : goal.returns-then-is_empty-clause-steps
returns-then-is_empty-clause-steps c = λ e.
    let s = c.args.system.now in
    let mid = c.settle.new.work in
    let fresh = c.in-Some.fresh in
    let t : Settles c.args.set c.args.work.now mid fresh = rw c.in-Some.is at c.in_ok-settle.ensures.settles in
    steps_by s c.args.set c.args.work.now mid mid fresh c.requires.consistent c.requires.inside t refl refl
    (spreads_nothing mid.sets.items s.filters (out_at s.out.items c.args.set) fresh mid.news.items mid.queue.items (c.is_empty.ensures.0 c.if-is_empty.true))
    (λ z. t.queue)

pub spread-requires-clause-news : goal.spread-requires-clause-news
spread-requires-clause-news c j one =
    let s = c.args.system.now in
    let v = c.requires.consistent in
    let t : Settles c.args.set c.args.work.now c.settle.new.work c.in-Some.fresh = rw c.in-Some.is at c.in_ok-settle.ensures.settles in
    let row = c.as_slice-2.ensures ∙ read_at s.out.items c.args.set c.index.result.now c.index.ensures (omega (arith, c.requires.inside, v.tables.out_len)) in
    let inside = v.tables.range.copies j (v.tables.only c.args.set j (subst (λ l. Contains l j) row one)).0 in
    omega (arith, inside.1, ap length c.as_mut_slice.ensures.value, ap length t.news, length-set c.args.work.now.news.items c.args.set [], v.inv.news_len)

pub spread-requires-clause-sets : goal.spread-requires-clause-sets
spread-requires-clause-sets c j one =
    let s = c.args.system.now in
    let v = c.requires.consistent in
    let t : Settles c.args.set c.args.work.now c.settle.new.work c.in-Some.fresh = rw c.in-Some.is at c.in_ok-settle.ensures.settles in
    let row = c.as_slice-2.ensures ∙ read_at s.out.items c.args.set c.index.result.now c.index.ensures (omega (arith, c.requires.inside, v.tables.out_len)) in
    let inside = v.tables.range.copies j (v.tables.only c.args.set j (subst (λ l. Contains l j) row one)).0 in
    omega (arith, inside.1, ap length c.as_slice-3.ensures.value, ap length t.sets, length-set c.args.work.now.sets.items c.args.set (union_of (set_at c.args.work.now.sets.items c.args.set) c.in-Some.fresh), v.inv.sets_len)

pub spread-requires-clause-filter : goal.spread-requires-clause-filter
spread-requires-clause-filter c j one =
    let s = c.args.system.now in
    let v = c.requires.consistent in
    let row = c.as_slice-2.ensures ∙ read_at s.out.items c.args.set c.index.result.now c.index.ensures (omega (arith, c.requires.inside, v.tables.out_len)) in
    let inside = v.tables.range.copies j (v.tables.only c.args.set j (subst (λ l. Contains l j) row one)).0 in
    omega (arith, inside.2, ap length c.as_slice.ensures)

pub returns-clause-steps : goal.returns-clause-steps
returns-clause-steps c = λ e.
    let s = c.args.system.now in
    let v = c.requires.consistent in
    let i = c.args.set in
    let w = c.args.work.now in
    let mid = c.settle.new.work in
    let fresh = c.in-Some.fresh in
    let t : Settles i w mid fresh = rw c.in-Some.is at c.in_ok-settle.ensures.settles in
    let row = c.as_slice-2.ensures ∙ read_at s.out.items i c.index.result.now c.index.ensures (omega (arith, c.requires.inside, v.tables.out_len)) in
    let p1 = subst (λ l. Spreads c.as_slice-3.result.now l c.as_slice-2.result.now c.ids.result.now c.as_mut_slice.result.now mid.queue.items c.spread.new.news c.spread.new.queue.items) c.as_slice.ensures c.in_ok-spread.ensures in
    let p2 = subst (λ l. Spreads l s.filters c.as_slice-2.result.now c.ids.result.now c.as_mut_slice.result.now mid.queue.items c.spread.new.news c.spread.new.queue.items) c.as_slice-3.ensures.value p1 in
    let p3 = subst (λ l. Spreads mid.sets.items s.filters l c.ids.result.now c.as_mut_slice.result.now mid.queue.items c.spread.new.news c.spread.new.queue.items) row p2 in
    let p4 = subst (λ l. Spreads mid.sets.items s.filters (out_at s.out.items i) l c.as_mut_slice.result.now mid.queue.items c.spread.new.news c.spread.new.queue.items) c.ids.ensures.value p3 in
    let p5 = subst (λ l. Spreads mid.sets.items s.filters (out_at s.out.items i) fresh l mid.queue.items c.spread.new.news c.spread.new.queue.items) c.as_mut_slice.ensures.value p4 in
    let news_are : (with_items mid.news c.spread.new.news).items ≡ c.spread.new.news = with_items_is mid.news c.spread.new.news (p5.news_len ∙ sym mid.news.ok.0) in
    let p6 = subst (λ l. Spreads mid.sets.items s.filters (out_at s.out.items i) fresh mid.news.items mid.queue.items l c.spread.new.queue.items) (sym news_are) p5 in
    let after : Work = record mid { news = with_items mid.news c.spread.new.news; queue = c.spread.new.queue } in
    steps_by s i w mid after fresh v c.requires.inside t refl refl p6
    (λ z. absurd (iff_false c.is_empty.ensures c.if-is_empty.false (no_length fresh z)))

use Rattle.std.proofs.Common.{◌≡◌, ◌<◌, ◌∙◌, get_or, length, sym, subst, ap, arith}
use Rattle.th_base.specs.IdSet.{has}
use Rattle.th_paths.specs.Paths.{end_of}
use Rattle.th_paths.proofs.Places.{no_edge}
use Rattle.th_paths.proofs.Traced.{no_step}
use Rattle.th_paths.proofs.Complete.{step_inside, hits_at, misses_more}
use Rattle.th_paths.proofs.search.run.Goals as goal

pub bounds-as_slice-step : goal.bounds-as_slice-step
bounds-as_slice-step c =
    let links = c.args.links.now in
    let s = c.loop-at.search in
    let at = c.loop-at.at in
    let less = c.loop-at-test.true in let size = c.len.ensures in
    let inside : at < length s.steps.items = omega (arith, less, size) in
    subst (λ l. (get_or l at no_step).edge.0 < length c.as_slice-in-loop-at.result.now) (sym c.as_slice.ensures.value)
    (subst (λ l. (get_or s.steps.items at no_step).edge.0 < length l) (sym c.as_slice-in-loop-at.ensures)
    (step_inside links.edges links.firsts.items c.args.field c.args.cut.now s.steps.items s.places.items at at no_step c.loop-at.invariant.followed inside))

pub returns-then-contains : goal.returns-then-contains
returns-then-contains c =
    let links = c.args.links.now in
    let s = c.loop-at.search in
    let at = c.loop-at.at in
    let less = c.loop-at-test.true in let size = c.len.ensures in
    let inside : at < length s.steps.items = omega (arith, less, size) in
    let read : end_of (get_or links.edges (get_or s.steps.items at no_step).edge.0 no_edge) ≡ c.end_of.result =
    sym (c.end_of.ensures ∙ ap (λ l. end_of (get_or l (get_or c.as_slice.result.now at no_step).edge.0 no_edge)) c.as_slice-in-loop-at.ensures
    ∙ ap (λ l. end_of (get_or links.edges (get_or l at no_step).edge.0 no_edge)) c.as_slice.ensures.value) in
    record {
      followed = c.loop-at.invariant.followed;
      misses = c.loop-at.invariant.misses;
      hits = hits_at links.edges links.firsts.items c.args.field c.args.goal.now c.args.cut.now s.steps.items s.places.items at at no_step no_edge c.loop-at.invariant.followed inside
          (ap (has c.args.goal.now) read ∙ sym c.contains.ensures ∙ c.if-contains.true);
    }

pub loop-at-preserved : goal.loop-at-preserved
loop-at-preserved c =
    let links = c.args.links.now in
    let s = c.loop-at.search in
    let at = c.loop-at.at in
    let less = c.loop-at-test.true in let size = c.len.ensures in
    let inside : at < length s.steps.items = omega (arith, less, size) in
    let read : end_of (get_or links.edges (get_or s.steps.items at no_step).edge.0 no_edge) ≡ c.end_of.result =
    sym (c.end_of.ensures ∙ ap (λ l. end_of (get_or l (get_or c.as_slice.result.now at no_step).edge.0 no_edge)) c.as_slice-in-loop-at.ensures
    ∙ ap (λ l. end_of (get_or links.edges (get_or l at no_step).edge.0 no_edge)) c.as_slice.ensures.value) in
    record {
      followed = c.in_ok-follow.ensures.followed;
      misses = misses_more links.edges c.args.goal.now s.steps.items c.follow.new.search.steps.items at no_step no_edge c.in_ok-follow.ensures.stay c.loop-at.invariant.misses inside
          (ap (has c.args.goal.now) read ∙ sym c.contains.ensures ∙ c.if-contains.false);
    }

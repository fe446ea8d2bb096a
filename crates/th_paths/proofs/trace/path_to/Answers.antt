use Rattle.std.proofs.Common.{◌≡◌, ◌++◌, reverse, get_or, length, sym, subst, ◌+◌, ◌<◌}
use Rattle.std.specs.Option.{option_map_or}
use Rattle.th_paths.specs.Search.{IsBelow, path_at}
use Rattle.th_paths.proofs.Traced.{no_step, path_before, traced_more, before_below, below_within, below_smaller}
use Rattle.th_paths.proofs.trace.path_to.Goals as goal

pub loop-next-smaller : goal.loop-next-smaller
loop-next-smaller c =
    let steps = c.args.steps.now in let place = c.in-Some.place in
    let inside : place < length steps = subst (λ o. IsBelow o (length steps)) c.in-Some.is c.loop-next.invariant.inside in
    let before = (get_or steps place no_step).before in
    subst (λ o. option_map_or (λ i. i + 1) before 0 < option_map_or (λ i. i + 1) o 0) (sym c.in-Some.is)
    (below_smaller before place (before_below steps c.requires.paths.0 place no_step c.requires.paths.1 inside))

pub loop-next-preserved : goal.loop-next-preserved
loop-next-preserved c =
    let steps = c.args.steps.now in let place = c.in-Some.place in
    let inside : place < length steps = subst (λ o. IsBelow o (length steps)) c.in-Some.is c.loop-next.invariant.inside in
    let before = (get_or steps place no_step).before in
    record {
      inside = below_within before place (length steps) inside (before_below steps c.requires.paths.0 place no_step c.requires.paths.1 inside);
      rest = λ paths are.
          traced_more steps paths c.args.at place no_step c.loop-next.path.items c.push.new.self.items are inside
          (subst (λ o. path_at paths c.args.at ≡ path_before paths o ++ reverse c.loop-next.path.items) c.in-Some.is (c.loop-next.invariant.rest paths are))
          c.in_ok-push.ensures.items;
    }

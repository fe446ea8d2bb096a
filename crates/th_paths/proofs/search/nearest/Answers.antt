use Rattle.std.proofs.Common.{◌+◌, sym, subst, get_or, take}
use Rattle.std.proofs.lemmas.List.{take_more}
use Rattle.th_paths.specs.Search.{IsNearest, lesser_of}
use Rattle.th_paths.proofs.Tables.{nearest_more}
use Rattle.th_paths.proofs.search.nearest.Goals as goal

pub loop-site-preserved : goal.loop-site-preserved
loop-site-preserved c =
    let edges = c.args.links.now.edges in
    let places = c.args.search.now.places.items in
    let goal_sites = c.ids-site-items.result.now in
    let at = c.loop-site.site-index in
    subst (λ o. IsNearest edges places (take (at + 1) goal_sites) o) (sym c.lesser-nearest.ensures)
    (subst (λ l. IsNearest edges places l (lesser_of c.loop-site.nearest c.place_of.result)) (sym (take_more goal_sites at 0 c.loop-site-test.true))
    (nearest_more edges places (take at goal_sites) (get_or goal_sites at 0) c.loop-site.nearest c.place_of.result c.loop-site.invariant c.place_of.ensures))

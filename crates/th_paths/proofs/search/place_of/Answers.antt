use Rattle.std.proofs.Common.{◌≡◌, ◌<◌, ◌∙◌, Some, length, sym, subst, arith}
use Rattle.std.proofs.lemmas.Option.{slice_get_within}
use Rattle.th_paths.specs.Links.{first_at}
use Rattle.th_paths.proofs.Places.{first_is}
use Rattle.th_paths.proofs.search.place_of.Goals as goal

pub bounds-as_slice-first : goal.bounds-as_slice-first
bounds-as_slice-first c =
    let edges = c.args.links.now.edges in
    let first : first_at edges c.args.site ≡ Some c.in-Some.first.now = sym (c.requires.links.sites c.args.site) ∙ sym c.in-Some.ensures.value in
    let known = first_is edges c.args.site c.in-Some.first.now first in
    let inside = slice_get_within edges c.in-Some.first.now known.edge known.stands in
    let same = c.requires.places in
    subst (λ l. c.in-Some.first.now < length l) (sym c.as_slice.ensures.value) (omega (arith, inside, same))

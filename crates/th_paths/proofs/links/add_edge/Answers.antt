use Rattle.std.proofs.Common.{◌≡◌, ◌∙◌, ℕ, Some, sym, slice_set, ◌++◌, ◌∷◌, [], if◌then◌else◌, arith}
use Rattle.std.proofs.lemmas.Option.{slice_get_within}
use Rattle.th_paths.specs.Links.{first_at, row_at, follows}
use Rattle.th_paths.proofs.Places.{on_ok, first_is}
use Rattle.th_paths.proofs.Tables.{row_put}
use Rattle.th_paths.proofs.links.add_edge.Goals as goal

pub add_to-requires : goal.add_to-requires
add_to-requires c =
    let edges = c.args.edges.now in
    let first : first_at edges c.in-Some.site ≡ Some c.in-Some-get.first.now = sym (c.requires.sites c.in-Some.site) ∙ sym c.in-Some-get.ensures.value in
    let known = first_is edges c.in-Some.site c.in-Some-get.first.now first in
    let inside = slice_get_within edges c.in-Some-get.first.now known.edge known.stands in
    let same = c.requires.rows in
    omega (arith, inside, same)

pub returns-in-Some-get-clause-rows : goal.returns-in-Some-get-clause-rows
returns-in-Some-get-clause-rows c =
    let edges = c.args.edges.now in
    let rows = c.args.rows.now.items in
    let after = c.add_to.new.rows.items in
    let row = c.in-Some-get.first.now in
    let first : first_at edges c.in-Some.site ≡ Some row = sym (c.requires.sites c.in-Some.site) ∙ sym c.in-Some-get.ensures.value in
    let known = first_is edges c.in-Some.site row first in
    let inside = slice_get_within edges row known.edge known.stands in
    let same = c.requires.rows in
    on_ok c.add_to.result (after ≡ slice_set rows row (row_at rows row ++ c.args.number ∷ []))
    ((r : ℕ) → row_at after r ≡ row_at rows r ++ (if follows edges r c.args.edge then c.args.number ∷ [] else []))
    (λ is. row_put edges rows after c.args.edge c.in-Some.site row c.args.number (omega (arith, inside, same)) (sym c.in-Some.ensures) first is)
    c.add_to.ensures.rows

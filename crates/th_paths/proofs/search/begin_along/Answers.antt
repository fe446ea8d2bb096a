use Rattle.std.proofs.Common.{◌≡◌, ◌+◌, get_or, None, true, Some, sym, ap, ◌∙◌, arith}
use Rattle.std.proofs.lemmas.Option.{get_or_from_slice_get}
use Rattle.th_ir.specs.declared.graph.Edge.TheVariants.{Static}
use Rattle.th_paths.specs.Search.{is_static_of, Offers, IsBegun}
use Rattle.th_paths.proofs.Places.{no_edge, are_firsts, get_within, on_ok}
use Rattle.th_paths.proofs.Stages.{begun_more, begun_past, static_is, static_is_not}
use Rattle.th_paths.proofs.search.begin_along.Goals as goal

pub offer-requires-clause-places : goal.offer-requires-clause-places
offer-requires-clause-places c =
    let links = c.args.links.now in
    let at = get_within links.edges c.args.k c.requires.inside in
    let known = (are_firsts links.edges links.firsts.items c.requires.links.firsts).inside c.args.k at.0 at.1 in
    let places = c.requires.begun.search.places_are in
    omega (arith, known, places)

pub returns-then-is_static_of : goal.returns-then-is_static_of
returns-then-is_static_of c =
    let links = c.args.links.now in
    let edges = links.edges in
    let at = get_within edges c.args.k c.requires.inside in
    let test : is_static_of c.args.field at.0 ≡ true =
    ap (is_static_of c.args.field) (sym (get_or_from_slice_get edges c.args.k at.0 no_edge at.1) ∙ sym (ap (λ l. get_or l c.args.k no_edge) c.as_slice.ensures))
    ∙ sym c.is_static_of.ensures ∙ c.if-is_static_of.true in
    let is = static_is c.args.field at.0 test in
    on_ok c.offer.result (Offers links.firsts.items c.args.marks.now c.args.search.now c.offer.new.search c.args.k None)
    (IsBegun edges links.firsts.items c.args.field c.args._cut.now c.offer.new.search.steps.items c.offer.new.search.places.items (c.args.k + 1))
    (begun_more edges links.firsts.items c.args.field c.args._cut.now c.args.marks.now c.args.search.now c.offer.new.search c.args.k is.0
    (are_firsts edges links.firsts.items c.requires.links.firsts) (c.requires.marks.mark c.args.k c.requires.inside) (at.1 ∙ ap Some is.1) c.requires.begun)
    c.offer.ensures

pub returns : goal.returns
returns c =
    let links = c.args.links.now in
    let edges = links.edges in
    begun_past edges links.firsts.items c.args.field c.args._cut.now c.args.search.now.steps.items c.args.search.now.places.items c.args.k
    (λ x e. static_is_not c.args.field (get_or c.as_slice.result.now c.args.k no_edge) x (sym c.is_static_of.ensures ∙ c.if-is_static_of.false)
    (ap (λ l. get_or l c.args.k no_edge) c.as_slice.ensures ∙ get_or_from_slice_get edges c.args.k (Static c.args.field x) no_edge e))
    c.requires.begun

use Rattle.std.proofs.Common.{◌≡◌, ◌<◌, length, true, false, sym, ◌∙◌, arith}
use Rattle.std.specs.List.{slice_index_or}
use Rattle.th_base.specs.IdSet.{has}
use Rattle.th_incl.specs.Least.{set_at}
use Rattle.th_ir.specs.Sites.{is_ref_array, can_store}
use Rattle.th_points_to.specs.declared.place.Place.TheVariants.{Elements, Register}
use Rattle.th_points_to.specs.Places.{IncludesThrough}
use Rattle.th_points_to.proofs.Adding.{adds_as, adds_none}
use Rattle.th_points_to.proofs.Obeying.{ref_array_inside}
use Rattle.th_points_to.proofs.nodes.store.Goals as goal

pub returns-then-at-filters : goal.returns-then-at-filters
returns-then-at-filters c =
    let p = c.args.program.now in
    let h = c.args.hierarchy.now in
    let a = c.args.site.0 in
    adds_none c.args.layout p c.args.found.now (λ t. is_ref_array p a ≡ true → IncludesThrough c.args.layout t (can_store h p a) (Register c.args.src) (Elements c.args.site)) c.requires.laid
    (λ t range e. (let inside = ref_array_inside p a e in absurd (omega (arith, inside, c.if-at-filters.true, c.requires.filters.len))))

pub include_through-requires-clause-filter : goal.include_through-requires-clause-filter
include_through-requires-clause-filter c =
    c.requires.filters.inside c.args.site.0 (omega (arith, c.if-at-filters.false, c.requires.filters.len))

pub returns-then-is_ref_array : goal.returns-then-is_ref_array
returns-then-is_ref_array c =
    let p = c.args.program.now in
    let h = c.args.hierarchy.now in
    let a = c.args.site.0 in
    let fs = c.args.found.now.solver.constraints.filters in
    let f = slice_index_or c.args.filters.now a 0 in
    let inside : a < length p.sites = omega (arith, c.if-at-filters.false, c.requires.filters.len) in
    let is : is_ref_array p a ≡ true = sym c.is_ref_array.ensures ∙ c.if-is_ref_array.true in
    adds_as c.args.layout p c.args.found.now c.include_through.new.found (λ t. IncludesThrough c.args.layout t (has (set_at fs f)) (Register c.args.src) (Elements c.args.site))
    (λ t. is_ref_array p a ≡ true → IncludesThrough c.args.layout t (can_store h p a) (Register c.args.src) (Elements c.args.site))
    (λ t asks there to x one pass. asks is there to x one (sym (c.requires.filters.exact a x inside is) ∙ pass))
    (λ t range asks e there to x one pass. asks there to x one (c.requires.filters.exact a x inside is ∙ pass))
    (c.in_ok-include_through.ensures p)

pub returns : goal.returns
returns c =
    let p = c.args.program.now in
    let h = c.args.hierarchy.now in
    let a = c.args.site.0 in
    let apart : is_ref_array p a ≡ false = sym c.is_ref_array.ensures ∙ c.if-is_ref_array.false in
    adds_none c.args.layout p c.args.found.now (λ t. is_ref_array p a ≡ true → IncludesThrough c.args.layout t (can_store h p a) (Register c.args.src) (Elements c.args.site)) c.requires.laid
    (λ t range e. absurd cc)

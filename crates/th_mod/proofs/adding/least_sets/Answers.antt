use Rattle.std.proofs.Common.{◌≡◌, ◌<◌, [], ◌∷◌, length, sym, ap, ◌∙◌, subst}
use Rattle.th_mod.proofs.adding.least_sets.Goals as goal

pub add_bases-requires-clause-range : goal.add_bases-requires-clause-range
add_bases-requires-clause-range c = λ i x one. subst (λ n. i < n) (sym (ap (λ s. s.sets) c.loop-place.invariant.added)) (c.requires.base i x one)

pub add_bases-requires-2-clause-range : goal.add_bases-requires-2-clause-range
add_bases-requires-2-clause-range c = λ i x one. subst (λ n. i < n) (sym (ap (λ s. s.sets) c.loop-place.invariant.added)) (c.requires.base i x one)

pub add_copies-requires-clause-sets : goal.add_copies-requires-clause-sets
add_copies-requires-clause-sets c = λ j one.
    let e : c.add_bases.new.solver.constraints.sets ≡ c.args.sets =
    ap (λ s. s.sets) c.in_ok-bases_added.ensures.added ∙ ap (λ s. s.sets) c.loop-place.invariant.added in
    let r = c.requires.copies j one in
    (subst (λ n. j.from < n) (sym e) r.0, subst (λ n. j.to < n) (sym e) r.1)

pub add_copies-requires-clause-filters : goal.add_copies-requires-clause-filters
add_copies-requires-clause-filters c = λ j one.
    let e : c.add_bases.new.solver.constraints.filters ≡ c.args.passing ∷ [] =
    ap (λ s. s.filters) c.in_ok-bases_added.ensures.added ∙ ap (λ s. s.filters) c.loop-place.invariant.added in
    let r = c.requires.copies j one in
    subst (λ l. j.filter < length l) (sym e) r.2

pub add_copies-requires-2-clause-sets : goal.add_copies-requires-2-clause-sets
add_copies-requires-2-clause-sets c = λ j one.
    let e : c.add_bases-2.new.solver.constraints.sets ≡ c.args.sets =
    ap (λ s. s.sets) c.in_ok-add_bases.ensures.added ∙ ap (λ s. s.sets) c.loop-place.invariant.added in
    let r = c.requires.copies j one in
    (subst (λ n. j.from < n) (sym e) r.0, subst (λ n. j.to < n) (sym e) r.1)

pub add_copies-requires-2-clause-filters : goal.add_copies-requires-2-clause-filters
add_copies-requires-2-clause-filters c = λ j one.
    let e : c.add_bases-2.new.solver.constraints.filters ≡ c.args.passing ∷ [] =
    ap (λ s. s.filters) c.in_ok-add_bases.ensures.added ∙ ap (λ s. s.filters) c.loop-place.invariant.added in
    let r = c.requires.copies j one in
    subst (λ l. j.filter < length l) (sym e) r.2

use Rattle.std.proofs.Common.{◌≡◌, sym, ap, ◌∙◌, subst}
use Rattle.th_incl.specs.Least.{IsLeast}
use Rattle.th_incl.specs.View.{opening, with_bases, with_copies}
use Rattle.th_incl.proofs.solver.solve.Goals as goal

pub returns : goal.returns
returns c =
    let d = c.args.constraints.now in
    let start : c.in_ok-solver.solver ≡ opening d.sets d.filters = c.in_ok-solver.ensures ∙ ap (λ f. opening d.sets f) (c.into_vec.ensures ∙ c.in_ok-filters.ensures) in
    let added : c.add_copies.new.solver ≡ with_copies (with_bases (opening d.sets d.filters) d.base) d.copies =
    c.in_ok-add_copies.ensures ∙ ap (λ v. with_copies v d.copies) (c.in_ok-add_bases.ensures ∙ ap (λ v. with_bases v d.base) start) in
    let all : c.run.new.self.constraints ≡ d = c.in_ok-run.ensures.constraints ∙ ap (λ v. v.constraints) added in
    subst (λ e. IsLeast e c.into_sets.result.items) all (subst (λ s. IsLeast c.run.new.self.constraints s) (sym c.into_sets.ensures) c.in_ok-run.ensures.least)

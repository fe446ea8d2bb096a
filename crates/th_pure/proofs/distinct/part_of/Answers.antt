use Rattle.std.proofs.Common.{◌≡◌, rules, slice_get, Some, ap, sym, ◌∙◌}
use Rattle.std.specs.Int.{w128}
use Rattle.std.specs.Int.RustNames.{FitsSigned}
use Rattle.std.proofs.lemmas.Int.{to_z-of_z}
use Rattle.std.proofs.lemmas.Option.{slice_get-get_or, slice_get_past}
use Rattle.th_pure.specs.Distinct.{part_of}
use Rattle.th_pure.proofs.Indexed.{small_get}
use Rattle.th_pure.proofs.distinct.part_of.Goals as goal

pub weighed-requires : goal.weighed-requires
weighed-requires c =
    let t = c.in-Some.term.now in
    let f : FitsSigned w128 t.1 = search rules in
    let is : slice_get c.args.terms.now c.args.at ≡ Some t = slice_get-get_or c.args.terms.now c.args.at t c.in-Some.ensures.lookup.3.0 ∙ ap Some (sym c.in-Some.ensures.lookup.1) in
    rw (to_z-of_z w128 t.1 f) (small_get 0 c.args.at c.args.terms.now t c.requires is)

pub returns-in-Some-clause-value : goal.returns-in-Some-clause-value
returns-in-Some-clause-value c =
    let t = c.in-Some.term.now in
    let f : FitsSigned w128 t.1 = search rules in
    let is : slice_get c.args.terms.now c.args.at ≡ Some t = slice_get-get_or c.args.terms.now c.args.at t c.in-Some.ensures.lookup.3.0 ∙ ap Some (sym c.in-Some.ensures.lookup.1) in
    rw (to_z-of_z w128 t.1 f) at c.weighed.ensures.value ∙ ap part_of (sym is)

pub returns-in-None-clause-value : goal.returns-in-None-clause-value
returns-in-None-clause-value c = ap part_of (sym (slice_get_past c.args.terms.now c.args.at c.in-None.ensures.lookup.3))

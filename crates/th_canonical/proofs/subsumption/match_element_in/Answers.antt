use Rattle.std.proofs.Common.{◌≡◌, ◌∙◌, subst, get_or, None, [], ◌∷◌}
use Rattle.th_query.specs.declared.query.Element.{Element}
use Rattle.th_query.specs.Subsumed.{matched_all}
use Rattle.th_canonical.proofs.Turning.{first_more_at}
use Rattle.th_canonical.proofs.subsumption.match_element_in.Goals as goal

pub loop-other-preserved : goal.loop-other-preserved
loop-other-preserved c =
    let none : Element = record { array = 0; value = 0 } in
    let other = get_or c.args.others.now c.loop-other.other-index none in (
      first_more_at (λ d. matched_all c.args.query.now c.args.by.now ((c.args.element.array, d.array) ∷ (c.args.element.value, d.value) ∷ []) c.args.matching.now) c.args.others.now c.loop-other.other-index none _ c.loop-other-test.true
          (subst (λ k. matched_all c.args.query.now c.args.by.now ((c.args.element.array, other.array) ∷ (c.args.element.value, other.value) ∷ []) k ≡ None) c.loop-other.invariant.1 c.if-match_elements.ensures.0) c.loop-other.invariant.0,
      c.if-match_elements.ensures.1 ∙ c.loop-other.invariant.1,
    )

use Rattle.std.proofs.Common.{sym, ap, arith, ◌∙◌}
use Rattle.std.proofs.lemmas.Option.{slice_get_within}
use Rattle.th_ir.proofs.Plain.{not_both}
use Rattle.th_points_to.specs.Storing.{is_ref_text}
use Rattle.th_points_to.proofs.filters.filter_at.Goals as goal

pub returns-then-is_ref_array_text-clause-number : goal.returns-then-is_ref_array_text-clause-number
returns-then-is_ref_array_text-clause-number c =
    let one = c.in_ok-number.ensures.number in
    let inside = slice_get_within _ one.place _ one.stands in
    record { inside = omega (arith, one.number, inside, c.in_ok-number.ensures.made.len); is = λ r. one }

pub returns-clause-number : goal.returns-clause-number
returns-clause-number c = record {
  inside = omega (arith, c.requires.made.len);
  is = λ r. absurd (not_both (is_ref_text c.args.site.now.class) r (sym (c.is_ref_array_text.ensures ∙ ap is_ref_text c.as_bytes.ensures) ∙ c.if-is_ref_array_text.false));
}

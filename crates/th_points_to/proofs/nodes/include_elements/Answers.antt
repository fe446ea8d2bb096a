use Rattle.std.proofs.Common.{◌≡◌, true, sym, ◌∙◌}
use Rattle.th_ir.specs.Sites.{is_ref_array}
use Rattle.th_points_to.specs.declared.place.Place.TheVariants.{Elements, Register}
use Rattle.th_points_to.specs.Places.{Includes}
use Rattle.th_points_to.proofs.Adding.{adds_as}
use Rattle.th_points_to.proofs.nodes.include_elements.Goals as goal

pub returns-then-is_ref_array : goal.returns-then-is_ref_array
returns-then-is_ref_array c =
    let p = c.args.program.now in
    let is : is_ref_array p c.args.site.0 ≡ true = sym c.is_ref_array.ensures ∙ c.if-is_ref_array.true in
    adds_as c.args.layout p c.args.found.now c.include.new.found (λ t. Includes c.args.layout t (Elements c.args.site) (Register c.args.dst))
    (λ t. is_ref_array p c.args.site.0 ≡ true → Includes c.args.layout t (Elements c.args.site) (Register c.args.dst))
    (λ t asks. asks is) (λ t range asks e. asks) (c.in_ok-include.ensures p)

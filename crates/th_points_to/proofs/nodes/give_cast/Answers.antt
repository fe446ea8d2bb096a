use Rattle.std.proofs.Common.{◌≡◌, true, sym, ◌∙◌}
use Rattle.th_ir.specs.Sites.{site_is}
use Rattle.th_points_to.specs.declared.place.Place.TheVariants.{Register}
use Rattle.th_points_to.specs.Places.{Gives}
use Rattle.th_points_to.proofs.Adding.{adds_as}
use Rattle.th_points_to.proofs.nodes.give_cast.Goals as goal

pub returns-then-site_is : goal.returns-then-site_is
returns-then-site_is c =
    let p = c.args.program.now in
    let h = c.args.hierarchy.now in
    let is : site_is h p c.args.text.now c.args.site.0 ≡ true = sym c.site_is.ensures ∙ c.if-site_is.true in
    adds_as c.args.layout p c.args.found.now c.give.new.found (λ t. Gives c.args.layout t (Register c.args.dst) c.args.site.0)
    (λ t. site_is h p c.args.text.now c.args.site.0 ≡ true → Gives c.args.layout t (Register c.args.dst) c.args.site.0)
    (λ t asks. asks is) (λ t range asks e. asks) (c.in_ok-give.ensures p)

use Rattle.std.proofs.Common.{◌≡◌, true, sym, ◌∙◌, arith}
use Rattle.std.specs.Prelude.{⊤}
use Rattle.th_points_to.specs.Found.{holds}
use Rattle.th_points_to.proofs.Adding.{adds_nothing, adds_as, adds_after, adds_base}
use Rattle.th_points_to.proofs.found.give.Goals as goal

pub returns-then-site-layout : goal.returns-then-site-layout
returns-then-site-layout c = λ p.
    adds_as c.args.layout p c.args.found.now c.args.found.now (λ t. ⊤) _ (λ t is. tt) (λ t range is there place. absurd (omega (arith, there, c.if-site-layout.true)))
    (adds_nothing c.args.layout p c.args.found.now c.requires)

pub returns-in-None : goal.returns-in-None
returns-in-None c = λ p.
    let none = rw c.in-None.is at c.in_ok-to.ensures.set in
    adds_as c.args.layout p c.args.found.now c.set_of.new.found (λ t. ⊤) _ (λ t is. tt) (λ t range is there place. absurd (none place)) (c.in_ok-to.ensures.adds p)

pub add_base-requires : goal.add_base-requires
add_base-requires c = let set = rw c.in-Some.is at c.in_ok-to.ensures.set in set.inside

pub returns : goal.returns
returns c = λ p.
    let l = c.args.layout in
    let set = rw c.in-Some.is at c.in_ok-to.ensures.set in
    let g = c.set_of.new.found in
    let adds = c.in_ok-to.ensures.adds p in
    adds_as l p c.args.found.now _ (λ t. holds l g.cells.keys t c.in-Some.to c.args.site.0 ≡ true) _
    (λ t is. set.same t c.args.site.0 ∙ is c.if-site-layout.false set.there)
    (λ t range is there place. sym (set.same t c.args.site.0) ∙ is)
    (adds_after l p c.args.found.now g _ (λ t. holds l g.cells.keys t c.in-Some.to c.args.site.0 ≡ true) adds
    (adds_base l p g c.add_base.new.self c.in-Some.to c.args.site.0 adds.laid set.inside c.if-site-layout.false c.in_ok-add_base.ensures))

use Rattle.th_points_to.proofs.Adding.{adds_as}
use Rattle.th_points_to.proofs.found.include.Goals as goal

pub returns : goal.returns
returns c = λ p.
    adds_as c.args.layout p c.args.found.now c.include_through.new.found _ _
    (λ t is there to_there x one pass. is there to_there x one)
    (λ t range is there to_there x one. is there to_there x one (c.requires.every x (range c.args.from x one)))
    (c.in_ok-include_through.ensures p)

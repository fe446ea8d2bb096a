use Rattle.std.proofs.Common.{◌≡◌, ◌<◌, false, refl, arith}
use Rattle.std.proofs.lemmas.Bool.{both_ways}
use Rattle.th_base.specs.Climb.{rank_of}
use Rattle.th_base.proofs.Climbing.{ranked_apart}
use Rattle.th_base.proofs.cycle.leads_back.Goals as goal

pub returns-then-rank_of : goal.returns-then-rank_of
returns-then-rank_of c =
    let lower : rank_of c.args.ranks.now c.args.supertype < rank_of c.args.ranks.now c.args.class = omega (arith, c.if-rank_of.true, c.rank_of.ensures, c.rank_of-2.ensures) in
    (λ h. absurd (both_ways false refl h), λ at. absurd (ranked_apart c.args.classes.now c.args.ranks.now c.args.class c.args.supertype c.requires.ranks lower at))

use Rattle.std.proofs.Common.{refl}
use Rattle.std.proofs.lemmas.Fn.{says_at_two}
use Rattle.th_base.proofs.seq.same_by.Goals as goal

pub returns : goal.returns
returns g c = c.requires.exact c.args.left.now c.args.right.now c.same.result (says_at_two g.F.Fn c.same.ensures refl)

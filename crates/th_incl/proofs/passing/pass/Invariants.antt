use Rattle.std.proofs.Common.{◌++◌, take}
use Rattle.th_incl.specs.Parts.{SameMembers, missing}
use Rattle.th_incl.proofs.passing.pass.Given as goal

abbrev pub invariant-loop-id : goal.invariant-loop-id
invariant-loop-id l = SameMembers (missing (take l.id-index l.fresh) l.filter l.target ++ l.fn.news) l.news

use Rattle.std.proofs.lemmas.Bool.{ltb-true}
use Rattle.th_incl.proofs.Members.{IsAscending-push}
use Rattle.th_incl.proofs.news.stays_ascending.Goals as goal

pub returns : goal.returns
returns c = λ e. IsAscending-push c.args.ids.now c.args.id (c.requires c.if-not-was.false) (λ l. ltb-true _ _ e)

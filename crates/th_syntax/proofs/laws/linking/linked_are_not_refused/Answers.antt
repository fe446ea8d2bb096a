use Rattle.th_syntax.proofs.Linked.{linked_not_refused}
use Rattle.th_syntax.proofs.laws.linking.linked_are_not_refused.Goals as goal

pub returns : goal.returns
returns c files refusal linked first = linked_not_refused files refusal linked first

use Rattle.th_syntax.proofs.laws.linking.linked_are_acyclic.Goals as goal

pub returns : goal.returns
returns c files linked = linked.ordered.acyclic

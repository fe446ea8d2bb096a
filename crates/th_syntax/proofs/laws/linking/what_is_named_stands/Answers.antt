use Rattle.th_syntax.proofs.Standing.{named_stands}
use Rattle.th_syntax.proofs.laws.linking.what_is_named_stands.Goals as goal

pub returns : goal.returns
returns c files i linked reached = named_stands files i linked reached

use Rattle.th_syntax.proofs.Acting.{moves_are, computes_are, branches_are, accesses_are, makes_are, indexes_are, calls_are, abstract_are, strings_are}
use Rattle.th_syntax.proofs.laws.instructions_act.Goals as goal

pub returns : goal.returns
returns c = record { moving = moves_are; computing = computes_are; branching = branches_are; accessing = accesses_are; making = makes_are; indexing = indexes_are; calling = calls_are; with_abstract = abstract_are; strings = strings_are }

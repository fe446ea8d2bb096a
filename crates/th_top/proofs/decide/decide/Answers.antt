use Rattle.th_top.proofs.Deciding.{none_named}
use Rattle.th_top.proofs.decide.decide.Goals as goal

pub returns-in-Err-NoMemory-clause-named : goal.returns-in-Err-NoMemory-clause-named
returns-in-Err-NoMemory-clause-named g c = none_named _ _ _ _

use Rattle.th_input.proofs.OnceScripted.{one_script, one, not_both, one_end}
use Rattle.th_input.proofs.laws.one_scripted_input.Goals as goal

pub returns-clause-one_script : goal.returns-clause-one_script
returns-clause-one_script c = one_script

pub returns-clause-one : goal.returns-clause-one
returns-clause-one c = one

pub returns-clause-not_both : goal.returns-clause-not_both
returns-clause-not_both c = not_both

pub returns-clause-one_end : goal.returns-clause-one_end
returns-clause-one_end c = one_end

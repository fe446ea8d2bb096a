use Rattle.th_accept.proofs.Refusing.{all_have_kinds, kinds_refused}
use Rattle.th_accept.proofs.kinds.check_kinds.Goals as goal

pub returns-in-Ok-clause-kinds : goal.returns-in-Ok-clause-kinds
returns-in-Ok-clause-kinds g c = all_have_kinds c.args.classes.now c.in_ok-answers.answers.items c.in_ok-answers.ensures c.in-Ok.ensures.none

pub returns-clause-refused : goal.returns-clause-refused
returns-clause-refused g c = kinds_refused c.args.classes.now c.in_ok-answers.answers.items c.in-Err.fail c.in_ok-answers.ensures c.in-Err.ensures.first

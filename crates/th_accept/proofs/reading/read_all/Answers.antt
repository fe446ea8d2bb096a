use Rattle.th_accept.proofs.Refusing.{all_stand, file_refused}
use Rattle.th_accept.proofs.reading.read_all.Goals as goal

pub returns-clause-stand : goal.returns-clause-stand
returns-clause-stand g c = all_stand c.gather.result c.args.files.now c.in_ok-answers.answers.items c.in_ok-answers.ensures c.gather.ensures.none c.gather.ensures.values

pub returns-clause-refused : goal.returns-clause-refused
returns-clause-refused g c = file_refused c.gather.result c.args.files.now c.in_ok-answers.answers.items c.in_ok-answers.ensures c.gather.ensures.first

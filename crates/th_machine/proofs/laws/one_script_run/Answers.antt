use Rattle.th_machine.specs.Script.{begun}
use Rattle.th_machine.proofs.OneWay.{one_script}
use Rattle.th_machine.proofs.laws.one_script_run.Goals as goal

pub returns : goal.returns
returns c = λ files lifecycle fuel events a b x y. one_script events (begun files lifecycle) fuel 1 a b x y

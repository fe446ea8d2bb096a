use Rattle.th_machine.proofs.OneWay.{one_answer}
use Rattle.th_machine.proofs.laws.one_answer.Goals as goal

pub returns : goal.returns
returns c = λ m t u e fuel left rest o p a b.
    let one = one_answer m e fuel t u left rest o p a b in (one.same_machine, one.same_fuel, one.same_outcome)

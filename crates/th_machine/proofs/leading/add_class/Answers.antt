use Rattle.std.proofs.Common.{subst, sym}
use Rattle.std.specs.Prelude.{option_to_list}
use Rattle.th_machine.specs.Leading.{Joins}
use Rattle.th_machine.proofs.Leadings.{joins_one}
use Rattle.th_machine.proofs.leading.add_class.Goals as goal

pub returns-in_ok-insert-in-Some : goal.returns-in_ok-insert-in-Some
returns-in_ok-insert-in-Some c =
    subst (λ o. Joins c.args.classes.now.keys c.insert.new.self.keys (option_to_list o)) (sym c.in-Some.is)
    (joins_one c.args.classes.now.keys c.insert.new.self.keys c.in-Some.number c.in_ok-insert-in-Some.ensures.keys)

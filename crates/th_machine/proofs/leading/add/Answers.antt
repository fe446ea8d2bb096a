use Rattle.std.proofs.Common.{subst, sym}
use Rattle.std.specs.Prelude.{option_to_list}
use Rattle.th_machine.specs.Leading.{Joins, address_in}
use Rattle.th_machine.proofs.Leadings.{joins_one}
use Rattle.th_machine.proofs.leading.add.Goals as goal

pub returns-in_ok-insert-in-Address : goal.returns-in_ok-insert-in-Address
returns-in_ok-insert-in-Address c =
    subst (λ v. Joins c.args.found.now.keys c.insert.new.self.keys (option_to_list (address_in v))) (sym c.in-Address.is)
    (joins_one c.args.found.now.keys c.insert.new.self.keys c.in-Address.address c.in_ok-insert-in-Address.ensures.keys)

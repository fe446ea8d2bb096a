use Rattle.std.proofs.Common.{subst}
use Rattle.std.specs.Prelude.{option_to_list}
use Rattle.th_machine.specs.Leading.{Joins}
use Rattle.th_machine.proofs.LeadClasses.{joins_class}
use Rattle.th_machine.proofs.leading.classes_at.Goals as goal

pub loop-at-preserved : goal.loop-at-preserved
loop-at-preserved c =
    joins_class c.args.heap.now c.loop-at.classes.keys c.add_class.new.classes.keys c.args.found.now.keys c.loop-at.at c.address_at-address.result c.address_at-address.ensures c.loop-at.invariant
    (subst (λ o. Joins c.loop-at.classes.keys c.add_class.new.classes.keys (option_to_list o)) c.class_in-class.ensures c.in_ok-add_class.ensures)

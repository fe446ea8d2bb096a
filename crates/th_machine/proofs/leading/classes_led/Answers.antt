use Rattle.th_machine.proofs.LeadClasses.{led_classes}
use Rattle.th_machine.proofs.leading.classes_led.Goals as goal

pub returns : goal.returns
returns c = led_classes c.args.heap.now c.args.value _ _ c.in_ok-found.ensures c.in_ok-classes.ensures

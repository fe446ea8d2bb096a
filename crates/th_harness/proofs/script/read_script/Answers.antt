use Rattle.std.proofs.Common.{refl, sym, ap, ◌∙◌, arith, length}
use Rattle.std.specs.Prelude.{◌==◌}
use Rattle.std.proofs.lemmas.List.{length-map}
use Rattle.th_harness.specs.Asked.{asked}
use Rattle.th_harness.specs.Script.{order_in}
use Rattle.th_harness.proofs.Lines.{lines_within}
use Rattle.th_harness.proofs.script.read_script.Goals as goal

pub read_events-requires : goal.read_events-requires
read_events-requires c =
    let few = lines_within (λ b. b == 10) order_in c.args.bytes.now refl in
    let size = ap length c.as_slice.ensures.value ∙ sym (length-map c.in_ok-orders.orders.items asked) ∙ ap length c.in_ok-orders.ensures in
    omega (arith, few, size)

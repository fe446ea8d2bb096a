use Rattle.std.proofs.Common.{arith}
use Rattle.th_reader.proofs.Checked.{all_bytes}
use Rattle.th_reader.proofs.reader.read_class.Goals as goal

pub returns-in-Ok-clause-value : goal.returns-in-Ok-clause-value
returns-in-Ok-clause-value c = (c.one_reading.ensures.value c.args.bytes.now c.in-Ok.class (all_bytes c.args.bytes.now (λ i. omega (arith, c.type_inv.bytes i)))).0 c.in-Ok.ensures

pub returns-in_ok-refusal-in-Err-Refused-clause-flaw : goal.returns-in_ok-refusal-in-Err-Refused-clause-flaw
returns-in_ok-refusal-in-Err-Refused-clause-flaw c =
    let read = rw c.in-Err-Refused.field-0-is at c.in-Err-Refused.ensures in
    (c.in-Err-Refused.flaw, (c.one_reading.ensures.flaw c.args.bytes.now c.in-Err-Refused.flaw).0 read, c.in_ok-refusal-in-Err-Refused.ensures)

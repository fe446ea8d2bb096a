use Rattle.std.proofs.Common.{arith}
use Rattle.th_gen.proofs.Finishing.{all_bytes}
use Rattle.th_gen.proofs.finish.hold_bytes.Goals as goal

pub returns : goal.returns
returns c = all_bytes c.args.bytes.now (λ i. omega (arith, c.type_inv.bytes i))

use Rattle.std.proofs.Common.{refl}
use Rattle.th_pool.proofs.Numbers.{number_read, one_byte}
use Rattle.th_pool.proofs.items.u1.Goals as goal

pub returns : goal.returns
returns c =
    let number = one_byte c.in_ok-bytes.bytes.now 0 c.in_ok-bytes.ensures.len refl in
    rw (number_read 1 c.args.place.at c.args.place.rest.now _ _ _ c.in_ok-bytes.ensures.read, number) refl

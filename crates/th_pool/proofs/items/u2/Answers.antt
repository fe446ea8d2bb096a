use Rattle.std.proofs.Common.{◌∙◌, sym, refl}
use Rattle.th_pool.proofs.Numbers.{number_read, two_bytes}
use Rattle.th_pool.proofs.items.u2.Goals as goal

pub returns : goal.returns
returns c =
    let number = two_bytes c.in_ok-bytes.bytes.now c.in_ok-bytes.ensures.len ∙ sym c.read_u16.ensures in
    rw (number_read 2 c.args.place.at c.args.place.rest.now _ _ _ c.in_ok-bytes.ensures.read, number) refl

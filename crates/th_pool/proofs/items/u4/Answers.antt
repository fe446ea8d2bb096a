use Rattle.std.proofs.Common.{◌∙◌, sym, refl}
use Rattle.th_pool.proofs.Numbers.{number_read, four_bytes}
use Rattle.th_pool.proofs.items.u4.Goals as goal

pub returns : goal.returns
returns c =
    let number = four_bytes c.in_ok-bytes.bytes.now c.in_ok-bytes.ensures.len ∙ sym c.read_u32.ensures in
    rw (number_read 4 c.args.place.at c.args.place.rest.now _ _ _ c.in_ok-bytes.ensures.read, number) refl

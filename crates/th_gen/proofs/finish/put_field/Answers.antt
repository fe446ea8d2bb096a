use Rattle.th_gen.specs.declared.item.PoolItem.TheVariants.{Utf8}
use Rattle.th_gen.specs.Items.{index_of}
use Rattle.th_gen.specs.ClassText.{u2, field_bytes}
use Rattle.th_gen.proofs.Joined.{header_joined}
use Rattle.th_gen.proofs.finish.put_field.Goals as goal

pub returns : goal.returns
unfolding field_bytes
returns c =
    header_joined c.args.out.now.items c.put_header.new.out.items c.put_u2.new.out.items (u2 c.args.field.now.access) (u2 (index_of c.args.pool.now.items.keys (Utf8 c.args.field.now.name)))
    (u2 (index_of c.args.pool.now.items.keys (Utf8 c.args.field.now.descriptor))) (u2 0) c.in_ok-put_header.ensures c.in_ok-put_u2.ensures

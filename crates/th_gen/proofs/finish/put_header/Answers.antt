use Rattle.th_gen.specs.declared.item.PoolItem.TheVariants.{Utf8}
use Rattle.th_gen.specs.Items.{index_of}
use Rattle.th_gen.specs.ClassText.{u2}
use Rattle.th_gen.proofs.Joined.{three_joined}
use Rattle.th_gen.proofs.finish.put_header.Goals as goal

pub returns : goal.returns
returns c =
    three_joined c.args.out.now.items c.put_u2.new.out.items c.put_text_index.new.out.items c.put_text_index-2.new.out.items
    (u2 c.args.access) (u2 (index_of c.args.pool.now.items.keys (Utf8 c.args.name.now))) (u2 (index_of c.args.pool.now.items.keys (Utf8 c.args.descriptor.now)))
    c.in_ok-put_u2.ensures c.in_ok-put_text_index.ensures c.in_ok-put_text_index-2.ensures

use Rattle.th_gen.specs.declared.item.PoolItem.TheVariants.{ClassName}
use Rattle.th_gen.specs.Items.{index_of}
use Rattle.th_gen.specs.ClassText.{u2, class_access}
use Rattle.th_gen.proofs.Joined.{four_joined}
use Rattle.th_gen.proofs.finish.put_class.Goals as goal

pub returns : goal.returns
returns c =
    four_joined c.args.out.now.items c.put_u2.new.out.items c.put_class_index.new.out.items c.put_class_index-2.new.out.items c.put_u2-2.new.out.items
    (u2 class_access) (u2 (index_of c.args.pool.now.items.keys (ClassName c.args.class.now.name))) (u2 (index_of c.args.pool.now.items.keys (ClassName c.args.class.now.super_name))) (u2 0)
    c.in_ok-put_u2.ensures c.in_ok-put_class_index.ensures c.in_ok-put_class_index-2.ensures c.in_ok-put_u2-2.ensures

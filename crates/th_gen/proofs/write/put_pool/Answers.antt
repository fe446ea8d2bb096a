use Rattle.std.proofs.Common.{ℕ, ◌≤◌, ◌++◌, length, ap, ◌∙◌, arith}
use Rattle.std.specs.List.{flat_map}
use Rattle.th_gen.specs.Items.{pool_count}
use Rattle.th_gen.specs.ClassText as text
use Rattle.th_gen.proofs.Joined.{two_joined}
use Rattle.th_gen.proofs.Loops.{pool_item_fits, entry_step, entries_all}
use Rattle.th_gen.proofs.write.put_pool.Goals as goal

pub put_entry-requires : goal.put_entry-requires
put_entry-requires c = pool_item_fits c.args.pool.now.items.keys c.loop-place.place c.item_at.result.now c.item_at.ensures c.args.pool.now.fits

pub loop-place-preserved : goal.loop-place-preserved
loop-place-preserved c =
    entry_step (text.entry_bytes c.args.pool.now.items.keys) c.args.pool.now.items.keys c.loop-place.place c.item_at.result.now c.loop-place.out.items c.put_entry.new.out.items
    (c.put_u2.new.out.items ++ flat_map (text.entry_bytes c.args.pool.now.items.keys) c.args.pool.now.items.keys) c.item_at.ensures c.loop-place.invariant c.in_ok-put_entry.ensures

pub returns : goal.returns
unfolding text.pool_bytes
returns c =
    let past : length c.args.pool.now.items.keys ≤ c.loop-place.place = (let a = c.loop-place-test.false in let b = c.len-place-end.ensures.len in omega arith) in
    let all = entries_all (text.entry_bytes c.args.pool.now.items.keys) c.args.pool.now.items.keys c.loop-place.place c.loop-place.out.items
    (c.put_u2.new.out.items ++ flat_map (text.entry_bytes c.args.pool.now.items.keys) c.args.pool.now.items.keys) past c.loop-place.invariant in
    two_joined c.args.out.now.items c.put_u2.new.out.items c.loop-place.out.items (text.u2 (pool_count c.args.pool.now.items.keys)) (flat_map (text.entry_bytes c.args.pool.now.items.keys) c.args.pool.now.items.keys)
    (c.in_ok-put_u2.ensures ∙ ap (λ (n : ℕ). c.args.out.now.items ++ text.u2 n) c.args.pool.now.counted) all

use Rattle.std.proofs.Common.{ℕ, List, ◌++◌, length, sym, ap, ◌∙◌}
use Rattle.std.specs.List.{flat_map}
use Rattle.std.proofs.lemmas.Result.{err_from_is_err_and}
use Rattle.th_syntax.specs.ClassBytes.{magic}
use Rattle.th_gen.specs.declared.item.PoolItem.{PoolItem}
use Rattle.th_gen.specs.declared.item.PoolItem.TheVariants.{ClassName}
use Rattle.th_gen.specs.Items.{pool_of, index_of}
use Rattle.th_gen.specs.ClassText as text
use Rattle.th_gen.proofs.Finishing.{refused_so, first_fails, second_fails, both_hold, whole_joined}
use Rattle.th_gen.proofs.finish.class_bytes.Goals as goal

pub returns-in_err-pool-clause-too_large : goal.returns-in_err-pool-clause-too_large
unfolding text.fits
returns-in_err-pool-clause-too_large c =
    let p = err_from_is_err_and c.from_residual.result c.from_residual.ensures.1 in
    rw (p.1, p.2)
    (refused_so c.in_err-pool.field-0.0 _ _ (λ no. first_fails (text.fits_pool (pool_of c.args.class.now)) (text.fits_members (pool_of c.args.class.now) c.args.class.now) no) c.in_err-pool.ensures.too_large)

pub returns-in_err-put_members-clause-too_large : goal.returns-in_err-put_members-clause-too_large
unfolding text.fits
returns-in_err-put_members-clause-too_large c =
    let p = err_from_is_err_and c.from_residual-in_err-put_members.result c.from_residual-in_err-put_members.ensures.1 in
    rw (p.1, p.2)
    (refused_so c.in_err-put_members.field-0.0 _ _
    (λ no. second_fails (text.fits_pool (pool_of c.args.class.now)) (text.fits_members (pool_of c.args.class.now) c.args.class.now) (ap (λ (pool : List PoolItem). text.fits_members pool c.args.class.now) (sym c.in_ok-pool.ensures.ok) ∙ no))
    c.in_err-put_members.ensures.too_large)

pub returns-clause-written : goal.returns-clause-written
unfolding text.class_bytes
returns-clause-written c =
    whole_joined c.put_version.new.out.items c.put_pool.new.out.items c.put_class.new.out.items c.put_members.new.out.items c.put_u2.new.out.items
    magic (text.u2 0) (text.u2 52) (text.pool_bytes c.in_ok-pool.pool.items.keys)
    (text.u2 text.class_access) (text.u2 (index_of c.in_ok-pool.pool.items.keys (ClassName c.args.class.now.name))) (text.u2 (index_of c.in_ok-pool.pool.items.keys (ClassName c.args.class.now.super_name))) (text.u2 0)
    (text.u2 (length c.args.class.now.fields) ++ flat_map (text.field_bytes c.in_ok-pool.pool.items.keys) c.args.class.now.fields)
    (text.u2 (length c.args.class.now.methods) ++ flat_map (text.method_bytes c.in_ok-pool.pool.items.keys) c.args.class.now.methods)
    (text.u2 0)
    (c.in_ok-put_version.ensures ∙ ap (λ (o : List ℕ). o ++ (magic ++ (text.u2 0 ++ text.u2 52))) c.new-out.ensures.items) c.in_ok-put_pool.ensures c.in_ok-put_class.ensures c.in_ok-put_members.ensures.ok c.in_ok-put_u2.ensures
    ∙ ap (λ (keys : List PoolItem). text.class_bytes_by keys c.args.class.now) c.in_ok-pool.ensures.ok

pub returns-clause-fits : goal.returns-clause-fits
unfolding text.fits
returns-clause-fits c =
    both_hold (text.fits_pool (pool_of c.args.class.now)) (text.fits_members (pool_of c.args.class.now) c.args.class.now)
    (ap text.fits_pool (sym c.in_ok-pool.ensures.ok) ∙ c.in_ok-pool.pool.fits) (ap (λ (pool : List PoolItem). text.fits_members pool c.args.class.now) (sym c.in_ok-pool.ensures.ok) ∙ c.in_ok-put_members.ensures.fits)

use Rattle.std.proofs.lemmas.Result.{err_from_is_err_and}
use Rattle.th_gen.specs.ClassText as text
use Rattle.th_gen.proofs.Loops.{bytes_more}
use Rattle.th_gen.proofs.Finishing.{refused_so, all_more, one_fails}
use Rattle.th_gen.proofs.finish.put_methods.Goals as goal

pub returns-in_err-put_method-clause-too_large : goal.returns-in_err-put_method-clause-too_large
returns-in_err-put_method-clause-too_large c =
    let p = err_from_is_err_and c.from_residual.result c.from_residual.ensures.1 in
    rw (p.1, p.2) (refused_so c.in_err-put_method.field-0.0 _ _ (λ no. one_fails (text.fits_method c.args.pool.now.items.keys) c.args.methods.now c.loop-method.method-index c.method-item.result c.loop-method-test.true c.method-item.is no) c.in_err-put_method.ensures.too_large)

pub loop-method-preserved : goal.loop-method-preserved
loop-method-preserved c = (
  bytes_more (text.method_bytes c.args.pool.now.items.keys) c.args.methods.now c.loop-method.method-index c.method-item.result c.args.out.now.items c.loop-method.out.items c.put_method.new.out.items c.loop-method-test.true c.method-item.is c.loop-method.invariant.0 c.in_ok-put_method.ensures.ok,
  all_more (text.fits_method c.args.pool.now.items.keys) c.args.methods.now c.loop-method.method-index c.method-item.result c.loop-method-test.true c.method-item.is c.loop-method.invariant.1 c.in_ok-put_method.ensures.fits,
)

use Rattle.std.proofs.Common.{drop, ap, ◌∙◌}
use Rattle.th_syntax.specs.ClassBytes as file
use Rattle.th_pool.specs.PoolView.{slots_view}
use Rattle.th_pool.specs.Texts.{texts_in}
use Rattle.th_pool.proofs.Ascending.{pool_ascends, pool_in_file}
use Rattle.th_pool.proofs.pool.read_pool.Goals as goal

pub invariant_of-result : goal.invariant_of-result
invariant_of-result c = (
  pool_ascends c.args.at (drop c.args.at c.args.bytes.now) _ (pool_in_file c.args.at c.args.bytes.now c.split_at.result.1.now _ _ _ c.split_at.ensures.back c.in_ok-slots.ensures),
  c.in_ok-texts.ensures ∙ ap (λ (slots : _). texts_in (slots_view slots)) c.as_slice.ensures.value,
)

pub returns-clause-found : goal.returns-clause-found
returns-clause-found c =
    (c.pool_reading.ensures.value file.pool c.args.at (drop c.args.at c.args.bytes.now) _ _ _).0
    (pool_in_file c.args.at c.args.bytes.now c.split_at.result.1.now _ _ _ c.split_at.ensures.back c.in_ok-slots.ensures)

pub returns-clause-exact : goal.returns-clause-exact
returns-clause-exact c = pool_in_file c.args.at c.args.bytes.now c.split_at.result.1.now _ _ _ c.split_at.ensures.back c.in_ok-slots.ensures

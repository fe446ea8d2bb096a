use Rattle.std.proofs.Common.{◌≡◌, ◌-◌}
use Rattle.th_syntax.specs.Descriptors as types
use Rattle.th_pool.specs.Params.{params_found}
use Rattle.th_pool.proofs.Methods.{with_params}
use Rattle.th_pool.proofs.parse.params_at.Given as goal

abbrev pub invariant-loop : goal.invariant-loop
invariant-loop l = with_params l.params (types.types_at (l.count - l.counter) l.rest) ≡ params_found (types.types_at l.count l.bytes)

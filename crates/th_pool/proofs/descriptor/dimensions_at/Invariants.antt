use Rattle.std.proofs.Common.{◌≡◌, drop}
use Rattle.th_syntax.specs.Descriptors as types
use Rattle.th_pool.specs.Types.{with_dimensions}
use Rattle.th_pool.proofs.descriptor.dimensions_at.Given as goal

abbrev pub invariant-loop-i : goal.invariant-loop-i
invariant-loop-i l = with_dimensions l.i (types.type_at (drop l.i l.bytes)) ≡ types.type_at l.bytes

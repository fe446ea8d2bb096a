use Rattle.std.proofs.Common.{◌≡◌, drop}
use Rattle.th_syntax.specs.Descriptors as types
use Rattle.th_pool.proofs.Spelling.{passed}
use Rattle.th_pool.proofs.descriptor.name_before.Given as goal

abbrev pub invariant-loop-i : goal.invariant-loop-i
invariant-loop-i l = passed l.i l.bytes (types.name_before (drop l.i l.bytes)) ≡ types.name_before l.bytes

use Rattle.std.proofs.Common.{◌≡◌, drop, map}
use Rattle.std.specs.List.{flat_map}
use Rattle.th_syntax.specs.Checks as checks
use Rattle.th_reader.specs.RawView.{member_view}
use Rattle.th_reader.specs.Passes.{front_flaw}
use Rattle.th_reader.proofs.names.check_methods.Given as goal

abbrev pub invariant-loop-method : goal.invariant-loop-method
invariant-loop-method l = front_flaw (flat_map (checks.method_name_flaws l.pool) (map member_view (drop l.method-index l.methods))) ≡ front_flaw (flat_map (checks.method_name_flaws l.pool) (map member_view l.methods))

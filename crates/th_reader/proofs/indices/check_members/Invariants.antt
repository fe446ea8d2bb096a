use Rattle.std.proofs.Common.{◌≡◌, drop, map}
use Rattle.std.specs.List.{flat_map}
use Rattle.th_syntax.specs.Checks as checks
use Rattle.th_reader.specs.RawView.{member_view}
use Rattle.th_reader.specs.Passes.{front_flaw}
use Rattle.th_reader.proofs.indices.check_members.Given as goal

abbrev pub invariant-loop-member : goal.invariant-loop-member
invariant-loop-member l = front_flaw (flat_map (checks.member_index_flaws l.pool) (map member_view (drop l.member-index l.members))) ≡ front_flaw (flat_map (checks.member_index_flaws l.pool) (map member_view l.members))

use Rattle.std.proofs.Common.{◌≡◌, drop, map}
use Rattle.std.specs.List.{flat_map}
use Rattle.th_syntax.specs.Checks as checks
use Rattle.th_reader.specs.RawView.{member_view}
use Rattle.th_reader.specs.Passes.{front_flaw}
use Rattle.th_reader.proofs.names.check_fields.Given as goal

abbrev pub invariant-loop-field : goal.invariant-loop-field
invariant-loop-field l = front_flaw (flat_map (checks.field_name_flaws l.pool) (map member_view (drop l.field-index l.fields))) ≡ front_flaw (flat_map (checks.field_name_flaws l.pool) (map member_view l.fields))

use Rattle.std.proofs.Common.{◌≡◌, drop, map}
use Rattle.std.specs.List.{flat_map}
use Rattle.th_syntax.specs.Checks as checks
use Rattle.th_reader.specs.RawView.{attribute_view}
use Rattle.th_reader.specs.Passes.{front_flaw}
use Rattle.th_reader.proofs.indices.check_attributes.Given as goal

abbrev pub invariant-loop-attribute : goal.invariant-loop-attribute
invariant-loop-attribute l = front_flaw (flat_map (checks.attribute_index_flaws l.pool) (map attribute_view (drop l.attribute-index l.attributes))) ≡ front_flaw (flat_map (checks.attribute_index_flaws l.pool) (map attribute_view l.attributes))

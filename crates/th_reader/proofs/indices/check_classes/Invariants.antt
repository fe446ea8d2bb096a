use Rattle.std.proofs.Common.{◌≡◌, drop, map}
use Rattle.std.specs.List.{flat_map}
use Rattle.th_syntax.specs.declared.tag.TheConstants as tag
use Rattle.th_syntax.specs.Checks as checks
use Rattle.th_reader.specs.RawView.{index_view}
use Rattle.th_reader.specs.Passes.{front_flaw}
use Rattle.th_reader.proofs.indices.check_classes.Given as goal

abbrev pub invariant-loop-index : goal.invariant-loop-index
invariant-loop-index l = front_flaw (flat_map (checks.index_flaws l.pool tag.CLASS) (map index_view (drop l.index-index l.classes))) ≡ front_flaw (flat_map (checks.index_flaws l.pool tag.CLASS) (map index_view l.classes))

use Rattle.th_paths.specs.Links.{row_at}
use Rattle.th_paths.proofs.Places.{no_edge}
use Rattle.th_paths.proofs.Tables.{row_more}
use Rattle.std.proofs.Common.{◌∙◌}
use Rattle.th_paths.proofs.links.rows_of.Goals as goal

pub loop-number-preserved : goal.loop-number-preserved
loop-number-preserved c = record {
  count = c.in_ok-add_edge.ensures.count ∙ c.loop-number.invariant.count;
  rows = λ r.
      row_more c.args.edges.now c.loop-number.number r no_edge (row_at c.loop-number.rows.items r) (row_at c.add_edge.new.rows.items r) c.loop-number-test.true
      (c.loop-number.invariant.rows r) (c.in_ok-add_edge.ensures.rows r);
}

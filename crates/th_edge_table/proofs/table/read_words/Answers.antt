use Rattle.std.proofs.Common.{arith, ◌∙◌}
use Rattle.std.specs.Slots.{slots_items}
use Rattle.th_edge_table.proofs.Closing.{one_more, word_read}
use Rattle.th_edge_table.proofs.table.read_words.Goals as goal

pub loop-edge-preserved : goal.loop-edge-preserved
loop-edge-preserved c =
    let i = c.loop-edge.invariant in
    let row = slots_items c.args.closed.now.words in (
      one_more row c.loop-edge.edge c.loop-edge.words.items _ c.decode.result i.0 (c.decode.ensures ∙ word_read row c.loop-edge.edge c.word.result c.word.ensures) c.push_reserved.ensures.items,
      omega arith,
      omega arith,
    )

use Rattle.std.proofs.Common.{ap, ◌∙◌, arith}
use Rattle.th_kinds.specs.Rows.{seen_row}
use Rattle.th_kinds.proofs.Placing.{rows_as_many, row_there}
use Rattle.th_kinds.proofs.listing.row_at.Goals as goal

pub index-requires : goal.index-requires
index-requires c = let long = rows_as_many c.args.code.now.instrs.now c.args.code.now.rows.items c.requires.ready.rows in let ok = c.args.code.now.rows.ok in omega arith

pub returns : goal.returns
returns c = ap seen_row (c.index.ensures) ∙ row_there c.args.code.now.instrs.now c.args.code.now.rows.items c.args.place c.index.result.now c.requires.ready.rows c.requires.inside

use Rattle.std.proofs.Common.{◌∙◌, ap, slice_set, get_or, None}
use Rattle.th_canonical.proofs.Restoring.{pair_none, restored}
use Rattle.th_canonical.proofs.subsumption.match_pair.Goals as goal

pub returns : goal.returns
returns c = (
  pair_none c.args.query.now c.args.by.now c.args.first c.args.second c.args.matching.now c.match_symbol.new.matching c.if-not-match_symbol.ensures c.if-match_symbol.ensures.0,
  ap (λ k. slice_set k c.args.first.0 (get_or c.args.matching.now c.args.first.0 None)) c.if-match_symbol.ensures.1
      ∙ restored c.args.query.now c.args.by.now c.args.first.0 c.args.first.1 c.args.matching.now c.match_symbol.new.matching c.if-place-matching.false c.if-not-match_symbol.ensures,
)

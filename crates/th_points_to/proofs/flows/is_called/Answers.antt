use Rattle.std.proofs.Common.{sym, ◌∙◌}
use Rattle.indexmap.proofs.CallerLemmas.{Contains-list_any}
use Rattle.th_points_to.proofs.Pairs.{pair_eq, pair_same}
use Rattle.th_points_to.proofs.flows.is_called.Goals as goal

pub returns : goal.returns
returns c = λ e. Contains-list_any pair_eq pair_same c.args.found.now.calls.keys (c.args.node, c.args.to.0) (sym c.contains.ensures ∙ e)

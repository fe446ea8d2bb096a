use Rattle.std.proofs.Common.{List, ℕ, subst}
use Rattle.th_paths.specs.Search.{Ends}
use Rattle.th_paths.proofs.Complete.{goes_to_end}
use Rattle.th_paths.proofs.index.whole_search.Goals as goal

pub returns : goal.returns
returns c =
    goes_to_end c.args.links.now c.args.field c.args.cut.now c.run.new.search c.in_ok-run.field-0
    (subst (λ (l : List ℕ). Ends c.args.links.now c.args.field l c.args.cut.now c.run.new.search c.in_ok-run.field-0) c.new-goal.ensures c.in_ok-run.ensures)

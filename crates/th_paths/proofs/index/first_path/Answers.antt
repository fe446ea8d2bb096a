use Rattle.std.proofs.Common.{Option, ℕ, List, subst}
use Rattle.th_paths.specs.Search.{Ends, TellsPath}
use Rattle.th_paths.specs.declared.search.Step.{Step}
use Rattle.th_paths.proofs.Complete.{stopped_tells, over_tells}
use Rattle.th_paths.proofs.index.first_path.Goals as goal

pub returns-in-Some : goal.returns-in-Some
returns-in-Some c =
    let links = c.args.links.now in
    stopped_tells links c.args.field c.args.goal.now c.args.cut.now c.run.new.search c.in-Some.at c.in_ok-path_to-in-Some.field-0
    (subst (λ (o : Option ℕ). Ends links c.args.field c.args.goal.now c.args.cut.now c.run.new.search o) c.in-Some.is c.in_ok-stop.ensures)
    (subst (λ (l : List Step). TellsPath l c.in-Some.at c.in_ok-path_to-in-Some.field-0) c.as_slice-in-Some.ensures.value c.in_ok-path_to-in-Some.ensures)

pub returns : goal.returns
returns c =
    let links = c.args.links.now in
    over_tells links c.args.field c.args.goal.now c.args.cut.now c.run.new.search
    (subst (λ (o : Option ℕ). Ends links c.args.field c.args.goal.now c.args.cut.now c.run.new.search o) c.in-None.is c.in_ok-stop.ensures)

use Rattle.std.proofs.Common.{List, ◌<◌, length, sym, subst}
use Rattle.th_paths.specs.Search.{TellsPath}
use Rattle.th_paths.specs.declared.search.Step.{Step}
use Rattle.th_paths.proofs.Complete.{near_tells, none_tells, near_inside}
use Rattle.th_paths.proofs.index.path_to_goal.Goals as goal

pub path_to-requires-clause-inside : goal.path_to-requires-clause-inside
path_to-requires-clause-inside c =
    subst (λ (l : List Step). c.in-Some.at < length l) (sym c.as_slice.ensures.value)
    (near_inside c.args.links.now c.args._field c.args.goal.now c.args._cut.now c.args.search.now c.in-Some.at c.requires.links c.requires.over c.in-Some.ensures)

pub returns-in_ok-path_to-in-Some : goal.returns-in_ok-path_to-in-Some
returns-in_ok-path_to-in-Some c =
    near_tells c.args.links.now c.args._field c.args.goal.now c.args._cut.now c.args.search.now c.in-Some.at c.in_ok-path_to-in-Some.field-0 c.requires.links c.requires.over c.in-Some.ensures
    (subst (λ (l : List Step). TellsPath l c.in-Some.at c.in_ok-path_to-in-Some.field-0) c.as_slice.ensures.value c.in_ok-path_to-in-Some.ensures)

pub returns-in-None : goal.returns-in-None
returns-in-None c =
    none_tells c.args.links.now c.args._field c.args.goal.now c.args._cut.now c.args.search.now c.requires.links c.requires.over c.in-None.ensures

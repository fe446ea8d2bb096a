use Rattle.th_kinds.specs.declared.state.State.TheVariants as state
use Rattle.th_kinds.proofs.Marks.{nothing_marked, marked_there, marked_still}
use Rattle.th_kinds.proofs.first.mark.Goals as goal

pub returns-clause-nothing : goal.returns-clause-nothing
returns-clause-nothing c nothing = nothing_marked c.args.kept.now c.args.place nothing

pub returns-clause-marked : goal.returns-clause-marked
returns-clause-marked c = marked_there c.args.kept.now c.args.place state.NoKinds c.requires

pub returns-clause-more : goal.returns-clause-more
returns-clause-more c k e = marked_still c.args.kept.now c.args.place k state.NoKinds e

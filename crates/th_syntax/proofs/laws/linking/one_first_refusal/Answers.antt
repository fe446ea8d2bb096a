use Rattle.th_syntax.specs.Program.{hierarchy_of}
use Rattle.th_syntax.proofs.Linked.{one_first}
use Rattle.th_syntax.proofs.laws.linking.one_first_refusal.Goals as goal

pub returns : goal.returns
returns c files refusal other one two =
    one_first files (c.first_cycle_is_one.ensures.class (hierarchy_of files)) (c.first_cycle_is_one.ensures.supertype (hierarchy_of files)) refusal other one two

use Rattle.th_graph.proofs.Leading.{joined_alarm}
use Rattle.th_graph.proofs.laws.joined_are_alarms.Goals as goal

pub returns : goal.returns
returns c = λ h p t edges alarms s a wf rules graph alarmed run joined.
    joined_alarm h p t edges alarms s a (c.covered.ensures h p t s wf rules run) (λ e is. (graph.edges_are e).1 (c.realised.ensures h p t s e wf rules run is)) alarmed joined

use Rattle.th_ir.proofs.Listings.{one_graph, one_alarms, one_producers}
use Rattle.th_ir.proofs.laws.listings.graphs_are_one.Goals as goal

pub returns-clause-graph : goal.returns-clause-graph
returns-clause-graph c = λ h t a b one two. one_graph h t a b one two

pub returns-clause-alarms : goal.returns-clause-alarms
returns-clause-alarms c = λ h p edges a b one two. one_alarms h p edges a b one two

pub returns-clause-producers : goal.returns-clause-producers
returns-clause-producers c = λ h p t e a b one two. one_producers h p t e a b one two

use Rattle.th_ir.proofs.WorkedGraphs.{storing_graph, vector_graph}
use Rattle.th_ir.proofs.laws.worked.edges_are_in_order.Goals as goal

pub returns : goal.returns
returns c = record { storing = storing_graph; vector = vector_graph }

use Rattle.th_graph.proofs.laws.edges_cover.Goals as goal

pub returns : goal.returns
returns c = λ h p t edges s e wf rules graph run is. (graph.edges_are e).1 (c.realised.ensures h p t s e wf rules run is)

use Rattle.th_graph.proofs.Begun.{produced}
use Rattle.th_graph.proofs.laws.realised_edges_are_produced.Goals as goal

pub returns : goal.returns
returns c = λ h p t s before e wf rules run is.
    produced h p t wf (λ r reached. c.covered.ensures h p t r wf rules reached) (λ r reached. c.good.ensures h p t r wf rules reached) before s e run is

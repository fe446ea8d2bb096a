-- A small graph: a static field holds site 1 and site 2, whose objects hold 1, and 1 holds 2.
use Rattle.std.specs.Prelude.{List, [], ◌∷◌}
use Rattle.th_base.specs.declared.number.EdgeId.{EdgeId}
use Rattle.th_base.specs.declared.number.FieldId.{FieldId}
use Rattle.th_ir.specs.declared.graph.Edge.{Edge}
use Rattle.th_ir.specs.declared.graph.Edge.TheVariants.{Static, Field, Element}

abbrev pub worked_field : FieldId
worked_field = record { 0 = 7 }

abbrev pub worked_edges : List Edge
worked_edges =
    Static record { 0 = 7 } record { 0 = 1 }
    ∷ Static record { 0 = 7 } record { 0 = 2 }
    ∷ Field record { 0 = 2 } record { 0 = 3 } record { 0 = 1 }
    ∷ Element record { 0 = 1 } record { 0 = 2 }
    ∷ Static record { 0 = 8 } record { 0 = 4 }
    ∷ []

-- a path of two edges, and one of one edge
abbrev pub two_edges : List EdgeId
two_edges = record { 0 = 1 } ∷ record { 0 = 2 } ∷ []

abbrev pub one_edge : List EdgeId
one_edge = record { 0 = 0 } ∷ []

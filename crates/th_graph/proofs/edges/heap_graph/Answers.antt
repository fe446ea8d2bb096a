use Rattle.std.proofs.Common.{◌≡◌, ◌++◌, List, sym, ap, subst, append_assoc, ◌∙◌}
use Rattle.th_base.specs.declared.class.ClassInfo.{ClassInfo}
use Rattle.th_base.specs.declared.number.FieldId.{FieldId}
use Rattle.th_base.specs.declared.number.SiteId.{SiteId}
use Rattle.std.specs.List.{flat_map}
use Rattle.std.proofs.Common.{ℕ}
use Rattle.th_ir.specs.declared.graph.Edge.{Edge}
use Rattle.th_ir.specs.FactSets.{sets_of}
use Rattle.th_ir.specs.Graph.{IsGraph}
use Rattle.th_graph.specs.Tables.{file_statics_from, static_edges, edges_of_cell, edges_of_elem, edges_of}
use Rattle.th_graph.proofs.GraphEdges.{made_graph}
use Rattle.th_graph.proofs.edges.heap_graph.Goals as goal

pub returns : goal.returns
returns c = λ p numbered listed.
    let h = c.args.hierarchy.now in
    let facts = c.args.facts.now in
    let fields : List FieldId = c.as_slice.result.now in
    let statics : List (List ℕ) = c.as_slice-2.result.now in
    let cells : List (SiteId × FieldId × List ℕ) = c.as_slice-3.result.now in
    let elems : List (SiteId × List ℕ) = c.as_slice-4.result.now in
    let fields_are : fields ≡ file_statics_from 0 h = c.as_slice.ensures.value ∙ c.in_ok-fields.ensures ∙ ap (λ (l : List ClassInfo). file_statics_from 0 l) c.classes.ensures.value in
    let first : List Edge = static_edges statics fields in
    let second : List Edge = flat_map edges_of_cell cells in
    let third : List Edge = flat_map edges_of_elem elems in
    let edges : c.from_vec.result ≡ first ++ (second ++ third) =
    c.from_vec.ensures ∙ c.in_ok-add_elems.ensures
    ∙ ap (λ (l : List Edge). l ++ third) (c.in_ok-add_cells.ensures ∙ ap (λ (l : List Edge). l ++ second) (c.in_ok-add_statics.ensures ∙ ap (λ (l : List Edge). l ++ first) c.new-edges.ensures.items))
    ∙ append_assoc first second third in
    let all : c.from_vec.result ≡ edges_of h facts =
    edges
    ∙ ap (λ (l : List FieldId). static_edges statics l ++ (second ++ third)) fields_are
    ∙ ap (λ (l : List (List ℕ)). static_edges l (file_statics_from 0 h) ++ (second ++ third)) c.as_slice-2.ensures
    ∙ ap (λ (l : List (SiteId × FieldId × List ℕ)). static_edges facts.statics (file_statics_from 0 h) ++ (flat_map edges_of_cell l ++ third)) c.as_slice-3.ensures
    ∙ ap (λ (l : List (SiteId × List ℕ)). static_edges facts.statics (file_statics_from 0 h) ++ (flat_map edges_of_cell facts.cells ++ flat_map edges_of_elem l)) c.as_slice-4.ensures in
    subst (IsGraph h (sets_of facts)) (sym all) (made_graph h p facts numbered listed)

use Rattle.std.proofs.Common.{◌≡◌, ◌+◌, ◌++◌, ℕ, List, Option, Some, length, sym, ap, arith, ◌∙◌}
use Rattle.std.specs.Prelude.{nat_lt, is_none}
use Rattle.std.specs.List.{flat_map}
use Rattle.std.proofs.lemmas.List.{length-append}
use Rattle.th_base.specs.declared.class.ClassInfo.{ClassInfo}
use Rattle.th_base.specs.declared.number.FieldId.{FieldId}
use Rattle.th_base.specs.declared.number.SiteId.{SiteId}
use Rattle.th_ir.specs.declared.graph.Edge.{Edge}
use Rattle.th_ir.specs.FactSets.{sets_of}
use Rattle.th_graph.specs.Tables.{file_statics_from, static_edges, edges_of_cell, edges_of_elem, edges_of, left_after}
use Rattle.th_graph.proofs.Counting.{not_some, three_pass}
use Rattle.th_graph.proofs.GraphEdges.{made_graph}
use Rattle.th_graph.proofs.edges.edges_pass.Goals as goal

pub returns : goal.returns
returns c = λ p edges numbered listed graph.
    let h = c.args.hierarchy.now in
    let facts = c.args.facts.now in
    let most = c.args.most in
    let fields_are : c.as_slice.result.now ≡ file_statics_from 0 h = c.as_slice.ensures.value ∙ c.in_ok-fields.ensures ∙ ap (λ (l : List ClassInfo). file_statics_from 0 l) c.classes.ensures.value in
    let one : List Edge = static_edges facts.statics (file_statics_from 0 h) in
    let two : List Edge = flat_map edges_of_cell facts.cells in
    let three : List Edge = flat_map edges_of_elem facts.elems in
    let first : c.after_statics-left.result ≡ left_after (Some most) (length one) =
    c.after_statics-left.ensures ∙ ap (λ (l : List FieldId). left_after (Some most) (length (static_edges c.as_slice-2.result.now l))) fields_are
    ∙ ap (λ (l : List (List ℕ)). left_after (Some most) (length (static_edges l (file_statics_from 0 h)))) c.as_slice-2.ensures in
    let second : c.after_cells-left.result ≡ left_after (left_after (Some most) (length one)) (length two) =
    c.after_cells-left.ensures ∙ ap (λ (o : Option ℕ). left_after o (length (flat_map edges_of_cell c.as_slice-3.result.now))) first
    ∙ ap (λ (l : List (SiteId × FieldId × List ℕ)). left_after (left_after (Some most) (length one)) (length (flat_map edges_of_cell l))) c.as_slice-3.ensures in
    let third : c.after_elems-left.result ≡ left_after (left_after (left_after (Some most) (length one)) (length two)) (length three) =
    c.after_elems-left.ensures ∙ ap (λ (o : Option ℕ). left_after o (length (flat_map edges_of_elem c.as_slice-4.result.now))) second
    ∙ ap (λ (l : List (SiteId × List ℕ)). left_after (left_after (left_after (Some most) (length one)) (length two)) (length (flat_map edges_of_elem l))) c.as_slice-4.ensures in
    let same : edges ≡ edges_of h facts = c.graphs_are_one.ensures.graph h (sets_of facts) edges (edges_of h facts) graph (made_graph h p facts numbered listed) in
    let outer = length-append one (two ++ three) in
    let inner = length-append two three in
    let count : length one + (length two + length three) ≡ length (edges_of h facts) = omega (arith, outer, inner) in
    not_some c.is_none.result c.after_elems-left.result (sym c.is_none.ensures) ∙ ap (λ (o : Option ℕ). is_none o) third ∙ three_pass most (length one) (length two) (length three) ∙ ap (λ n. nat_lt most n) (count ∙ ap (λ (l : List Edge). length l) (sym same))

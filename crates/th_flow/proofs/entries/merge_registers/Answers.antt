use Rattle.std.proofs.Common.{◌≡◌, ◌<◌, ℕ, List, Bool, true, Some, length, slice_get, get_or, sym, ap, subst, arith, ◌∙◌}
use Rattle.std.specs.Prelude.{◌↔◌, ◌||◌}
use Rattle.std.specs.List.{list_any}
use Rattle.std.proofs.lemmas.Option.{get_or_from_slice_get}
use Rattle.th_base.specs.declared.number.NodeId.{NodeId}
use Rattle.th_base.specs.IdSet.{has}
use Rattle.th_ir.proofs.Plain.{get_within}
use Rattle.th_flow.specs.Flows.{IsMergeRegister}
use Rattle.th_flow.specs.Inverted.{sets_at}
use Rattle.th_flow.proofs.Merging.{merged}
use Rattle.th_flow.proofs.entries.merge_registers.Goals as goal

pub returns : goal.returns
returns c = λ r.
    let p = c.args.program.now in
    let head = c.args.head.0 in
    let lists : List (List NodeId) = c.args.predecessors.now in
    let sources : List NodeId = c.as_slice-sources.result.now in
    let count = c.requires.listed.count_is in
    let inside = c.requires.inside in
    let found = get_within lists head (omega (arith, count, inside)) in
    let at = get_or_from_slice_get lists head found.0 c.index-predecessors-head.result found.1 in
    let is : found.0 ≡ sources = sym at ∙ sym c.index-predecessors-head.is ∙ sym c.as_slice-sources.ensures in
    let stands : slice_get lists head ≡ Some sources = found.1 ∙ ap Some is in
    let all : has c.add_all_targets.new.regs r ≡ list_any (λ (s : NodeId). sets_at p s.0 r) sources =
    c.in_ok-add_all_targets.ensures r ∙ ap (λ (l : List ℕ). has l r || list_any (λ (s : NodeId). sets_at p s.0 r) sources) c.new-regs.ensures in
    subst (λ (b : Bool). (b ≡ true) ↔ IsMergeRegister p head r) (sym all) (merged p lists head sources r c.requires.listed stands)

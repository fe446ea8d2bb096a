use Rattle.std.proofs.Common.{◌≡◌, ◌∙◌, ◌&&◌, ◌||◌, ℕ, List, ap, map, length}
use Rattle.std.specs.List.{range_with_len}
use Rattle.std.specs.Prelude.{filter, filter_map}
use Rattle.th_base.specs.IdSet.{has}
use Rattle.th_syntax.specs.declared.instr.Instr.{Instr}
use Rattle.th_syntax.specs.Program.{hierarchy_of, is_activity, is_launchable}
use Rattle.th_coarse.specs.Coarse.{stored_field, created_class, reached_instrs, is_static_reference, declared_fields, alarming_fields, pairs_of}
use Rattle.th_coarse.proofs.alarms.coarse_alarms.Goals as goal

pub returns : goal.returns
returns c =
    let files = c.args.program.now in
    let stored_by : List Instr → List ℕ =
    λ is. map (λ f. f.id.0) (filter (λ f. is_static_reference f && has (filter_map (stored_field files) is) f.id.0) (declared_fields (hierarchy_of files))) in
    let made_by : List Instr → List ℕ =
    λ is. filter (λ n. is_activity files n && (is_launchable files n || has (filter_map (created_class files) is) n)) (range_with_len 0 (length (hierarchy_of files))) in
    let one : map (λ i. i.now) c.as_slice.result.now ≡ reached_instrs files = ap (map (λ i. i.now)) c.as_slice.ensures.value ∙ c.in_ok-instrs.ensures ∙ ap reached_instrs c.files.ensures in
    let two : map (λ i. i.now) c.as_slice-2.result.now ≡ reached_instrs files = ap (map (λ i. i.now)) c.as_slice-2.ensures.value ∙ c.in_ok-instrs.ensures ∙ ap reached_instrs c.files.ensures in
    ap (λ fs. pairs_of fs (map (λ k. k.0) c.in_ok-classes.classes.items)) (c.in_ok-fields.ensures ∙ ap stored_by one)
    ∙ ap (λ ks. pairs_of (alarming_fields files) ks) (c.in_ok-classes.ensures ∙ ap made_by two)

use Rattle.std.proofs.Common.{◌≡◌, ◌∙◌, ap, map}
use Rattle.th_linear.specs.Gathered.{renamed_form}
use Rattle.th_query.specs.Unified.{firsts, one_cell, one_static, present, unified_frame, common_symbols}
use Rattle.th_unify.proofs.Narrowed.{either_way}
use Rattle.th_unify.proofs.unifying.unified_by.Goals as goal

pub returns : goal.returns
returns c =
    let names = c.args.renaming.names.items in
    let q = c.args.query in
    let frames : c.from_vec.result ≡ map (unified_frame names) q.frames = c.from_vec.ensures ∙ c.in_ok-frames.ensures ∙ ap (map (unified_frame names)) c.into_vec.ensures in
    let statics = c.first_of.ensures ∙ ap (firsts one_static) c.turn_seq.ensures in
    let cells = c.first_of-2.ensures ∙ ap (firsts one_cell) c.turn_seq-2.ensures in
    let elems = c.turn_seq-3.ensures in
    let diffs = c.turn_seq-4.ensures in
    let same : common_symbols c.as_slice.result.now q 0 q.syms ≡ common_symbols names q 0 q.syms = ap (λ ns. common_symbols ns q 0 q.syms) c.as_slice.ensures.value in
    let syms = either_way c.in_ok-narrowed.narrowed (λ v. v.items) c.narrowed_or.result q.syms (common_symbols c.as_slice.result.now q 0 q.syms) c.narrowed_or.ensures c.in_ok-narrowed.ensures ∙ same in
    let facts = c.from_vec-2.ensures ∙ c.in_ok-facts.ensures ∙ ap (λ ns. present (map (renamed_form ns) c.as_slice-3.result.now)) c.as_slice-2.ensures.value ∙ ap (λ fs. present (map (renamed_form names) fs)) c.as_slice-3.ensures in
    λ i. record { frames = frames i; statics = statics i; cells = cells i; elems = elems i; syms = syms i; diffs = diffs i; facts = facts i }

-- Parts of the matching of two queries.
use Rattle.std.specs.Prelude.{ℕ, ◌==◌, ℤ, List, Option, None, if◌then◌else◌}
use Rattle.std.specs.Option.{option_and_then}
use Rattle.th_query.specs.declared.query.Frame.{Frame}
use Rattle.th_query.specs.declared.query.Query.{Query}
use Rattle.th_query.specs.Subsumed.{matched_in_turn, matched_all, matched_register, matched_frames, matched_static, matched_cell, matched_element, paired}

-- the registers of two frames at one node
abbrev pub matched_frame : Query → Query → Frame → Frame → List (Option ℕ) → Option (List (Option ℕ))
matched_frame q r f g m = if f.node.0 == g.node.0 then matched_in_turn (matched_register q r f.regs) g.regs m else None

-- the variables of terms with the same coefficients
abbrev pub matched_terms : Query → Query → List (ℕ × ℤ) → List (ℕ × ℤ) → List (Option ℕ) → Option (List (Option ℕ))
matched_terms q r ts us m = option_and_then (λ pairs. matched_all q r pairs m) (paired ts us)

-- registers, static fields, cells and elements, in this order
abbrev pub matched_known : Query → Query → List (Option ℕ) → Option (List (Option ℕ))
matched_known q r m =
    option_and_then (matched_in_turn (matched_element q r) r.elems)
    (option_and_then (matched_in_turn (matched_cell q r) r.cells)
    (option_and_then (matched_in_turn (matched_static q r) r.statics)
    (matched_frames q r q.frames r.frames m)))

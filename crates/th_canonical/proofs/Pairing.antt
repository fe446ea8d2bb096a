-- Frames and terms are matched one with one.
use Rattle.std.proofs.Common.{◌≡◌, ℕ, ℤ, ◌+◌, ◌<◌, ◌≤◌, ◌==◌, suc, Bool, true, false, cond, List, [], ◌∷◌, length, map, drop, get_or, Option, None, Some, refl, sym, ap, ◌∙◌}
use Rattle.std.specs.Prelude.{◌≢◌}
use Rattle.std.specs.Option.{option_and_then, option_map, option_map_or}
use Rattle.std.specs.Ordering.{int_eq}
use Rattle.th_query.specs.declared.query.Frame.{Frame}
use Rattle.th_query.specs.declared.query.Query.{Query}
use Rattle.th_query.specs.Subsumed.{matched, matched_in_turn, matched_all, matched_register, matched_frames, matched_static, matched_cell, matched_element, matched_fact, is_as_strong, is_subsumed, paired}
use Rattle.th_canonical.specs.Matched.{matched_frame, matched_terms}
use Rattle.th_canonical.proofs.Ranging.{drop_at, drop_past}

-- ---- frames

pub frames_unequal : (q r : Query) (fs gs : List Frame) (m : List (Option ℕ)) → length fs ≢ length gs → matched_frames q r fs gs m ≡ None
frames_unequal q r [] [] m h = absurd (h refl)
frames_unequal q r [] (g ∷ gs) m h = refl
frames_unequal q r (f ∷ fs) [] m h = refl
frames_unequal q r (f ∷ fs) (g ∷ gs) m h = go (f.node.0 == g.node.0) (λ n. frames_unequal q r fs gs n (λ e. h (ap suc e)))
  where
    step : (o : Option (List (Option ℕ))) → ((n : List (Option ℕ)) → matched_frames q r fs gs n ≡ None) → option_and_then (matched_frames q r fs gs) o ≡ None
    step None rest = refl
    step (Some n) rest = rest n

    go : (b : Bool) → ((n : List (Option ℕ)) → matched_frames q r fs gs n ≡ None) → cond b (option_and_then (matched_frames q r fs gs) (matched_in_turn (matched_register q r f.regs) g.regs m)) None ≡ None
    go true rest = step (matched_in_turn (matched_register q r f.regs) g.regs m) rest
    go false rest = refl

frames_here : (q r : Query) (fs gs : List Frame) (i : ℕ) (f g : Frame) (m : List (Option ℕ)) → i < length fs → i < length gs → f ≡ get_or fs i f → g ≡ get_or gs i g
    → matched_frames q r (drop i fs) (drop i gs) m ≡ option_and_then (matched_frames q r (drop (i + 1) fs) (drop (i + 1) gs)) (matched_frame q r f g m)
frames_here q r fs gs i f g m h k is also =
    ap (λ xs. matched_frames q r xs (drop i gs) m) (drop_at fs i f h ∙ ap (λ x. x ∷ drop (i + 1) fs) (sym is))
    ∙ ap (λ ys. matched_frames q r (f ∷ drop (i + 1) fs) ys m) (drop_at gs i g k ∙ ap (λ x. x ∷ drop (i + 1) gs) (sym also))
    ∙ go (f.node.0 == g.node.0)
  where
    turn : Option (List (Option ℕ))
    turn = matched_in_turn (matched_register q r f.regs) g.regs m

    rest : List (Option ℕ) → Option (List (Option ℕ))
    rest = matched_frames q r (drop (i + 1) fs) (drop (i + 1) gs)

    go : (b : Bool) → cond b (option_and_then rest turn) None ≡ option_and_then rest (cond b turn None)
    go true = refl
    go false = refl

pub frames_more : (q r : Query) (fs gs : List Frame) (i : ℕ) (f g : Frame) (m n : List (Option ℕ)) (all : Option (List (Option ℕ))) → i < length fs → i < length gs → f ≡ get_or fs i f → g ≡ get_or gs i g
    → matched_frame q r f g m ≡ Some n → matched_frames q r (drop i fs) (drop i gs) m ≡ all → matched_frames q r (drop (i + 1) fs) (drop (i + 1) gs) n ≡ all
frames_more q r fs gs i f g m n all h k is also e before =
    sym (frames_here q r fs gs i f g m h k is also ∙ ap (option_and_then (matched_frames q r (drop (i + 1) fs) (drop (i + 1) gs))) e) ∙ before

pub frames_none : (q r : Query) (fs gs : List Frame) (i : ℕ) (f g : Frame) (m : List (Option ℕ)) (all : Option (List (Option ℕ))) → i < length fs → i < length gs → f ≡ get_or fs i f → g ≡ get_or gs i g
    → matched_frame q r f g m ≡ None → matched_frames q r (drop i fs) (drop i gs) m ≡ all → all ≡ None
frames_none q r fs gs i f g m all h k is also e before =
    sym before ∙ frames_here q r fs gs i f g m h k is also ∙ ap (option_and_then (matched_frames q r (drop (i + 1) fs) (drop (i + 1) gs))) e

pub frames_end : (q r : Query) (fs gs : List Frame) (i : ℕ) (m : List (Option ℕ)) (all : Option (List (Option ℕ))) → length fs ≤ i → length gs ≤ i
    → matched_frames q r (drop i fs) (drop i gs) m ≡ all → all ≡ Some m
frames_end q r fs gs i m all h k before =
    sym before ∙ ap (λ xs. matched_frames q r xs (drop i gs) m) (drop_past fs i h) ∙ ap (λ ys. matched_frames q r [] ys m) (drop_past gs i k)

-- a query with another number of frames doesn't say as much
pub frames_differ : (q r : Query) → length q.frames ≢ length r.frames → is_subsumed q r ≡ false
frames_differ q r h = ap (λ o. option_map_or (is_as_strong q r) o false) (ap (λ o.
    option_and_then (matched_in_turn (matched_fact q r) r.facts)
    (option_and_then (matched_in_turn (matched_element q r) r.elems)
    (option_and_then (matched_in_turn (matched_cell q r) r.cells)
    (option_and_then (matched_in_turn (matched_static q r) r.statics) o)))) (frames_unequal q r q.frames r.frames (map (λ x. None) r.syms) h))

-- ---- terms

pairs_unequal : (ts us : List (ℕ × ℤ)) → length ts ≢ length us → paired ts us ≡ None
pairs_unequal [] [] h = absurd (h refl)
pairs_unequal [] (u ∷ us) h = refl
pairs_unequal (t ∷ ts) [] h = refl
pairs_unequal (t ∷ ts) (u ∷ us) h = go (int_eq t.1 u.1) (pairs_unequal ts us (λ e. h (ap suc e)))
  where
    go : (b : Bool) → paired ts us ≡ None → cond b (option_map (λ pairs. (t.0, u.0) ∷ pairs) (paired ts us)) None ≡ None
    go true e = ap (option_map (λ pairs. (t.0, u.0) ∷ pairs)) e
    go false e = refl

pub terms_unequal : (q r : Query) (ts us : List (ℕ × ℤ)) (m : List (Option ℕ)) → length ts ≢ length us → matched_terms q r ts us m ≡ None
terms_unequal q r ts us m h = ap (option_and_then (λ pairs. matched_all q r pairs m)) (pairs_unequal ts us h)

-- the variables of two terms with one coefficient
abbrev pub matched_term : Query → Query → ℕ × ℤ → ℕ × ℤ → List (Option ℕ) → Option (List (Option ℕ))
matched_term q r t u m = cond (int_eq t.1 u.1) (matched q r (t.0, u.0) m) None

terms_first : (q r : Query) (t u : ℕ × ℤ) (ts us : List (ℕ × ℤ)) (m : List (Option ℕ)) → matched_terms q r (t ∷ ts) (u ∷ us) m ≡ option_and_then (matched_terms q r ts us) (matched_term q r t u m)
terms_first q r t u ts us m = go (int_eq t.1 u.1) (paired ts us)
  where
    nothing : (o : Option (List (Option ℕ))) → None ≡ option_and_then (λ (n : List (Option ℕ)). option_and_then (λ pairs. matched_all q r pairs n) None) o
    nothing None = refl
    nothing (Some n) = refl

    go : (b : Bool) (o : Option (List (ℕ × ℕ))) → option_and_then (λ pairs. matched_all q r pairs m) (cond b (option_map (λ pairs. (t.0, u.0) ∷ pairs) o) None)
        ≡ option_and_then (λ n. option_and_then (λ pairs. matched_all q r pairs n) o) (cond b (matched q r (t.0, u.0) m) None)
    go false o = refl
    go true None = nothing (matched q r (t.0, u.0) m)
    go true (Some pairs) = refl

terms_here : (q r : Query) (ts us : List (ℕ × ℤ)) (i : ℕ) (d : ℕ × ℤ) (m : List (Option ℕ)) → i < length ts → i < length us
    → matched_terms q r (drop i ts) (drop i us) m ≡ option_and_then (matched_terms q r (drop (i + 1) ts) (drop (i + 1) us)) (matched_term q r (get_or ts i d) (get_or us i d) m)
terms_here q r ts us i d m h k =
    ap (λ xs. matched_terms q r xs (drop i us) m) (drop_at ts i d h)
    ∙ ap (λ ys. matched_terms q r (get_or ts i d ∷ drop (i + 1) ts) ys m) (drop_at us i d k)
    ∙ terms_first q r (get_or ts i d) (get_or us i d) (drop (i + 1) ts) (drop (i + 1) us) m

pub terms_more : (q r : Query) (ts us : List (ℕ × ℤ)) (i : ℕ) (d : ℕ × ℤ) (m n : List (Option ℕ)) (all : Option (List (Option ℕ))) → i < length ts → i < length us
    → matched_term q r (get_or ts i d) (get_or us i d) m ≡ Some n → matched_terms q r (drop i ts) (drop i us) m ≡ all → matched_terms q r (drop (i + 1) ts) (drop (i + 1) us) n ≡ all
terms_more q r ts us i d m n all h k e before = sym (terms_here q r ts us i d m h k ∙ ap (option_and_then (matched_terms q r (drop (i + 1) ts) (drop (i + 1) us))) e) ∙ before

pub terms_none : (q r : Query) (ts us : List (ℕ × ℤ)) (i : ℕ) (d : ℕ × ℤ) (m : List (Option ℕ)) (all : Option (List (Option ℕ))) → i < length ts → i < length us
    → matched_term q r (get_or ts i d) (get_or us i d) m ≡ None → matched_terms q r (drop i ts) (drop i us) m ≡ all → all ≡ None
terms_none q r ts us i d m all h k e before = sym before ∙ terms_here q r ts us i d m h k ∙ ap (option_and_then (matched_terms q r (drop (i + 1) ts) (drop (i + 1) us))) e

pub terms_end : (q r : Query) (ts us : List (ℕ × ℤ)) (i : ℕ) (m : List (Option ℕ)) (all : Option (List (Option ℕ))) → length ts ≤ i → length us ≤ i
    → matched_terms q r (drop i ts) (drop i us) m ≡ all → all ≡ Some m
terms_end q r ts us i m all h k before =
    sym before ∙ ap (λ xs. matched_terms q r xs (drop i us) m) (drop_past ts i h) ∙ ap (λ ys. matched_terms q r [] ys m) (drop_past us i k)

-- Frames within their limit, frame by frame.
use Rattle.std.proofs.Common.{◌≡◌, ℕ, ◌+◌, ◌-◌, ◌<◌, ◌≤◌, ◌++◌, List, [], ◌∷◌, length, drop, take, get_or, sym, ap, subst, ◌∙◌}
use Rattle.std.proofs.lemmas.List.{append_assoc, append-nil, take_all}
use Rattle.th_query.specs.declared.query.Frame.{Frame}
use Rattle.th_query.specs.Settled.{cut_frames}
use Rattle.th_steps.proofs.Sinking.{drop_at, drop_past}

cut_here : (n : ℕ) (fs : List Frame) (i : ℕ) (f : Frame) → i < length fs → f ≡ get_or fs i f
    → cut_frames n (drop i fs) ≡ record { node = f.node; regs = take n f.regs } ∷ cut_frames (n - length f.regs) (drop (i + 1) fs)
cut_here n fs i f h is = ap (cut_frames n) (drop_at fs i f h ∙ ap (λ g. g ∷ drop (i + 1) fs) (sym is))

-- a frame of which nothing goes
uncut_here : (n : ℕ) (fs : List Frame) (i : ℕ) (f : Frame) → i < length fs → f ≡ get_or fs i f → length f.regs ≤ n
    → cut_frames (n - length f.regs) (drop (i + 1) fs) ≡ drop (i + 1) fs → cut_frames n (drop i fs) ≡ drop i fs
uncut_here n fs i f h is le e =
    let all : take n f.regs ≡ f.regs = take_all n f.regs le in
    let same : drop i fs ≡ f ∷ drop (i + 1) fs = drop_at fs i f h ∙ ap (λ g. g ∷ drop (i + 1) fs) (sym is) in
    cut_here n fs i f h is ∙ (λ j. record { node = f.node; regs = all j } ∷ e j) ∙ sym same

pub uncut_more : (n count : ℕ) (fs : List Frame) (i : ℕ) (f : Frame) → i < length fs → f ≡ get_or fs i f → count ≡ length f.regs → count ≤ n
    → cut_frames (n - count) (drop (i + 1) fs) ≡ drop (i + 1) fs → cut_frames n (drop i fs) ≡ drop i fs
uncut_more n count fs i f h is counted le e =
    uncut_here n fs i f h is (subst (λ k. k ≤ n) counted le) (subst (λ k. cut_frames (n - k) (drop (i + 1) fs) ≡ drop (i + 1) fs) counted e)

pub uncut_end : (n : ℕ) (fs : List Frame) (i : ℕ) → length fs ≤ i → cut_frames n (drop i fs) ≡ drop i fs
uncut_end n fs i h = ap (cut_frames n) (drop_past fs i h) ∙ sym (drop_past fs i h)

-- a frame with the first of its facts
pub cut_more : (n m : ℕ) (fs : List Frame) (i : ℕ) (f : Frame) (kept next all : List Frame) → i < length fs → f ≡ get_or fs i f → m ≡ n - length f.regs → next ≡ kept ++ record { node = f.node; regs = take n f.regs } ∷ []
    → kept ++ cut_frames n (drop i fs) ≡ all → next ++ cut_frames m (drop (i + 1) fs) ≡ all
cut_more n m fs i f kept next all h is less e before =
    let rest = cut_frames (n - length f.regs) (drop (i + 1) fs) in
    ap (λ k. next ++ cut_frames k (drop (i + 1) fs)) less
    ∙ ap (λ ys. ys ++ rest) e
    ∙ append_assoc kept (record { node = f.node; regs = take n f.regs } ∷ []) rest
    ∙ ap (λ ys. kept ++ ys) (sym (cut_here n fs i f h is))
    ∙ before

pub cut_end : (n : ℕ) (fs : List Frame) (i : ℕ) (kept all : List Frame) → length fs ≤ i → kept ++ cut_frames n (drop i fs) ≡ all → kept ≡ all
cut_end n fs i kept all h before = sym (ap (λ ys. kept ++ cut_frames n ys) (drop_past fs i h) ∙ append-nil kept) ∙ before

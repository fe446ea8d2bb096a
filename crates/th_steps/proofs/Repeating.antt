-- Linear facts that are put after others, one by one.
use Rattle.std.proofs.Common.{◌≡◌, ℕ, ◌+◌, ◌<◌, ◌≤◌, ◌++◌, Bool, true, false, List, [], ◌∷◌, length, drop, get_or, refl, sym, ap, ◌∙◌}
use Rattle.std.proofs.lemmas.List.{append_assoc, append-nil}
use Rattle.th_linear.specs.Forms.{Form}
use Rattle.th_linear.specs.Divided.{normal_of}
use Rattle.th_linear.specs.declared.division.NormalForm.{NormalForm}
use Rattle.th_pure.specs.Elimination.{has_fact, put_after, without_repeats}
use Rattle.th_pure.proofs.Repeats.{has_first, has_later, put_append}
use Rattle.th_query.specs.Settled.{settled_fact, settled_facts}
use Rattle.th_steps.proofs.Sinking.{drop_at, drop_past}

-- ---- whether a fact is there

here : (gs : List Form) (i : ℕ) (g : Form) → i < length gs → g ≡ get_or gs i g → drop i gs ≡ g ∷ drop (i + 1) gs
here gs i g h is = drop_at gs i g h ∙ ap (λ x. x ∷ drop (i + 1) gs) (sym is)

pub there_now : (f g : Form) (gs : List Form) (i : ℕ) (all : Bool) → i < length gs → g ≡ get_or gs i g → f ≡ g → has_fact f (drop i gs) ≡ all → true ≡ all
there_now f g gs i all h is e before = sym (has_first f g (drop (i + 1) gs) e) ∙ ap (has_fact f) (sym (here gs i g h is)) ∙ before

pub there_later : (f g : Form) (gs : List Form) (i : ℕ) (all : Bool) → i < length gs → g ≡ get_or gs i g → (f ≡ g → ⊥) → has_fact f (drop i gs) ≡ all → has_fact f (drop (i + 1) gs) ≡ all
there_later f g gs i all h is n before = sym (has_later f g (drop (i + 1) gs) n) ∙ ap (has_fact f) (sym (here gs i g h is)) ∙ before

pub there_never : (f : Form) (gs : List Form) (i : ℕ) (all : Bool) → length gs ≤ i → has_fact f (drop i gs) ≡ all → false ≡ all
there_never f gs i all h before = sym (ap (has_fact f) (drop_past gs i h)) ∙ before

-- ---- one fact more

settled_append : (fs gs : List Form) → settled_facts (fs ++ gs) ≡ settled_facts fs ++ settled_facts gs
settled_append [] gs = refl
settled_append (f ∷ fs) gs = ap (λ ys. settled_fact (normal_of f) ++ ys) (settled_append fs gs) ∙ sym (append_assoc (settled_fact (normal_of f)) (settled_facts fs) (settled_facts gs))

settled_last : (fs : List Form) (f : Form) → settled_facts (fs ++ f ∷ []) ≡ settled_facts fs ++ settled_fact (normal_of f)
settled_last fs f = settled_append fs (f ∷ []) ∙ ap (λ ys. settled_facts fs ++ ys) (append-nil (settled_fact (normal_of f)))

pub settled_more : (fs : List Form) (f : Form) (n : NormalForm) (kept next : List Form) → kept ≡ without_repeats (settled_facts fs) → n ≡ normal_of f → next ≡ put_after kept (settled_fact n) → next ≡ without_repeats (settled_facts (fs ++ f ∷ []))
settled_more fs f n kept next before is e =
    e
    ∙ ap (λ m. put_after kept (settled_fact m)) is
    ∙ ap (λ ys. put_after ys (settled_fact (normal_of f))) before
    ∙ sym (put_append [] (settled_facts fs) (settled_fact (normal_of f)))
    ∙ ap without_repeats (sym (settled_last fs f))

-- Where something is kept, and that nothing is known there at first.
use Rattle.std.proofs.Common.{◌≡◌, ℕ, zero, suc, ◌<◌, Bool, true, false, List, [], ◌∷◌, ◌++◌, length, take, drop, get_or, set, Contains, Option, None, Some, refl, sym, ap, subst, ◌∙◌, arith}
use Rattle.std.proofs.lemmas.List.{get_or_default}
use Rattle.th_syntax.specs.Kinds.{KindsAt, NoKinds}
use Rattle.th_syntax.specs.KindTable.{IsHeld}
use Rattle.th_kinds.specs.declared.state.State.{State}
use Rattle.th_kinds.specs.declared.state.State.TheVariants as state
use Rattle.th_kinds.specs.States.{seen_state}
use Rattle.th_kinds.specs.Walk.{kept_at}
use Rattle.th_kinds.specs.Kept.{seen_kept, kept_places, IsNothing, IsUnder}
use Rattle.th_kinds.proofs.MergedKept.{seen_set}

nothing_before : (kept : List (Option State)) (k : ℕ) (known : KindsAt) → kept_at (seen_kept (kept ++ None ∷ [])) k ≡ Some known → kept_at (seen_kept kept) k ≡ Some known
nothing_before [] zero known e = absurd cc
nothing_before [] (suc k) known e = absurd cc
nothing_before (None ∷ kept) zero known e = e
nothing_before (Some s ∷ kept) zero known e = e
nothing_before (None ∷ kept) (suc k) known e = nothing_before kept k known e
nothing_before (Some s ∷ kept) (suc k) known e = nothing_before kept k known e

pub nothing_more : (kept : List (Option State)) → IsNothing (seen_kept kept) → IsNothing (seen_kept (kept ++ None ∷ []))
nothing_more kept nothing k known e = nothing k known (nothing_before kept k known e)

nothing_set : (ks : List (Option KindsAt)) (n k : ℕ) (known : KindsAt) → IsNothing ks → kept_at (set ks n (Some NoKinds)) k ≡ Some known → known ≡ NoKinds
nothing_set [] n k known nothing e = nothing k known e
nothing_set (x ∷ ks) zero zero known nothing e = cc
nothing_set (x ∷ ks) zero (suc k) known nothing e = nothing (suc k) known e
nothing_set (x ∷ ks) (suc n) zero known nothing e = nothing zero known e
nothing_set (x ∷ ks) (suc n) (suc k) known nothing e = nothing_set ks n k known (λ j. nothing (suc j)) e

pub nothing_marked : (kept : List (Option State)) (n : ℕ) → IsNothing (seen_kept kept) → IsNothing (seen_kept (set kept n (Some state.NoKinds)))
nothing_marked kept n nothing k known e = nothing_set (seen_kept kept) n k known nothing (ap (λ (ks : List (Option KindsAt)). kept_at ks k) (sym (seen_set kept n state.NoKinds)) ∙ e)

pub marked_there : (kept : List (Option State)) (n : ℕ) (s : State) → n < length kept → get_or (kept_places (set kept n (Some s))) n false ≡ true
marked_there [] n s inside = absurd (omega arith)
marked_there (None ∷ kept) zero s inside = refl
marked_there (Some x ∷ kept) zero s inside = refl
marked_there (None ∷ kept) (suc n) s inside = marked_there kept n s (omega arith)
marked_there (Some x ∷ kept) (suc n) s inside = marked_there kept n s (omega arith)

pub marked_still : (kept : List (Option State)) (n k : ℕ) (s : State) → get_or (kept_places kept) k false ≡ true → get_or (kept_places (set kept n (Some s))) k false ≡ true
marked_still [] n k s e = e
marked_still (None ∷ kept) zero zero s e = refl
marked_still (Some x ∷ kept) zero zero s e = refl
marked_still (None ∷ kept) zero (suc k) s e = e
marked_still (Some x ∷ kept) zero (suc k) s e = e
marked_still (None ∷ kept) (suc n) zero s e = e
marked_still (Some x ∷ kept) (suc n) zero s e = e
marked_still (None ∷ kept) (suc n) (suc k) s e = marked_still kept n k s e
marked_still (Some x ∷ kept) (suc n) (suc k) s e = marked_still kept n k s e

pub known_there : (kept : List (Option State)) (k : ℕ) → get_or (kept_places kept) k false ≡ true → (known : KindsAt) × (kept_at (seen_kept kept) k ≡ Some known)
known_there [] k e = absurd cc
known_there (None ∷ kept) zero e = absurd cc
known_there (Some s ∷ kept) zero e = (seen_state s, refl)
known_there (None ∷ kept) (suc k) e = known_there kept k e
known_there (Some s ∷ kept) (suc k) e = known_there kept k e

pub nothing_under : (ks : List (Option KindsAt)) (u : ℕ → KindsAt) → IsNothing ks → IsUnder ks u
nothing_under ks u nothing k known e = subst (λ (s : KindsAt). IsHeld s (u k)) (sym (nothing k known e)) refl

-- where the target of a jump stands, something is kept
pub marked_jump : (offsets offsets' targets targets' : List ℕ) (places : List Bool) → offsets' ≡ offsets → targets' ≡ targets
    → ((t j : ℕ) → t < length targets' → j < length offsets' → get_or offsets' j 0 ≡ get_or targets' t 0 → get_or places j false ≡ true)
    → (j : ℕ) → j < length offsets → Contains targets (get_or offsets j 0) → get_or places j false ≡ true
marked_jump offsets offsets' targets targets' places eo et marked j inside jump =
    let found : get_or targets jump.0 0 ≡ get_or offsets j 0 = get_or_default targets jump.0 0 (get_or offsets j 0) jump.1 ∙ jump.2 in
    marked jump.0 j (subst (λ (ts : List ℕ). jump.0 < length ts) (sym et) jump.1) (subst (λ (os : List ℕ). j < length os) (sym eo) inside)
    (ap (λ (os : List ℕ). get_or os j 0) eo ∙ sym found ∙ ap (λ (ts : List ℕ). get_or ts jump.0 0) (sym et))

-- what a slice of a whole vector holds is written back
pub written_back : {A : Type 0} (new old : List A) (n : ℕ) → length new ≡ length old → n ≡ length old → take n (new ++ drop (length new) old) ≡ new
written_back {A} [] [] n e f = ap (λ (k : ℕ). let xs : List A = take k [] in xs) f
written_back [] (y ∷ old) n e f = absurd (omega arith)
written_back (x ∷ new) [] n e f = absurd (omega arith)
written_back (x ∷ new) (y ∷ old) zero e f = absurd (omega arith)
written_back {A} (x ∷ new) (y ∷ old) (suc n) e f = ap (λ (r : List A). x ∷ r) (written_back new old n (omega arith) (omega arith))

-- One instruction that is gone through.
use Rattle.std.proofs.Common.{◌≡◌, ℕ, ◌<◌, List, length, All, Contains, Option, Some, sym, ap, subst, ◌∙◌}
use Rattle.std.specs.Option.{option_map}
use Rattle.th_syntax.specs.Kinds.{KindsAt, merged_at}
use Rattle.th_syntax.specs.KindRows.{KindRow, after}
use Rattle.th_syntax.specs.KindTable.{IsHeld}
use Rattle.th_syntax.proofs.LeastKinds.{held_along, held_behind}
use Rattle.th_kinds.specs.Walk.{kept_at, here}
use Rattle.th_kinds.specs.Kept.{with_merged, IsUnder, IsUnderAt, IsHeldAt}
use Rattle.th_kinds.proofs.MergedKept.{under_merged, merged_length}
use Rattle.th_kinds.proofs.Walking.{here_held}

pub arrived_under : (kept arrived : List (Option KindsAt)) (place : ℕ) (fallen : KindsAt) (u : ℕ → KindsAt) → arrived ≡ with_merged kept place fallen → IsUnder kept u → IsHeld fallen (u place) → IsUnder arrived u
arrived_under kept arrived place fallen u merged under low = subst (λ (ks : List (Option KindsAt)). IsUnder ks u) (sym merged) (under_merged kept place fallen u under low)

pub through : (kept arrived : List (Option KindsAt)) (place : ℕ) (fallen state out : KindsAt) (row : KindRow) (u : ℕ → KindsAt) → arrived ≡ with_merged kept place fallen → state ≡ here fallen (kept_at arrived place)
    → out ≡ after row state → IsUnder kept u → IsHeld fallen (u place) → IsHeld out (after row (u place))
through kept arrived place fallen state out row u merged at behind under low =
    let held : IsHeld (here fallen (kept_at arrived place)) (u place) = here_held fallen (kept_at arrived place) (u place) low (arrived_under kept arrived place fallen u merged under low place) in
    subst (λ (s : KindsAt). IsHeld s (after row (u place))) (sym (behind ∙ ap (after row) at)) (held_behind row (here fallen (kept_at arrived place)) (u place) held)

pub held_here : (kept : List (Option KindsAt)) (place : ℕ) (brought known : KindsAt) → place < length kept → with_merged kept place brought ≡ kept → kept_at kept place ≡ Some known → IsHeld brought known
unfolding with_merged
held_here kept place brought known inside same stands =
    let all : option_map (merged_at brought) (kept_at kept place) ≡ kept_at kept place =
    sym (merged_length kept place (option_map (merged_at brought) (kept_at kept place)) inside) ∙ ap (λ (ks : List (Option KindsAt)). kept_at ks place) same in
    let both : option_map (merged_at brought) (Some known) ≡ Some known = ap (option_map (merged_at brought)) (sym stands) ∙ all ∙ stands in
    cc

-- ---- the same of equal lists

pub under_at : (u : ℕ → KindsAt) (offsets offsets' targets targets' : List ℕ) (s t : KindsAt) → offsets' ≡ offsets → targets' ≡ targets → IsHeld s t → IsUnderAt u offsets targets t → IsUnderAt u offsets' targets' s
under_at u offsets offsets' targets targets' s t eo et low at =
    subst (λ (os : List ℕ). IsUnderAt u os targets' s) (sym eo)
    (subst (λ (ts : List ℕ). IsUnderAt u offsets ts s) (sym et) (λ i inside k there e. held_along s t (u k) low (at i inside k there e)))

pub held_at : (kept kept' : List (Option KindsAt)) (offsets offsets' targets targets' : List ℕ) (s t : KindsAt) → kept' ≡ kept → offsets' ≡ offsets → targets' ≡ targets → s ≡ t → IsHeldAt kept' offsets' targets' s → IsHeldAt kept offsets targets t
held_at kept kept' offsets offsets' targets targets' s t ek eo et es held =
    subst (λ (ks : List (Option KindsAt)). IsHeldAt ks offsets targets t) ek (subst (λ (os : List ℕ). IsHeldAt kept' os targets t) eo
    (subst (λ (ts : List ℕ). IsHeldAt kept' offsets' ts t) et (subst (λ (k : KindsAt). IsHeldAt kept' offsets' targets' k) es held)))

pub there_at : (offsets offsets' targets targets' : List ℕ) → offsets' ≡ offsets → targets' ≡ targets → All (λ target. Contains offsets target) targets → All (λ target. Contains offsets' target) targets'
there_at offsets offsets' targets targets' eo et there =
    subst (λ (os : List ℕ). All (λ target. Contains os target) targets') (sym eo) (subst (λ (ts : List ℕ). All (λ target. Contains offsets target) ts) (sym et) there)

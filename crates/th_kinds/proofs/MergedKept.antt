-- One of the kept states is changed.
use Rattle.std.proofs.Common.{◌≡◌, inl, inr, subst, Bool, true, false, ℕ, zero, suc, ◌+◌, ◌<◌, ◌≤◌, List, [], ◌∷◌, length, get_or, set, Option, None, Some, refl, sym, ap, ◌∙◌, arith}
use Rattle.std.specs.Option.{option_map}
use Rattle.std.proofs.lemmas.List.{set-get_or}
use Rattle.std.proofs.lemmas.Bool.{cases_order, cases_eq, cases_lt}
use Rattle.th_syntax.specs.KindTable.{IsHeld}
use Rattle.th_syntax.proofs.LeastKinds.{held_both}
use Rattle.th_syntax.specs.Kinds.{KindsAt, merged_at}
use Rattle.th_kinds.specs.declared.state.State.{State}
use Rattle.th_kinds.specs.States.{seen_state, state_room}
use Rattle.th_kinds.specs.Walk.{kept_at}
use Rattle.th_kinds.specs.Kept.{seen_kept, kept_room, kept_places, with_merged, IsUnder, IsHeldFor, Ascend}

pub seen_set : (kept : List (Option State)) (n : ℕ) (new : State) → seen_kept (set kept n (Some new)) ≡ set (seen_kept kept) n (Some (seen_state new))
seen_set [] n new = refl
seen_set (None ∷ kept) zero new = refl
seen_set (Some s ∷ kept) zero new = refl
seen_set (None ∷ kept) (suc n) new = ap (λ (rest : List (Option KindsAt)). None ∷ rest) (seen_set kept n new)
seen_set (Some s ∷ kept) (suc n) new = ap (λ (rest : List (Option KindsAt)). Some (seen_state s) ∷ rest) (seen_set kept n new)

pub room_set : (kept : List (Option State)) (n : ℕ) (old new : State) (d : Option State) → n < length kept → get_or kept n d ≡ Some old → kept_room (set kept n (Some new)) + state_room old ≡ kept_room kept + state_room new
room_set [] n old new d inside e = absurd (omega arith)
room_set (None ∷ kept) zero old new d inside e = absurd cc
room_set (Some s ∷ kept) zero old new d inside e = let same : s ≡ old = cc in let room = ap state_room same in omega arith
room_set (None ∷ kept) (suc n) old new d inside e = room_set kept n old new d (omega arith) e
room_set (Some s ∷ kept) (suc n) old new d inside e = let more = room_set kept n old new d (omega arith) e in omega arith

pub places_set : (kept : List (Option State)) (n : ℕ) (old new : State) (d : Option State) → n < length kept → get_or kept n d ≡ Some old → kept_places (set kept n (Some new)) ≡ kept_places kept
places_set [] n old new d inside e = absurd (omega arith)
places_set (None ∷ kept) zero old new d inside e = absurd cc
places_set (Some s ∷ kept) zero old new d inside e = refl
places_set (None ∷ kept) (suc n) old new d inside e = ap (λ (rest : List Bool). false ∷ rest) (places_set kept n old new d (omega arith) e)
places_set (Some s ∷ kept) (suc n) old new d inside e = ap (λ (rest : List Bool). true ∷ rest) (places_set kept n old new d (omega arith) e)

pub seen_at : (kept : List (Option State)) (n : ℕ) (o d : Option State) → n < length kept → get_or kept n d ≡ o → kept_at (seen_kept kept) n ≡ option_map seen_state o
seen_at [] n o d inside e = absurd (omega arith)
seen_at (None ∷ kept) zero o d inside e = ap (option_map seen_state) e
seen_at (Some s ∷ kept) zero o d inside e = ap (option_map seen_state) e
seen_at (None ∷ kept) (suc n) o d inside e = seen_at kept n o d (omega arith) e
seen_at (Some s ∷ kept) (suc n) o d inside e = seen_at kept n o d (omega arith) e

pub merged_some : (kept : List (Option State)) (n : ℕ) (old new : State) (brought : KindsAt) (d : Option State) → n < length kept → get_or kept n d ≡ Some old → seen_state new ≡ merged_at brought (seen_state old)
    → seen_kept (set kept n (Some new)) ≡ with_merged (seen_kept kept) n brought
unfolding with_merged
merged_some kept n old new brought d inside e merged =
    seen_set kept n new ∙ ap (λ (s : KindsAt). set (seen_kept kept) n (Some s)) merged
    ∙ ap (λ (o : Option KindsAt). set (seen_kept kept) n (option_map (merged_at brought) o)) (sym (seen_at kept n (Some old) d inside e))

pub merged_none : (kept : List (Option State)) (n : ℕ) (brought : KindsAt) (d : Option State) → n < length kept → get_or kept n d ≡ None → seen_kept kept ≡ with_merged (seen_kept kept) n brought
unfolding with_merged
merged_none kept n brought d inside e =
    sym (ap (λ (o : Option KindsAt). set (seen_kept kept) n (option_map (merged_at brought) o)) (seen_at kept n None d inside e)
    ∙ ap (set (seen_kept kept) n) (sym (seen_at kept n None d inside e)) ∙ set-get_or (seen_kept kept) n None)

pub same_some : (kept : List (Option State)) (n : ℕ) (old new : State) (d : Option State) → n < length kept → get_or kept n d ≡ Some old → seen_state new ≡ seen_state old → seen_kept (set kept n (Some new)) ≡ seen_kept kept
same_some kept n old new d inside e same =
    seen_set kept n new ∙ ap (λ (s : KindsAt). set (seen_kept kept) n (Some s)) same ∙ ap (set (seen_kept kept) n) (sym (seen_at kept n (Some old) d inside e)) ∙ set-get_or (seen_kept kept) n None

-- ---- offsets that ascend

pub no_less : (offsets : List ℕ) → Ascend offsets → (i j : ℕ) → i ≤ j → j < length offsets → get_or offsets i 0 ≤ get_or offsets j 0
no_less offsets ascend i j fits inside = elim (cases_eq i j) [
  | inl same ↦ let e = ap (λ (n : ℕ). get_or offsets n 0) same in omega arith
  | inr apart ↦ let less = ascend i j (omega arith) inside in omega arith
]

pub one_place : (offsets : List ℕ) → Ascend offsets → (i j : ℕ) → i < length offsets → j < length offsets → get_or offsets i 0 ≡ get_or offsets j 0 → i ≡ j
one_place offsets ascend i j here there e = elim (cases_order i j) [
  | inl same ↦ same
  | inr apart ↦ elim apart [ inl below ↦ absurd (let less = ascend i j below there in omega arith) | inr above ↦ absurd (let less = ascend j i above here in omega arith) ]
]

-- ---- a merge stays below a table

some_merged : (brought : KindsAt) (o : Option KindsAt) (known : KindsAt) → option_map (merged_at brought) o ≡ Some known → (old : KindsAt) × (o ≡ Some old) × (merged_at brought old ≡ known)
some_merged brought None known e = absurd cc
some_merged brought (Some old) known e = (old, refl, cc)

pub merged_length : (kept : List (Option KindsAt)) (place : ℕ) (o : Option KindsAt) → place < length kept → kept_at (set kept place o) place ≡ o
merged_length [] place o inside = absurd (omega arith)
merged_length (x ∷ kept) zero o inside = refl
merged_length (x ∷ kept) (suc place) o inside = merged_length kept place o (omega arith)

set_beyond : (kept : List (Option KindsAt)) (place : ℕ) (o : Option KindsAt) → length kept ≤ place → set kept place o ≡ kept
set_beyond [] place o beyond = refl
set_beyond (x ∷ kept) zero o beyond = absurd (omega arith)
set_beyond (x ∷ kept) (suc place) o beyond = ap (λ (rest : List (Option KindsAt)). x ∷ rest) (set_beyond kept place o (omega arith))

set_other : (kept : List (Option KindsAt)) (place k : ℕ) (o : Option KindsAt) → (k ≡ place → ⊥) → kept_at (set kept place o) k ≡ kept_at kept k
set_other [] place k o apart = refl
set_other (x ∷ kept) zero zero o apart = absurd (apart refl)
set_other (x ∷ kept) zero (suc k) o apart = refl
set_other (x ∷ kept) (suc place) zero o apart = refl
set_other (x ∷ kept) (suc place) (suc k) o apart = set_other kept place k o (λ same. apart (ap suc same))

pub under_merged : (kept : List (Option KindsAt)) (place : ℕ) (brought : KindsAt) (u : ℕ → KindsAt) → IsUnder kept u → IsHeld brought (u place) → IsUnder (with_merged kept place brought) u
unfolding with_merged
under_merged kept place brought u under low k known e = elim (cases_eq k place) [
  | inr apart ↦ under k known (sym (set_other kept place k (option_map (merged_at brought) (kept_at kept place)) apart) ∙ e)
  | inl same ↦ elim (cases_lt place (length kept)) [
    | inr beyond ↦ under k known (sym (ap (λ (ks : List (Option KindsAt)). kept_at ks k) (set_beyond kept place (option_map (merged_at brought) (kept_at kept place)) beyond)) ∙ e)
    | inl inside ↦
        let there = sym (merged_length kept place (option_map (merged_at brought) (kept_at kept place)) inside) ∙ ap (kept_at (set kept place (option_map (merged_at brought) (kept_at kept place)))) (sym same) ∙ e in
        let old = some_merged brought (kept_at kept place) known there in
        subst (λ (s : KindsAt). IsHeld s (u k)) old.2
        (held_both brought old.0 (u k) (subst (λ (n : ℕ). IsHeld brought (u n)) (sym same) low) (under k old.0 (ap (kept_at kept) same ∙ old.1)))
  ]
]

-- what changes nothing was held
pub held_merged : (kept : List (Option KindsAt)) (offsets : List ℕ) (place target : ℕ) (brought : KindsAt) → length kept ≡ length offsets → Ascend offsets → place < length offsets → get_or offsets place 0 ≡ target
    → with_merged kept place brought ≡ kept → IsHeldFor kept offsets target brought
unfolding with_merged
held_merged kept offsets place target brought lengths ascend inside found same k known there at stands =
    let here : k ≡ place = one_place offsets ascend k place there inside (at ∙ sym found) in
    let known_here : kept_at kept place ≡ Some known = ap (kept_at kept) (sym here) ∙ stands in
    let all : option_map (merged_at brought) (kept_at kept place) ≡ kept_at kept place =
    sym (merged_length kept place (option_map (merged_at brought) (kept_at kept place)) (omega arith)) ∙ ap (λ (ks : List (Option KindsAt)). kept_at ks place) same in
    let both : option_map (merged_at brought) (Some known) ≡ Some known = ap (option_map (merged_at brought)) (sym known_here) ∙ all ∙ known_here in
    cc

pub length-seen : (kept : List (Option State)) → length (seen_kept kept) ≡ length kept
length-seen [] = refl
length-seen (None ∷ kept) = ap suc (length-seen kept)
length-seen (Some s ∷ kept) = ap suc (length-seen kept)

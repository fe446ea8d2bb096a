-- Tests that compute, for the sites of a well-formed program.
use Rattle.std.proofs.Common.{◌≡◌, ℕ, zero, suc, ◌+◌, ◌*◌, ◌==◌, Bool, true, false, List, [], ◌∷◌, Option, None, Some, slice_get, map, refl, sym, ap, subst, ◌∙◌}
use Rattle.std.specs.Prelude.{◌&&◌, ◌||◌, not, nat_le}
use Rattle.std.specs.Option.{option_map_or}
use Rattle.std.proofs.lemmas.Bool.{eqb-true, eq-eqb}
use Rattle.th_base.specs.declared.built_in.TheConstants.{STRING_NUMBER, BUNDLE_NUMBER, BUILT_IN_COUNT}
use Rattle.th_base.specs.declared.class.ClassInfo.{ClassInfo}
use Rattle.th_base.specs.declared.class.MethodInfo.{MethodInfo}
use Rattle.th_base.specs.IdSet.{has}
use Rattle.th_base.specs.Launchable.{is_launchable, is_activity, can_be_made}
use Rattle.th_ir.specs.declared.program.RegProgram.{RegProgram}
use Rattle.th_ir.specs.declared.program.Place.{Place}
use Rattle.th_ir.specs.declared.program.Place.TheVariants.{Str, Launch, Event, Code}
use Rattle.th_ir.specs.declared.program.Site.{Site}
use Rattle.th_ir.specs.Program.{site_at}
use Rattle.th_ir.specs.Sites.{site_class, launch_class}
use Rattle.th_ir.specs.Calls.{declared_at}
use Rattle.th_ir.specs.WellFormed.{IsPlaced}
use Rattle.th_ir.proofs.Plain.{some_is, not_both}
use Rattle.th_ir.proofs.TestedStatements.{both_hold, not_true, tested, found_by, all_from, at_place, distinct_test}
use Rattle.th_ir.proofs.TestedPrograms.{is_owner, owner_is}

-- ---- places

abbrev pub placed_test : List ClassInfo → RegProgram → ℕ → Place → Bool
placed_test h p s (Str text) = is_owner STRING_NUMBER (site_class h p s)
placed_test h p s (Launch c) = is_launchable h c.0 && is_owner c.0 (site_class h p s)
placed_test h p s Event = is_owner BUNDLE_NUMBER (site_class h p s)
placed_test h p s (Code m offset) = option_map_or (λ (d : ℕ × MethodInfo). true) (declared_at h m.0) false

is_placed : (h : List ClassInfo) (p : RegProgram) (s : ℕ) (place : Place) → placed_test h p s place ≡ true → IsPlaced h p s place
is_placed h p s (Str text) e = owner_is STRING_NUMBER (site_class h p s) e
is_placed h p s (Launch c) e =
    let parts = both_hold (is_launchable h c.0) (is_owner c.0 (site_class h p s)) e in (parts.0, owner_is c.0 (site_class h p s) parts.1)
is_placed h p s Event e = owner_is BUNDLE_NUMBER (site_class h p s) e
is_placed h p s (Code m offset) e = let found = found_by (λ (d : ℕ × MethodInfo). true) (declared_at h m.0) e in (found.0, found.1)

pub all_placed : (h : List ClassInfo) (p : RegProgram) → all_from (λ s (x : Site). placed_test h p s x.place) 0 p.sites ≡ true
    → (s : ℕ) (x : Site) → site_at p s ≡ Some x → IsPlaced h p s x.place
all_placed h p e s x is = is_placed h p s x.place (at_place (λ k (y : Site). placed_test h p k y.place) p.sites s x e is)

-- ---- no place twice

-- a number for each place; one for all String constants, of which the small programs have one at most
abbrev pub place_key : Place → ℕ
place_key (Str text) = 0
place_key Event = 1
place_key (Launch c) = 2 * c.0 + 2
place_key (Code m offset) = 2 * (m.0 * 1000 + offset) + 3

key_in : (sites : List Site) (k : ℕ) (x : Site) → slice_get sites k ≡ Some x → has (map (λ s. place_key s.place) sites) (place_key x.place) ≡ true
key_in [] k x is = absurd cc
key_in (y ∷ sites) zero x is = rw (eq-eqb (place_key y.place) (place_key x.place) (ap (λ (s : Site). place_key s.place) (some_is y x is))) refl
key_in (y ∷ sites) (suc k) x is = later (place_key y.place == place_key x.place) (key_in sites k x is)
  where
    later : (b : Bool) → has (map (λ s. place_key s.place) sites) (place_key x.place) ≡ true → (b || has (map (λ s. place_key s.place) sites) (place_key x.place)) ≡ true
    later true e = refl
    later false e = e

alone : (sites : List Site) (k : ℕ) (x y : Site) → not (has (map (λ s. place_key s.place) sites) (place_key x.place)) ≡ true → slice_get sites k ≡ Some y → x.place ≡ y.place → ⊥
alone sites k x y out is same =
    let here = subst (λ (n : ℕ). has (map (λ s. place_key s.place) sites) n ≡ true) (sym (ap place_key same)) (key_in sites k y is) in
    not_both (has (map (λ s. place_key s.place) sites) (place_key x.place)) here (not_true (has (map (λ s. place_key s.place) sites) (place_key x.place)) out)

pub place_once : (sites : List Site) (s k : ℕ) (x y : Site) → distinct_test (map (λ (z : Site). place_key z.place) sites) ≡ true
    → slice_get sites s ≡ Some x → slice_get sites k ≡ Some y → x.place ≡ y.place → s ≡ k
place_once [] s k x y e is other same = absurd cc
place_once (z ∷ sites) zero zero x y e is other same = refl
place_once (z ∷ sites) zero (suc k) x y e is other same =
    let out = (both_hold (not (has (map (λ s. place_key s.place) sites) (place_key z.place))) (distinct_test (map (λ s. place_key s.place) sites)) e).0 in
    absurd (alone sites k z y out other (ap (λ (s : Site). s.place) (some_is z x is) ∙ same))
place_once (z ∷ sites) (suc s) zero x y e is other same =
    let out = (both_hold (not (has (map (λ s. place_key s.place) sites) (place_key z.place))) (distinct_test (map (λ s. place_key s.place) sites)) e).0 in
    absurd (alone sites s z x out is (ap (λ (s : Site). s.place) (some_is z y other) ∙ sym same))
place_once (z ∷ sites) (suc s) (suc k) x y e is other same =
    let rest = (both_hold (not (has (map (λ s. place_key s.place) sites) (place_key z.place))) (distinct_test (map (λ s. place_key s.place) sites)) e).1 in
    ap suc (place_once sites s k x y rest is other same)

-- ---- launches

-- where all launchable classes have this site of launches
abbrev pub launch_test : List ClassInfo → RegProgram → ℕ → ℕ → ClassInfo → Bool
launch_test h p s c k = not (is_launchable h c) || is_owner c (launch_class p s)

there : (h : List ClassInfo) (c : ℕ) → is_launchable h c ≡ true → (k : ClassInfo) × (slice_get h c ≡ Some k)
there h c e =
    let rest = (both_hold (nat_le BUILT_IN_COUNT c) (is_activity h c && option_map_or can_be_made (slice_get h c) false) e).1 in
    let made = (both_hold (is_activity h c) (option_map_or can_be_made (slice_get h c) false) rest).1 in
    let found = found_by can_be_made (slice_get h c) made in (found.0, found.1)

pub all_launched : (h : List ClassInfo) (p : RegProgram) (s : ℕ) → all_from (launch_test h p s) 0 h ≡ true
    → (c : ℕ) → is_launchable h c ≡ true → (s : ℕ) × (launch_class p s ≡ Some c)
all_launched h p s e c launched =
    let found = there h c launched in
    let test = at_place (launch_test h p s) h c found.0 e found.1 in
    (s, owner_is c (launch_class p s) (tested (is_launchable h c) (is_owner c (launch_class p s)) launched test))

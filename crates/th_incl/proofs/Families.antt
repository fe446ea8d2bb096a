-- Closed families of sets, and the least one.
use Rattle.std.proofs.Common.{◌≡◌, ◌≤◌, ℕ, Bool, true, false, List, [], length, refl, sym, ◌∙◌, subst, arith}
use Rattle.std.specs.List.{All}
use Rattle.std.proofs.lemmas.Bool.{both_ways}
use Rattle.std.proofs.lemmas.List.{ext_get_or}
use Rattle.th_base.specs.IdSet.{IsAscending}
use Rattle.th_base.proofs.Ascending.{same_members}
use Rattle.th_incl.specs.Least.{set_at, is_in, In, Reaches, given, passed, IsLeast, IsClosed, TellsWithin, HasMoreThan, pair_count}
use Rattle.th_incl.specs.declared.constraints.Constraints.{Constraints}
use Rattle.th_incl.proofs.Members.{same_tests}
use Rattle.th_incl.proofs.Counts.{ascending_at, least_over}

pub least_is_closed : (c : Constraints) (sets : List (List ℕ)) → IsLeast c sets → IsClosed c (is_in sets)
least_is_closed c sets l = record {
  base = λ i x one. (l.exact i x).1 (given i x one);
  copies = λ j x one e f. (l.exact j.to x).1 (passed j x one ((l.exact j.from x).0 e) f);
}

pub within_closed : (c : Constraints) (family : ℕ → ℕ → Bool) → IsClosed c family → (i x : ℕ) → Reaches c i x → family i x ≡ true
within_closed c family h _ _ (given i x one) = h.base i x one
within_closed c family h _ _ (passed j x one r f) = h.copies j x one (within_closed c family h j.from x r) f

same_sets : (a b : List (List ℕ)) → length a ≡ length b → All IsAscending a → All IsAscending b → ((i x : ℕ) → is_in a i x ≡ is_in b i x) → a ≡ b
same_sets a b len p q same = ext_get_or [] a b len (λ i lt. same_members (set_at a i) (set_at b i) (ascending_at a p i) (ascending_at b q i) (same i))

pub one_least : (c : Constraints) (a b : List (List ℕ)) → IsLeast c a → IsLeast c b → a ≡ b
one_least c a b l m =
    same_sets a b (l.count ∙ sym m.count) l.ascending m.ascending
    (λ i x. same_tests (is_in a i x) (is_in b i x) (λ e. (m.exact i x).1 ((l.exact i x).0 e)) (λ e. (l.exact i x).1 ((m.exact i x).0 e)))

-- sets that are closed and within each closed family are the least
pub least_by_families : (c : Constraints) (a b : List (List ℕ)) → IsLeast c a → length b ≡ c.sets → All IsAscending b → IsClosed c (is_in b)
    → ((family : ℕ → ℕ → Bool) → IsClosed c family → (i x : ℕ) → In b i x → family i x ≡ true) → b ≡ a
least_by_families c a b l len asc closed within =
    same_sets b a (len ∙ sym l.count) asc l.ascending
    (λ i x. same_tests (is_in b i x) (is_in a i x) (within (is_in a) (least_is_closed c a l) i x) (λ e. within_closed c (is_in b) closed i x ((l.exact i x).0 e)))

-- ---- limits

pub tells_yes : (c : Constraints) (sets : List (List ℕ)) (limit : ℕ) → IsLeast c sets → pair_count sets ≤ limit → TellsWithin c limit true
tells_yes c sets limit l le other m = (λ e. subst (λ s. pair_count s ≤ limit) (one_least c sets other l m) le, λ e. refl)

pub tells_no : (c : Constraints) (limit : ℕ) → HasMoreThan c limit → TellsWithin c limit false
tells_no c limit over other m = (λ e. absurd (both_ways _ refl e), λ le. let more = least_over c limit other over m in absurd (omega (arith, le, more)))

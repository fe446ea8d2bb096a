-- The steps of the canonical form leave each named symbol one of the query's, and the symbols few.
use Rattle.std.proofs.Common.{◌≡◌, ℕ, ◌+◌, ◌<◌, ◌^◌, suc, true, List, [], ◌∷◌, length, refl, sym, ap, subst, ◌∙◌}
use Rattle.th_query.specs.declared.query.Query.{Query}
use Rattle.th_query.specs.declared.query.Sym.{Sym}
use Rattle.th_query.specs.Symbols.{is_named}
use Rattle.th_query.specs.Unified.{IsUnified, common_symbols}
use Rattle.th_query.specs.Settled.{pruned, settled, limited}
use Rattle.th_query.proofs.Unifying.{named_before}
use Rattle.th_query.proofs.Settling.{cut_named}
use Rattle.th_steps.specs.Named.{AreKnown}
use Rattle.th_narrow.specs.Kept.{KeepsRest}

-- ---- the first step

count_common : (names : List ℕ) (q : Query) (s : ℕ) (xs : List Sym) → length (common_symbols names q s xs) ≡ length xs
count_common names q s [] = refl
count_common names q s (x ∷ xs) = ap suc (count_common names q (s + 1) xs)

count_unified : (q r : Query) → IsUnified q r → length r.syms ≡ length q.syms
count_unified q r u = ap (λ (z : Query). length z.syms) u.is ∙ count_common u.names q 0 q.syms

known_unified : (q r : Query) → AreKnown q → IsUnified q r → AreKnown r
known_unified q r known u s named =
    subst (λ n. s < n) (sym (count_unified q r u)) (known s (named_before u.names q s u.least (subst (λ (z : Query). is_named z s ≡ true) u.is named)).0)

-- ---- the second

known_narrowed : (q r : Query) → AreKnown q → KeepsRest q r → AreKnown r
known_narrowed q r known k s named =
    subst (λ n. s < n) (sym k.count) (known s (subst (λ (z : Query). is_named z s ≡ true) k.rest named))

-- ---- the others

known_limited : (q : Query) → AreKnown q → AreKnown (limited q)
known_limited q known s named = known s (cut_named q s named)

-- ---- all before the last

pub last_known : (q unified narrowed less : Query) → IsUnified q unified → KeepsRest unified narrowed → less ≡ limited (settled (pruned narrowed)) → AreKnown q → AreKnown less
last_known q unified narrowed less u k is known =
    subst AreKnown (sym is) (known_limited (settled (pruned narrowed)) (known_narrowed unified narrowed (known_unified q unified known u) k))

pub last_few : (q unified narrowed less : Query) → IsUnified q unified → KeepsRest unified narrowed → less ≡ limited (settled (pruned narrowed)) → length q.syms < 2 ^ 31 → length less.syms < 2 ^ 31
last_few q unified narrowed less u k is few =
    subst (λ n. n < 2 ^ 31) (sym (ap (λ (z : Query). length z.syms) is ∙ k.count ∙ count_unified q unified u)) few

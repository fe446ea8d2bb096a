-- A query has one canonical form.
use mathlib.Core.Path.{fun_ext}
use Rattle.std.proofs.Common.{◌≡◌, ℕ, ◌+◌, ◌<◌, suc, Bool, List, [], ◌∷◌, length, get_or, refl, sym, ap, subst, ◌∙◌, arith}
use Rattle.th_base.specs.declared.class.ClassInfo.{ClassInfo}
use Rattle.th_linear.specs.Gathered.{name_of}
use Rattle.th_ir.specs.declared.program.RegProgram.{RegProgram}
use Rattle.th_ir.specs.FactSets.{FactSets}
use Rattle.th_ir.proofs.Plain.{same_test}
use Rattle.th_query.specs.declared.query.Query.{Query}
use Rattle.th_query.specs.Unified.{AreLeast, unified_by}
use Rattle.th_query.specs.Narrowed.{AreGreatest}
use Rattle.th_query.specs.Settled.{pruned, settled, limited}
use Rattle.th_query.specs.Numbered.{numbered}
use Rattle.th_query.specs.Canonical.{IsMadeCanonical}
use Rattle.th_query.proofs.Narrowing.{narrowed_by}

same_list : (xs ys : List ℕ) (k : ℕ) → length xs ≡ length ys → ((i : ℕ) → i < length xs → get_or xs i (k + i) ≡ get_or ys i (k + i)) → xs ≡ ys
same_list [] [] k e h = refl
same_list [] (y ∷ ys) k e h = absurd (omega (arith, e))
same_list (x ∷ xs) [] k e h = absurd (omega (arith, e))
same_list (x ∷ xs) (y ∷ ys) k e h =
    let first : x ≡ y = h 0 (omega arith) in
    let rest : xs ≡ ys = same_list xs ys (k + 1) (omega (arith, e)) (λ i l. let next : k + suc i ≡ (k + 1) + i = omega arith in subst (λ d. get_or xs i d ≡ get_or ys i d) next (h (suc i) (omega (arith, l)))) in
    λ i. first i ∷ rest i

-- the least names are one list
pub one_least : (q : Query) (names others : List ℕ) → AreLeast q names → AreLeast q others → names ≡ others
one_least q names others a b = same_list names others 0 (a.count ∙ sym b.count) (λ i l.
    let x = a.least i (name_of others i) (b.one i) in
    let y = b.least i (name_of names i) (a.one i) in
    let same : name_of names i ≡ name_of others i = omega (arith, x, y) in
    let first : i ≡ 0 + i = omega arith in
    subst (λ d. get_or names i d ≡ get_or others i d) first same)

-- the greatest sets are one test
pub one_greatest : (h : List ClassInfo) (p : RegProgram) (t : FactSets) (q : Query) (sets others : ℕ → ℕ → Bool) → AreGreatest h p t q sets → AreGreatest h p t q others → sets ≡ others
one_greatest h p t q sets others a b = fun_ext (λ s. fun_ext (λ x. same_test (sets s x) (others s x) (λ e. b.greatest sets a.meet s x e) (λ e. a.greatest others b.meet s x e)))

pub one_canonical : (h : List ClassInfo) (p : RegProgram) (t : FactSets) (q r s : Query) → IsMadeCanonical h p t q r → IsMadeCanonical h p t q s → r ≡ s
one_canonical h p t q r s a b =
    let first : a.unified ≡ b.unified = a.first.is ∙ ap (λ names. unified_by names q) (one_least q a.first.names b.first.names a.first.least b.first.least) ∙ sym b.first.is in
    let other : AreGreatest h p t a.unified b.second.sets = subst (λ u. AreGreatest h p t u b.second.sets) (sym first) b.second.greatest in
    let sets : a.second.sets ≡ b.second.sets = one_greatest h p t a.unified a.second.sets b.second.sets a.second.greatest other in
    let second : a.narrowed ≡ b.narrowed = a.second.is ∙ ap (λ f. narrowed_by f a.unified) sets ∙ ap (narrowed_by b.second.sets) first ∙ sym b.second.is in
    a.is ∙ ap (λ n. numbered (limited (settled (pruned n)))) second ∙ sym b.is

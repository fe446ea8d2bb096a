-- Pairs in the order of ordered sets ascend by their keys.
use Rattle.std.proofs.Common.{◌≡◌, inl, inr, ℕ, ◌<◌, ◌==◌, Bool, List, [], ◌∷◌, refl, sym, ap, subst, arith, ◌∙◌}
use Rattle.std.specs.Prelude.{◌&&◌, ◌||◌, map}
use Rattle.std.specs.List.{AllByRecursion, list_any}
use Rattle.std.specs.List.Sorted.{IsStrictlySortedBy}
use Rattle.std.specs.declared.cmp.Ordering.{Ordering}
use Rattle.std.specs.declared.cmp.Ordering.TheVariants.{Less, Equal, Greater}
use Rattle.std.specs.Ordering.{ordering_then, nat_cmp, is_eq}
use Rattle.std.specs.Cmp.Lexicographic.{slice_cmp}
use Rattle.std.proofs.lemmas.Bool.{cases_order, eq-eqb, ne_eqb}
use Rattle.th_ir.specs.FactSets.{AscendBy}
use Rattle.std.specs.BTreeSet.{BTreeSet, IsFromIterResult}
use Rattle.th_points_to.specs.Listing.{is_pair, pair_cmp, pair_key, AreAscendingPairs}

then_equal : (o p : Ordering) → ordering_then o (ordering_then p Equal) ≡ ordering_then o p
then_equal Less p = refl
then_equal Greater p = refl
then_equal Equal Less = refl
then_equal Equal Equal = refl
then_equal Equal Greater = refl

keys_below : (d : ℕ × ℕ) (ds : List (ℕ × ℕ)) → AllByRecursion (λ e. pair_cmp d e ≡ Less) ds → AllByRecursion (λ k. slice_cmp nat_cmp (pair_key d) k ≡ Less) (map pair_key ds)
keys_below d [] all = tt
keys_below d (e ∷ ds) all = (then_equal (nat_cmp d.0 e.0) (nat_cmp d.1 e.1) ∙ all.0, keys_below d ds all.1)

pub pairs_ascend : (ds : List (ℕ × ℕ)) → IsStrictlySortedBy pair_cmp ds → AscendBy pair_key ds
unfolding IsStrictlySortedBy
pairs_ascend [] all = tt
pairs_ascend (d ∷ ds) all = (keys_below d ds all.0, pairs_ascend ds all.1)

nat_less : (a b : ℕ) → a < b → nat_cmp a b ≡ Less
nat_less a b h = grind arith

nat_more : (a b : ℕ) → b < a → nat_cmp a b ≡ Greater
nat_more a b h = grind arith

nat_same : (a b : ℕ) → a ≡ b → nat_cmp a b ≡ Equal
nat_same a b h = grind arith

eq_nat : (a b : ℕ) → is_eq (nat_cmp a b) ≡ (b == a)
eq_nat a b = elim (cases_order a b) [
  | inl same ↦ ap is_eq (nat_same a b same) ∙ sym (eq-eqb b a (sym same))
  | inr (inl less) ↦ ap is_eq (nat_less a b less) ∙ sym (ne_eqb b a (λ e. let no_way : ⊥ = omega (arith, e, less) in no_way))
  | inr (inr more) ↦ ap is_eq (nat_more a b more) ∙ sym (ne_eqb b a (λ e. let no_way : ⊥ = omega (arith, e, more) in no_way))
]

both_eq : (o p : Ordering) → is_eq (ordering_then o p) ≡ (is_eq o && is_eq p)
both_eq Less p = refl
both_eq Equal p = refl
both_eq Greater p = refl

pub eq_pair : (d e : ℕ × ℕ) → is_eq (pair_cmp d e) ≡ is_pair d e
eq_pair d e =
    both_eq (nat_cmp d.0 e.0) (nat_cmp d.1 e.1) ∙ ap (λ (b : Bool). b && is_eq (nat_cmp d.1 e.1)) (eq_nat d.0 e.0)
    ∙ ap (λ (b : Bool). (e.0 == d.0) && b) (eq_nat d.1 e.1)

pub any_pair : (d : ℕ × ℕ) (ds : List (ℕ × ℕ)) → list_any (λ e. is_eq (pair_cmp d e)) ds ≡ list_any (is_pair d) ds
any_pair d [] = refl
any_pair d (e ∷ ds) = ap (λ (b : Bool). b || list_any (λ e. is_eq (pair_cmp d e)) ds) (eq_pair d e) ∙ ap (λ (b : Bool). is_pair d e || b) (any_pair d ds)

-- the pairs of a set, in its order
pub in_order : (pairs : List (ℕ × ℕ)) (set : BTreeSet (ℕ × ℕ)) (ordered : List (ℕ × ℕ)) → IsFromIterResult pair_cmp pairs set → ordered ≡ set.keys → AreAscendingPairs pairs ordered
in_order pairs set ordered made e = subst (AreAscendingPairs pairs) (sym e) record {
  same = λ d. sym (any_pair d set.keys) ∙ made.0 d ∙ any_pair d pairs;
  ascend = pairs_ascend set.keys made.1;
}

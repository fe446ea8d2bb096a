-- What values satisfy is no contradiction.
use Rattle.std.proofs.Common.{◌≡◌, inl, inr, ℕ, ◌+◌, ◌==◌, suc, Bool, true, false, not, ℤ, pos, negsuc, ◌≤ℤ◌, List, [], ◌∷◌, get_or, Option, None, Some, slice_get, refl, sym, ap, subst, ◌∙◌, arith}
use Rattle.std.specs.Prelude.{◌≢◌}
use Rattle.std.specs.List.{All, list_any}
use Rattle.std.proofs.lemmas.Bool.{and_parts, or_cases, both_ways, eqb-true, not-true, false_from_ne_true}
use Rattle.std.proofs.lemmas.Option.{slice_get-get_or}
use Rattle.th_linear.specs.Forms.{Form, Holds}
use Rattle.th_linear.specs.Laws.{IsFact}
use Rattle.th_pure.specs.declared.range.Range.{Range}
use Rattle.th_pure.specs.Solutions.{AllHold, AllInRange}
use Rattle.th_pure.specs.Laws.{RefutedHaveNoSolution}
use Rattle.th_ir.specs.Program.{Among}
use Rattle.th_ir.specs.Machine.{RegValue, IntValue, NullValue, Address, RegObject, RegState}
use Rattle.th_query.specs.declared.query.Sym.{Sym}
use Rattle.th_query.specs.declared.query.Sym.TheVariants.{Ref, Int, Carry}
use Rattle.th_query.specs.declared.query.Query.{Query}
use Rattle.th_query.specs.Symbols.{symbol_at, is_named, counts}
use Rattle.th_query.specs.Meets.{IsIntNumber, IsCarryNumber, Allows, number_of, Meets}
use Rattle.th_query.specs.Numbered.{numbered_pair}
use Rattle.th_query.specs.Contradiction.{is_nothing, is_only_null, is_no_difference, ranges_at, ranges_from, is_contradiction_of}
use Rattle.th_linear.specs.Gathered.{name_of}
use Rattle.th_query.proofs.InLists.{In, in_to, any_among, among_unmap}
use Rattle.th_query.proofs.Formed.{AreThere, AreFacts}
use Rattle.th_query.proofs.Forming.{least_greatest}
use Rattle.th_query.proofs.Numbering.{renumbered, new_names, old_of, IsNew, new_symbol, named_renumbered}

-- ---- symbols without values

no_value : (heap : List RegObject) (x : Sym) (w : RegValue) → is_nothing x ≡ true → Allows heap x w → ⊥
no_value heap (Ref null []) (IntValue z) h a = a
no_value heap (Ref null []) NullValue h a = both_ways _ (not-true null (and_parts _ _ h).0) a
no_value heap (Ref null []) (Address o) h (y, there, k) = both_ways _ refl k
no_value heap (Ref null (s ∷ ss)) w h a = both_ways _ refl (and_parts (not null) false h).1
no_value heap Int w h a = both_ways _ refl h
no_value heap Carry w h a = both_ways _ refl h

only_null : (heap : List RegObject) (x : Sym) (w : RegValue) → is_only_null (Some x) ≡ true → Allows heap x w → w ≡ NullValue
only_null heap (Ref null []) (IntValue z) h a = absurd a
only_null heap (Ref null []) NullValue h a = refl
only_null heap (Ref null []) (Address o) h (y, there, k) = absurd (both_ways _ refl k)
only_null heap (Ref null (s ∷ ss)) w h a = absurd (both_ways _ refl (and_parts null false h).1)
only_null heap Int w h a = absurd (both_ways _ refl h)
only_null heap Carry w h a = absurd (both_ways _ refl h)

null_there : (o : Option Sym) → is_only_null o ≡ true → (x : Sym) × (o ≡ Some x)
null_there None h = absurd (both_ways _ refl h)
null_there (Some x) h = (x, refl)

-- ---- values that satisfy all of a query but what it says of the state

pub record Satisfies (heap : List RegObject) (q : Query) (v : ℕ → RegValue) : Type 0 where
  pub syms : (n : ℕ) (x : Sym) → symbol_at q n ≡ Some x → Allows heap x (v n)
  pub diffs : (d : ℕ × ℕ) → Among q.diffs d → v d.0 ≢ v d.1
  pub facts : (f : Form) → Among q.facts f → Holds f (λ n. number_of (v n))
  pub forms : AreFacts q

int_number : (heap : List RegObject) (w : RegValue) → Allows heap Int w → IsIntNumber (number_of w)
int_number heap (IntValue z) a = a
int_number heap NullValue a = absurd a
int_number heap (Address o) a = absurd a

carry_number : (heap : List RegObject) (w : RegValue) → Allows heap Carry w → IsCarryNumber (number_of w)
carry_number heap (IntValue z) a = a
carry_number heap NullValue a = absurd a
carry_number heap (Address o) a = absurd a

range_at : (heap : List RegObject) (s : ℕ → ℤ) (k : ℕ) (x : Sym) (w : RegValue) (rest : List Range) → s k ≡ number_of w → Allows heap x w → AllInRange rest s → AllInRange (ranges_at k x rest) s
range_at heap s k (Ref null sites) w rest e a r = r
range_at heap s k Int w rest e a r = let n = int_number heap w a in (subst (λ z. negsuc 2147483647 ≤ℤ z) (sym e) n.0, subst (λ z. z ≤ℤ pos 2147483647) (sym e) n.1, r)
range_at heap s k Carry w rest e a r = let n = carry_number heap w a in (subst (λ z. negsuc 0 ≤ℤ z) (sym e) n.0, subst (λ z. z ≤ℤ pos 1) (sym e) n.1, r)

in_ranges : (heap : List RegObject) (v : ℕ → RegValue) (k : ℕ) (xs : List Sym) → ((n : ℕ) (x : Sym) → slice_get xs n ≡ Some x → Allows heap x (v (k + n))) → AllInRange (ranges_from k xs) (λ n. number_of (v n))
in_ranges heap v k [] a = tt
in_ranges heap v k (x ∷ xs) a =
    let first : k + 0 ≡ k = omega arith in
    range_at heap (λ n. number_of (v n)) k x (v k) (ranges_from (k + 1) xs) refl (subst (λ n. Allows heap x (v n)) first (a 0 x refl))
    (in_ranges heap v (k + 1) xs (λ n y e. let next : k + suc n ≡ (k + 1) + n = omega arith in subst (λ m. Allows heap y (v m)) next (a (suc n) y e)))

all_hold : (fs : List Form) (s : ℕ → ℤ) → ((f : Form) → In f fs → Holds f s) → AllHold fs s
all_hold [] s h = tt
all_hold (f ∷ fs) s h = (h f (inl refl), all_hold fs s (λ g m. h g (inr m)))

all_facts : (fs : List Form) → ((f : Form) → Among fs f → IsFact f) → All IsFact fs
all_facts fs h = λ k d below. h (get_or fs k d) (k, slice_get-get_or fs k d below)

pub satisfied_possible : (l : RefutedHaveNoSolution) (heap : List RegObject) (q : Query) (v : ℕ → RegValue) → Satisfies heap q v → is_contradiction_of q ≡ false
satisfied_possible l heap q v h = false_from_ne_true (is_contradiction_of q) (λ e. elim (or_cases (list_any is_nothing q.syms) _ e) [
  | inl empty ↦ let x = any_among is_nothing q.syms empty in no_value heap x.0 (v x.1.0) x.2 (h.syms x.1.0 x.0 x.1.1)
  | inr more ↦ elim (or_cases (list_any (is_no_difference q) q.diffs) _ more) [
    | inl same ↦
        let d = any_among (is_no_difference q) q.diffs same in
        h.diffs d.0 d.1 (elim (or_cases (d.0.0 == d.0.1) _ d.2) [
          | inl one ↦ ap v (eqb-true d.0.0 d.0.1 one)
          | inr nulls ↦
              let both = and_parts (is_only_null (symbol_at q d.0.0)) (is_only_null (symbol_at q d.0.1)) nulls in
              let x = null_there (symbol_at q d.0.0) both.0 in
              let y = null_there (symbol_at q d.0.1) both.1 in
              only_null heap x.0 (v d.0.0) (subst (λ o. is_only_null o ≡ true) x.1 both.0) (h.syms d.0.0 x.0 x.1)
              ∙ sym (only_null heap y.0 (v d.0.1) (subst (λ o. is_only_null o ≡ true) y.1 both.1) (h.syms d.0.1 y.0 y.1))
        ])
    | inr unsolved ↦
        l q.facts (ranges_from 0 q.syms) (all_facts q.facts h.forms) unsolved (λ n. number_of (v n))
        (all_hold q.facts (λ n. number_of (v n)) (λ f m. h.facts f (in_to f q.facts m)), in_ranges heap v 0 q.syms (λ n x a. let first : 0 + n ≡ n = omega arith in subst (λ m. Allows heap x (v m)) (sym first) (h.syms n x a)))
  ]
])

-- ---- canonical queries

ref_named : (q : Query) (n : ℕ) (o : Option Sym) (null : Bool) (sites : List ℕ) → o ≡ Some (Ref null sites) → counts q n o ≡ true → is_named q n ≡ true
ref_named q n o null sites e h = subst (λ z. counts q n z ≡ true) e h

-- where a numbered query is met, the values satisfy it
pub numbered_satisfied : (q : Query) (s : RegState) (w : ℕ → RegValue) → AreThere q → AreFacts (renumbered q) → ((d : ℕ × ℕ) → Among q.diffs d → (is_named q d.0 ≡ true) × (is_named q d.1 ≡ true))
    → Meets s (renumbered q) w → Satisfies s.heap (renumbered q) w
numbered_satisfied q s w there forms named m = record {
  syms = λ n x e. go n x e (new_symbol q there n x e);
  diffs = λ d a.
      let e = among_unmap (numbered_pair (new_names q)) d q.diffs a in
      let ends = named e.0 e.1 in
      let both = least_greatest (λ k. is_named (renumbered q) k ≡ true) (name_of (new_names q) e.0.0) (name_of (new_names q) e.0.1) (named_renumbered q e.0.0 ends.0) (named_renumbered q e.0.1 ends.1) in
      m.diffs d a (subst (λ (z : ℕ × ℕ). is_named (renumbered q) z.0 ≡ true) (sym e.2) both.0) (subst (λ (z : ℕ × ℕ). is_named (renumbered q) z.1 ≡ true) (sym e.2) both.1);
  facts = m.facts;
  forms = forms;
}
  where
    go : (n : ℕ) (x : Sym) → symbol_at (renumbered q) n ≡ Some x → IsNew q n x → Allows s.heap x (w n)
    go n (Ref null sites) e new =
        m.named n (Ref null sites)
        (subst (λ k. is_named (renumbered q) k ≡ true) new.name (named_renumbered q (old_of q n) (ref_named q (old_of q n) (symbol_at q (old_of q n)) null sites new.symbol new.left))) e
    go n Int e new = m.numbers n Int refl e
    go n Carry e new = m.numbers n Carry refl e

-- The variables of renamed and of divided facts.
use Rattle.std.proofs.Common.{◌≡◌, ◌⊎◌, inl, inr, ℕ, ◌==◌, Bool, true, false, cond, ℤ, pos, ◌+ℤ◌, List, [], ◌∷◌, map, None, Some, refl, sym, subst}
use Rattle.std.specs.Prelude.{nat_lt, ◌&&◌}
use Rattle.std.specs.Int.RustNames.{unsigned_abs, int_div}
use Rattle.std.specs.Ordering.{int_eq}
use Rattle.th_linear.specs.Forms.{Form}
use Rattle.th_linear.specs.Summed.{term_before, added, summed, is_small, all_small}
use Rattle.th_linear.specs.Gathered.{name_of, gathered, gathered_form, renamed_terms, renamed_form}
use Rattle.th_linear.specs.Divided.{normal_of, normal_by, divided_by, divided_form, content_of, divides, stands}
use Rattle.th_linear.specs.declared.fact.Rel.{Rel}
use Rattle.th_linear.specs.declared.fact.Rel.TheVariants.{Eq, Le, Ne}
use Rattle.th_linear.specs.declared.division.NormalForm.{NormalForm}
use Rattle.th_linear.specs.declared.division.NormalForm.TheVariants.{True, False, Fact}
use Rattle.th_ir.proofs.Plain.{some_is}
use Rattle.th_query.proofs.InLists.{In}

abbrev pub variables : List (ℕ × ℤ) → List ℕ
variables ts = map (λ (t : ℕ × ℤ). t.0) ts

before_from : (u v : ℕ) (c : ℤ) (ts : List (ℕ × ℤ)) → In u (variables (term_before v c ts)) → (u ≡ v) ⊎ In u (variables ts)
before_from u v c ts m = go (int_eq c (pos 0)) m
  where
    go : (b : Bool) → In u (variables (cond b ts ((v, c) ∷ ts))) → (u ≡ v) ⊎ In u (variables ts)
    go true n = inr n
    go false (inl e) = inl e
    go false (inr n) = inr n

added_from : (u v : ℕ) (c : ℤ) (ts : List (ℕ × ℤ)) → In u (variables (added v c ts)) → (u ≡ v) ⊎ In u (variables ts)
added_from u v c [] m = before_from u v c [] m
added_from u v c (t ∷ ts) m = first (nat_lt v t.0) m (added_from u v c ts)
  where
    second : (b : Bool) → (v == t.0) ≡ b → In u (variables (cond b (term_before v (c +ℤ t.1) ts) (t ∷ added v c ts))) → (In u (variables (added v c ts)) → (u ≡ v) ⊎ In u (variables ts)) → (u ≡ v) ⊎ In u (variables (t ∷ ts))
    second true e n f = elim (before_from u v (c +ℤ t.1) ts n) [ inl s ↦ inl s | inr r ↦ inr (inr r) ]
    second false e (inl s) f = inr (inl s)
    second false e (inr n) f = elim (f n) [ inl s ↦ inl s | inr r ↦ inr (inr r) ]

    first : (b : Bool) → In u (variables (cond b (term_before v c (t ∷ ts)) (cond (v == t.0) (term_before v (c +ℤ t.1) ts) (t ∷ added v c ts)))) → (In u (variables (added v c ts)) → (u ≡ v) ⊎ In u (variables ts))
        → (u ≡ v) ⊎ In u (variables (t ∷ ts))
    first true n f = before_from u v c (t ∷ ts) n
    first false n f = second (v == t.0) refl n f

summed_from : (u : ℕ) (ts : List (ℕ × ℤ)) → In u (variables (summed ts [])) → In u (variables ts)
summed_from u [] m = m
summed_from u (t ∷ ts) m = elim (added_from u t.0 t.1 (summed ts []) m) [ inl e ↦ inl e | inr n ↦ inr (summed_from u ts n) ]

-- a variable of terms put together is one of theirs
gathered_from : (terms : List (ℕ × ℤ)) (k : ℤ) (rel : Rel) (g : Form) (u : ℕ) → gathered_form terms k rel ≡ Some g → In u (variables g.coefs) → In u (variables terms)
unfolding gathered_form
gathered_from terms k rel g u e m = go (is_small k && all_small (gathered terms)) e
  where
    go : (b : Bool) → cond b (Some (record { coefs = gathered terms; constant = k; rel = rel })) None ≡ Some g → In u (variables terms)
    go true is = summed_from u terms (subst (λ (f : Form). In u (variables f.coefs)) (sym (some_is _ g is)) m)
    go false is = absurd cc

names_from : (names : List ℕ) (u : ℕ) (ts : List (ℕ × ℤ)) → In u (variables (renamed_terms names ts)) → (w : ℕ) × In w (variables ts) × (u ≡ name_of names w)
names_from names u [] m = absurd m
names_from names u (t ∷ ts) (inl e) = (t.0, inl refl, e)
names_from names u (t ∷ ts) (inr m) = let r = names_from names u ts m in (r.0, inr r.1, r.2)

-- a variable of a renamed fact is the name of one of its variables
pub renamed_variable : (names : List ℕ) (f g : Form) (u : ℕ) → renamed_form names f ≡ Some g → In u (variables g.coefs) → (w : ℕ) × In w (variables f.coefs) × (u ≡ name_of names w)
renamed_variable names f g u e m = names_from names u f.coefs (gathered_from (renamed_terms names f.coefs) f.constant f.rel g u e m)

-- ---- division

abbrev pub IsWithinForm : List (ℕ × ℤ) → NormalForm → Type 0
IsWithinForm ts True = Unit {0}
IsWithinForm ts False = Unit {0}
IsWithinForm ts (Fact g) = (u : ℕ) → In u (variables g.coefs) → In u (variables ts)

divided_variables : (g u : ℕ) (ts : List (ℕ × ℤ)) → In u (variables (map (λ (t : ℕ × ℤ). (t.0, int_div t.1 (pos g))) ts)) → In u (variables ts)
divided_variables g u [] m = m
divided_variables g u (t ∷ ts) (inl e) = inl e
divided_variables g u (t ∷ ts) (inr m) = inr (divided_variables g u ts m)

divided_within : (rel : Rel) (g : ℕ) (f : Form) → IsWithinForm f.coefs (divided_by rel g f)
divided_within Le g f = λ u m. divided_variables g u f.coefs m
divided_within Eq g f = elim (divides g (unsigned_abs f.constant)) as (λ b. IsWithinForm f.coefs (cond b (Fact (divided_form g f (int_div f.constant (pos g)))) False)) [ true ↦ λ u m. divided_variables g u f.coefs m | false ↦ tt ]
divided_within Ne g f = elim (divides g (unsigned_abs f.constant)) as (λ b. IsWithinForm f.coefs (cond b (Fact (divided_form g f (int_div f.constant (pos g)))) True)) [ true ↦ λ u m. divided_variables g u f.coefs m | false ↦ tt ]

judged_within : (f : Form) (b : Bool) → IsWithinForm f.coefs (cond b True False)
judged_within f true = tt
judged_within f false = tt

normal_within : (ts : List (ℕ × ℤ)) (f : Form) → IsWithinForm f.coefs (normal_by ts f)
normal_within [] f = judged_within f (stands f.rel f.constant)
normal_within (t ∷ ts) f = divided_within f.rel (content_of (t ∷ ts)) f

pub normal_variables : (f : Form) → IsWithinForm f.coefs (normal_of f)
unfolding normal_of
normal_variables f = normal_within f.coefs f

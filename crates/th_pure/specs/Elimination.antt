-- Variables eliminated from inequalities one by one.
use Rattle.std.specs.Prelude.{◌≡◌, ◌<ℤ◌, All, ℕ, ◌/◌, ◌==◌, nat_le, Bool, true, false, cond, ◌&&◌, ◌||◌, ℤ, pos, List, [], ◌∷◌, ◌++◌, length, map, filter, Option}
use Rattle.std.specs.Int.RustNames.{unsigned_abs, int_lt}
use Rattle.std.specs.Ordering.{int_eq}
use Rattle.th_linear.specs.Forms.{Form, coef}
use Rattle.th_linear.specs.Divided.{gcd_of}
use Rattle.th_linear.specs.Summed.{combined}
use Rattle.th_linear.specs.declared.fact.Rel.{Rel}
use Rattle.th_linear.specs.declared.fact.Rel.TheVariants.{Eq, Le, Ne}
use Rattle.th_pure.specs.declared.elimination.TheConstants.{FACT_LIMIT}
use Rattle.th_pure.specs.declared.facts.Outcome.{Outcome}
use Rattle.th_pure.specs.declared.facts.Outcome.TheVariants.{Undecided, Remaining}
use Rattle.th_pure.specs.Outcomes.{and_then}
use Rattle.th_pure.specs.Division.{divided_all}
use Rattle.th_pure.specs.Substitution.{all_made}

-- the fact is an inequality that bounds the variable from above
abbrev pub IsUpper : ℕ → Form → Type 0
IsUpper v f = (f.rel ≡ Le) × (pos 0 <ℤ coef v f.coefs)

-- the fact is an inequality that bounds the variable from below
abbrev pub IsLower : ℕ → Form → Type 0
IsLower v f = (f.rel ≡ Le) × (coef v f.coefs <ℤ pos 0)

-- each fact is an inequality
abbrev pub AreInequalities : List Form → Type 0
AreInequalities fs = All (λ f. f.rel ≡ Le) fs

-- the facts that bound a variable from above
abbrev pub uppers : ℕ → List Form → List Form
uppers v fs = filter (λ f. int_lt (pos 0) (coef v f.coefs)) fs

-- the facts that bound a variable from below
abbrev pub lowers : ℕ → List Form → List Form
lowers v fs = filter (λ f. int_lt (coef v f.coefs) (pos 0)) fs

-- the facts without a variable
abbrev pub without : ℕ → List Form → List Form
without v fs = filter (λ f. int_eq (coef v f.coefs) (pos 0)) fs

-- how often a, with coefficient c of the variable, is taken for a b with coefficient -d: d / g times,
-- where g is the greatest common divisor of c and d
abbrev pub times_upper : ℕ → Form → Form → ℕ
times_upper v a b =
    let c = unsigned_abs (coef v a.coefs) in
    let d = unsigned_abs (coef v b.coefs) in
    d / gcd_of c d

-- and how often b is taken: c / g times
abbrev pub times_lower : ℕ → Form → Form → ℕ
times_lower v a b =
    let c = unsigned_abs (coef v a.coefs) in
    let d = unsigned_abs (coef v b.coefs) in
    c / gcd_of c d

-- a and b combined so that the variable vanishes
abbrev pub vanishing : ℕ → Form → Form → Option Form
vanishing v a b = combined a (pos (times_upper v a b)) b (pos (times_lower v a b))

-- each of the first combined with each of the second
abbrev pub combinations : ℕ → List Form → List Form → List (Option Form)
combinations v [] bs = []
combinations v (a ∷ rest) bs = map (λ b. vanishing v a b) bs ++ combinations v rest bs

-- two relations are equal
abbrev pub same_relation : Rel → Rel → Bool
same_relation Eq Eq = true
same_relation Le Le = true
same_relation Ne Ne = true
same_relation Eq Le = false
same_relation Eq Ne = false
same_relation Le Eq = false
same_relation Le Ne = false
same_relation Ne Eq = false
same_relation Ne Le = false

-- two lists of terms are equal
abbrev pub same_terms : List (ℕ × ℤ) → List (ℕ × ℤ) → Bool
same_terms [] [] = true
same_terms [] (u ∷ us) = false
same_terms (t ∷ ts) [] = false
same_terms (t ∷ ts) (u ∷ us) = (t.0 == u.0) && int_eq t.1 u.1 && same_terms ts us

-- two facts are equal
abbrev pub same_fact : Form → Form → Bool
same_fact f g = int_eq f.constant g.constant && same_relation f.rel g.rel && same_terms f.coefs g.coefs

-- the fact stands in the list
abbrev pub has_fact : Form → List Form → Bool
has_fact f [] = false
has_fact f (g ∷ gs) = same_fact f g || has_fact f gs

-- a fact put last, unless it stands in the list
abbrev pub with_fact : Form → List Form → List Form
with_fact f kept = cond (has_fact f kept) kept (kept ++ f ∷ [])

-- facts put after others, but for repeats
abbrev pub put_after : List Form → List Form → List Form
put_after kept [] = kept
put_after kept (f ∷ fs) = put_after (with_fact f kept) fs

-- the facts without repeats: of equal ones the first
abbrev pub without_repeats : List Form → List Form
without_repeats fs = put_after [] fs

-- the facts without a variable, and what each two that bound it from above and below give, divided, without repeats
abbrev pub eliminated : ℕ → List Form → Outcome
eliminated v fs =
    and_then (all_made (combinations v (uppers v fs) (lowers v fs))) (λ made.
    and_then (divided_all made) (λ new. Remaining (without_repeats (without v fs ++ new))))

-- the variables eliminated in turn; no answer where the facts reach their limit before one, or none is left
abbrev pub eliminated_all : List ℕ → List Form → Outcome
eliminated_all [] fs = Undecided
eliminated_all (v ∷ vs) fs = cond (nat_le FACT_LIMIT (length fs)) Undecided (and_then (eliminated v fs) (λ gs. eliminated_all vs gs))

-- Each step keeps the solutions, so a refuted list of facts has none.
use Rattle.std.proofs.Common.{◌≡◌, ℕ, zero, suc, ◌/◌, ◌<◌, ◌==◌, ◌^◌, ℤ, pos, negsuc, neg_ℤ, ◌+ℤ◌, ◌*ℤ◌, ◌≤ℤ◌, List, [], ◌∷◌, ◌++◌, map, arith, refl, ◌∙◌, inl, inr, Bool, true, false, Option, Some, None, IfSome, subst, length, nat_le}
use Rattle.std.specs.Prelude.{filter, All}
use Rattle.std.proofs.lemmas.List.Elements.{All-head, All-tail}
use Rattle.std.specs.Int.RustNames.{unsigned_abs, int_lt}
use Rattle.std.specs.Ordering.{int_eq}
use Rattle.std.proofs.lemmas.Int.{ints}
use Rattle.std.proofs.lemmas.Bool.{cases_Bool}
use Rattle.th_linear.specs.Forms.{Form, Holds, value, coef}
use Rattle.th_linear.specs.Normal.{HoldsNormal, LeavesForm, scaled}
use Rattle.th_linear.specs.Divided.{normal_of, gcd_of}
use Rattle.th_linear.specs.Summed.{combined, substituted}
use Rattle.th_linear.specs.Laws.{IsFact, DivisionKeeps, ScalingMultiplies, SumFollows, SubstitutionKeeps}
use Rattle.th_linear.specs.declared.fact.Rel.{Rel}
use Rattle.th_linear.specs.declared.fact.Rel.TheVariants.{Eq, Le, Ne}
use Rattle.th_linear.specs.declared.division.NormalForm.{NormalForm}
use Rattle.th_linear.specs.declared.division.NormalForm.TheVariants.{True, False, Fact}
use Rattle.th_pure.specs.declared.range.Range.{Range}
use Rattle.th_pure.specs.declared.facts.Outcome.{Outcome}
use Rattle.th_pure.specs.declared.facts.Outcome.TheVariants.{Refuted, Undecided, Remaining}
use Rattle.th_pure.specs.Outcomes.{and_then, facts_before}
use Rattle.th_pure.specs.Division.{judged, divided_all}
use Rattle.th_pure.specs.Substitution.{Choice, solved_variable, passed, first_choice, choice_of, range_facts, low_fact, high_fact, all_made, taken_out, round_of, rounds_by, rounds, equations, solved}
use Rattle.th_pure.specs.Bounds.{inequalities, inequalities_of, all_range_facts, bounded, variables}
use Rattle.th_pure.specs.declared.elimination.TheConstants.{FACT_LIMIT}
use Rattle.th_pure.specs.Elimination.{uppers, lowers, without, vanishing, combinations, has_fact, put_after, eliminated, eliminated_all}
use Rattle.th_pure.specs.Refutation.{decided, refutation, is_refuted, refuted}
use Rattle.th_pure.specs.Solutions.{AllHold, AllInRange, Solves, HaveNoSolution}
use Rattle.th_pure.proofs.Turned.{turned_are}

-- what the lower crate's laws say
pub record Laws : Type 0 where
  pub division : DivisionKeeps
  pub scaling : ScalingMultiplies
  pub sum : SumFollows
  pub substitution : SubstitutionKeeps

-- s satisfies the fact
pub record Met (s : ℕ → ℤ) (f : Form) : Type 0 where
  pub fact : IsFact f
  pub holds : Holds f s

-- s satisfies the inequality
pub record Bounds (s : ℕ → ℤ) (f : Form) : Type 0 where
  pub fact : IsFact f
  pub le : f.rel ≡ Le
  pub holds : Holds f s

-- ---- lists of facts with a property

abbrev pub Every : (Form → Type 0) → List Form → Type 0
Every P [] = Unit {0}
Every P (f ∷ fs) = P f × Every P fs

-- the facts that are left have the property, and there is no refutation
abbrev pub Keeps : (Form → Type 0) → Outcome → Type 0
Keeps P Refuted = ⊥
Keeps P Undecided = Unit {0}
Keeps P (Remaining fs) = Every P fs

every_append : (P : Form → Type 0) (fs gs : List Form) → Every P fs → Every P gs → Every P (fs ++ gs)
every_append P [] gs h k = k
every_append P (f ∷ fs) gs h k = (h.0, every_append P fs gs h.1 k)

every_filter : (P : Form → Type 0) (test : Form → Bool) (fs : List Form) → Every P fs → Every P (filter test fs)
every_filter P test [] h = tt
every_filter P test (f ∷ fs) h = elim (cases_Bool (test f)) [
  | inl is ↦ rw is (h.0, every_filter P test fs h.1)
  | inr isnt ↦ rw isnt (every_filter P test fs h.1)
]

keeps_then : (P Q : Form → Type 0) (o : Outcome) (step : List Form → Outcome) → Keeps P o → ((fs : List Form) → Every P fs → Keeps Q (step fs)) → Keeps Q (and_then o step)
keeps_then P Q Refuted step h k = absurd h
keeps_then P Q Undecided step h k = tt
keeps_then P Q (Remaining fs) step h k = k fs h

keeps_before : (P : Form → Type 0) (f : Form) (o : Outcome) → P f → Keeps P o → Keeps P (facts_before (f ∷ []) o)
keeps_before P f o h k = keeps_then P P o (λ gs. Remaining (f ∷ gs)) k (λ gs e. (h, e))

-- ---- division

abbrev NormalKeeps : (Form → Type 0) → NormalForm → Type 0
NormalKeeps P True = Unit {0}
NormalKeeps P False = ⊥
NormalKeeps P (Fact r) = P r

judged_keeps : (P : Form → Type 0) (n : NormalForm) (o : Outcome) → NormalKeeps P n → Keeps P o → Keeps P (judged n o)
judged_keeps P True o h k = k
judged_keeps P False o h k = absurd h
judged_keeps P (Fact r) o h k = keeps_before P r o h k

divided_keeps : (P : Form → Type 0) → ((f : Form) → P f → NormalKeeps P (normal_of f)) → (fs : List Form) → Every P fs → Keeps P (divided_all fs)
divided_keeps P law [] h = tt
divided_keeps P law (f ∷ fs) h = judged_keeps P (normal_of f) (divided_all fs) (law f h.0) (divided_keeps P law fs h.1)

met_normal : (s : ℕ → ℤ) (f : Form) (n : NormalForm) → LeavesForm f n → HoldsNormal n s → NormalKeeps (Met s) n
met_normal s f True h k = tt
met_normal s f False h k = k
met_normal s f (Fact r) h k = record { fact = h.0; holds = k }

bounds_normal : (s : ℕ → ℤ) (f : Form) (n : NormalForm) → f.rel ≡ Le → LeavesForm f n → HoldsNormal n s → NormalKeeps (Bounds s) n
bounds_normal s f True e h k = tt
bounds_normal s f False e h k = k
bounds_normal s f (Fact r) e h k = record { fact = h.0; le = h.1 ∙ e; holds = k }

normal_met : (l : Laws) (s : ℕ → ℤ) (f : Form) → Met s f → NormalKeeps (Met s) (normal_of f)
normal_met l s f m = let d = l.division f m.fact in met_normal s f (normal_of f) d.0 ((d.1 s).0 m.holds)

normal_bounds : (l : Laws) (s : ℕ → ℤ) (f : Form) → Bounds s f → NormalKeeps (Bounds s) (normal_of f)
normal_bounds l s f m = let d = l.division f m.fact in bounds_normal s f (normal_of f) m.le d.0 ((d.1 s).0 m.holds)

-- ---- results that are made

abbrev EachKeeps : (Form → Type 0) → List (Option Form) → Type 0
EachKeeps P [] = Unit {0}
EachKeeps P (o ∷ os) = IfSome o P × EachKeeps P os

made_keeps : (P : Form → Type 0) (os : List (Option Form)) → EachKeeps P os → Keeps P (all_made os)
made_keeps P [] h = tt
made_keeps P (None ∷ os) h = tt
made_keeps P (Some f ∷ os) h = keeps_before P f (all_made os) h.0 (made_keeps P os h.1)

if_some : (P : Form → Type 0) (o : Option Form) → ((r : Form) → o ≡ Some r → P r) → IfSome o P
if_some P None h = tt
if_some P (Some r) h = h r refl

each_append : (P : Form → Type 0) (xs ys : List (Option Form)) → EachKeeps P xs → EachKeeps P ys → EachKeeps P (xs ++ ys)
each_append P [] ys h k = k
each_append P (x ∷ xs) ys h k = (h.0, each_append P xs ys h.1 k)

-- ---- substitution

each_substituted : (l : Laws) (s : ℕ → ℤ) (by : Form) (v : ℕ) (fs : List Form) → Met s by → by.rel ≡ Eq → Every (Met s) fs
    → EachKeeps (Met s) (map (λ f. substituted f v by) fs)
each_substituted l s by v [] m e h = tt
each_substituted l s by v (f ∷ fs) m e h = (
  if_some (Met s) (substituted f v by) (λ r k.
      let w = l.substitution f v by r h.0.fact m.fact e k in
      record { fact = w.0; holds = (w.2 s m.holds).0 h.0.holds }),
  each_substituted l s by v fs m e h.1,
)

-- the choice is an equation among the facts
record Chosen (s : ℕ → ℤ) (c : Choice) : Type 0 where
  pub by : Met s c.by
  pub equation : c.by.rel ≡ Eq
  pub others : Every (Met s) c.others

is_equation : (rel : Rel) (ts : List (ℕ × ℤ)) (v : ℕ) → solved_variable rel ts ≡ Some v → rel ≡ Eq
is_equation Eq ts v e = refl
is_equation Le ts v e = let n : None ≡ Some v = e in cc
is_equation Ne ts v e = let n : None ≡ Some v = e in cc

passed_chosen : (s : ℕ → ℤ) (f : Form) (o : Option Choice) → Met s f → IfSome o (Chosen s) → IfSome (passed (f ∷ []) o) (Chosen s)
passed_chosen s f None m h = tt
passed_chosen s f (Some c) m h = record { by = h.by; equation = h.equation; others = (m, h.others) }

first_chosen : (s : ℕ → ℤ) (f : Form) (fs : List Form) (o : Option ℕ) (later : Option Choice) → solved_variable f.rel f.coefs ≡ o
    → Met s f → Every (Met s) fs → IfSome later (Chosen s) → IfSome (first_choice f fs o later) (Chosen s)
first_chosen s f fs None later e m h k = passed_chosen s f later m k
first_chosen s f fs (Some v) later e m h k = record { by = m; equation = is_equation f.rel f.coefs v e; others = h }

chosen : (s : ℕ → ℤ) (fs : List Form) → Every (Met s) fs → IfSome (choice_of fs) (Chosen s)
chosen s [] h = tt
chosen s (f ∷ fs) h = first_chosen s f fs (solved_variable f.rel f.coefs) (choice_of fs) refl h.0 h.1 (chosen s fs h.1)

-- ---- ranges

small_negative : (z : ℤ) → unsigned_abs z < 2 ^ 62 → unsigned_abs (neg_ℤ z) < 2 ^ 62
small_negative z h = omega (arith, ints)

low_holds : (s : ℤ) (low : ℤ) → low ≤ℤ s → (((negsuc 0 *ℤ s) +ℤ pos 0) +ℤ low) ≤ℤ pos 0
low_holds s low h = omega (arith, ints)

high_holds : (s : ℤ) (high : ℤ) → s ≤ℤ high → (((pos 1 *ℤ s) +ℤ pos 0) +ℤ neg_ℤ high) ≤ℤ pos 0
high_holds s high h = omega (arith, ints)

low_met : (s : ℕ → ℤ) (r : Range) → r.low ≤ℤ s r.variable → Bounds s (low_fact r)
low_met s r h = record {
  fact = record { terms = (omega arith, omega arith, omega arith, tt); small = r.small_low };
  le = refl;
  holds = low_holds (s r.variable) r.low h;
}

high_met : (s : ℕ → ℤ) (r : Range) → s r.variable ≤ℤ r.high → Bounds s (high_fact r)
high_met s r h = record {
  fact = record { terms = (omega arith, omega arith, omega arith, tt); small = small_negative r.high r.small_high };
  le = refl;
  holds = high_holds (s r.variable) r.high h;
}

range_bounds : (s : ℕ → ℤ) (ranges : List Range) (v : ℕ) → AllInRange ranges s → Every (Bounds s) (range_facts ranges v)
range_bounds s [] v h = tt
range_bounds s (r ∷ rs) v h = elim (cases_Bool (r.variable == v)) [
  | inl is ↦ rw is (low_met s r h.0, (high_met s r h.1, tt))
  | inr isnt ↦ rw isnt (range_bounds s rs v h.2)
]

bounds_met : (s : ℕ → ℤ) (fs : List Form) → Every (Bounds s) fs → Every (Met s) fs
bounds_met s [] h = tt
bounds_met s (f ∷ fs) h = (record { fact = h.0.fact; holds = h.0.holds }, bounds_met s fs h.1)

all_range_bounds : (s : ℕ → ℤ) (ranges : List Range) (vs : List ℕ) → AllInRange ranges s → Every (Bounds s) (all_range_facts ranges vs)
all_range_bounds s ranges [] h = tt
all_range_bounds s ranges (v ∷ vs) h = every_append (Bounds s) (range_facts ranges v) (all_range_facts ranges vs) (range_bounds s ranges v h) (all_range_bounds s ranges vs h)

-- ---- rounds

round_keeps : (l : Laws) (s : ℕ → ℤ) (ranges : List Range) (c : Choice) → AllInRange ranges s → Chosen s c → Keeps (Met s) (round_of ranges c)
round_keeps l s ranges c r h =
    let all = every_append (Met s) c.others (range_facts ranges c.variable) h.others (bounds_met s (range_facts ranges c.variable) (range_bounds s ranges c.variable r)) in
    keeps_then (Met s) (Met s) (taken_out c.by c.variable (c.others ++ range_facts ranges c.variable)) divided_all
    (made_keeps (Met s) (map (λ f. substituted f c.variable c.by) (c.others ++ range_facts ranges c.variable)) (each_substituted l s c.by c.variable (c.others ++ range_facts ranges c.variable) h.by h.equation all))
    (divided_keeps (Met s) (normal_met l s))

by_keeps : (l : Laws) (s : ℕ → ℤ) (ranges : List Range) (fs : List Form) (o : Option Choice) (later : List Form → Outcome) → AllInRange ranges s
    → Every (Met s) fs → IfSome o (Chosen s) → ((gs : List Form) → Every (Met s) gs → Keeps (Met s) (later gs)) → Keeps (Met s) (rounds_by ranges fs o later)
by_keeps l s ranges fs None later r h k n = h
by_keeps l s ranges fs (Some c) later r h k n = keeps_then (Met s) (Met s) (round_of ranges c) later (round_keeps l s ranges c r k) n

rounds_keep : (l : Laws) (s : ℕ → ℤ) (ranges : List Range) (n : ℕ) (fs : List Form) → AllInRange ranges s → Every (Met s) fs → Keeps (Met s) (rounds n ranges fs)
rounds_keep l s ranges zero fs r h = h
rounds_keep l s ranges (suc n) fs r h =
    by_keeps l s ranges fs (choice_of fs) (λ gs. rounds n ranges gs) r h (chosen s fs h) (λ gs k. rounds_keep l s ranges n gs r k)

-- ---- inequalities

zero_le : (z : ℤ) → z ≡ pos 0 → z ≤ℤ pos 0
zero_le z e = omega (arith, ints)

turned_holds : (v w k : ℤ) → w ≡ negsuc 0 *ℤ v → v +ℤ k ≡ pos 0 → (w +ℤ neg_ℤ k) ≤ℤ pos 0
turned_holds v w k e h = omega (arith, ints)

inequality_bounds : (l : Laws) (s : ℕ → ℤ) (rel : Rel) (f : Form) → f.rel ≡ rel → Met s f → Every (Bounds s) (inequalities_of rel f)
inequality_bounds l s Eq f e m =
    let zero_sum : value f.coefs s +ℤ f.constant ≡ pos 0 = rw e at m.holds in (
      record { fact = m.fact; le = refl; holds = zero_le (value f.coefs s +ℤ f.constant) zero_sum },
      (
        record {
          fact = record { terms = turned_are 0 f.coefs m.fact.terms; small = small_negative f.constant m.fact.small };
          le = refl;
          holds = turned_holds (value f.coefs s) (value (scaled (negsuc 0) f.coefs) s) f.constant (l.scaling (negsuc 0) f.coefs s) zero_sum;
        },
        tt,
      ),
    )
inequality_bounds l s Le f e m = (record { fact = m.fact; le = e; holds = m.holds }, tt)
inequality_bounds l s Ne f e m = tt

all_bounds : (l : Laws) (s : ℕ → ℤ) (fs : List Form) → Every (Met s) fs → Every (Bounds s) (inequalities fs)
all_bounds l s [] h = tt
all_bounds l s (f ∷ fs) h = every_append (Bounds s) (inequalities_of f.rel f) (inequalities fs) (inequality_bounds l s f.rel f refl h.0) (all_bounds l s fs h.1)

-- ---- elimination

not_negative : (n : ℕ) → pos 0 ≤ℤ pos n
not_negative n = omega (arith, ints)

each_vanishing : (l : Laws) (s : ℕ → ℤ) (v : ℕ) (a : Form) (bs : List Form) → Bounds s a → Every (Bounds s) bs → EachKeeps (Bounds s) (map (λ b. vanishing v a b) bs)
each_vanishing l s v a [] m h = tt
each_vanishing l s v a (b ∷ bs) m h =
    let c = unsigned_abs (coef v a.coefs) in
    let d = unsigned_abs (coef v b.coefs) in
    let p = d / gcd_of c d in
    let q = c / gcd_of c d in (
      if_some (Bounds s) (combined a (pos p) b (pos q)) (λ r e.
          let w = l.sum a (pos p) b (pos q) r m.fact h.0.fact m.le h.0.le (not_negative p) (not_negative q) e in
          record { fact = w.0; le = w.1; holds = w.2 s m.holds h.0.holds }),
      each_vanishing l s v a bs m h.1,
    )

each_combination : (l : Laws) (s : ℕ → ℤ) (v : ℕ) (us ls : List Form) → Every (Bounds s) us → Every (Bounds s) ls → EachKeeps (Bounds s) (combinations v us ls)
each_combination l s v [] ls h k = tt
each_combination l s v (u ∷ us) ls h k =
    each_append (Bounds s) (map (λ b. vanishing v u b) ls) (combinations v us ls) (each_vanishing l s v u ls h.0 k) (each_combination l s v us ls h.1 k)

put_every : (P : Form → Type 0) (kept fs : List Form) → Every P kept → Every P fs → Every P (put_after kept fs)
put_every P kept [] h k = h
put_every P kept (f ∷ fs) h k = elim (cases_Bool (has_fact f kept)) [
  | inl is ↦ rw is (put_every P kept fs h k.1)
  | inr isnt ↦ rw isnt (put_every P (kept ++ f ∷ []) fs (every_append P kept (f ∷ []) h (k.0, tt)) k.1)
]

eliminated_keeps : (l : Laws) (s : ℕ → ℤ) (v : ℕ) (fs : List Form) → Every (Bounds s) fs → Keeps (Bounds s) (eliminated v fs)
eliminated_keeps l s v fs h =
    let us = every_filter (Bounds s) (λ f. int_lt (pos 0) (coef v f.coefs)) fs h in
    let ls = every_filter (Bounds s) (λ f. int_lt (coef v f.coefs) (pos 0)) fs h in
    let ws = every_filter (Bounds s) (λ f. int_eq (coef v f.coefs) (pos 0)) fs h in
    keeps_then (Bounds s) (Bounds s) (all_made (combinations v (uppers v fs) (lowers v fs))) _
    (made_keeps (Bounds s) (combinations v (uppers v fs) (lowers v fs)) (each_combination l s v (uppers v fs) (lowers v fs) us ls))
    (λ ms k. keeps_then (Bounds s) (Bounds s) (divided_all ms) _ (divided_keeps (Bounds s) (normal_bounds l s) ms k)
    (λ ns j. put_every (Bounds s) [] (without v fs ++ ns) tt (every_append (Bounds s) (without v fs) ns ws j)))

all_keeps : (l : Laws) (s : ℕ → ℤ) (vs : List ℕ) (fs : List Form) → Every (Bounds s) fs → Keeps (Bounds s) (eliminated_all vs fs)
all_keeps l s [] fs h = tt
all_keeps l s (v ∷ vs) fs h = elim (cases_Bool (nat_le FACT_LIMIT (length fs))) [
  | inl is ↦ rw is tt
  | inr isnt ↦ rw isnt (keeps_then (Bounds s) (Bounds s) (eliminated v fs) (λ gs. eliminated_all vs gs) (eliminated_keeps l s v fs h) (λ gs k. all_keeps l s vs gs k))
]

-- ---- the whole

every_all : (fs : List Form) → All IsFact fs → Every IsFact fs
every_all [] h = tt
every_all (f ∷ fs) h = (All-head IsFact f fs h, every_all fs (All-tail IsFact f fs h))

decided_keeps : (l : Laws) (s : ℕ → ℤ) (ranges : List Range) (fs : List Form) → AllInRange ranges s → Every (Met s) fs → Keeps (Bounds s) (decided ranges fs)
decided_keeps l s ranges fs r h =
    all_keeps l s (variables (inequalities fs)) (bounded ranges fs)
    (every_append (Bounds s) (inequalities fs) (all_range_facts ranges (variables (inequalities fs))) (all_bounds l s fs h) (all_range_bounds s ranges (variables (inequalities fs)) r))

all_met : (s : ℕ → ℤ) (fs : List Form) → Every IsFact fs → AllHold fs s → Every (Met s) fs
all_met s [] h k = tt
all_met s (f ∷ fs) h k = (record { fact = h.0; holds = k.0 }, all_met s fs h.1 k.1)

refutation_keeps : (l : Laws) (s : ℕ → ℤ) (facts : List Form) (ranges : List Range) → Every IsFact facts → Solves facts ranges s → Keeps (Bounds s) (refutation facts ranges)
refutation_keeps l s facts ranges h k =
    keeps_then (Met s) (Bounds s) (divided_all facts) _ (divided_keeps (Met s) (normal_met l s) facts (all_met s facts h k.0))
    (λ fs m. keeps_then (Met s) (Bounds s) (solved ranges fs) _ (rounds_keep l s ranges (equations fs) fs k.1 m)
    (λ gs n. decided_keeps l s ranges gs k.1 n))

refuted_is : (o : Outcome) → is_refuted o ≡ true → o ≡ Refuted
refuted_is Refuted e = refl
refuted_is Undecided e = let n : false ≡ true = e in cc
refuted_is (Remaining fs) e = let n : false ≡ true = e in cc

pub no_solution : (l : Laws) (facts : List Form) (ranges : List Range) → All IsFact facts → refuted facts ranges ≡ true → HaveNoSolution facts ranges
unfolding refuted
no_solution l facts ranges h e = λ s k.
    subst (Keeps (Bounds s)) (refuted_is (refutation facts ranges) e) (refutation_keeps l s facts ranges (every_all facts h) k)

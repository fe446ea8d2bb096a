-- Inequalities stay inequalities.
use Rattle.std.proofs.Common.{◌≡◌, ℕ, ◌==◌, ℤ, List, [], ◌∷◌, ◌++◌, refl, sym, inl, inr, subst, Result, Ok, Err, IfOk}
use Rattle.std.proofs.lemmas.Bool.{cases_Bool}
use Rattle.std.proofs.lemmas.List.Elements.{All-nil, All-cons, All-head, All-tail, All-append, All-push, All-same}
use Rattle.std.specs.declared.alloc.AllocError.{AllocError}
use Rattle.th_linear.specs.Forms.{Form}
use Rattle.th_linear.specs.Divided.{normal_of, normal_by, divided_by, content_of, stands}
use Rattle.th_linear.specs.declared.fact.Rel.{Rel}
use Rattle.th_linear.specs.declared.fact.Rel.TheVariants.{Eq, Le, Ne}
use Rattle.th_pure.specs.declared.range.Range.{Range}
use Rattle.th_pure.specs.Substitution.{range_facts, low_fact, high_fact}
use Rattle.th_pure.specs.Bounds.{inequalities, inequalities_of, at_most, at_least, all_range_facts}
use Rattle.th_pure.specs.Elimination.{AreInequalities, has_fact, with_fact}
use Rattle.th_pure.specs.Early.{LeavesInequality}

-- ---- division

pub normal_le : (f : Form) → f.rel ≡ Le → LeavesInequality (normal_of f)
unfolding normal_of
normal_le f e = by_terms f.coefs
  where
    by_terms : (ts : List (ℕ × ℤ)) → LeavesInequality (normal_by ts f)
    by_terms [] = elim (cases_Bool (stands f.rel f.constant)) [ inl is ↦ rw is tt | inr isnt ↦ rw isnt tt ]
    by_terms (t ∷ ts) = subst (λ (rel : Rel). LeavesInequality (divided_by rel (content_of (t ∷ ts)) f)) (sym e) e

-- ---- facts without repeats

pub with_le : (f : Form) (kept : List Form) → f.rel ≡ Le → AreInequalities kept → AreInequalities (with_fact f kept)
with_le f kept e h = elim (cases_Bool (has_fact f kept)) [
  | inl is ↦ rw is h
  | inr isnt ↦ rw isnt (All-push (λ g. g.rel ≡ Le) kept f h e)
]

pub next_le : (f : Form) (rest more : List Form) → more ≡ f ∷ rest → AreInequalities more → (f.rel ≡ Le) × AreInequalities rest
next_le f rest more e h =
    let all = All-same (λ g. g.rel ≡ Le) (f ∷ rest) more (sym e) h in
    (All-head (λ g. g.rel ≡ Le) f rest all, All-tail (λ g. g.rel ≡ Le) f rest all)

-- what holds of an answer, from what it is
pub each_ok : {X : Type 0} (P Q : X → Type 0) (r : Result X AllocError) → ((x : X) → P x → Q x) → IfOk r P → IfOk r Q
each_ok P Q (Ok x) h k = h x k
each_ok P Q (Err e) h k = tt

-- ---- ranges and equations as inequalities

range_le : (ranges : List Range) (v : ℕ) → AreInequalities (range_facts ranges v)
range_le [] v = All-nil (λ g. g.rel ≡ Le)
range_le (r ∷ rs) v = elim (cases_Bool (r.variable == v)) [
  | inl is ↦ rw is (All-cons (λ g. g.rel ≡ Le) (low_fact r) (high_fact r ∷ []) refl (All-cons (λ g. g.rel ≡ Le) (high_fact r) [] refl (All-nil (λ g. g.rel ≡ Le))))
  | inr isnt ↦ rw isnt (range_le rs v)
]

ranges_le : (ranges : List Range) (vs : List ℕ) → AreInequalities (all_range_facts ranges vs)
ranges_le ranges [] = All-nil (λ g. g.rel ≡ Le)
ranges_le ranges (v ∷ vs) = All-append (λ g. g.rel ≡ Le) (range_facts ranges v) (all_range_facts ranges vs) (range_le ranges v) (ranges_le ranges vs)

each_le : (rel : Rel) (f : Form) → f.rel ≡ rel → AreInequalities (inequalities_of rel f)
each_le Eq f e = All-cons (λ g. g.rel ≡ Le) (at_most f) (at_least f ∷ []) refl (All-cons (λ g. g.rel ≡ Le) (at_least f) [] refl (All-nil (λ g. g.rel ≡ Le)))
each_le Le f e = All-cons (λ g. g.rel ≡ Le) f [] e (All-nil (λ g. g.rel ≡ Le))
each_le Ne f e = All-nil (λ g. g.rel ≡ Le)

all_le : (fs : List Form) → AreInequalities (inequalities fs)
all_le [] = All-nil (λ g. g.rel ≡ Le)
all_le (f ∷ fs) = All-append (λ g. g.rel ≡ Le) (inequalities_of f.rel f) (inequalities fs) (each_le f.rel f refl) (all_le fs)

pub bounded_le : (ranges : List Range) (fs : List Form) (vs : List ℕ) → AreInequalities (inequalities fs ++ all_range_facts ranges vs)
bounded_le ranges fs vs = All-append (λ g. g.rel ≡ Le) (inequalities fs) (all_range_facts ranges vs) (all_le fs) (ranges_le ranges vs)

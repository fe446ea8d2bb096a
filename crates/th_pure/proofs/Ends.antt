-- A round takes an equation away and adds none.
use Rattle.std.proofs.Common.{◌≡◌, ℕ, zero, suc, ◌≤◌, ◌==◌, ℤ, pos, neg_ℤ, ◌*ℤ◌, List, [], ◌∷◌, ◌++◌, arith, refl, ap, ◌∙◌, inl, inr, ◌&&◌, Option, Some, None, IfSome, subst}
use Rattle.std.proofs.lemmas.Bool.{cases_Bool}
use Rattle.th_linear.specs.Forms.{Form, coef}
use Rattle.th_linear.specs.Divided.{normal_of, normal_by, divided_by, content_of, stands, divides}
use Rattle.std.specs.Int.RustNames.{unsigned_abs}
use Rattle.th_linear.specs.Mixed.{mixed}
use Rattle.th_linear.specs.Summed.{mixed_form, mixed_terms, is_small, all_small, substituted}
use Rattle.th_linear.specs.declared.fact.Rel.{Rel}
use Rattle.th_linear.specs.declared.fact.Rel.TheVariants.{Eq, Le, Ne}
use Rattle.th_linear.specs.declared.division.NormalForm.{NormalForm}
use Rattle.th_linear.specs.declared.division.NormalForm.TheVariants.{True, False, Fact}
use Rattle.th_pure.specs.declared.range.Range.{Range}
use Rattle.th_pure.specs.declared.facts.Outcome.{Outcome}
use Rattle.th_pure.specs.declared.facts.Outcome.TheVariants.{Refuted, Undecided, Remaining}
use Rattle.th_pure.specs.Outcomes.{and_then, facts_before, made}
use Rattle.th_pure.specs.Division.{judged, divided_all}
use Rattle.th_pure.specs.Substitution.{Choice, solved_variable, passed, first_choice, choice_of, range_facts, taken_out, round_of, rounds_by, rounds, counted, equations}
use Rattle.th_pure.specs.Laws.{RoundsEnd}

-- ---- a step leaves at most n equations

abbrev AtMost : ℕ → Outcome → Type 0
AtMost n Refuted = Unit {0}
AtMost n Undecided = Unit {0}
AtMost n (Remaining fs) = equations fs ≤ n

more_room : (m n : ℕ) (o : Outcome) → m ≤ n → AtMost m o → AtMost n o
more_room m n Refuted le h = tt
more_room m n Undecided le h = tt
more_room m n (Remaining fs) le h = omega (arith, le, h)

counted_more : (rel : Rel) (n : ℕ) → n ≤ counted rel n
counted_more Eq n = omega arith
counted_more Le n = omega arith
counted_more Ne n = omega arith

counted_le : (rel : Rel) (m n : ℕ) → m ≤ n → counted rel m ≤ counted rel n
counted_le Eq m n h = omega (arith, h)
counted_le Le m n h = h
counted_le Ne m n h = h

one_before : (f : Form) (rel : Rel) (n : ℕ) (o : Outcome) → f.rel ≡ rel → AtMost n o → AtMost (counted rel n) (facts_before (f ∷ []) o)
one_before f rel n Refuted e h = tt
one_before f rel n Undecided e h = tt
one_before f rel n (Remaining fs) e h = rw e (counted_le rel (equations fs) n h)

-- ---- division

abbrev HasRel : Rel → NormalForm → Type 0
HasRel rel True = Unit {0}
HasRel rel False = Unit {0}
HasRel rel (Fact r) = r.rel ≡ rel

divided_rel : (rel : Rel) (g : ℕ) (f : Form) → HasRel f.rel (divided_by rel g f)
divided_rel Le g f = refl
divided_rel Eq g f = elim (cases_Bool (divides g (unsigned_abs f.constant))) [ inl is ↦ rw is refl | inr isnt ↦ rw isnt tt ]
divided_rel Ne g f = elim (cases_Bool (divides g (unsigned_abs f.constant))) [ inl is ↦ rw is refl | inr isnt ↦ rw isnt tt ]

normal_rel : (f : Form) → HasRel f.rel (normal_of f)
unfolding normal_of
normal_rel f = by_terms f.coefs
  where
    by_terms : (ts : List (ℕ × ℤ)) → HasRel f.rel (normal_by ts f)
    by_terms [] = elim (cases_Bool (stands f.rel f.constant)) [ inl is ↦ rw is tt | inr isnt ↦ rw isnt tt ]
    by_terms (t ∷ ts) = divided_rel f.rel (content_of (t ∷ ts)) f

judged_most : (rel : Rel) (m : NormalForm) (n : ℕ) (o : Outcome) → HasRel rel m → AtMost n o → AtMost (counted rel n) (judged m o)
judged_most rel True n o h k = more_room n (counted rel n) o (counted_more rel n) k
judged_most rel False n o h k = tt
judged_most rel (Fact r) n o h k = one_before r rel n o h k

divided_most : (fs : List Form) → AtMost (equations fs) (divided_all fs)
divided_most [] = omega arith
divided_most (f ∷ fs) = judged_most f.rel (normal_of f) (equations fs) (divided_all fs) (normal_rel f) (divided_most fs)

-- ---- substitution

mixed_rel : (p : ℤ) (a : Form) (q : ℤ) (b : Form) (to : Rel) → IfSome (mixed_form p a q b to) (λ r. r.rel ≡ to)
unfolding mixed_form
mixed_rel p a q b to = elim (cases_Bool (is_small (mixed p a.constant q b.constant) && all_small (mixed_terms p a.coefs q b.coefs))) [
  | inl is ↦ rw is refl
  | inr isnt ↦ rw isnt tt
]

made_most : (o : Option Form) (rel : Rel) (n : ℕ) (rest : Outcome) → IfSome o (λ r. r.rel ≡ rel) → AtMost n rest → AtMost (counted rel n) (made o rest)
made_most None rel n rest h k = tt
made_most (Some f) rel n rest h k = one_before f rel n rest h k

taken_most : (by : Form) (v : ℕ) (fs : List Form) → AtMost (equations fs) (taken_out by v fs)
taken_most by v [] = omega arith
taken_most by v (f ∷ fs) =
    made_most (substituted f v by) f.rel (equations fs) (taken_out by v fs) (mixed_rel (pos 1) f (neg_ℤ (coef v f.coefs *ℤ coef v by.coefs)) by f.rel) (taken_most by v fs)

equations_append : (fs gs : List Form) → equations gs ≡ 0 → equations (fs ++ gs) ≡ equations fs
equations_append [] gs h = h
equations_append (f ∷ fs) gs h = ap (counted f.rel) (equations_append fs gs h)

no_equations : (ranges : List Range) (v : ℕ) → equations (range_facts ranges v) ≡ 0
no_equations [] v = refl
no_equations (r ∷ rs) v = elim (cases_Bool (r.variable == v)) [ inl is ↦ rw is refl | inr isnt ↦ rw isnt (no_equations rs v) ]

then_most : (n : ℕ) (o : Outcome) → AtMost n o → AtMost n (and_then o divided_all)
then_most n Refuted h = tt
then_most n Undecided h = tt
then_most n (Remaining fs) h = more_room (equations fs) n (divided_all fs) h (divided_most fs)

round_most : (ranges : List Range) (c : Choice) → AtMost (equations c.others) (round_of ranges c)
round_most ranges c =
    let all = c.others ++ range_facts ranges c.variable in
    let same : equations all ≡ equations c.others = equations_append c.others (range_facts ranges c.variable) (no_equations ranges c.variable) in
    then_most (equations c.others) (taken_out c.by c.variable all) (subst (λ (n : ℕ). AtMost n (taken_out c.by c.variable all)) same (taken_most c.by c.variable all))

-- ---- a choice takes one equation

counted_suc : (rel : Rel) (n : ℕ) → counted rel (suc n) ≡ suc (counted rel n)
counted_suc Eq n = refl
counted_suc Le n = refl
counted_suc Ne n = refl

equation_counts : (rel : Rel) (ts : List (ℕ × ℤ)) (v n : ℕ) → solved_variable rel ts ≡ Some v → counted rel n ≡ suc n
equation_counts Eq ts v n e = refl
equation_counts Le ts v n e = let k : None ≡ Some v = e in cc
equation_counts Ne ts v n e = let k : None ≡ Some v = e in cc

passed_takes : (f : Form) (n : ℕ) (o : Option Choice) → IfSome o (λ c. n ≡ suc (equations c.others))
    → IfSome (passed (f ∷ []) o) (λ c. counted f.rel n ≡ suc (equations c.others))
passed_takes f n None h = tt
passed_takes f n (Some c) h = ap (counted f.rel) h ∙ counted_suc f.rel (equations c.others)

first_takes : (f : Form) (fs : List Form) (o : Option ℕ) (later : Option Choice) → solved_variable f.rel f.coefs ≡ o
    → IfSome later (λ c. equations fs ≡ suc (equations c.others)) → IfSome (first_choice f fs o later) (λ c. equations (f ∷ fs) ≡ suc (equations c.others))
first_takes f fs None later e h = passed_takes f (equations fs) later h
first_takes f fs (Some v) later e h = equation_counts f.rel f.coefs v (equations fs) e

choice_takes : (fs : List Form) → IfSome (choice_of fs) (λ c. equations fs ≡ suc (equations c.others))
choice_takes [] = tt
choice_takes (f ∷ fs) = first_takes f fs (solved_variable f.rel f.coefs) (choice_of fs) refl (choice_takes fs)

-- ---- the rounds end

abbrev Ends : Outcome → Type 0
Ends Refuted = Unit {0}
Ends Undecided = Unit {0}
Ends (Remaining fs) = choice_of fs ≡ None

then_ends : (n : ℕ) (o : Outcome) (step : List Form → Outcome) → AtMost n o → ((fs : List Form) → equations fs ≤ n → Ends (step fs)) → Ends (and_then o step)
then_ends n Refuted step h k = tt
then_ends n Undecided step h k = tt
then_ends n (Remaining fs) step h k = k fs h

none_left : (fs : List Form) (o : Option Choice) → choice_of fs ≡ o → IfSome o (λ c. equations fs ≡ suc (equations c.others)) → equations fs ≤ 0 → choice_of fs ≡ None
none_left fs None e h z = e
none_left fs (Some c) e h z = absurd (omega (arith, h, z))

by_ends : (n : ℕ) (ranges : List Range) (fs : List Form) (o : Option Choice) → choice_of fs ≡ o → IfSome o (λ c. equations fs ≡ suc (equations c.others))
    → equations fs ≤ suc n → ((gs : List Form) → equations gs ≤ n → Ends (rounds n ranges gs)) → Ends (rounds_by ranges fs o (λ gs. rounds n ranges gs))
by_ends n ranges fs None e h le next = e
by_ends n ranges fs (Some c) e h le next =
    then_ends n (round_of ranges c) (λ gs. rounds n ranges gs) (more_room (equations c.others) n (round_of ranges c) (omega (arith, h, le)) (round_most ranges c)) next

rounds_end : (n : ℕ) (ranges : List Range) (fs : List Form) → equations fs ≤ n → Ends (rounds n ranges fs)
rounds_end zero ranges fs le = none_left fs (choice_of fs) refl (choice_takes fs) le
rounds_end (suc n) ranges fs le = by_ends n ranges fs (choice_of fs) refl (choice_takes fs) le (λ gs h. rounds_end n ranges gs h)

pub all_end : RoundsEnd
all_end ranges fs gs e = subst Ends e (rounds_end (equations fs) ranges fs (omega arith))

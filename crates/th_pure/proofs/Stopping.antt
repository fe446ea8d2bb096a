-- The progress of an elimination leads to the answer of all combinations.
use Rattle.std.proofs.Common.{◌≡◌, ℕ, ◌<◌, ◌≤◌, List, [], ◌∷◌, ◌++◌, refl, ap, sym, ◌∙◌, Option, Some, None, length, arith, inl, inr}
use Rattle.std.proofs.lemmas.Bool.{cases_lt}
use Rattle.th_linear.specs.Forms.{Form}
use Rattle.th_linear.specs.Divided.{normal_of}
use Rattle.th_linear.specs.declared.division.NormalForm.{NormalForm}
use Rattle.th_linear.specs.declared.division.NormalForm.TheVariants.{True, False, Fact}
use Rattle.th_linear.specs.Judged.{judged_as, judgement_of}
use Rattle.th_linear.specs.declared.mixture.Judgement.TheVariants as judged
use Rattle.th_pure.specs.declared.elimination.TheConstants.{FACT_LIMIT}
use Rattle.th_pure.specs.declared.facts.Outcome.{Outcome}
use Rattle.th_pure.specs.declared.facts.Outcome.TheVariants.{Refuted, Undecided, Remaining}
use Rattle.th_pure.specs.declared.products.Progress as progress
use Rattle.th_pure.specs.Outcomes.{and_then, facts_before}
use Rattle.th_pure.specs.Division.{divided_all}
use Rattle.th_pure.specs.Substitution.{all_made}
use Rattle.th_pure.specs.Elimination.{uppers, lowers, without, without_repeats, combinations, with_fact, put_after, eliminated, eliminated_all}
use Rattle.th_pure.specs.Early.{answer_after, HasRoom}
use Rattle.th_pure.proofs.Repeats.{both_long, put_longer, put_append}

-- ---- one combination

-- one that is too large settles the answer
pub too_large : (p : progress.Progress) (os : List (Option Form)) (vs : List ℕ) → Undecided ≡ answer_after p (None ∷ os) vs
too_large progress.TheVariants.TooLarge os vs = refl
too_large progress.TheVariants.FoundFalse os vs = refl
too_large (progress.TheVariants.Open kept) os vs = refl

-- after a false one others count by their magnitudes alone
pub still_false : (f : Form) (os : List (Option Form)) (vs : List ℕ)
    → answer_after progress.TheVariants.FoundFalse os vs ≡ answer_after progress.TheVariants.FoundFalse (Some f ∷ os) vs
still_false f os vs = by_rest (all_made os)
  where
    by_rest : (o : Outcome) → and_then o (λ _. Refuted) ≡ and_then (facts_before (f ∷ []) o) (λ _. Refuted)
    by_rest Refuted = refl
    by_rest Undecided = refl
    by_rest (Remaining fs) = refl

-- a true one is dropped
pub passed_true : (kept : List Form) (f : Form) (os : List (Option Form)) (vs : List ℕ) → normal_of f ≡ True
    → answer_after (progress.TheVariants.Open kept) os vs ≡ answer_after (progress.TheVariants.Open kept) (Some f ∷ os) vs
passed_true kept f os vs e = by_rest (all_made os)
  where
    by_rest : (o : Outcome) → and_then (and_then o divided_all) (λ new. eliminated_all vs (put_after kept new))
        ≡ and_then (and_then (facts_before (f ∷ []) o) divided_all) (λ new. eliminated_all vs (put_after kept new))
    by_rest Refuted = refl
    by_rest Undecided = refl
    by_rest (Remaining fs) = rw e refl

-- a false one is found
pub found_false : (kept : List Form) (f : Form) (os : List (Option Form)) (vs : List ℕ) → normal_of f ≡ False
    → answer_after progress.TheVariants.FoundFalse os vs ≡ answer_after (progress.TheVariants.Open kept) (Some f ∷ os) vs
found_false kept f os vs e = by_rest (all_made os)
  where
    by_rest : (o : Outcome) → and_then o (λ _. Refuted) ≡ and_then (and_then (facts_before (f ∷ []) o) divided_all) (λ new. eliminated_all vs (put_after kept new))
    by_rest Refuted = refl
    by_rest Undecided = refl
    by_rest (Remaining fs) = rw e refl

-- any other is put after the facts so far
pub put_fact : (kept : List Form) (f r : Form) (os : List (Option Form)) (vs : List ℕ) → normal_of f ≡ Fact r
    → answer_after (progress.TheVariants.Open (with_fact r kept)) os vs ≡ answer_after (progress.TheVariants.Open kept) (Some f ∷ os) vs
put_fact kept f r os vs e = by_rest (all_made os)
  where
    by_new : (o : Outcome) → and_then o (λ new. eliminated_all vs (put_after (with_fact r kept) new))
        ≡ and_then (facts_before (r ∷ []) o) (λ new. eliminated_all vs (put_after kept new))
    by_new Refuted = refl
    by_new Undecided = refl
    by_new (Remaining ns) = refl

    by_rest : (o : Outcome) → and_then (and_then o divided_all) (λ new. eliminated_all vs (put_after (with_fact r kept) new))
        ≡ and_then (and_then (facts_before (f ∷ []) o) divided_all) (λ new. eliminated_all vs (put_after kept new))
    by_rest Refuted = refl
    by_rest Undecided = refl
    by_rest (Remaining fs) = rw e (by_new (divided_all fs))

-- facts that are too many lead to one answer
pub long_alike : (xs ys : List Form) (os : List (Option Form)) (vs : List ℕ) → FACT_LIMIT ≤ length xs → FACT_LIMIT ≤ length ys
    → answer_after (progress.TheVariants.Open xs) os vs ≡ answer_after (progress.TheVariants.Open ys) os vs
long_alike xs ys os vs h k = by_new (and_then (all_made os) divided_all)
  where
    by_new : (o : Outcome) → and_then o (λ new. eliminated_all vs (put_after xs new)) ≡ and_then o (λ new. eliminated_all vs (put_after ys new))
    by_new Refuted = refl
    by_new Undecided = refl
    by_new (Remaining ns) =
        both_long vs (put_after xs ns) (omega (arith, h, put_longer xs ns)) ∙ sym (both_long vs (put_after ys ns) (omega (arith, k, put_longer ys ns)))

with_longer : (f : Form) (fs : List Form) → length fs ≤ length (with_fact f fs)
with_longer f fs = put_longer fs (f ∷ [])

-- ---- a combination that isn't kept

no_room_long : (kept : List Form) → (length kept < FACT_LIMIT → ⊥) → FACT_LIMIT ≤ length kept
no_room_long kept h = elim (cases_lt (length kept) FACT_LIMIT) [ inl less ↦ absurd (h less) | inr more ↦ more ]

by_normal : (kept : List Form) (f : Form) (n : NormalForm) (os : List (Option Form)) (vs : List ℕ) → normal_of f ≡ n → FACT_LIMIT ≤ length kept → judged_as n ≡ judged.Possible
    → answer_after (progress.TheVariants.Open kept) os vs ≡ answer_after (progress.TheVariants.Open kept) (Some f ∷ os) vs
by_normal kept f True os vs e long h = passed_true kept f os vs e
by_normal kept f False os vs e long h = let n : judged.False ≡ judged.Possible = h in cc
by_normal kept f (Fact r) os vs e long h = long_alike kept (with_fact r kept) os vs long (omega (arith, long, with_longer r kept)) ∙ put_fact kept f r os vs e

-- one that can be satisfied changes nothing
pub pass_possible : (p : progress.Progress) (o : Option Form) (os : List (Option Form)) (vs : List ℕ) → (HasRoom p → ⊥) → judgement_of o ≡ judged.Possible
    → answer_after p os vs ≡ answer_after p (o ∷ os) vs
pass_possible p None os vs full h = let n : judged.TooLarge ≡ judged.Possible = h in cc
pass_possible progress.TheVariants.TooLarge (Some f) os vs full h = refl
pass_possible progress.TheVariants.FoundFalse (Some f) os vs full h = still_false f os vs
pass_possible (progress.TheVariants.Open kept) (Some f) os vs full h = by_normal kept f (normal_of f) os vs refl (no_room_long kept full) h

is_false : (n : NormalForm) → judged_as n ≡ judged.False → n ≡ False
is_false True h = let n : judged.Possible ≡ judged.False = h in cc
is_false False h = refl
is_false (Fact r) h = let n : judged.Possible ≡ judged.False = h in cc

-- a false one is found
pub pass_false : (kept : List Form) (o : Option Form) (os : List (Option Form)) (vs : List ℕ) → judgement_of o ≡ judged.False
    → answer_after progress.TheVariants.FoundFalse os vs ≡ answer_after (progress.TheVariants.Open kept) (o ∷ os) vs
pass_false kept None os vs h = let n : judged.TooLarge ≡ judged.False = h in cc
pass_false kept (Some f) os vs h = found_false kept f os vs (is_false (normal_of f) h)

pub pass_still : (o : Option Form) (os : List (Option Form)) (vs : List ℕ) → judgement_of o ≡ judged.False
    → answer_after progress.TheVariants.FoundFalse os vs ≡ answer_after progress.TheVariants.FoundFalse (o ∷ os) vs
pass_still None os vs h = let n : judged.TooLarge ≡ judged.False = h in cc
pass_still (Some f) os vs h = still_false f os vs

made_normal : (n : NormalForm) → judged_as n ≡ judged.TooLarge → ⊥
made_normal True h = let n : judged.Possible ≡ judged.TooLarge = h in cc
made_normal False h = let n : judged.False ≡ judged.TooLarge = h in cc
made_normal (Fact r) h = let n : judged.Possible ≡ judged.TooLarge = h in cc

-- one that is too large settles the answer
pub pass_large : (p : progress.Progress) (o : Option Form) (os : List (Option Form)) (vs : List ℕ) → judgement_of o ≡ judged.TooLarge
    → Undecided ≡ answer_after p (o ∷ os) vs
pass_large p None os vs h = too_large p os vs
pass_large p (Some f) os vs h = absurd (made_normal (normal_of f) h)

-- ---- all combinations

twice : (o : Outcome) (f g : List Form → Outcome) → and_then (and_then o f) g ≡ and_then o (λ xs. and_then (f xs) g)
twice Refuted f g = refl
twice Undecided f g = refl
twice (Remaining fs) f g = refl

-- what the elimination of a variable leads to
eliminated_after : (v : ℕ) (fs : List Form) (vs : List ℕ)
    → answer_after (progress.TheVariants.Open (without_repeats (without v fs))) (combinations v (uppers v fs) (lowers v fs)) vs
    ≡ and_then (eliminated v fs) (λ gs. eliminated_all vs gs)
eliminated_after v fs vs =
    let made = all_made (combinations v (uppers v fs) (lowers v fs)) in
    by_new (and_then made divided_all)
    ∙ ap (λ (o : Outcome). and_then o (λ gs. eliminated_all vs gs)) (twice made divided_all (λ new. Remaining (without_repeats (without v fs ++ new))))
  where
    by_new : (o : Outcome) → and_then o (λ new. eliminated_all vs (put_after (without_repeats (without v fs)) new))
        ≡ and_then (and_then o (λ new. Remaining (without_repeats (without v fs ++ new)))) (λ gs. eliminated_all vs gs)
    by_new Refuted = refl
    by_new Undecided = refl
    by_new (Remaining ns) = ap (λ (gs : List Form). eliminated_all vs gs) (sym (put_append [] (without v fs) ns))

pub eliminated_from : (v : ℕ) (fs kept : List Form) (p : progress.Progress) → kept ≡ without_repeats (without v fs)
    → ((vs : List ℕ) → answer_after p [] vs ≡ answer_after (progress.TheVariants.Open kept) (combinations v (uppers v fs) (lowers v fs)) vs)
    → (vs : List ℕ) → answer_after p [] vs ≡ and_then (eliminated v fs) (λ gs. eliminated_all vs gs)
eliminated_from v fs kept p e h vs =
    h vs ∙ ap (λ (ks : List Form). answer_after (progress.TheVariants.Open ks) (combinations v (uppers v fs) (lowers v fs)) vs) e ∙ eliminated_after v fs vs

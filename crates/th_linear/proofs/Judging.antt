-- What a sum of two inequalities says by itself.
use Rattle.std.proofs.Common.{◌≡◌, ℕ, ℤ, List, [], ◌∷◌, refl, ap, sym, ◌∙◌, Bool, true, false, ◌↔◌, IsTrue}
use Rattle.std.proofs.lemmas.Bool.{false_from_ne_true}
use Rattle.th_linear.specs.Forms.{Form, Stands, Small}
use Rattle.th_linear.specs.Divided.{normal_of, stands}
use Rattle.th_linear.specs.Mixed.{mixed, HasLarge, HasMixed}
use Rattle.th_linear.specs.Summed.{combined}
use Rattle.th_linear.specs.Judged.{judged_as, judgement_of}
use Rattle.th_linear.specs.declared.fact.Rel.TheVariants.{Le}
use Rattle.th_linear.specs.declared.mixture.Judgement.{Judgement}
use Rattle.th_linear.specs.declared.mixture.Judgement.TheVariants.{TooLarge, False, Possible}
use Rattle.th_linear.proofs.Normals.{decides_stands}
use Rattle.th_linear.proofs.Terms.{Ascend}
use Rattle.th_linear.proofs.Summing.{mixed_some, mixed_large_constant, mixed_large_terms}

-- an inequality with terms can be satisfied or not, by the integers
with_terms : (ts : List (ℕ × ℤ)) (k : ℤ) → (ts ≡ [] → ⊥) → judged_as (normal_of (record { coefs = ts; constant = k; rel = Le })) ≡ Possible
unfolding normal_of
with_terms [] k some = absurd (some refl)
with_terms (t ∷ ts) k some = refl

-- the sum is too large
pub large_constant : (a : Form) (p : ℤ) (b : Form) (q : ℤ) → (Small (mixed p a.constant q b.constant) → ⊥) → TooLarge ≡ judgement_of (combined a p b q)
large_constant a p b q large = sym (ap judgement_of (mixed_large_constant p a q b Le large))

pub large_terms : (a : Form) (p : ℤ) (b : Form) (q : ℤ) → Ascend 0 a.coefs → Ascend 0 b.coefs → HasLarge p a.coefs q b.coefs → TooLarge ≡ judgement_of (combined a p b q)
large_terms a p b q h k large = sym (ap judgement_of (mixed_large_terms p a q b Le h k large))

-- or it is made
made : (a : Form) (p : ℤ) (b : Form) (q k : ℤ) (some : Bool) → Ascend 0 a.coefs → Ascend 0 b.coefs → (m : HasMixed p a.coefs q b.coefs some)
    → k ≡ mixed p a.constant q b.constant → Small k → judgement_of (combined a p b q) ≡ judged_as (normal_of (record { coefs = m.0; constant = k; rel = Le }))
made a p b q k some h j m e small = ap judgement_of (mixed_some p a q b Le m.0 k h j m.1 e small)

pub made_terms : (a : Form) (p : ℤ) (b : Form) (q k : ℤ) → Ascend 0 a.coefs → Ascend 0 b.coefs → HasMixed p a.coefs q b.coefs true
    → k ≡ mixed p a.constant q b.constant → Small k → Possible ≡ judgement_of (combined a p b q)
made_terms a p b q k h j m e small = sym (made a p b q k true h j m e small ∙ with_terms m.0 k (m.2.0 refl))

pub made_alone : (a : Form) (p : ℤ) (b : Form) (q k : ℤ) (answer : Judgement) → Ascend 0 a.coefs → Ascend 0 b.coefs → HasMixed p a.coefs q b.coefs false
    → k ≡ mixed p a.constant q b.constant → Small k → answer ≡ judged_as (normal_of (record { coefs = []; constant = k; rel = Le }))
    → answer ≡ judgement_of (combined a p b q)
made_alone a p b q k answer h j m e small is =
    is ∙ ap (λ (ts : List (ℕ × ℤ)). judged_as (normal_of (record { coefs = ts; constant = k; rel = Le }))) (sym (none m.0 m.2)) ∙ sym (made a p b q k false h j m e small)
  where
    none : (r : List (ℕ × ℤ)) → IsTrue false ↔ (r ≡ [] → ⊥) → r ≡ []
    none [] w = refl
    none (t ∷ ts) w = let n : false ≡ true = w.1 (λ z. let y : (t ∷ ts) ≡ [] = z in cc) in cc

pub alone_holds : (k : ℤ) → Stands Le k → Possible ≡ judged_as (normal_of (record { coefs = []; constant = k; rel = Le }))
unfolding normal_of
alone_holds k h = rw ((decides_stands Le k).1 h) refl

pub alone_fails : (k : ℤ) → (Stands Le k → ⊥) → False ≡ judged_as (normal_of (record { coefs = []; constant = k; rel = Le }))
unfolding normal_of
alone_fails k h = rw (false_from_ne_true (stands Le k) (λ e. h ((decides_stands Le k).0 e))) refl

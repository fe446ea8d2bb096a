-- What the functions on facts keep: the statements of the laws.
use Rattle.std.specs.Prelude.{◌≡◌, ◌↔◌, ◌<◌, ◌≤ℤ◌, ◌*ℤ◌, ℕ, ℤ, pos, List, length, Some, None}
use Rattle.std.specs.List.Sorted.{IsPermutation}
use Rattle.th_linear.specs.Forms.{Form, IsForm, Holds, value, coef}
use Rattle.th_linear.specs.Normal.{IsNormal, HoldsNormal, LeavesForm, scaled}
use Rattle.th_linear.specs.Divided.{normal_of}
use Rattle.th_linear.specs.Summed.{mixed_form, combined, substituted}
use Rattle.th_linear.specs.Mixed.{IsMixed, IsTooLarge}
use Rattle.th_linear.specs.Gathered.{IsGathered, IsTooLargeTotal, gathered_form, name_of, renamed_form}
use Rattle.th_linear.specs.declared.fact.Rel.{Rel}
use Rattle.th_linear.specs.declared.division.NormalForm.{NormalForm}
use Rattle.th_linear.specs.declared.fact.Rel.TheVariants.{Eq, Le}

-- the variables ascend, no coefficient is 0, and all magnitudes are below 2^62
abbrev pub IsFact : Form → Type 0
IsFact f = IsForm f.coefs f.constant

-- the sum of two facts is the one fact with the summed coefficients that `mixed_form` gives
abbrev pub OneSum : Type 0
OneSum = (p : ℤ) (a : Form) (q : ℤ) (b : Form) (to : Rel) (r : Form) → IsFact a → IsFact b
    → (IsFact r × IsMixed p a q b to r) ↔ (mixed_form p a q b to ≡ Some r)

-- where a magnitude of the sum reaches 2^62 there is none
abbrev pub NoLargeSum : Type 0
NoLargeSum = (p : ℤ) (a : Form) (q : ℤ) (b : Form) (to : Rel) → IsFact a → IsFact b → IsTooLarge p a q b → mixed_form p a q b to ≡ None

-- the normal form is the one that `normal_of` gives
abbrev pub OneNormalForm : Type 0
OneNormalForm = (f : Form) (n : NormalForm) → IsFact f → IsNormal f n ↔ (n ≡ normal_of f)

-- and there are no two
abbrev pub NormalFormsAgree : Type 0
NormalFormsAgree = (f : Form) (m n : NormalForm) → IsFact f → IsNormal f m → IsNormal f n → m ≡ n

-- dividing leaves a fact of the same relation, and the same solutions
abbrev pub DivisionKeeps : Type 0
DivisionKeeps = (f : Form) → IsFact f → LeavesForm f (normal_of f) × ((s : ℕ → ℤ) → Holds f s ↔ HoldsNormal (normal_of f) s)

-- a sum of multiples of inequalities, none negative, is an inequality that follows from them
abbrev pub SumFollows : Type 0
SumFollows = (a : Form) (p : ℤ) (b : Form) (q : ℤ) (r : Form) → IsFact a → IsFact b → a.rel ≡ Le → b.rel ≡ Le → pos 0 ≤ℤ p → pos 0 ≤ℤ q
    → combined a p b q ≡ Some r → IsFact r × (r.rel ≡ Le) × ((s : ℕ → ℤ) → Holds a s → Holds b s → Holds r s)

-- terms scaled by p have p times the value
abbrev pub ScalingMultiplies : Type 0
ScalingMultiplies = (p : ℤ) (ts : List (ℕ × ℤ)) (s : ℕ → ℤ) → value (scaled p ts) s ≡ p *ℤ value ts s

-- where an equation holds, a fact from which it took a variable says the same
abbrev pub SubstitutionKeeps : Type 0
SubstitutionKeeps = (f : Form) (v : ℕ) (by r : Form) → IsFact f → IsFact by → by.rel ≡ Eq → substituted f v by ≡ Some r
    → IsFact r × (r.rel ≡ f.rel) × ((s : ℕ → ℤ) → Holds by s → Holds f s ↔ Holds r s)

-- a fact without the variable stays
abbrev pub AbsentStays : Type 0
AbsentStays = (f : Form) (v : ℕ) (by : Form) → IsFact f → IsFact by → coef v f.coefs ≡ pos 0 → substituted f v by ≡ Some f

-- terms in any order make the one fact with the summed coefficients, which `gathered_form` gives
abbrev pub OneGathering : Type 0
OneGathering = (terms : List (ℕ × ℤ)) (constant : ℤ) (rel : Rel) (r : Form)
    → (IsFact r × IsGathered terms constant rel r) ↔ (gathered_form terms constant rel ≡ Some r)

-- where a magnitude of it reaches 2^62 there is none
abbrev pub NoLargeGathering : Type 0
NoLargeGathering = (terms : List (ℕ × ℤ)) (constant : ℤ) (rel : Rel) → IsTooLargeTotal terms constant
    → gathered_form terms constant rel ≡ None

-- and their order doesn't count
abbrev pub OrderIsFree : Type 0
OrderIsFree = (terms others : List (ℕ × ℤ)) (constant : ℤ) (rel : Rel) → IsPermutation terms others
    → gathered_form terms constant rel ≡ gathered_form others constant rel

-- s satisfies a renamed fact exactly where s after the names satisfies the fact
abbrev pub RenamingComposes : Type 0
RenamingComposes = (names : List ℕ) (f r : Form) → IsFact f → renamed_form names f ≡ Some r → IsFact r × (r.rel ≡ f.rel)
    × ((s : ℕ → ℤ) → value r.coefs s ≡ value f.coefs (λ v. s (name_of names v)))
    × ((s : ℕ → ℤ) → Holds r s ↔ Holds f (λ v. s (name_of names v)))

-- a fact stays where each variable of the list keeps its name
abbrev pub SameNamesStay : Type 0
SameNamesStay = (names : List ℕ) (f : Form) → IsFact f → ((v : ℕ) → v < length names → name_of names v ≡ v) → renamed_form names f ≡ Some f

-- Facts of terms in any order, and facts whose variables are renamed.
use Rattle.std.specs.Prelude.{◌≡◌, ℕ, slice_index_or, eqb, cond, ◌&&◌, ℤ, pos, ◌+ℤ◌, List, [], ◌∷◌, map, ◌⊎◌, Option, Some, None, MatchOption}
use Rattle.th_linear.specs.Forms.{Form, value, coef, Small}
use Rattle.th_linear.specs.Summed.{summed, is_small, all_small}
use Rattle.th_linear.specs.declared.fact.Rel.{Rel}

-- each coefficient is below 2^62 in magnitude
abbrev pub AreSmall : List (ℕ × ℤ) → Type 0
AreSmall [] = Unit {0}
AreSmall (t ∷ ts) = Small t.1 × AreSmall ts

-- the sum of the coefficients that stand with a variable
abbrev pub total : ℕ → List (ℕ × ℤ) → ℤ
total v [] = pos 0
total v (t ∷ ts) = cond (eqb v t.0) (t.1 +ℤ total v ts) (total v ts)

-- r is the fact of these terms, this constant and this relation
pub record IsGathered (terms : List (ℕ × ℤ)) (offset : ℤ) (to : Rel) (r : Form) : Type 0 where
  pub value : (s : ℕ → ℤ) → value r.coefs s ≡ value terms s
  pub coef : (v : ℕ) → coef v r.coefs ≡ total v terms
  pub constant : r.constant ≡ offset
  pub rel : r.rel ≡ to

-- the sum of some variable's coefficients reaches 2^62
abbrev pub HasLargeTotal : List (ℕ × ℤ) → Type 0
HasLargeTotal terms = (v : ℕ) × (Small (total v terms) → ⊥)

-- the constant, or the sum of some variable's coefficients, reaches 2^62
abbrev pub IsTooLargeTotal : List (ℕ × ℤ) → ℤ → Type 0
IsTooLargeTotal terms constant = (Small constant → ⊥) ⊎ HasLargeTotal terms

-- the answer is the fact of these terms, and none where a magnitude of it reaches 2^62
abbrev pub Gathers : List (ℕ × ℤ) → ℤ → Rel → Option Form → Type 0
Gathers terms constant rel o = MatchOption o (IsTooLargeTotal terms constant) (IsGathered terms constant rel)

-- terms in any order as ascending ones: those of one variable added up, none with coefficient 0
abbrev pub gathered : List (ℕ × ℤ) → List (ℕ × ℤ)
gathered terms = summed terms []

-- the fact of these terms, or none where a magnitude reaches 2^62
unfoldable pub gathered_form : List (ℕ × ℤ) → ℤ → Rel → Option Form
gathered_form terms constant rel =
    cond (is_small constant && all_small (gathered terms)) (Some (record { coefs = gathered terms; constant = constant; rel = rel })) None

-- the name at the variable's place; a variable past the list keeps its own
abbrev pub name_of : List ℕ → ℕ → ℕ
name_of names v = slice_index_or names v v

-- the terms with each variable renamed
abbrev pub renamed_terms : List ℕ → List (ℕ × ℤ) → List (ℕ × ℤ)
renamed_terms names terms = map (λ t. (name_of names t.0, t.1)) terms

-- r is f with each variable renamed: it has the value of f where each variable has the integer of its name
pub record IsRenamed (names : List ℕ) (f r : Form) : Type 0 where
  pub value : (s : ℕ → ℤ) → value r.coefs s ≡ value f.coefs (λ v. s (name_of names v))
  pub coef : (v : ℕ) → coef v r.coefs ≡ total v (renamed_terms names f.coefs)
  pub constant : r.constant ≡ f.constant
  pub rel : r.rel ≡ f.rel

-- the answer is f renamed, and none where the coefficients of variables with one name add up to 2^62 or more
abbrev pub Renames : List ℕ → Form → Option Form → Type 0
Renames names f o = MatchOption o (HasLargeTotal (renamed_terms names f.coefs)) (IsRenamed names f)

-- f renamed, or none where a magnitude reaches 2^62
abbrev pub renamed_form : List ℕ → Form → Option Form
renamed_form names f = gathered_form (renamed_terms names f.coefs) f.constant f.rel

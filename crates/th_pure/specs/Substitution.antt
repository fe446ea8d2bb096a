-- An equation solved for a variable, and the variable taken out of the other facts.
use Rattle.std.specs.Prelude.{◌≡◌, slice_index_or, ℕ, zero, suc, ◌==◌, cond, ℤ, pos, negsuc, neg_ℤ, List, [], ◌∷◌, ◌++◌, map, Option, Some, None}
use Rattle.std.specs.Int.RustNames.{unsigned_abs}
use Rattle.std.specs.List.{remove}
use Rattle.th_linear.specs.Forms.{Form, coef}
use Rattle.th_linear.specs.Summed.{substituted}
use Rattle.th_linear.specs.declared.fact.Rel.{Rel}
use Rattle.th_linear.specs.declared.fact.Rel.TheVariants.{Eq, Le, Ne}
use Rattle.th_pure.specs.declared.range.Range.{Range}
use Rattle.th_pure.specs.declared.facts.Outcome.{Outcome}
use Rattle.th_pure.specs.declared.facts.Outcome.TheVariants.{Remaining}
use Rattle.th_pure.specs.Outcomes.{and_then, made}
use Rattle.th_pure.specs.Division.{divided_all}

-- the first variable with coefficient 1 or -1
abbrev pub unit_variable : List (ℕ × ℤ) → Option ℕ
unit_variable [] = None
unit_variable (t ∷ ts) = cond (unsigned_abs t.1 == 1) (Some t.0) (unit_variable ts)

-- the variable for which a fact is solved: only equations are
abbrev pub solved_variable : Rel → List (ℕ × ℤ) → Option ℕ
solved_variable Eq ts = unit_variable ts
solved_variable Le ts = None
solved_variable Ne ts = None

-- an equation, the variable for which it is solved, and the other facts in order
pub record Choice : Type 0 where
  pub by : Form
  pub variable : ℕ
  pub others : List Form

-- facts passed over stay before the others
abbrev pub passed : List Form → Option Choice → Option Choice
passed fs None = None
passed fs (Some c) = Some (record { by = c.by; variable = c.variable; others = fs ++ c.others })

-- f is chosen where it can be solved, else what is chosen of the facts after it
abbrev pub first_choice : Form → List Form → Option ℕ → Option Choice → Option Choice
first_choice f fs (Some v) later = Some (record { by = f; variable = v; others = fs })
first_choice f fs None later = passed (f ∷ []) later

-- the first equation with a coefficient 1 or -1, and its least such variable
abbrev pub choice_of : List Form → Option Choice
choice_of [] = None
choice_of (f ∷ fs) = first_choice f fs (solved_variable f.rel f.coefs) (choice_of fs)

-- the equation at a place solved for a variable, and the other facts (f stands where there is no such place)
abbrev pub choice_at : List Form → ℕ → ℕ → Form → Choice
choice_at fs at v f = record { by = slice_index_or fs at f; variable = v; others = remove fs at }

-- the equation at a place has the variable with coefficient 1 or -1
abbrev pub IsSolvedAt : List Form → ℕ → ℕ → Form → Type 0
IsSolvedAt fs at v f = unsigned_abs (coef v (slice_index_or fs at f).coefs) ≡ 1

-- the variable is at least the range's low end
abbrev pub low_fact : Range → Form
low_fact r = record { coefs = (r.variable, negsuc 0) ∷ []; constant = r.low; rel = Le }

-- the variable is at most the range's high end
abbrev pub high_fact : Range → Form
high_fact r = record { coefs = (r.variable, pos 1) ∷ []; constant = neg_ℤ r.high; rel = Le }

-- the variable's range as inequalities, low before high
abbrev pub range_facts : List Range → ℕ → List Form
range_facts [] v = []
range_facts (r ∷ rs) v = cond (r.variable == v) (low_fact r ∷ high_fact r ∷ []) (range_facts rs v)

-- all results, or none where one magnitude is too large
abbrev pub all_made : List (Option Form) → Outcome
all_made [] = Remaining []
all_made (o ∷ os) = made o (all_made os)

-- the variable taken out of the facts
abbrev pub taken_out : Form → ℕ → List Form → Outcome
taken_out by v fs = all_made (map (λ f. substituted f v by) fs)

-- the variable taken out of the other facts and of its range's, and these divided again
abbrev pub round_of : List Range → Choice → Outcome
round_of ranges c = and_then (taken_out c.by c.variable (c.others ++ range_facts ranges c.variable)) divided_all

-- rounds go on while an equation is chosen
abbrev pub rounds_by : List Range → List Form → Option Choice → (List Form → Outcome) → Outcome
rounds_by ranges fs None later = Remaining fs
rounds_by ranges fs (Some c) later = and_then (round_of ranges c) later

-- up to n rounds
abbrev pub rounds : ℕ → List Range → List Form → Outcome
rounds zero ranges fs = Remaining fs
rounds (suc n) ranges fs = rounds_by ranges fs (choice_of fs) (λ gs. rounds n ranges gs)

-- one more where the fact is an equation
abbrev pub counted : Rel → ℕ → ℕ
counted Eq n = suc n
counted Le n = n
counted Ne n = n

-- how many facts are equations: each round takes one away
abbrev pub equations : List Form → ℕ
equations [] = 0
equations (f ∷ fs) = counted f.rel (equations fs)

-- rounds while an equation has a coefficient 1 or -1
abbrev pub solved : List Range → List Form → Outcome
solved ranges fs = rounds (equations fs) ranges fs

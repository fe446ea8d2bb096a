-- Counts that are taken away from a limit, one after the other.
use Rattle.std.proofs.Common.{◌≡◌, inl, inr, ℕ, ◌+◌, ◌-◌, ◌<◌, ◌≤◌, Bool, true, false, Option, None, Some, refl, sym, ap, arith, ◌∙◌, if◌then◌else◌}
use Rattle.std.specs.Prelude.{nat_le, nat_lt, not, is_some, is_none}
use Rattle.std.proofs.lemmas.Bool.{cases_lt}
use Rattle.th_graph.specs.Tables.{left_after}

le_true : (a l : ℕ) → a ≤ l → nat_le a l ≡ true
le_true a l less = grind arith

le_false : (a l : ℕ) → l < a → nat_le a l ≡ false
le_false a l less = grind arith

lt_true : (a l : ℕ) → a < l → nat_lt a l ≡ true
lt_true a l less = grind arith

lt_false : (a l : ℕ) → l ≤ a → nat_lt a l ≡ false
lt_false a l less = grind arith

enough : (l n : ℕ) → n ≤ l → left_after (Some l) n ≡ Some (l - n)
enough l n less = ap (λ b. if b then Some (l - n) else None) (le_true n l less)

too_few : (l n : ℕ) → l < n → left_after (Some l) n ≡ None
too_few l n less = ap (λ b. if b then Some (l - n) else None) (le_false n l less)

left_twice : (o : Option ℕ) (a b : ℕ) → left_after (left_after o a) b ≡ left_after o (a + b)
left_twice None a b = refl
left_twice (Some l) a b = elim (cases_lt l a) [
  | inl few ↦ ap (λ o. left_after o b) (too_few l a few) ∙ sym (too_few l (a + b) (omega arith))
  | inr first ↦ elim (cases_lt (l - a) b) [
    | inl few ↦ ap (λ o. left_after o b) (enough l a first) ∙ too_few (l - a) b few ∙ sym (too_few l (a + b) (omega arith))
    | inr second ↦ ap (λ o. left_after o b) (enough l a first) ∙ enough (l - a) b second ∙ ap Some (omega arith) ∙ sym (enough l (a + b) (omega arith))
  ]
]

none_left : (l n : ℕ) → is_none (left_after (Some l) n) ≡ nat_lt l n
none_left l n = elim (cases_lt l n) [
  | inl few ↦ ap (λ (o : Option ℕ). is_none o) (too_few l n few) ∙ sym (lt_true l n few)
  | inr all ↦ ap (λ (o : Option ℕ). is_none o) (enough l n all) ∙ sym (lt_false l n all)
]

-- three counts are past a limit exactly where their sum is
pub three_pass : (l a b c : ℕ) → is_none (left_after (left_after (left_after (Some l) a) b) c) ≡ nat_lt l (a + (b + c))
three_pass l a b c =
    ap (λ o. is_none (left_after o c)) (left_twice (Some l) a b) ∙ ap (λ (o : Option ℕ). is_none o) (left_twice (Some l) (a + b) c)
    ∙ ap (λ n. is_none (left_after (Some l) n)) (omega arith) ∙ none_left l (a + (b + c))

-- one count more
pub left_more : (o : Option ℕ) (a b : ℕ) → left_after (left_after o a) b ≡ left_after o (a + b)
left_more o a b = left_twice o a b

pub not_some : (b : Bool) (o : Option ℕ) → not b ≡ is_some o → b ≡ is_none o
not_some true None e = refl
not_some false (Some n) e = refl
not_some true (Some n) e = absurd cc
not_some false None e = absurd cc

-- The generated classes have well-formed names.
use Rattle.std.proofs.Common.{◌≡◌, ℕ, suc, ◌+◌, ◌/◌, ◌%◌, ◌<◌, ◌≤◌, ◌^◌, Bool, true, false, ◌&&◌, ◌||◌, List, [], ◌∷◌, ◌++◌, length, refl, arith}
use Rattle.std.specs.Prelude.{nat_lt, ◌==◌, not}
use Rattle.std.specs.Fmt.{decimal}
use Rattle.std.specs.List.{list_all, slice_split}
use Rattle.std.proofs.lemmas.Bool.{ne_eqb, lt-ltb}
use Rattle.std.proofs.lemmas.Fmt.{decimal_by_steps, length-decimal-le}
use Rattle.th_syntax.specs.WellFormed.{is_name_byte, is_class_name}
use Rattle.th_gen.specs.Generated.{class_name}

digit_byte : (d : ℕ) → d < 10 → is_name_byte (48 + d) ≡ true
digit_byte d lt = rw (ne_eqb (48 + d) 46 (λ e. omega arith), ne_eqb (48 + d) 59 (λ e. omega arith), ne_eqb (48 + d) 91 (λ e. omega arith), ne_eqb (48 + d) 47 (λ e. omega arith)) refl

all_push : (ds : List ℕ) (b : ℕ) → list_all is_name_byte ds ≡ true → is_name_byte b ≡ true → list_all is_name_byte (ds ++ b ∷ []) ≡ true
all_push [] b all is = rw is refl
all_push (d ∷ ds) b all is = let two = both (is_name_byte d) (list_all is_name_byte ds) all in rw two.0 (all_push ds b two.1 is)
  where
    both : (a b : Bool) → (a && b) ≡ true → (a ≡ true) × (b ≡ true)
    both true b e = (refl, e)
    both false b e = absurd cc

abbrev IsNameOf : ℕ → List ℕ → Type 0
IsNameOf n ds = list_all is_name_byte ds ≡ true

one_digit : (n : ℕ) → n < 10 → IsNameOf n ((48 + n) ∷ [])
one_digit n lt = rw (digit_byte n lt) refl

more_digits : (n : ℕ) (ds : List ℕ) → 10 ≤ n → IsNameOf (n / 10) ds → IsNameOf n (ds ++ ((48 + n % 10) ∷ []))
more_digits n ds le all = all_push ds (48 + n % 10) all (digit_byte (n % 10) (omega arith))

digits_named : (n : ℕ) → n < 2 ^ 64 → list_all is_name_byte (decimal n) ≡ true
digits_named n lt = decimal_by_steps IsNameOf one_digit more_digits n lt

no_slash : (b : ℕ) → is_name_byte b ≡ true → (b == 47) ≡ false
no_slash b e = go (b == 46) (b == 59) (b == 91) (b == 47) e
  where
    go : (p q r s : Bool) → not (p || q || r || s) ≡ true → s ≡ false
    go true true true s e = absurd cc
    go true true false s e = absurd cc
    go true false true s e = absurd cc
    go true false false s e = absurd cc
    go false true true s e = absurd cc
    go false true false s e = absurd cc
    go false false true s e = absurd cc
    go false false false true e = absurd cc
    go false false false false e = refl

split_whole : (ds : List ℕ) → list_all is_name_byte ds ≡ true → slice_split (λ b. b == 47) ds ≡ ds ∷ []
split_whole [] all = refl
split_whole (d ∷ ds) all = let two = both (is_name_byte d) (list_all is_name_byte ds) all in rw (no_slash d two.0, split_whole ds two.1) refl
  where
    both : (a b : Bool) → (a && b) ≡ true → (a ≡ true) × (b ≡ true)
    both true b e = (refl, e)
    both false b e = absurd cc

pub named : (n : ℕ) → n < 400 → is_class_name (class_name n) ≡ true
named n lt =
    let all = digits_named n (omega arith) in
    let some : nat_lt 0 (suc (length (decimal n))) ≡ true = lt-ltb 0 (suc (length (decimal n))) (omega arith) in
    rw (split_whole (decimal n) all, some, all) refl

pub name_length : (n : ℕ) → n < 400 → length (class_name n) ≤ 65535
name_length n lt =
    let digits : length (decimal n) ≤ 3 = length-decimal-le 3 n (omega arith) (omega arith) (omega arith) in
    omega arith

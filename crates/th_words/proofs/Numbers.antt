-- What `parse` makes of a text of 1 to 9 decimal digits.
use Rattle.std.proofs.Common.{◌≡◌, ◌≤◌, ◌&&◌, ℕ, Bool, true, false, [], ◌∷◌, length, arith, nat_le, Result, Ok, refl, sym, ap, ◌∙◌}
use Rattle.std.proofs.lemmas.Bool.Decides.{nat_tests}
use Rattle.std.proofs.lemmas.Str.Parse.{IsNumeralModel, numerals_by_value, tells_all_ascii_digits, parse_gives, digits_value_short}
use Rattle.std.specs.Char.{is_ascii_digit}
use Rattle.std.specs.List.{list_all}
use Rattle.std.specs.Str.{all_ascii_digits}
use Rattle.std.specs.Str.Parse.{digits_value, ParsesUnsigned}
use Rattle.th_words.specs.Pieces.{Word}
use Rattle.th_words.specs.Values.{is_number}

-- the decimal numerals are the texts of digits
numerals : IsNumeralModel (λ ds. all_ascii_digits ds ≡ true) (digits_value 10)
numerals = numerals_by_value _ tells_all_ascii_digits

same_digits : (text : Word) → list_all is_ascii_digit text ≡ all_ascii_digits text
same_digits [] = refl
same_digits (x ∷ xs) = ap (λ b. is_ascii_digit x && b) (same_digits xs)

parts : (a b c : Bool) → (a && (b && c)) ≡ true → (a ≡ true) × ((b ≡ true) × (c ≡ true))
parts true true c e = (refl, (refl, e))
parts true false c e = cc
parts false b c e = cc

at_least : (m n : ℕ) → nat_le m n ≡ true → m ≤ n
at_least m n e = grind (arith, nat_tests)

pub number_parses : {E : Type 0} → (text : Word) (r : Result ℕ E) → is_number text ≡ true → ParsesUnsigned 32 10 text r → r ≡ Ok (digits_value 10 text)
number_parses text r h p =
    let k = parts (list_all is_ascii_digit text) (nat_le 1 (length text)) (nat_le (length text) 9) h in
    let digits = sym (same_digits text) ∙ k.0 in
    let some = at_least 1 (length text) k.1.0 in
    let few = at_least (length text) 9 k.1.1 in
    parse_gives numerals 32 text r p digits (omega arith) (omega (arith, digits_value_short numerals text 9 digits few))

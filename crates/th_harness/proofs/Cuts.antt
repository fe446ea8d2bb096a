-- A text cut at the first byte that passes a test.
use Rattle.std.proofs.Common.{◌≡◌, ◌-◌, ◌+◌, ℕ, Bool, true, false, cond, List, [], ◌∷◌, length, take, drop, refl, sym, ap, ◌∙◌, Option, Some, None, ltb}
use borrow.Author.Tests.{ltb-true}
use Rattle.std.specs.Prelude.{◌==◌}
use Rattle.th_harness.specs.Script.{bundle_in, launch_in, words_of}
use Rattle.std.specs.List.{slice_split, onto_first, position_from, position_or_len}
use Rattle.std.proofs.lemmas.Iterator.Adapters.{position_from-zero}
use Rattle.std.proofs.lemmas.List.{take_rest}
use Rattle.std.proofs.lemmas.List.Splits.{slice_split_first}

uncut_by : (b : Bool) (k x : ℕ) (xs : List ℕ) (rest : Option ℕ) (parts : List (List ℕ)) → (rest ≡ None → parts ≡ xs ∷ []) → cond b (Some k) rest ≡ None
    → cond b ([] ∷ parts) (onto_first x parts) ≡ (x ∷ xs) ∷ []
uncut_by true k x xs rest parts more e = cc
uncut_by false k x xs rest parts more e = ap (onto_first x) (more e)

-- where none passes, the text is the one part
pub uncut : (q : ℕ → Bool) (k : ℕ) (xs : List ℕ) → position_from q k xs ≡ None → slice_split q xs ≡ xs ∷ []
uncut q k [] e = refl
uncut q k (x ∷ xs) e = uncut_by (q x) k x xs (position_from q (k + 1) xs) (slice_split q xs) (uncut q (k + 1) xs) e

first_by : (b : Bool) (n at : ℕ) → cond b (Some n) None ≡ Some at → (b ≡ true) × (n ≡ at)
first_by true n at e = (refl, cc)
first_by false n at e = cc

-- else the first part ends at the first that passes
pub cut_first : (q : ℕ → Bool) (xs : List ℕ) (at : ℕ) → position_from q 0 xs ≡ Some at
    → slice_split q xs ≡ take at xs ∷ slice_split q (take (length xs - (at + 1)) (drop (at + 1) xs))
cut_first q xs at e =
    let f = first_by (ltb (position_or_len q xs) (length xs)) (position_or_len q xs) at (position_from-zero q xs ∙ e) in
    let s = slice_split_first q xs 0 (ltb-true (position_or_len q xs) (length xs) f.0) in
    s ∙ ap (λ n. take n xs ∷ slice_split q (drop (n + 1) xs)) f.1 ∙ ap (λ rest. take at xs ∷ slice_split q rest) (sym (take_rest xs (at + 1)))

onto_is_some : (x : ℕ) (parts : List (List ℕ)) → (part : List ℕ) × (more : List (List ℕ)) × (onto_first x parts ≡ part ∷ more)
onto_is_some x [] = (x ∷ [], [], refl)
onto_is_some x (part ∷ parts) = (x ∷ part, parts, refl)

some_by : (b : Bool) (x : ℕ) (parts : List (List ℕ)) → (part : List ℕ) × (more : List (List ℕ)) × (cond b ([] ∷ parts) (onto_first x parts) ≡ part ∷ more)
some_by true x parts = ([], parts, refl)
some_by false x parts = onto_is_some x parts

-- there is a first part
pub some_part : (q : ℕ → Bool) (xs : List ℕ) → (part : List ℕ) × (more : List (List ℕ)) × (slice_split q xs ≡ part ∷ more)
some_part q [] = ([], [], refl)
some_part q (x ∷ xs) = some_by (q x) x (slice_split q xs)

-- words that are too many
pub too_many_for_bundle : (word text : List ℕ) → bundle_in (word ∷ words_of text) ≡ None
too_many_for_bundle word text = let s = some_part (λ b. b == 32) text in ap (λ parts. bundle_in (word ∷ parts)) s.2

pub too_many_for_launch : (word text : List ℕ) → launch_in (word ∷ words_of text) ≡ None
too_many_for_launch word text = let s = some_part (λ b. b == 32) text in ap (λ parts. launch_in (word ∷ parts)) s.2

-- A script has no more lines that aren't empty than bytes.
use Rattle.std.proofs.Common.{◌≡◌, suc, ◌+◌, ◌≤◌, ◌<◌, ℕ, Bool, true, false, cond, List, [], ◌∷◌, length, arith, Option, Some, None, sym, ap, ◌∙◌}
use Rattle.std.specs.Prelude.{IfSome}
use Rattle.std.specs.List.{slice_split, onto_first, position_from, filter_map, cons_option}

-- ---- places and lengths

below_by : (b : Bool) (k at n : ℕ) (rest : Option ℕ) → (rest ≡ Some at → at < (k + 1) + n) → cond b (Some k) rest ≡ Some at → at < k + suc n
below_by true k at n rest more e = let same : k ≡ at = cc in omega arith
below_by false k at n rest more e = let under = more e in omega (arith, under)

pub position_below : {X : Type 0} (p : X → Bool) (k : ℕ) (xs : List X) (at : ℕ) → position_from p k xs ≡ Some at → at < k + length xs
position_below p k [] at e = cc
position_below p k (x ∷ xs) at e = below_by (p x) k at (length xs) (position_from p (k + 1) xs) (position_below p (k + 1) xs at) e

onto_length : (x : ℕ) (parts : List (List ℕ)) (n : ℕ) → length parts ≤ n + 1 → length (onto_first x parts) ≤ n + 1
onto_length x [] n e = omega arith
onto_length x (part ∷ parts) n e = e

cut_length : (b : Bool) (x : ℕ) (parts : List (List ℕ)) (n : ℕ) → length parts ≤ n + 1 → length (cond b ([] ∷ parts) (onto_first x parts)) ≤ suc n + 1
cut_length true x parts n e = omega arith
cut_length false x parts n e = let same = onto_length x parts n e in omega (arith, same)

split_length : (q : ℕ → Bool) (bytes : List ℕ) → length (slice_split q bytes) ≤ length bytes + 1
split_length q [] = omega arith
split_length q (x ∷ bytes) = cut_length (q x) x (slice_split q bytes) (length bytes) (split_length q bytes)

kept_length : {X : Type 0} (o : Option X) (xs : List X) (n : ℕ) → length xs ≤ n → length (cons_option o xs) ≤ suc n
kept_length None xs n e = omega arith
kept_length (Some x) xs n e = omega arith

filtered_length : {X Y : Type 0} (f : X → Option Y) (xs : List X) → length (filter_map f xs) ≤ length xs
filtered_length f [] = omega arith
filtered_length f (x ∷ xs) = kept_length (f x) (filter_map f xs) (length xs) (filtered_length f xs)

-- ---- a line that isn't empty ends within the bytes

within_onto : (p : List ℕ → Bool) (x : ℕ) (parts : List (List ℕ)) (k at n : ℕ) → length parts ≤ n + 1 → position_from p k (onto_first x parts) ≡ Some at → at + 1 ≤ k + suc n
within_onto p x parts k at n few e =
    let under = position_below p k (onto_first x parts) at e in
    let size = onto_length x parts n few in
    omega (arith, under, size)

within_by : (b : Bool) (p : List ℕ → Bool) (x : ℕ) (parts : List (List ℕ)) (k at n : ℕ) → p [] ≡ false → length parts ≤ n + 1
    → (position_from p (k + 1) parts ≡ Some at → at + 1 ≤ (k + 1) + n) → position_from p k (cond b ([] ∷ parts) (onto_first x parts)) ≡ Some at → at + 1 ≤ k + suc n
within_by true p x parts k at n none few more e =
    let under = more (sym (ap (λ c. cond c (Some k) (position_from p (k + 1) parts)) none) ∙ e) in omega (arith, under)
within_by false p x parts k at n none few more e = within_onto p x parts k at n few e

pub line_within : (q : ℕ → Bool) (p : List ℕ → Bool) (bytes : List ℕ) (k at : ℕ) → p [] ≡ false → position_from p k (slice_split q bytes) ≡ Some at → at + 1 ≤ k + length bytes
line_within q p [] k at none e = let no : None ≡ Some at = sym (ap (λ c. cond c (Some k) None) none) ∙ e in cc
line_within q p (x ∷ bytes) k at none e = within_by (q x) p x (slice_split q bytes) k at (length bytes) none (split_length q bytes) (line_within q p bytes (k + 1) at none) e

-- ---- so there are no more of them than bytes

few_onto : {X : Type 0} (f : List ℕ → Option X) (x : ℕ) (parts : List (List ℕ)) (n : ℕ) → length parts ≤ n + 1 → length (filter_map f (onto_first x parts)) ≤ suc n
few_onto f x parts n few =
    let size = filtered_length f (onto_first x parts) in
    let same = onto_length x parts n few in
    omega (arith, size, same)

few_by : {X : Type 0} (b : Bool) (f : List ℕ → Option X) (x : ℕ) (parts : List (List ℕ)) (n : ℕ) → f [] ≡ None → length parts ≤ n + 1 → length (filter_map f parts) ≤ n
    → length (filter_map f (cond b ([] ∷ parts) (onto_first x parts))) ≤ suc n
few_by true f x parts n none few more = rw none (omega arith)
few_by false f x parts n none few more = few_onto f x parts n few

pub lines_within : {X : Type 0} (q : ℕ → Bool) (f : List ℕ → Option X) (bytes : List ℕ) → f [] ≡ None → length (filter_map f (slice_split q bytes)) ≤ length bytes
lines_within q f [] none = rw none (omega arith)
lines_within q f (x ∷ bytes) none = few_by (q x) f x (slice_split q bytes) (length bytes) none (split_length q bytes) (lines_within q f bytes none)

pub below_where_some : {X : Type 0} (o : Option ℕ) (p : X → Bool) (xs : List X) → o ≡ position_from p 0 xs → IfSome o (λ place. place < length xs)
below_where_some None p xs e = tt
below_where_some (Some place) p xs e = let under = position_below p 0 xs place (sym e) in omega (arith, under)

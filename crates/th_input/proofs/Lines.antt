-- The lines of a list take its bytes, and one more.
use Rattle.std.proofs.Common.{◌≡◌, ◌≤◌, ◌+◌, suc, ℕ, Bool, true, false, cond, List, [], ◌∷◌, ◌++◌, length, arith, refl, sym, ◌∙◌}
use Rattle.std.specs.Prelude.{sum_by}
use Rattle.std.specs.List.{slice_split, onto_first}
use Rattle.std.proofs.lemmas.List.Sums.{sum_by-cons, sum_by-append}
use Rattle.th_input.specs.Listing.{bytes_of}

pub bytes_of_more : (line : List ℕ) (lines : List (List ℕ)) → bytes_of (line ∷ lines) ≡ (length line + 1) + bytes_of lines
bytes_of_more line lines = sum_by-cons (λ (l : List ℕ). length l + 1) line lines

onto_sum : (x : ℕ) (parts : List (List ℕ)) (n : ℕ) → bytes_of parts ≡ n + 1 → bytes_of (onto_first x parts) ≡ suc n + 1
onto_sum x [] n e = absurd (let h : 0 ≡ n + 1 = e in let g : ⊥ = omega arith in g)
onto_sum x (part ∷ parts) n e =
    let h : (length part + 1) + bytes_of parts ≡ n + 1 = sym (bytes_of_more part parts) ∙ e in
    bytes_of_more (x ∷ part) parts ∙ (let g : (suc (length part) + 1) + bytes_of parts ≡ suc n + 1 = omega (arith, h) in g)

cut_sum : (b : Bool) (x : ℕ) (parts : List (List ℕ)) (n : ℕ) → bytes_of parts ≡ n + 1 → bytes_of (cond b ([] ∷ parts) (onto_first x parts)) ≡ suc n + 1
cut_sum true x parts n e = bytes_of_more [] parts ∙ (let g : (0 + 1) + bytes_of parts ≡ suc n + 1 = omega (arith, e) in g)
cut_sum false x parts n e = onto_sum x parts n e

pub lines_take_bytes : (p : ℕ → Bool) (bytes : List ℕ) → bytes_of (slice_split p bytes) ≡ length bytes + 1
lines_take_bytes p [] = refl
lines_take_bytes p (x ∷ bytes) = cut_sum (p x) x (slice_split p bytes) (length bytes) (lines_take_bytes p bytes)

-- the bytes of a front, and of one line more, are no more than those of all
pub bytes_within : (all front behind : List (List ℕ)) (line : List ℕ) → all ≡ front ++ line ∷ behind → bytes_of front + (length line + 1) ≤ bytes_of all
bytes_within all front behind line e =
    let whole : bytes_of all ≡ bytes_of front + bytes_of (line ∷ behind) = rw e (sum_by-append (λ (l : List ℕ). length l + 1) front (line ∷ behind)) in
    let more = bytes_of_more line behind in
    omega (arith, whole, more)

pub bytes_more : (front : List (List ℕ)) (line : List ℕ) → bytes_of (front ++ line ∷ []) ≡ bytes_of front + (length line + 1)
bytes_more front line =
    sum_by-append (λ (l : List ℕ). length l + 1) front (line ∷ []) ∙ (let more = bytes_of_more line [] in let g : bytes_of front + bytes_of (line ∷ []) ≡ bytes_of front + (length line + 1) = omega (arith, more) in g)

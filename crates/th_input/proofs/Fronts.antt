-- The front of a file as it is read in pieces.
use Rattle.std.proofs.Common.{◌≡◌, ℕ, ◌+◌, ◌≤◌, List, ◌++◌, length, take, Option, None, Some, IfSome, refl, sym, arith, ◌∙◌}
use Rattle.std.proofs.Math.Seq.{take-add}
use Rattle.std.proofs.lemmas.List.{take_all}
use Rattle.std.proofs.lemmas.Grind.{common_steps}
use Rattle.th_outside.specs.Store.{NamedFile, content, Reads, IsPiece}
use Rattle.th_input.specs.Fetching.{IsFront, IsFrontSoFar, EndsAt}

-- a front of a list and the piece behind it
piece_more : (file bytes buf : List ℕ) (n : ℕ) → bytes ≡ take (length bytes) file → IsPiece file (length bytes) buf n → bytes ++ take n buf ≡ take (length (bytes ++ take n buf)) file
piece_more file bytes buf n front piece =
    let len : length (bytes ++ take n buf) ≡ length bytes + n = grind (arith, common_steps, piece.within) in
    rw (len, take-add (length bytes) n file, piece.piece, ← front) refl

-- the same where the list may not be there
piece_more_if : (file : Option (List ℕ)) (bytes buf : List ℕ) (n : ℕ) → IfSome file (λ f. bytes ≡ take (length bytes) f) → IfSome file (λ f. IsPiece f (length bytes) buf n) → IfSome file (λ f. bytes ++ take n buf ≡ take (length (bytes ++ take n buf)) f)
piece_more_if None bytes buf n front piece = tt
piece_more_if (Some file) bytes buf n front piece = piece_more file bytes buf n front piece

-- a front and the piece behind it are a front
pub front-piece : (told : Option (List NamedFile)) (name bytes buf : List ℕ) (at n : ℕ) → at ≡ length bytes → IsFrontSoFar told name bytes → Reads told name at buf n → IsFrontSoFar told name (bytes ++ take n buf)
front-piece None name bytes buf at n is front reads = tt
front-piece (Some files) name bytes buf at n is front reads =
    let piece : Reads (Some files) name (length bytes) buf n = rw is at reads in
    piece_more_if (content files name) bytes buf n front piece.0

-- a front that is as long as is read at most
full_if : (file : Option (List ℕ)) (bytes : List ℕ) → length bytes ≡ 16777217 → IfSome file (λ f. bytes ≡ take (length bytes) f) → IfSome file (λ f. bytes ≡ take 16777217 f)
full_if None bytes len front = tt
full_if (Some file) bytes len front = rw len at front

pub front_full : (told : Option (List NamedFile)) (name bytes : List ℕ) → length bytes ≡ 16777217 → IsFrontSoFar told name bytes → IsFront told name bytes
front_full None name bytes len front = tt
front_full (Some files) name bytes len front = full_if (content files name) bytes len front

-- a front that is the whole file
whole_if : (file : Option (List ℕ)) (bytes : List ℕ) → length bytes ≤ 16777217 → IfSome file (λ f. bytes ≡ take (length bytes) f) → IfSome file (λ f. length f ≤ length bytes) → IfSome file (λ f. bytes ≡ take 16777217 f)
whole_if None bytes len front end = tt
whole_if (Some file) bytes len front end =
    let short : length file ≤ 16777217 = omega arith in
    front ∙ (take_all (length bytes) file end ∙ sym (take_all 16777217 file short))

pub front_whole : (told : Option (List NamedFile)) (name bytes : List ℕ) (n : ℕ) → n ≡ length bytes → n ≤ 16777217 → IsFrontSoFar told name bytes → EndsAt told name n → IsFront told name bytes
front_whole None name bytes n is len front end = tt
front_whole (Some files) name bytes n is len front end =
    let ends : EndsAt (Some files) name (length bytes) = rw is at end in
    whole_if (content files name) bytes (omega arith) front ends

-- A number is read as the run of its bytes is.
use Rattle.std.proofs.Common.{◌≡◌, ℕ, ◌+◌, Bool, true, false, cond, ltb, List, [], ◌∷◌, length, take, drop, get_or, Result, Ok, Err, refl, ap, arith}
use Rattle.th_syntax.specs.declared.cause.TheConstants as cause
use Rattle.byteorder.specs.Endian.{big_number}
use Rattle.th_syntax.specs.declared.refusal.Flaw.{Flaw}
use Rattle.th_syntax.specs.Forms.{Placed, Found, read, number_of}
use Rattle.th_syntax.specs.ClassBytes.{run, number}

-- a step that was made under a test, and the same test before another step
same_test : {A : Type 0} (b : Bool) (d : Flaw) (x y : A) → cond b (Err d) (Ok x) ≡ (let r : Result A Flaw = Ok y in r) → ((b ≡ false) × (x ≡ y))
same_test true d x y e = absurd cc
same_test false d x y e = (refl, cc)

pub number_read : (n at : ℕ) (bytes : List ℕ) (x : Placed (List ℕ)) (behind : ℕ) (others : List ℕ) → read (run n) at bytes ≡ Ok (x, behind, others) → read (number n) at bytes ≡ Ok (record { at = at; value = number_of x.value }, behind, others)
unfolding read run number
number_read n at bytes x behind others e =
    let found : Found (Placed (List ℕ)) = (record { at = at; value = take n bytes }, at + n, drop n bytes) in
    let t = same_test (ltb (length bytes) n) (record { number = cause.TRUNCATED; offset = at }) found (x, behind, others) e in
    let same : (let f : Found (Placed ℕ) = (record { at = at; value = number_of (take n bytes) }, at + n, drop n bytes) in f) ≡ (record { at = at; value = number_of x.value }, behind, others) =
    ap (λ (f : Found (Placed (List ℕ))). let g : Found (Placed ℕ) = (record { at = at; value = number_of f.0.value }, f.1, f.2) in g) t.1 in
    rw t.0 (ap (λ (f : Found (Placed ℕ)). let r : Result (Found (Placed ℕ)) Flaw = Ok f in r) same)

err_test : {A B : Type 0} (b : Bool) (d flaw : Flaw) (x : A) (y : B) → cond b (Err d) (Ok x) ≡ (let r : Result A Flaw = Err flaw in r) → cond b (Err d) (Ok y) ≡ (let r : Result B Flaw = Err flaw in r)
err_test {B = B} true d flaw x y e = let same : d ≡ flaw = cc in ap (λ (f : Flaw). let r : Result B Flaw = Err f in r) same
err_test false d flaw x y e = absurd cc

pub number_stops : (n at : ℕ) (bytes : List ℕ) (flaw : Flaw) → read (run n) at bytes ≡ Err flaw → read (number n) at bytes ≡ Err flaw
unfolding read run number
number_stops n at bytes flaw e =
    let found : Found (Placed (List ℕ)) = (record { at = at; value = take n bytes }, at + n, drop n bytes) in
    let other : Found (Placed ℕ) = (record { at = at; value = number_of (take n bytes) }, at + n, drop n bytes) in
    err_test (ltb (length bytes) n) (record { number = cause.TRUNCATED; offset = at }) flaw found other e

-- ---- a number as byteorder reads it

pub one_byte : (bytes : List ℕ) (i : ℕ) → length bytes ≡ 1 → i ≡ 0 → number_of bytes ≡ get_or bytes i 0
one_byte [] i len z = absurd (let h : ⊥ = omega arith in h)
one_byte (a ∷ []) i len z = rw z (omega arith)
one_byte (a ∷ b ∷ bytes) i len z = absurd (let h : ⊥ = omega arith in h)

pub two_bytes : (bytes : List ℕ) → length bytes ≡ 2 → number_of bytes ≡ big_number 2 bytes
two_bytes [] len = absurd (let h : ⊥ = omega arith in h)
two_bytes (a ∷ []) len = absurd (let h : ⊥ = omega arith in h)
two_bytes (a ∷ b ∷ []) len = omega arith
two_bytes (a ∷ b ∷ c ∷ bytes) len = absurd (let h : ⊥ = omega arith in h)

pub four_bytes : (bytes : List ℕ) → length bytes ≡ 4 → number_of bytes ≡ big_number 4 bytes
four_bytes [] len = absurd (let h : ⊥ = omega arith in h)
four_bytes (a ∷ []) len = absurd (let h : ⊥ = omega arith in h)
four_bytes (a ∷ b ∷ []) len = absurd (let h : ⊥ = omega arith in h)
four_bytes (a ∷ b ∷ c ∷ []) len = absurd (let h : ⊥ = omega arith in h)
four_bytes (a ∷ b ∷ c ∷ d ∷ []) len = omega arith
four_bytes (a ∷ b ∷ c ∷ d ∷ e ∷ bytes) len = absurd (let h : ⊥ = omega arith in h)

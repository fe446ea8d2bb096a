-- What the pool gives, and the instruction that it makes.
use Rattle.std.proofs.Common.{◌≡◌, ℕ, List, [], ◌∷◌, Result, Ok, Err, ap}
use Rattle.std.specs.Prelude.{Option, Some, None}
use Rattle.th_syntax.specs.declared.cause.TheConstants as cause
use Rattle.th_syntax.specs.declared.instr.Instr.{Instr}
use Rattle.th_syntax.specs.Forms.{Found, read}
use Rattle.th_syntax.specs.CodeBytes.{checked, given}
use Rattle.th_code.specs.Judged.{judged, least_of, by_number, named}

fine : {A : Type 0} (make : A → Instr) (x y : A) (numbers : List ℕ) (at : ℕ) (bytes : List ℕ) → by_number x (least_of numbers) ≡ Ok y → judged (checked (make x) numbers) at bytes ≡ Ok (make y, at, bytes)
unfolding judged read
fine make x y [] at bytes e = let same : x ≡ y = cc in ap (λ (z : _). (let r : Result (Found Instr) ℕ = Ok (make z, at, bytes) in r)) same
fine make x y (n ∷ numbers) at bytes e = absurd cc

flawed_by : {A : Type 0} (make : A → Instr) (x : A) (n : ℕ) (numbers : List ℕ) (at : ℕ) (bytes : List ℕ) → by_number x (least_of numbers) ≡ Err n → judged (checked (make x) numbers) at bytes ≡ Err n
unfolding judged read
flawed_by make x n [] at bytes e = absurd cc
flawed_by make x n (m ∷ numbers) at bytes e = let same : _ ≡ n = cc in ap (λ (k : ℕ). (let r : Result (Found Instr) ℕ = Err k in r)) same

pub given_ok : {A : Type 0} (numbers : A → List ℕ) (o : Option A) (make : A → Instr) (x : A) (at : ℕ) (bytes : List ℕ) → named numbers o ≡ Ok x → judged (given cause.CODE_SHAPE o (λ y. checked (make y) (numbers y))) at bytes ≡ Ok (make x, at, bytes)
given_ok numbers None make x at bytes e = absurd cc
given_ok numbers (Some y) make x at bytes e = fine make y x (numbers y) at bytes e

pub given_err : {A : Type 0} (numbers : A → List ℕ) (o : Option A) (make : A → Instr) (n at : ℕ) (bytes : List ℕ) → named numbers o ≡ Err n → judged (given cause.CODE_SHAPE o (λ y. checked (make y) (numbers y))) at bytes ≡ Err n
unfolding judged read
given_err {A = A} numbers None make n at bytes e = let same : cause.CODE_SHAPE ≡ n = cc in ap (λ (k : ℕ). (let r : Result (Found Instr) ℕ = Err k in r)) same
given_err numbers (Some y) make n at bytes e = flawed_by make y n (numbers y) at bytes e

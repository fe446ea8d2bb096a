-- A count and so many items, one after the other, as a loop reads them.
use Rattle.std.proofs.Common.{◌≡◌, ℕ, suc, ◌-◌, ◌+◌, ◌^◌, ◌≤◌, ◌<◌, length, List, [], ◌∷◌, ◌++◌, Result, Ok, Err, refl, sym, ap, ◌∙◌, append_assoc, arith}
use Rattle.std.proofs.lemmas.List.{append-nil}
use Rattle.th_base.specs.declared.fail.Fail.{Fail}
use Rattle.th_base.specs.declared.fail.Fail.TheVariants.{Refused, NoMemory}
use Rattle.th_syntax.specs.declared.refusal.Flaw.{Flaw}
use Rattle.th_syntax.specs.Forms.{Form, whole, ◌>>=◌, Placed, Found, read}
use Rattle.th_syntax.specs.ClassBytes.{u2, run, times, counted}
use Rattle.th_syntax.proofs.ReadingParts.{read_after, read_stops, read_whole, run_place}
use Rattle.th_pool.specs.Gives.{Answers}
use Rattle.th_reader.proofs.Stopping.{Stops}

-- what was read before, in front of what is read
abbrev pub in_front : {A : Type 0} → List A → Result (Found (List A)) Flaw → Result (Found (List A)) Flaw
in_front front (Ok found) = Ok (front ++ found.0, found.1, found.2)
in_front front (Err flaw) = Err flaw

-- what is read in front of others
abbrev others_of : {A : Type 0} → ℕ → Form A → A → Form (List A)
others_of n form first = times n form >>= λ others. whole (first ∷ others)

cons_read : {A : Type 0} (form : Form A) (front : List A) (x : A) (n at : ℕ) (bytes : List ℕ) (r : Result (Found (List A)) Flaw) → read (times n form) at bytes ≡ r
    → in_front front (read (others_of n form x) at bytes) ≡ in_front (front ++ x ∷ []) r
cons_read {A = A} form front x n at bytes (Ok found) e =
    ap (in_front front) (read_after (times n form) (λ others. whole (x ∷ others)) at bytes found e ∙ read_whole (x ∷ found.0) found.1 found.2)
    ∙ ap (λ (xs : List A). let r : Result (Found (List A)) Flaw = Ok (xs, found.1, found.2) in r) (sym (append_assoc front (x ∷ []) found.0))
cons_read form front x n at bytes (Err flaw) e = ap (in_front front) (read_stops (times n form) (λ others. whole (x ∷ others)) at bytes flaw e)

-- so many are left
left_is : (count i : ℕ) → i < count → count - i ≡ suc (count - (i + 1))
left_is count i lt = omega arith

-- one more item was read
pub goes_on : {A : Type 0} (form : Form A) (front : List A) (count i at : ℕ) (bytes : List ℕ) (x : A) (b : ℕ) (u : List ℕ) (total : Result (Found (List A)) Flaw) → i < count → read form at bytes ≡ Ok (x, b, u)
    → in_front front (read (times (count - i) form) at bytes) ≡ total → in_front (front ++ x ∷ []) (read (times (count - (i + 1)) form) b u) ≡ total
unfolding times
goes_on {A = A} form front count i at bytes x b u total lt e so_far =
    let one : read (times (suc (count - (i + 1))) form) at bytes ≡ read (others_of (count - (i + 1)) form x) b u = read_after form (others_of (count - (i + 1)) form) at bytes (x, b, u) e in
    let here : in_front front (read (times (count - i) form) at bytes) ≡ in_front (front ++ x ∷ []) (read (times (count - (i + 1)) form) b u) =
    ap (λ (k : ℕ). in_front front (read (times k form) at bytes)) (left_is count i lt) ∙ ap (in_front front) one ∙ cons_read form front x (count - (i + 1)) b u (read (times (count - (i + 1)) form) b u) refl in
    sym here ∙ so_far

-- an item is wrong
pub ends : {A : Type 0} (form : Form A) (front : List A) (count i at : ℕ) (bytes : List ℕ) (flaw : Flaw) (total : Result (Found (List A)) Flaw) → i < count → read form at bytes ≡ Err flaw
    → in_front front (read (times (count - i) form) at bytes) ≡ total → total ≡ Err flaw
unfolding times
ends form front count i at bytes flaw total lt e so_far =
    sym so_far ∙ ap (λ (k : ℕ). in_front front (read (times k form) at bytes)) (left_is count i lt) ∙ ap (in_front front) (read_stops form (others_of (count - (i + 1)) form) at bytes flaw e)

-- an item is wrong, or memory ran out
pub ends_so : {X A : Type 0} (view : X → Found A) (form : Form A) (fail : Fail Flaw) (front : List A) (count i at : ℕ) (bytes : List ℕ) (total : Result (Found (List A)) Flaw) → i < count
    → Answers {X = X} view (Err fail) (read form at bytes) → in_front front (read (times (count - i) form) at bytes) ≡ total → Stops fail total
ends_so view form (Refused flaw) front count i at bytes total lt e so_far = ends form front count i at bytes flaw total lt e so_far
ends_so view form NoMemory front count i at bytes total lt e so_far = tt

-- all items were read
pub is_done : {A : Type 0} (form : Form A) (front : List A) (count i at : ℕ) (bytes : List ℕ) (total : Result (Found (List A)) Flaw) → count ≤ i → in_front front (read (times (count - i) form) at bytes) ≡ total → total ≡ Ok (front, at, bytes)
unfolding times
is_done {A = A} form front count i at bytes total le so_far =
    let none : count - i ≡ 0 = omega arith in
    sym so_far ∙ ap (λ (k : ℕ). in_front front (read (times k form) at bytes)) none ∙ ap (in_front front) (read_whole [] at bytes)
    ∙ ap (λ (xs : List A). let r : Result (Found (List A)) Flaw = Ok (xs, at, bytes) in r) (append-nil front)

nothing_front : {A : Type 0} (r : Result (Found (List A)) Flaw) → in_front [] r ≡ r
nothing_front (Ok found) = refl
nothing_front (Err flaw) = refl

-- the count was read, and no item yet
pub begins : {A : Type 0} (form : Form A) (place count at b : ℕ) (bytes u : List ℕ) → read u2 at bytes ≡ Ok (record { at = place; value = count }, b, u) → in_front [] (read (times (count - 0) form) b u) ≡ read (counted form) at bytes
unfolding counted
begins form place count at b bytes u e =
    let all : count - 0 ≡ count = omega arith in
    nothing_front (read (times (count - 0) form) b u) ∙ ap (λ (k : ℕ). read (times k form) b u) all
    ∙ sym (read_after u2 (λ (n : Placed ℕ). times n.value form) at bytes (record { at = place; value = count }, b, u) e)

-- there is no count
pub no_count : {A : Type 0} (form : Form A) (at : ℕ) (bytes : List ℕ) (flaw : Flaw) → read u2 at bytes ≡ Err flaw → read (counted form) at bytes ≡ Err flaw
unfolding counted
no_count form at bytes flaw e = read_stops u2 (λ (n : Placed ℕ). times n.value form) at bytes flaw e

-- a run of bytes ends where the reading goes on, so it lies within the file
pub part_fits : (at n b : ℕ) (bytes run_bytes u : List ℕ) → b + length u < 2 ^ 32 → read (run n) at bytes ≡ Ok (record { at = at; value = run_bytes }, b, u) → at + length run_bytes < 2 ^ 32
part_fits at n b bytes run_bytes u fits e =
    let end : at + length run_bytes ≡ b = (run_place n at bytes (record { at = at; value = run_bytes }, b, u) e).1 in
    omega arith

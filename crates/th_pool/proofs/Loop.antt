-- Reading what indices lead to, one after the other, as a loop does.
use Rattle.std.proofs.Common.{◌≡◌, ◌≢◌, ℕ, suc, ◌-◌, Bool, true, false, None, arith, List, [], ◌∷◌, ◌++◌, Result, Ok, Err, refl, sym, ap, ◌∙◌, append_assoc}
use Rattle.std.specs.Prelude.{Option, nat_lt}
use Rattle.std.proofs.lemmas.Bool.{lt-ltb}
use Rattle.std.proofs.lemmas.List.{append-nil}
use Rattle.th_syntax.specs.declared.cause.TheConstants as cause
use Rattle.th_syntax.specs.declared.refusal.Flaw.{Flaw}
use Rattle.th_syntax.specs.Forms.{Form, whole, ◌>>=◌, Placed, Found, read}
use Rattle.th_syntax.specs.ClassBytes.{Entry, Pool, slot, slots, takes_two, u2, demand, pool}
use Rattle.th_syntax.proofs.ReadingParts.{read_after, read_stops, read_whole, read_demand, read_refusal}
use Rattle.th_pool.specs.Gives.{with_front}

abbrev pub Slot : Type 0
Slot = Option (Placed Entry)

-- the indices behind the first one
abbrev pub rest_of : ℕ → Slot → Form Pool
rest_of left first = slots (takes_two first) left >>= λ others. whole (first ∷ others)

-- one more in front of those that follow
abbrev cons_front : Slot → Result (Found Pool) Flaw → Result (Found Pool) Flaw
cons_front x (Ok found) = Ok (x ∷ found.0, found.1, found.2)
cons_front x (Err flaw) = Err flaw

cons_read : (x : Slot) (left at : ℕ) (bytes : List ℕ) (r : Result (Found Pool) Flaw) → read (slots (takes_two x) left) at bytes ≡ r → read (rest_of left x) at bytes ≡ cons_front x r
cons_read x left at bytes (Ok found) e = read_after (slots (takes_two x) left) (λ others. whole (x ∷ others)) at bytes found e ∙ read_whole (x ∷ found.0) found.1 found.2
cons_read x left at bytes (Err flaw) e = read_stops (slots (takes_two x) left) (λ others. whole (x ∷ others)) at bytes flaw e

regroup : (front : Pool) (x : Slot) (r : Result (Found Pool) Flaw) → with_front front (cons_front x r) ≡ with_front (front ++ x ∷ []) r
regroup front x (Ok found) = ap (λ (xs : Pool). let r : Result (Found Pool) Flaw = Ok (xs, found.1, found.2) in r) (sym (append_assoc front (x ∷ []) found.0))
regroup front x (Err flaw) = refl

pub goes_on : (front : Pool) (second : Bool) (left at : ℕ) (bytes : List ℕ) (x : Slot) (b : ℕ) (u : List ℕ) (total : Result (Found Pool) Flaw) → read (slot second left) at bytes ≡ Ok (x, b, u) → with_front front (read (slots second (suc left)) at bytes) ≡ total → with_front (front ++ x ∷ []) (read (slots (takes_two x) left) b u) ≡ total
unfolding slots
goes_on front second left at bytes x b u total e so_far =
    let one : read (slots second (suc left)) at bytes ≡ cons_front x (read (slots (takes_two x) left) b u) = read_after (slot second left) (rest_of left) at bytes (x, b, u) e ∙ cons_read x left b u (read (slots (takes_two x) left) b u) refl in
    sym (ap (with_front front) one ∙ regroup front x (read (slots (takes_two x) left) b u)) ∙ so_far

pub ends : (front : Pool) (second : Bool) (left at : ℕ) (bytes : List ℕ) (flaw : Flaw) (total : Result (Found Pool) Flaw) → read (slot second left) at bytes ≡ Err flaw → with_front front (read (slots second (suc left)) at bytes) ≡ total → total ≡ Err flaw
unfolding slots
ends front second left at bytes flaw total e so_far = sym so_far ∙ ap (with_front front) (read_stops (slot second left) (rest_of left) at bytes flaw e)

pub is_done : (front : Pool) (second : Bool) (at : ℕ) (bytes : List ℕ) (total : Result (Found Pool) Flaw) → with_front front (read (slots second 0) at bytes) ≡ total → total ≡ Ok (front, at, bytes)
unfolding slots
is_done front second at bytes total so_far =
    sym so_far ∙ ap (with_front front) (read_whole [] at bytes) ∙ ap (λ (xs : Pool). let r : Result (Found Pool) Flaw = Ok (xs, at, bytes) in r) (append-nil front)

-- ---- the whole pool

abbrev pub behind_count : Placed ℕ → Form Pool
behind_count count = slots false (count.value - 1) >>= λ others. whole (None ∷ others)

abbrev pub counted : Placed ℕ → Form Pool
counted count = demand (nat_lt 0 count.value) count.at cause.POOL >>= λ counts. behind_count count

pub pool_stops : (at : ℕ) (bytes : List ℕ) (flaw : Flaw) → read u2 at bytes ≡ Err flaw → read pool at bytes ≡ Err flaw
unfolding pool
pool_stops at bytes flaw e = read_stops u2 counted at bytes flaw e

pub pool_empty : (at place count : ℕ) (bytes : List ℕ) (b : ℕ) (u : List ℕ) → read u2 at bytes ≡ Ok (record { at = place; value = count }, b, u) → count ≡ 0 → read pool at bytes ≡ Err (record { number = cause.POOL; offset = place })
unfolding pool
pool_empty at place count bytes b u first none =
    let one : Placed ℕ = record { at = place; value = count } in
    let fails : nat_lt 0 count ≡ false = rw none refl in
    read_after u2 counted at bytes (one, b, u) first ∙ read_refusal (nat_lt 0 count) place cause.POOL (λ counts. behind_count one) b u fails

none_front : (r : Result (Found Pool) Flaw) (left at : ℕ) (bytes : List ℕ) → read (slots false left) at bytes ≡ r → read (slots false left >>= λ others. whole (None ∷ others)) at bytes ≡ with_front (None ∷ []) r
none_front (Ok found) left at bytes e = read_after (slots false left) (λ others. whole (None ∷ others)) at bytes found e ∙ read_whole (None ∷ found.0) found.1 found.2
none_front (Err flaw) left at bytes e = read_stops (slots false left) (λ others. whole (None ∷ others)) at bytes flaw e

pub pool_is : (at place count : ℕ) (bytes : List ℕ) (b : ℕ) (u : List ℕ) → read u2 at bytes ≡ Ok (record { at = place; value = count }, b, u) → count ≢ 0 → read pool at bytes ≡ with_front (None ∷ []) (read (slots false (count - 1)) b u)
unfolding pool
pool_is at place count bytes b u first some =
    let one : Placed ℕ = record { at = place; value = count } in
    let holds : nat_lt 0 count ≡ true = lt-ltb _ _ (omega arith) in
    read_after u2 counted at bytes (one, b, u) first ∙ read_demand (nat_lt 0 count) place cause.POOL (λ counts. behind_count one) b u holds
    ∙ none_front (read (slots false (count - 1)) b u) (count - 1) b u refl

pub ruleset pools = (pool_stops, pool_empty, pool_is)

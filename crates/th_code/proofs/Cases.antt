-- The cases of a switch are read one after the other.
use Rattle.std.proofs.Common.{◌≡◌, ℕ, zero, suc, ◌&&◌, Bool, List, [], ◌∷◌, ◌++◌, map, Result, Ok, Err, refl, sym, ap, ◌∙◌, append_assoc}
use Rattle.std.specs.Prelude.{ℤ, Some, None, int_lt}
use Rattle.std.specs.Int.{w32, cast_signed}
use Rattle.std.proofs.lemmas.List.{append-nil}
use Rattle.th_syntax.specs.Forms.{Form, whole, ◌>>=◌, Placed, Found}
use Rattle.th_syntax.specs.ClassBytes.{u4, times}
use Rattle.th_syntax.specs.CodeBytes.{i4, match_pair, keys_ascend_from, keys_ascend}
use Rattle.th_base.specs.declared.fail.Fail.{Fail}
use Rattle.th_base.specs.declared.fail.Fail.TheVariants.{Refused, NoMemory}
use Rattle.th_code.specs.Judged.{operand, Takes}
use Rattle.th_code.specs.Switches.{led_to, mapped, with_front, rising_after}
use Rattle.th_code.proofs.Operands.{operand_after, operand_stops, operand_whole}

-- ---- a number, and a pair

pub int_read : (at : ℕ) (bytes : List ℕ) (p x b : ℕ) (u : List ℕ) → operand u4 at bytes ≡ Ok (record { at = p; value = x }, b, u) → operand i4 at bytes ≡ Ok (cast_signed w32 x, b, u)
int_read at bytes p x b u e =
    operand_after u4 (λ (number : Placed ℕ). whole (cast_signed w32 number.value)) at bytes (record { at = p; value = x }, b, u) e ∙ operand_whole (cast_signed w32 x) b u

pub int_stops : (at : ℕ) (bytes : List ℕ) (n : ℕ) → operand u4 at bytes ≡ Err n → operand i4 at bytes ≡ Err n
int_stops at bytes n e = operand_stops u4 (λ (number : Placed ℕ). whole (cast_signed w32 number.value)) at bytes n e

pub ruleset signed = (int_read, int_stops)

pub pair_read : (at : ℕ) (bytes : List ℕ) (key : ℤ) (b : ℕ) (u : List ℕ) (by : ℤ) (c : ℕ) (v : List ℕ) → operand i4 at bytes ≡ Ok (key, b, u) → operand i4 b u ≡ Ok (by, c, v) → operand match_pair at bytes ≡ Ok ((key, by), c, v)
pair_read at bytes key b u by c v e f =
    operand_after i4 (λ (key : ℤ). i4 >>= λ (by : ℤ). whole (key, by)) at bytes (key, b, u) e
    ∙ operand_after i4 (λ (by : ℤ). whole (key, by)) b u (by, c, v) f ∙ operand_whole (key, by) c v

pub pair_stops : (at : ℕ) (bytes : List ℕ) (n : ℕ) → operand i4 at bytes ≡ Err n → operand match_pair at bytes ≡ Err n
pair_stops at bytes n e = operand_stops i4 (λ (key : ℤ). i4 >>= λ (by : ℤ). whole (key, by)) at bytes n e

pub pair_stops_later : (at : ℕ) (bytes : List ℕ) (key : ℤ) (b : ℕ) (u : List ℕ) (n : ℕ) → operand i4 at bytes ≡ Ok (key, b, u) → operand i4 b u ≡ Err n → operand match_pair at bytes ≡ Err n
pair_stops_later at bytes key b u n e f =
    operand_after i4 (λ (key : ℤ). i4 >>= λ (by : ℤ). whole (key, by)) at bytes (key, b, u) e ∙ operand_stops i4 (λ (by : ℤ). whole (key, by)) b u n f

pub ruleset pairs = (pair_read, pair_stops, pair_stops_later)

-- ---- several of one kind

behind_first : {A : Type 0} → A → Form (List A) → Form (List A)
behind_first x others = others >>= λ more. whole (x ∷ more)

step : {A B : Type 0} (f : A → B) (front : List B) (x : A) (others : Form (List A)) (b : ℕ) (u : List ℕ) (r : Result (Found (List A)) ℕ) → operand others b u ≡ r → with_front front (mapped (map f) (operand (behind_first x others) b u)) ≡ with_front (front ++ f x ∷ []) (mapped (map f) r)
unfolding behind_first
step {A = A} {B = B} f front x others b u (Ok found) e =
    let made : operand (others >>= λ more. whole (x ∷ more)) b u ≡ Ok (x ∷ found.0, found.1, found.2) = operand_after others (λ more. whole (x ∷ more)) b u found e ∙ operand_whole (x ∷ found.0) found.1 found.2 in
    let same : (front ++ (f x ∷ map f found.0)) ≡ ((front ++ f x ∷ []) ++ map f found.0) = sym (append_assoc front (f x ∷ []) (map f found.0)) in
    ap (λ (r : Result (Found (List A)) ℕ). with_front front (mapped (map f) r)) made ∙ ap (λ (xs : List B). (let r : Result (Found (List B)) ℕ = Ok (xs, found.1, found.2) in r)) same
step {A = A} f front x others b u (Err n) e =
    ap (λ (r : Result (Found (List A)) ℕ). with_front front (mapped (map f) r)) (operand_stops others (λ more. whole (x ∷ more)) b u n e)

pub goes_on : {A B : Type 0} (form : Form A) (f : A → B) (front : List B) (left at : ℕ) (bytes : List ℕ) (x : A) (b : ℕ) (u : List ℕ) → operand form at bytes ≡ Ok (x, b, u)
    → with_front front (mapped (map f) (operand (times (suc left) form) at bytes)) ≡ with_front (front ++ f x ∷ []) (mapped (map f) (operand (times left form) b u))
unfolding times behind_first
goes_on {A = A} form f front left at bytes x b u e =
    ap (λ (r : Result (Found (List A)) ℕ). with_front front (mapped (map f) r)) (operand_after form (λ (first : A). behind_first first (times left form)) at bytes (x, b, u) e)
    ∙ step f front x (times left form) b u (operand (times left form) b u) refl

pub ends : {A B : Type 0} (form : Form A) (f : A → B) (front : List B) (left at : ℕ) (bytes : List ℕ) (n : ℕ) → operand form at bytes ≡ Err n → with_front front (mapped (map f) (operand (times (suc left) form) at bytes)) ≡ Err n
unfolding times behind_first
ends {A = A} form f front left at bytes n e = ap (λ (r : Result (Found (List A)) ℕ). with_front front (mapped (map f) r)) (operand_stops form (λ (first : A). behind_first first (times left form)) at bytes n e)

pub ends_so : {A B X Y : Type 0} (form : Form A) (f : A → B) (front : List B) (left at : ℕ) (bytes : List ℕ) (fail : Fail ℕ) (total : Result (Found (List B)) ℕ) (view : X → A) (seen : Y → List B)
    → Takes view (Err fail) (operand form at bytes) → with_front front (mapped (map f) (operand (times (suc left) form) at bytes)) ≡ total → Takes seen (Err fail) total
ends_so form f front left at bytes (Refused n) total view seen e so_far = sym so_far ∙ ends form f front left at bytes n e
ends_so form f front left at bytes NoMemory total view seen e so_far = tt

pub is_done : {A B : Type 0} (form : Form A) (f : A → B) (front : List B) (at : ℕ) (bytes : List ℕ) → with_front front (mapped (map f) (operand (times zero form) at bytes)) ≡ Ok (front, at, bytes)
unfolding times
is_done {A = A} {B = B} form f front at bytes =
    ap (λ (r : Result (Found (List A)) ℕ). with_front front (mapped (map f) r)) (operand_whole [] at bytes) ∙ ap (λ (xs : List B). (let r : Result (Found (List B)) ℕ = Ok (xs, at, bytes) in r)) (append-nil front)

-- ---- ascending keys

rising_from : (pc : ℕ) (key : ℤ) (raw : List (ℤ × ℤ)) → keys_ascend_from key raw ≡ rising_after (Some key) (map (led_to pc) raw)
rising_from pc key [] = refl
rising_from pc key (pair ∷ raw) = ap (λ (b : Bool). int_lt key pair.0 && b) (rising_from pc pair.0 raw)

pub rising : (pc : ℕ) (raw : List (ℤ × ℤ)) → keys_ascend raw ≡ rising_after None (map (led_to pc) raw)
rising pc [] = refl
rising pc (pair ∷ raw) = rising_from pc pair.0 raw

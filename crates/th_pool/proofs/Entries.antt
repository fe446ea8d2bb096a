-- An entry, and what an index leads to, are read part by part.
use Rattle.std.proofs.Common.{◌≡◌, ℕ, Bool, true, false, not, ◌&&◌, List, Ok, Err, refl, ◌∙◌}
use Rattle.std.specs.Prelude.{Option, Some, None, ◌==◌}
use Rattle.th_syntax.specs.declared.cause.TheConstants as cause
use Rattle.th_syntax.specs.declared.refusal.Flaw.{Flaw}
use Rattle.th_syntax.specs.Forms.{Form, whole, ◌>>=◌, Placed, read}
use Rattle.th_syntax.specs.ClassBytes.{Entry, demand, u1, is_tag, is_wide, content, entry, slot}
use Rattle.th_syntax.proofs.ReadingParts.{read_after, read_stops, read_whole, read_demand, read_refusal}

-- whether an entry of this tag may stand before so many indices
abbrev pub allows : ℕ → ℕ → Bool
allows left tag = is_tag tag && not (is_wide tag && left == 0)

-- what stands behind an allowed tag
abbrev pub with_tag : Placed ℕ → Form (Placed Entry)
with_tag tag = content tag.value >>= λ value. whole (record { at = tag.at; value = value })

abbrev pub behind_tag : ℕ → Placed ℕ → Form (Placed Entry)
behind_tag left tag = demand (allows left tag.value) tag.at cause.POOL >>= λ known. with_tag tag

pub entry_stops : (left at : ℕ) (bytes : List ℕ) (flaw : Flaw) → read u1 at bytes ≡ Err flaw → read (entry left) at bytes ≡ Err flaw
unfolding entry
entry_stops left at bytes flaw e = read_stops u1 (behind_tag left) at bytes flaw e

pub entry_refused : (left at place tag : ℕ) (bytes : List ℕ) (b : ℕ) (u : List ℕ) → read u1 at bytes ≡ Ok (record { at = place; value = tag }, b, u) → allows left tag ≡ false → read (entry left) at bytes ≡ Err (record { number = cause.POOL; offset = place })
unfolding entry
entry_refused left at place tag bytes b u first fails =
    let one : Placed ℕ = record { at = place; value = tag } in
    read_after u1 (behind_tag left) at bytes (one, b, u) first ∙ read_refusal (allows left tag) place cause.POOL (λ known. with_tag one) b u fails

pub entry_read : (left at place tag : ℕ) (bytes : List ℕ) (b c : ℕ) (u v : List ℕ) (x : Entry) → read u1 at bytes ≡ Ok (record { at = place; value = tag }, b, u) → allows left tag ≡ true → read (content tag) b u ≡ Ok (x, c, v) → read (entry left) at bytes ≡ Ok (record { at = place; value = x }, c, v)
unfolding entry
entry_read left at place tag bytes b c u v x first holds second =
    let one : Placed ℕ = record { at = place; value = tag } in
    read_after u1 (behind_tag left) at bytes (one, b, u) first ∙ read_demand (allows left tag) place cause.POOL (λ known. with_tag one) b u holds
    ∙ read_after (content tag) (λ value. whole (record { at = place; value = value })) b u (x, c, v) second ∙ read_whole (record { at = place; value = x }) c v

pub entry_stops_later : (left at place tag : ℕ) (bytes : List ℕ) (b : ℕ) (u : List ℕ) (flaw : Flaw) → read u1 at bytes ≡ Ok (record { at = place; value = tag }, b, u) → allows left tag ≡ true → read (content tag) b u ≡ Err flaw → read (entry left) at bytes ≡ Err flaw
unfolding entry
entry_stops_later left at place tag bytes b u flaw first holds second =
    let one : Placed ℕ = record { at = place; value = tag } in
    read_after u1 (behind_tag left) at bytes (one, b, u) first ∙ read_demand (allows left tag) place cause.POOL (λ known. with_tag one) b u holds
    ∙ read_stops (content tag) (λ value. whole (record { at = place; value = value })) b u flaw second

-- an allowed tag is a tag
pub allows_tag : (left tag : ℕ) → allows left tag ≡ true → is_tag tag ≡ true
allows_tag left tag e = go (is_tag tag) (not (is_wide tag && left == 0)) e
  where
    go : (a b : Bool) → (a && b) ≡ true → a ≡ true
    go true b e = refl
    go false b e = e

pub slot_none : (left at : ℕ) (bytes : List ℕ) → read (slot true left) at bytes ≡ Ok (None, at, bytes)
unfolding slot
slot_none left at bytes = read_whole None at bytes

pub slot_read : (left at : ℕ) (bytes : List ℕ) (x : Placed Entry) (b : ℕ) (u : List ℕ) → read (entry left) at bytes ≡ Ok (x, b, u) → read (slot false left) at bytes ≡ Ok (Some x, b, u)
unfolding slot
slot_read left at bytes x b u e =
    let make = λ (y : Placed Entry). (let o : Option (Placed Entry) = Some y in o) in
    read_after (entry left) (λ y. whole (make y)) at bytes (x, b, u) e ∙ read_whole (make x) b u

pub slot_stops : (left at : ℕ) (bytes : List ℕ) (flaw : Flaw) → read (entry left) at bytes ≡ Err flaw → read (slot false left) at bytes ≡ Err flaw
unfolding slot
slot_stops left at bytes flaw e =
    let make = λ (y : Placed Entry). (let o : Option (Placed Entry) = Some y in o) in
    read_stops (entry left) (λ y. whole (make y)) at bytes flaw e

pub ruleset entries = (entry_stops, entry_refused, entry_read, entry_stops_later, allows_tag, slot_none, slot_read, slot_stops)

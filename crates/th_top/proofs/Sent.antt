-- What a sink holds as a text is written to it in pieces.
use Rattle.std.proofs.Common.{◌≡◌, ℕ, ◌+◌, ◌-◌, ◌<◌, List, length, take, drop, Option, None, Some, Ok, refl, ap, append_assoc, arith}
use Rattle.std.proofs.Math.Seq.{take-add}
use Rattle.std.proofs.lemmas.List.{take_rest}
use Rattle.std.proofs.lemmas.Grind.{common_steps}
use Rattle.th_outside.specs.Held.{Held, held_after, HasRoom}
use Rattle.th_outside.specs.declared.sink.Failed.{Failed}
use Rattle.th_top.specs.Writing.{with_text, HasRoomFor}

-- a piece of the rest of a text goes behind its front
pub held_after-piece : (old now : Option Held) (text : List ℕ) (sent n : ℕ) → now ≡ with_text old (take sent text) → held_after {E = Failed} now (take (length text - sent) (drop sent text)) (Ok n) ≡ with_text old (take (sent + n) text)
held_after-piece None now text sent n e = rw e refl
held_after-piece (Some held) now text sent n e =
    rw (e, take_rest text sent, take-add sent n text) (ap (λ (bs : List ℕ). Some (let h : Held = record { bytes = bs; end = held.end } in h)) (append_assoc held.bytes (take sent text) (take n (drop sent text))))

pub room_left : (old : Option Held) (text : List ℕ) (sent : ℕ) → HasRoomFor old text → sent < length text → HasRoom (with_text old (take sent text))
room_left None text sent room more = room
room_left (Some held) text sent room more = grind (arith, common_steps)

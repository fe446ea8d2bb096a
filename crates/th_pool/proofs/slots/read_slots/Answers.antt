use Rattle.std.proofs.Common.{◌≡◌, ◌∙◌, ℕ, suc, ◌-◌, arith, sym, ap}
use Rattle.std.proofs.lemmas.List.{map-append}
use Rattle.std.specs.Option.{option_map}
use Rattle.th_syntax.specs.Forms.{read}
use Rattle.th_syntax.specs.ClassBytes as file
use Rattle.th_pool.specs.Gives.{with_front}
use Rattle.th_pool.specs.PoolView.{placed_view, slots_view}
use Rattle.th_pool.proofs.Loop.{goes_on, ends, is_done}
use Rattle.th_pool.proofs.slots.read_slots.Goals as goal

pub returns-in-Err : goal.returns-in-Err
returns-in-Err c =
    let left : c.loop-left.left ≡ suc (c.loop-left.left - 1) = omega arith in
    ends (slots_view c.loop-left.slots.items) c.loop-left.second (c.loop-left.left - 1) c.loop-left.place.at c.loop-left.place.rest.now c.in-Err.flaw _ c.in-Err.ensures
    (ap (λ (k : ℕ). with_front (slots_view c.loop-left.slots.items) (read (file.slots c.loop-left.second k) c.loop-left.place.at c.loop-left.place.rest.now)) (sym left) ∙ c.loop-left.invariant)

pub loop-left-preserved : goal.loop-left-preserved
loop-left-preserved c =
    let left : c.loop-left.left ≡ suc (c.loop-left.left - 1) = omega arith in
    rw (c.in_ok-push.ensures.items, map-append, c.takes_two-second.ensures)
    (goes_on (slots_view c.loop-left.slots.items) c.loop-left.second (c.loop-left.left - 1) c.loop-left.place.at c.loop-left.place.rest.now (option_map placed_view c.in-Ok.found.0) c.in-Ok.found.1.at c.in-Ok.found.1.rest.now _ c.in-Ok.ensures
    (ap (λ (k : ℕ). with_front (slots_view c.loop-left.slots.items) (read (file.slots c.loop-left.second k) c.loop-left.place.at c.loop-left.place.rest.now)) (sym left) ∙ c.loop-left.invariant))

pub returns : goal.returns
returns c =
    let none : c.loop-left.left ≡ 0 = omega arith in
    is_done (slots_view c.loop-left.slots.items) c.loop-left.second c.loop-left.place.at c.loop-left.place.rest.now _
    (ap (λ (k : ℕ). with_front (slots_view c.loop-left.slots.items) (read (file.slots c.loop-left.second k) c.loop-left.place.at c.loop-left.place.rest.now)) (sym none) ∙ c.loop-left.invariant)

use Rattle.std.proofs.Common.{◌≡◌, ◌∙◌, ℕ, suc, ◌-◌, List, map, arith, sym, ap}
use Rattle.std.specs.Prelude.{ℤ}
use Rattle.th_syntax.specs.ClassBytes as file
use Rattle.th_syntax.specs.CodeBytes as spelling
use Rattle.th_code.specs.Judged.{operand}
use Rattle.th_code.specs.Switches.{as_pair, as_pairs, led_to, mapped, with_front, pairs_of}
use Rattle.th_code.proofs.Cases.{goes_on, ends_so, is_done}
use Rattle.th_code.proofs.switch.pairs.Goals as goal

pub returns-in-Err : goal.returns-in-Err
unfolding pairs_of
returns-in-Err c =
    let left : c.loop-left.left ≡ suc (c.loop-left.left - 1) = omega arith in
    ends_so {X = (ℤ × ℤ)} {Y = List (ℤ × ℕ)} spelling.match_pair (led_to c.args.pc) c.loop-left.pairs.items (c.loop-left.left - 1) c.loop-left.place.at c.loop-left.place.rest.now c.in-Err.fail _ as_pair as_pairs c.in-Err.ensures
    (ap (λ (k : ℕ). with_front c.loop-left.pairs.items (mapped (map (led_to c.args.pc)) (operand (file.times k spelling.match_pair) c.loop-left.place.at c.loop-left.place.rest.now))) (sym left) ∙ c.loop-left.invariant)

pub loop-left-preserved : goal.loop-left-preserved
loop-left-preserved c =
    let left : c.loop-left.left ≡ suc (c.loop-left.left - 1) = omega arith in
    rw (c.in_ok-push.ensures.items, c.led.ensures)
    (sym (goes_on spelling.match_pair (led_to c.args.pc) c.loop-left.pairs.items (c.loop-left.left - 1) c.loop-left.place.at c.loop-left.place.rest.now c.in-Ok.found.0 c.in-Ok.found.1.at c.in-Ok.found.1.rest.now c.in-Ok.ensures)
    ∙ ap (λ (k : ℕ). with_front c.loop-left.pairs.items (mapped (map (led_to c.args.pc)) (operand (file.times k spelling.match_pair) c.loop-left.place.at c.loop-left.place.rest.now))) (sym left) ∙ c.loop-left.invariant)

pub returns : goal.returns
unfolding pairs_of
returns c =
    let none : c.loop-left.left ≡ 0 = omega arith in
    rw c.from_vec.ensures
    (sym c.loop-left.invariant ∙ ap (λ (k : ℕ). with_front c.loop-left.pairs.items (mapped (map (led_to c.args.pc)) (operand (file.times k spelling.match_pair) c.loop-left.place.at c.loop-left.place.rest.now))) none ∙ is_done spelling.match_pair (led_to c.args.pc) c.loop-left.pairs.items c.loop-left.place.at c.loop-left.place.rest.now)

use Rattle.std.proofs.Common.{◌≡◌, ◌∙◌, ℕ, suc, ◌-◌, List, map, arith, rules, sym, ap, to_z, of_z, w32}
use Rattle.std.specs.Prelude.{ℤ}
use Rattle.th_syntax.specs.ClassBytes as file
use Rattle.th_syntax.specs.CodeBytes as spelling
use Rattle.th_code.specs.Judged.{operand}
use Rattle.th_code.specs.Switches.{as_int, as_targets, mapped, with_front, targets_of}
use Rattle.th_code.proofs.Cases.{goes_on, ends_so, is_done}
use Rattle.th_code.proofs.switch.targets.Goals as goal

pub returns-in-Err : goal.returns-in-Err
unfolding targets_of
returns-in-Err c =
    let left : c.loop-left.left ≡ suc (c.loop-left.left - 1) = omega arith in
    ends_so {X = ℤ} {Y = List ℕ} spelling.i4 (spelling.target c.args.pc) c.loop-left.targets.items (c.loop-left.left - 1) c.loop-left.place.at c.loop-left.place.rest.now c.in-Err.fail _ as_int as_targets c.in-Err.ensures
    (ap (λ (k : ℕ). with_front c.loop-left.targets.items (mapped (map (spelling.target c.args.pc)) (operand (file.times k spelling.i4) c.loop-left.place.at c.loop-left.place.rest.now))) (sym left) ∙ c.loop-left.invariant)

pub loop-left-preserved : goal.loop-left-preserved
loop-left-preserved c =
    let left : c.loop-left.left ≡ suc (c.loop-left.left - 1) = omega arith in
    let by : to_z w32 (of_z w32 c.in-Ok.found.0) ≡ c.in-Ok.found.0 = search rules in
    rw (c.in_ok-push.ensures.items, c.target-to.ensures, by)
    (sym (goes_on spelling.i4 (spelling.target c.args.pc) c.loop-left.targets.items (c.loop-left.left - 1) c.loop-left.place.at c.loop-left.place.rest.now c.in-Ok.found.0 c.in-Ok.found.1.at c.in-Ok.found.1.rest.now c.in-Ok.ensures)
    ∙ ap (λ (k : ℕ). with_front c.loop-left.targets.items (mapped (map (spelling.target c.args.pc)) (operand (file.times k spelling.i4) c.loop-left.place.at c.loop-left.place.rest.now))) (sym left) ∙ c.loop-left.invariant)

pub returns : goal.returns
unfolding targets_of
returns c =
    let none : c.loop-left.left ≡ 0 = omega arith in
    rw c.from_vec.ensures
    (sym c.loop-left.invariant ∙ ap (λ (k : ℕ). with_front c.loop-left.targets.items (mapped (map (spelling.target c.args.pc)) (operand (file.times k spelling.i4) c.loop-left.place.at c.loop-left.place.rest.now))) none ∙ is_done spelling.i4 (spelling.target c.args.pc) c.loop-left.targets.items c.loop-left.place.at c.loop-left.place.rest.now)

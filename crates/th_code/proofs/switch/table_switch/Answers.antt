use Rattle.std.proofs.Common.{◌≡◌, ◌∙◌, ℕ, true, ap, sym, rules, to_z, of_z, w32}
use Rattle.std.specs.Prelude.{ℤ, int_le}
use Rattle.th_syntax.specs.ClassBytes.{run, times}
use Rattle.th_syntax.specs.CodeBytes.{target, i4, count_between}
use Rattle.th_code.specs.Judged.{operand}
use Rattle.th_code.specs.Switches.{mapped, targets_of}
use Rattle.th_code.proofs.Switches.{table_read}
use Rattle.th_code.proofs.switch.table_switch.Goals as goal

pub returns : goal.returns
returns c =
    let low : to_z w32 (of_z w32 c.in_ok-low.low) ≡ c.in_ok-low.low = search rules in
    let high : to_z w32 (of_z w32 c.in_ok-high.high) ≡ c.in_ok-high.high = search rules in
    let by : to_z w32 (of_z w32 c.in_ok-by.by) ≡ c.in_ok-by.by = search rules in
    let ordered : int_le c.in_ok-low.low c.in_ok-high.high ≡ true = cc in
    let count : count_between c.in_ok-low.low c.in_ok-high.high ≡ c.count_between-count.result = cc in
    let skipped = ap (λ (k : ℕ). operand (run k) c.args.place.at c.args.place.rest.now) (sym c.padding.ensures) ∙ c.in_ok-place.ensures in
    let found = ap (λ (k : ℕ). mapped (targets_of c.args.pc) (operand (times k i4) c.in_ok-high.place.at c.in_ok-high.place.rest.now)) count ∙ c.in_ok-targets.ensures in
    let other : c.target-other.result ≡ target c.args.pc c.in_ok-by.by = c.target-other.ensures ∙ ap (λ (z : ℤ). target c.args.pc z) by in
    rw low
    (table_read c.args.pc c.args.place.at c.args.place.rest.now _ _ _ _ _ _ _ _ _ _ _ _ _ _ _ _ skipped c.in_ok-by.ensures c.in_ok-low.ensures c.in_ok-high.ensures ordered found other)

use Rattle.std.proofs.Common.{Bor, List, ℕ, [], arith, map, take, drop, get_or, ◌+◌}
use Rattle.th_input.proofs.Growing.{cut_at}
use Rattle.th_input.proofs.Lines.{bytes_within}
use Rattle.th_input.proofs.listing.names_on.Goals as goal

pub returns-in_default-clause-bad : goal.returns-in_default-clause-bad
returns-in_default-clause-bad c =
    let at = c.loop-line.line-index in
    let none : Bor (List ℕ) = record { ref_ptr = (0, 0); now = [] } in
    record {
      before = map (λ (n : Bor (List ℕ)). n.now) (take at c.args.lines.now);
      line = (get_or c.args.lines.now at none).now;
      behind = map (λ (n : Bor (List ℕ)). n.now) (drop (at + 1) c.args.lines.now);
      lines_are = cut_at (λ (n : Bor (List ℕ)). n.now) c.args.lines.now at none c.loop-line-test.true;
      good = c.loop-line.invariant.good;
      bad = c.in_default.ensures;
      begins = c.loop-line.invariant.begins;
    }

pub overflow_cast-at : goal.overflow_cast-at
overflow_cast-at c =
    let cut = cut_at (λ (n : Bor (List ℕ)). n.now) c.args.lines.now c.loop-line.line-index (record { ref_ptr = (0, 0); now = [] }) c.loop-line-test.true in
    let within = bytes_within _ _ _ _ cut in
    omega (arith, within, c.requires)

pub overflow_add-at : goal.overflow_add-at
overflow_add-at c =
    let cut = cut_at (λ (n : Bor (List ℕ)). n.now) c.args.lines.now c.loop-line.line-index (record { ref_ptr = (0, 0); now = [] }) c.loop-line-test.true in
    let within = bytes_within _ _ _ _ cut in
    omega (arith, within, c.requires)

pub overflow_add-at-in-loop-line : goal.overflow_add-at-in-loop-line
overflow_add-at-in-loop-line c =
    let cut = cut_at (λ (n : Bor (List ℕ)). n.now) c.args.lines.now c.loop-line.line-index (record { ref_ptr = (0, 0); now = [] }) c.loop-line-test.true in
    let within = bytes_within _ _ _ _ cut in
    omega (arith, within, c.requires, c.loop-line.invariant.begins)

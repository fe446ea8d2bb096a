use Rattle.std.proofs.Common.{◌≡◌, ◌+◌, ◌++◌, drop}
use Rattle.th_top.specs.RunText.{run_lines, run_text}
use Rattle.th_top.proofs.run_text.write_run.Given as goal

-- what is written and the lines still to be written are all lines
abbrev pub invariant-loop-report : goal.invariant-loop-report
invariant-loop-report l = record {
  lines : l.text.items ++ run_lines l.program (l.number + 1) (drop l.report-index l.reports) ≡ run_text l.program l.reports;
  count : l.number ≡ l.report-index;
}

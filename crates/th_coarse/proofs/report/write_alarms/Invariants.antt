use Rattle.std.proofs.Common.{◌≡◌, ◌+◌, ◌++◌, drop}
use Rattle.th_coarse.specs.Report.{alarm_lines}
use Rattle.th_coarse.proofs.report.write_alarms.Given as goal

-- what is written and the lines still to be written are all lines
abbrev pub invariant-loop-alarm : goal.invariant-loop-alarm
invariant-loop-alarm l = record {
  lines : l.text.items ++ alarm_lines l.program (l.number + 1) (drop l.alarm-index l.alarms) ≡ l.initial.text.items ++ alarm_lines l.program 1 l.alarms;
  count : l.number ≡ l.alarm-index;
}

use Rattle.std.proofs.Common.{◌≡◌, ◌≤◌, take}
use Rattle.th_coarse.specs.Report.{surviving_count}
use Rattle.th_coarse.proofs.report.surviving_count.Given as goal

-- those of the alarms so far that survive are counted
abbrev pub invariant-loop-alarm : goal.invariant-loop-alarm
invariant-loop-alarm l = record {
  counted : l.count ≡ surviving_count (take l.alarm-index l.alarms);
  within : l.count ≤ l.alarm-index;
}

use Rattle.std.proofs.Common.{◌≡◌, ◌++◌, take}
use Rattle.th_graph.specs.Searching.{hits}
use Rattle.th_graph.proofs.alarm_search.add_hits.Given as goal

abbrev pub invariant-loop-place : goal.invariant-loop-place
invariant-loop-place l = l.alarms.items ≡ l.fn.alarms.items ++ hits l.field (take l.place l.classes) (take l.place l.found)

use Rattle.std.proofs.Common.{take}
use Rattle.th_ir.specs.WellFormed.{AreNumbered}
use Rattle.th_graph.specs.Searching.{AreAlarmsOf}
use Rattle.th_graph.proofs.FileStatics.{numbers_of}
use Rattle.th_graph.proofs.alarm_search.alarms_by.Given as goal

abbrev pub invariant-loop-field : goal.invariant-loop-field
invariant-loop-field l = AreNumbered l.hierarchy → AreAlarmsOf l.hierarchy l.program l.index (numbers_of (take l.field-index l.field-items)) l.alarms.items

use Rattle.std.proofs.Common.{◌≡◌, ◌++◌, take, map}
use Rattle.th_coarse.specs.Report.{all_surviving}
use Rattle.th_coarse.proofs.alarms.add_surviving.Given as goal

-- the alarms with the classes so far are added
abbrev pub invariant-loop-class : goal.invariant-loop-class
invariant-loop-class l = l.judged.items ≡ l.initial.judged.items ++ all_surviving (map (λ n. (l.field.0, n)) (map (λ c. c.0) (take l.class-index l.classes)))

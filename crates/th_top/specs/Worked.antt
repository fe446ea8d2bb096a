-- What may come of a script in a small program, to be printed.
use Rattle.std.specs.Prelude.{ℕ, List, [], ◌∷◌}
use Rattle.th_base.specs.declared.number.ClassId.{ClassId}
use Rattle.th_base.specs.declared.number.FieldId.{FieldId}
use Rattle.th_machine.specs.declared.outcome.Outcome as machine
use Rattle.th_machine.specs.declared.outcome.Outcome.TheVariants.{Idle, Ended, Full}
use Rattle.th_machine.specs.declared.report.Report.{Report}

-- a report of an event after which these fields and classes are joined
abbrev reported : machine.Outcome → List (FieldId × ClassId) → Report
reported rest pairs = record { outcome = rest; reached = pairs }

abbrev pair : ℕ → ℕ → FieldId × ClassId
pair field class = (record { 0 = field }, record { 0 = class })

-- an event after which nothing is joined, and one after which two pairs are
abbrev pub empty_report : Report
empty_report = reported Idle []

abbrev pub joined_report : Report
joined_report = reported Ended (pair 0 11 ∷ pair 4 13 ∷ [])

-- two events, after the second of which two pairs are joined
abbrev pub kept_reports : List Report
kept_reports = empty_report ∷ joined_report ∷ []

-- three events, after the second of which alone a pair is joined
abbrev pub let_go_reports : List Report
let_go_reports = empty_report ∷ reported Idle (pair 0 11 ∷ []) ∷ reported Full [] ∷ []

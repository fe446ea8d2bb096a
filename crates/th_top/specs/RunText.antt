-- The output of a run of a script: what came of each event, and what is joined then. All of it is this project's own.
use Rattle.std.specs.Prelude.{ℕ, ◌+◌, ◌-◌, Bool, nat_lt, List, [], ◌∷◌, ◌++◌, length, flat_map, codes, slice_get}
use Rattle.std.specs.Fmt.{decimal}
use Rattle.std.specs.Option.{option_map_or}
use Rattle.th_base.specs.declared.number.ClassId.{ClassId}
use Rattle.th_base.specs.declared.number.FieldId.{FieldId}
use Rattle.th_syntax.specs.declared.class_file.ClassFile.{ClassFile}
use Rattle.th_coarse.specs.Report.{pair_text}
use Rattle.th_machine.specs.declared.outcome.Outcome as machine
use Rattle.th_machine.specs.declared.outcome.Outcome.TheVariants.{Idle, Ended, Fuel, Full}
use Rattle.th_machine.specs.declared.report.Report.{Report}

-- the word of how an event came to rest
abbrev pub rest_word : machine.Outcome → List ℕ
rest_word Idle = codes "idle"
rest_word Ended = codes "ended"
rest_word Fuel = codes "fuel"
rest_word Full = codes "full"

-- the line of a static field and an Activity class that are joined
abbrev pub joined_line : List ClassFile → FieldId × ClassId → List ℕ
joined_line files p = codes "joined " ++ pair_text files (p.0.0, p.1.0) ++ codes "\n"

-- the line of the event of a number
abbrev pub event_line : ℕ → machine.Outcome → List ℕ
event_line k rest = codes "event " ++ decimal k ++ codes " " ++ rest_word rest ++ codes "\n"

-- what is written of the event of a number
abbrev pub event_lines : List ClassFile → ℕ → Report → List ℕ
event_lines files k r = event_line k r.outcome ++ flat_map (joined_line files) r.reached

-- what is written of events, numbered from k
abbrev pub run_lines : List ClassFile → ℕ → List Report → List ℕ
run_lines files k [] = []
run_lines files k (r ∷ reports) = event_lines files k r ++ run_lines files (k + 1) reports

-- what is written of a run
abbrev pub run_text : List ClassFile → List Report → List ℕ
run_text files reports = run_lines files 1 reports

-- what is joined in the last state: that after the last event; nothing, where there was no event
abbrev pub joined_at_last : List Report → List (FieldId × ClassId)
joined_at_last reports = option_map_or (λ r. r.reached) (slice_get reports (length reports - 1)) []

abbrev pub some_joined : List Report → Bool
some_joined reports = nat_lt 0 (length (joined_at_last reports))

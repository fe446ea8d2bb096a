-- A report as data, a list of alarms each of which is filtered or survives, and its text. All of it is this
-- project's own.
use Rattle.std.specs.Prelude.{ℕ, ◌+◌, Bool, true, false, not, List, [], ◌∷◌, ◌++◌, length, map, filter, codes, sum_by, slice_get}
use Rattle.std.specs.Fmt.{decimal}
use Rattle.std.specs.List.{list_any}
use Rattle.std.specs.Option.{option_map_or}
use Rattle.th_base.specs.declared.class.ClassInfo.{ClassInfo}
use Rattle.th_base.specs.declared.class.FieldInfo.{FieldInfo}
use Rattle.th_base.specs.Hierarchy.{numbered_field}
use Rattle.th_syntax.specs.declared.class_file.ClassFile.{ClassFile}
use Rattle.th_syntax.specs.declared.class_file.Member.{Member}
use Rattle.th_syntax.specs.Program.{hierarchy_of}
use Rattle.th_coarse.specs.declared.judged.Mark.{Mark}
use Rattle.th_coarse.specs.declared.judged.Mark.TheVariants.{Filtered, Survives}
use Rattle.th_coarse.specs.declared.judged.Judged.{Judged}
use Rattle.th_coarse.specs.Coarse.{coarse_alarms}

-- ---- the report as data

-- the numbers of an alarm's field and class
abbrev pub pair_of : Judged → ℕ × ℕ
pair_of j = (j.field.0, j.class.0)

abbrev pub is_surviving : Mark → Bool
is_surviving Filtered = false
is_surviving Survives = true

abbrev pub survives : Judged → Bool
survives j = is_surviving j.mark

-- the pairs that survive
abbrev pub survivors : List Judged → List (ℕ × ℕ)
survivors alarms = map pair_of (filter survives alarms)

abbrev pub some_survive : List Judged → Bool
some_survive alarms = list_any survives alarms

-- the pairs, each of which survives
abbrev pub all_surviving : List (ℕ × ℕ) → List Judged
all_surviving pairs = map (λ p. record { field = record { 0 = p.0 }; class = record { 0 = p.1 }; mark = Survives }) pairs

-- the coarse report: each coarse alarm survives
abbrev pub report_of : List ClassFile → List Judged
report_of files = all_surviving (coarse_alarms files)

-- ---- its text

-- how many entries the exception tables have, in all code
abbrev pub handlers_in : Member → ℕ
handlers_in m = option_map_or (λ code. code.handlers) m.code 0

abbrev pub handlers_of : List ClassFile → ℕ
handlers_of files = sum_by (λ c. sum_by handlers_in c.methods) files

-- the name of the class of a number
abbrev pub class_text : List ClassInfo → ℕ → List ℕ
class_text classes c = option_map_or (λ k. k.name) (slice_get classes c) []

-- a field by the class that declares it, its name and its descriptor
abbrev pub declared_text : List ClassInfo → ℕ × FieldInfo → List ℕ
declared_text classes f = class_text classes f.0 ++ codes "." ++ f.1.name ++ codes ":" ++ f.1.descriptor

-- the field of a number
abbrev pub field_text : List ClassInfo → ℕ → List ℕ
field_text classes f = option_map_or (declared_text classes) (numbered_field classes f) []

-- a field and a class, by their numbers; names are bytes, as they stand in the files
abbrev pub pair_text : List ClassFile → ℕ × ℕ → List ℕ
pair_text files p = field_text (hierarchy_of files) p.0 ++ codes " -> " ++ class_text (hierarchy_of files) p.1

abbrev pub mark_text : Mark → List ℕ
mark_text Filtered = codes " filtered "
mark_text Survives = codes " survives "

-- the line of an alarm, by its number
abbrev pub alarm_line : List ClassFile → ℕ → Judged → List ℕ
alarm_line files n j = codes "alarm " ++ decimal n ++ mark_text j.mark ++ pair_text files (pair_of j) ++ codes "\n"

-- the lines of alarms, numbered from n
abbrev pub alarm_lines : List ClassFile → ℕ → List Judged → List ℕ
alarm_lines files n [] = []
alarm_lines files n (j ∷ js) = alarm_line files n j ++ alarm_lines files (n + 1) js

-- a line with a count
abbrev pub count_line : List ℕ → ℕ → List ℕ
count_line label n = label ++ decimal n ++ codes "\n"

-- how many alarms survive, and how many don't
abbrev pub surviving_count : List Judged → ℕ
surviving_count alarms = length (filter survives alarms)

abbrev pub filtered_count : List Judged → ℕ
filtered_count alarms = length (filter (λ j. not (survives j)) alarms)

-- the report of these alarms: the numbers of class files and of handlers, the alarms, and how they were judged
abbrev pub text_of : List ClassFile → List Judged → List ℕ
text_of files alarms =
    count_line (codes "classes ") (length files)
    ++ count_line (codes "handlers not followed ") (handlers_of files)
    ++ count_line (codes "alarms ") (length alarms)
    ++ alarm_lines files 1 alarms
    ++ count_line (codes "filtered ") (filtered_count alarms)
    ++ count_line (codes "surviving ") (surviving_count alarms)

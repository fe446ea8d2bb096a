-- The lines on the errors. All of it is this project's own.
use Rattle.std.specs.Prelude.{ℕ, ◌==◌, List, [], ◌∷◌, ◌++◌, codes, if◌then◌else◌}
use Rattle.std.specs.Fmt.{decimal}
use Rattle.th_syntax.specs.declared.cause.TheConstants as cause
use Rattle.th_syntax.specs.declared.refusal.Refusal.{Refusal}
use Rattle.th_harness.specs.declared.script_error.ScriptError.{ScriptError}
use Rattle.th_harness.specs.declared.script_error.ScriptError.TheVariants.{Line, Event}
use Rattle.th_kinds.specs.declared.inference.TheConstants.{KIND_CONFLICT}
use Rattle.th_words.specs.declared.command.UsageFault.{UsageFault}
use Rattle.th_words.specs.declared.command.UsageFault.TheVariants.{NoCommand, UnknownCommand, BadWords}

abbrev pub reason_of : UsageFault → List ℕ
reason_of NoCommand = codes "usage: no command\n"
reason_of UnknownCommand = codes "usage: unknown command\n"
reason_of BadWords = codes "usage: bad words\n"

-- the line of a fault of a script, by the number of a line or of an event
abbrev pub script_line : ScriptError → List ℕ
script_line (Line number) = codes "usage: script line " ++ decimal number ++ codes "\n"
script_line (Event number) = codes "usage: script event " ++ decimal number ++ codes "\n"

abbrev pub read_fault_line : List ℕ → List ℕ
read_fault_line name = codes "read fault " ++ name ++ codes "\n"

-- the name of a cause that lies in several class files together, or in what they come to, by its number
unfoldable pub program_cause_name : ℕ → List ℕ
program_cause_name number =
    if number == KIND_CONFLICT then codes "Kinds"
    else if number == cause.DUPLICATE then codes "Duplicate"
    else if number == cause.BUILT_IN then codes "BuiltIn"
    else if number == cause.MISSING_CLASS then codes "MissingClass"
    else if number == cause.MISSING_MEMBER then codes "MissingMember"
    else if number == cause.SUPER then codes "Super"
    else if number == cause.MEMBER then codes "Member"
    else if number == cause.LIMIT then codes "Limit"
    else []

-- the name of a cause, by its number
unfoldable pub cause_name : ℕ → List ℕ
cause_name number =
    if number == cause.NOT_CLASS then codes "NotClass"
    else if number == cause.TRUNCATED then codes "Truncated"
    else if number == cause.VERSION then codes "Version"
    else if number == cause.POOL then codes "Pool"
    else if number == cause.TRAILING then codes "Trailing"
    else if number == cause.NAME then codes "Name"
    else if number == cause.FLOAT_TYPE then codes "FloatType"
    else if number == cause.NATIVE then codes "Native"
    else if number == cause.ATTRIBUTE then codes "Attribute"
    else if number == cause.OPCODE then codes "Opcode"
    else if number == cause.CODE_SHAPE then codes "CodeShape"
    else if number == cause.INTERFACE_CODE then codes "InterfaceCode"
    else program_cause_name number

-- a text, and a hyphen in place of an empty one
abbrev pub or_hyphen : List ℕ → List ℕ
or_hyphen [] = codes "-"
or_hyphen (byte ∷ bytes) = byte ∷ bytes

-- the line of a refusal: the number and the name of its cause, its class, its member and its offset
abbrev pub refused_line : Refusal → List ℕ
refused_line r =
    codes "refused E" ++ decimal r.number ++ codes " " ++ cause_name r.number ++ codes " " ++ or_hyphen r.class ++ codes " "
    ++ or_hyphen r.member ++ (codes " " ++ decimal r.offset ++ codes "\n")

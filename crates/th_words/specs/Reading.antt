-- The command that words ask for.
use Rattle.std.specs.Prelude.{◌≡◌, ⊤, List, [], ◌∷◌, find, Option, Some, None, option_and_then, option_map, Result, Ok, Err, if◌then◌else◌}
use Rattle.std.specs.Option.{ok_or, option_map_or}
use Rattle.std.specs.Str.{bytes_eq}
use Rattle.th_words.specs.Pieces.{Word, pieces_of, value_given, operands_of}
use Rattle.th_words.specs.Values.{Value, value_of}
use Rattle.th_words.specs.Table.{OptionRow, CommandRow, option_names, operands_pass, table}
use Rattle.th_base.specs.declared.fail.Fail.{Fail}
use Rattle.th_base.specs.declared.fail.Fail.TheVariants.{Refused, NoMemory}
use Rattle.th_words.specs.declared.command.Command.{Command}
use Rattle.th_words.specs.declared.command.UsageFault.{UsageFault}
use Rattle.th_words.specs.declared.command.UsageFault.TheVariants.{NoCommand, UnknownCommand, BadWords}

-- a fact of the reason, where the call refused
abbrev pub IfRefused : {R : Type 0} → (R → Type 0) → Fail R → Type 0
IfRefused P (Refused reason) = P reason
IfRefused P NoMemory = ⊤

-- the call gave what the words ask for, or refused them where they ask for nothing
abbrev pub IsAnswer : Option Command → Result Command (Fail UsageFault) → Type 0
IsAnswer asked (Ok command) = asked ≡ Some command
IsAnswer asked (Err (Refused fault)) = (asked ≡ None) × (fault ≡ BadWords)
IsAnswer asked (Err NoMemory) = ⊤

-- what each option stands for, where `given` has the values given. None where one is no value of its option's kind
abbrev pub values_of : List OptionRow → (Word → Option Word) → Option (List Value)
values_of [] given = Some []
values_of (option ∷ options) given =
    option_and_then (λ value. option_map (λ values. value ∷ values) (values_of options given)) (value_of option.kind (given option.name))

-- the command of a row with these values given and these operands
abbrev pub command_from : CommandRow → (Word → Option Word) → List Word → Option Command
command_from row given operands =
    if operands_pass row.operands given operands then option_and_then (λ values. row.command values operands) (values_of row.options given)
    else None

-- the command of a row that the words after its name ask for
abbrev pub command_in : CommandRow → List Word → Option Command
command_in row words =
    option_and_then (λ pieces. command_from row (λ name. value_given name pieces) (operands_of pieces)) (pieces_of (option_names row) words)

-- the command that the words ask for, or what is wrong with them
abbrev pub command_of : List Word → Result Command UsageFault
command_of [] = Err NoCommand
command_of (word ∷ words) =
    option_map_or (λ row. ok_or (command_in row words) BadWords) (find (λ row. bytes_eq row.name word) table) (Err UnknownCommand)

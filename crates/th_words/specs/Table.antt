-- The commands, a row for each: its name, its options with kind, range and default, its operands, and what it asks for.
use Rattle.std.specs.Prelude.{◌||◌, nat_lt, List, [], ◌∷◌, length, map, Option, Some, None, is_some, codes, Bool}
use Rattle.th_words.specs.Pieces.{Word}
use Rattle.th_words.specs.Values.{Kind, number_in, optional_file, required_file, lifecycle_name, Value, number, file, lifecycle}
use Rattle.th_words.specs.declared.options.TheConstants.{MOST_BUDGET, DEFAULT_BUDGET, LEAST_WORKERS, MOST_WORKERS, DEFAULT_WORKERS, MOST_FUEL, DEFAULT_FUEL}
use Rattle.th_words.specs.declared.command.Command.{Command}
use Rattle.th_words.specs.declared.command.Command.TheVariants.{Check, Run}

-- an option, by its name without the two hyphens
pub record OptionRow : Type 0 where
  pub name : Word
  pub kind : Kind

-- how many operands a command takes
pub data Operands : Type 0 where
  -- one or more
  some_operands : Operands
  -- one or more, or none where the option of this name is given
  some_operands_without : Word → Operands

pub record CommandRow : Type 0 where
  pub name : Word
  pub options : List OptionRow
  pub operands : Operands
  -- the command with these values of the options, in the row's order, and these operands
  pub command : List Value → List Word → Option Command

-- the names of the options of a row
abbrev pub option_names : CommandRow → List Word
option_names row = map (λ option. option.name) row.options

-- so many operands may stand beside the values given
abbrev pub operands_pass : Operands → (Word → Option Word) → List Word → Bool
operands_pass some_operands given operands = nat_lt 0 (length operands)
operands_pass (some_operands_without name) given operands = is_some (given name) || nat_lt 0 (length operands)

-- ---- the options

abbrev pub budget_option : OptionRow
budget_option = record { name = codes "budget"; kind = number_in 0 MOST_BUDGET DEFAULT_BUDGET }

abbrev pub workers_option : OptionRow
workers_option = record { name = codes "workers"; kind = number_in LEAST_WORKERS MOST_WORKERS DEFAULT_WORKERS }

abbrev pub fuel_option : OptionRow
fuel_option = record { name = codes "fuel"; kind = number_in 0 MOST_FUEL DEFAULT_FUEL }

abbrev pub list_option : OptionRow
list_option = record { name = codes "list"; kind = optional_file }

abbrev pub script_option : OptionRow
script_option = record { name = codes "script"; kind = required_file }

abbrev pub lifecycle_option : OptionRow
lifecycle_option = record { name = codes "lifecycle"; kind = lifecycle_name }

-- ---- the commands

abbrev pub check_command : List Value → List Word → Option Command
check_command (number budget ∷ number workers ∷ file list ∷ lifecycle order ∷ []) files = Some (Check budget workers list order files)
check_command _ files = None

abbrev pub check_row : CommandRow
check_row = record {
  name = codes "check";
  options = budget_option ∷ workers_option ∷ list_option ∷ lifecycle_option ∷ [];
  operands = some_operands_without (codes "list");
  command = check_command;
}

abbrev pub run_command : List Value → List Word → Option Command
run_command (file (Some script) ∷ number fuel ∷ lifecycle order ∷ []) files = Some (Run script fuel order files)
run_command _ files = None

abbrev pub run_row : CommandRow
run_row = record {
  name = codes "run";
  options = script_option ∷ fuel_option ∷ lifecycle_option ∷ [];
  operands = some_operands;
  command = run_command;
}

abbrev pub table : List CommandRow
table = check_row ∷ run_row ∷ []

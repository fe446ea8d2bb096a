-- What `clap` is told of a command, and what it is to find in the words.
use Rattle.std.specs.Prelude.{◌≡◌, ◌==◌, ◌&&◌, Bool, true, false, not, List, [], ◌∷◌, ◌++◌, map, Some, codes, option_map, unwrap_or}
use Rattle.std.specs.List.{list_any}
use Rattle.std.specs.Str.{byte, bytes_eq}
use Rattle.clap.specs.Words.{App, Rule, new_app, new_rule, first_value, matched_of, raw_values}
use Rattle.clap.specs.Simple.{on_top}
use Rattle.clap.specs.declared.builder.action.ArgAction.TheVariants.{Set, Append}
use Rattle.clap.specs.declared.parser.matches.Found.{Found}
use Rattle.th_words.specs.Pieces.{Word, Piece, pieces_of, value_given, operands_of}

-- the name under which `clap` keeps the operands
abbrev pub operands_name : Word
operands_name = codes "operands"

-- a name that an option may have: not empty, without `=`, and not that of the operands
abbrev pub is_option_name : Word → Bool
is_option_name [] = false
is_option_name (first ∷ rest) = not (list_any (λ x. x == byte "=") (first ∷ rest)) && not (bytes_eq (first ∷ rest) operands_name)

-- an option `--name` with one value
abbrev pub option_rule : Word → Rule
option_rule name = record (new_rule name) { long = Some name; action = Some Set }

-- the operands
abbrev pub operands_rule : Rule
operands_rule = record (new_rule operands_name) { action = Some Append }

-- a command with these arguments, whose words begin with no program's name and which has no flag for help
abbrev pub app_with : List Rule → App
app_with rules = on_top (λ s. record s { no_binary_name = true; disable_help_flag = true; rules = rules }) (new_app (codes "thresher"))

-- a command with options of these names, and operands
abbrev pub app_told : List Word → App
app_told names = app_with (map option_rule names ++ operands_rule ∷ [])

-- the operands that were found
abbrev pub operands_found : Found → List Word
operands_found found = unwrap_or (option_map raw_values (matched_of found operands_name)) []

-- the values and the operands that were found are those of the words
pub record IsReadFrom (names words : List Word) (found : Found) : Type 0 where
  pub pieces : List Piece
  pub cut : pieces_of names words ≡ Some pieces
  pub values : (name : Word) → list_any (λ n. bytes_eq n name) names ≡ true → first_value found name ≡ value_given name pieces
  pub operands : operands_found found ≡ operands_of pieces

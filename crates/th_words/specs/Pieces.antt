-- How the words after a command are cut into options with their values, and operands.
use Rattle.std.specs.Prelude.{◌≡◌, ℕ, ◌==◌, ◌&&◌, ◌||◌, Bool, true, false, not, List, [], ◌∷◌, Option, Some, None, is_some, find, option_and_then, option_map, if◌then◌else◌}
use Rattle.std.specs.List.{list_all, list_any}
use Rattle.std.specs.Str.{byte, bytes_eq}

-- a word, as its bytes
abbrev pub Word : Type 0
Word = List ℕ

-- a word that may be a value or an operand: it isn't empty, and doesn't begin with `-`
abbrev pub is_plain : Word → Bool
is_plain [] = false
is_plain (first ∷ rest) = not (first == byte "-")

-- the word for the option of this name: `--name`
abbrev pub option_word : Word → Word
option_word name = byte "-" ∷ byte "-" ∷ name

-- which of the options of these names a word stands for
abbrev pub option_named : List Word → Word → Option Word
option_named names word = find (λ name. bytes_eq word (option_word name)) names

-- an option with its value, or an operand
pub data Piece : Type 0 where
  setting : Word → Word → Piece
  operand : Word → Piece

-- the words in pieces, where an option waits for its value or none does. None where a word is neither an option nor
-- plain, or where the word after an option is missing or not plain
abbrev pub pieces_from : List Word → Option Word → List Word → Option (List Piece)
pieces_from names None [] = Some []
pieces_from names (Some name) [] = None
pieces_from names (Some name) (word ∷ words) =
    if is_plain word then option_map (λ pieces. setting name word ∷ pieces) (pieces_from names None words) else None
pieces_from names None (word ∷ words) =
    if is_some (option_named names word) then pieces_from names (option_named names word) words
    else (if is_plain word then option_map (λ pieces. operand word ∷ pieces) (pieces_from names None words) else None)

-- the option of this name is among the pieces
abbrev pub is_set : Word → List Piece → Bool
is_set name [] = false
is_set name (setting other value ∷ pieces) = bytes_eq other name || is_set name pieces
is_set name (operand word ∷ pieces) = is_set name pieces

-- no option is there twice
abbrev pub sets_each_once : List Piece → Bool
sets_each_once [] = true
sets_each_once (setting name value ∷ pieces) = not (is_set name pieces) && sets_each_once pieces
sets_each_once (operand word ∷ pieces) = sets_each_once pieces

-- the value of the option of this name
abbrev pub value_given : Word → List Piece → Option Word
value_given name [] = None
value_given name (setting other value ∷ pieces) = if bytes_eq other name then Some value else value_given name pieces
value_given name (operand word ∷ pieces) = value_given name pieces

-- the operands, in order
abbrev pub operands_of : List Piece → List Word
operands_of [] = []
operands_of (setting name value ∷ pieces) = operands_of pieces
operands_of (operand word ∷ pieces) = word ∷ operands_of pieces

-- the words in pieces, where options of these names stand anywhere, each at most once
abbrev pub pieces_of : List Word → List Word → Option (List Piece)
pieces_of names words = option_and_then (λ pieces. if sets_each_once pieces then Some pieces else None) (pieces_from names None words)

-- ---- the pieces in the subject's own words, for the law that reading them is the inverse of writing them

-- the words that pieces are written as
abbrev pub words_of : List Piece → List Word
words_of [] = []
words_of (setting name value ∷ pieces) = option_word name ∷ value ∷ words_of pieces
words_of (operand word ∷ pieces) = word ∷ words_of pieces

-- an option of one of these names with a plain value, or a plain operand
abbrev pub is_allowed : List Word → Piece → Bool
is_allowed names (setting name value) = list_any (λ n. bytes_eq n name) names && is_plain value
is_allowed names (operand word) = is_plain word

-- pieces of a command with options of these names
pub record ArePieces (names : List Word) (pieces : List Piece) : Type 0 where
  pub allowed : list_all (is_allowed names) pieces ≡ true
  pub each_once : sets_each_once pieces ≡ true

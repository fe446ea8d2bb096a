-- What the values of options stand for.
use Rattle.std.specs.Prelude.{ℕ, ◌&&◌, nat_le, length, Option, Some, None, option_map, codes, Bool, if◌then◌else◌}
use Rattle.std.specs.Char.{is_ascii_digit}
use Rattle.std.specs.List.{list_all}
use Rattle.std.specs.Str.{bytes_eq}
use Rattle.std.specs.Str.Parse.{digits_value}
use Rattle.th_base.specs.declared.lifecycle.Lifecycle.{Lifecycle}
use Rattle.th_base.specs.declared.lifecycle.Lifecycle.TheVariants.{Any, Chart}
use Rattle.th_words.specs.Pieces.{Word}
use Rattle.th_words.specs.declared.values.TheConstants.{MOST_DIGITS}

-- what the value of an option must be, and what stands in its place where the option isn't given
pub data Kind : Type 0 where
  -- a number from the first to the second, else the third
  number_in : ℕ → ℕ → ℕ → Kind
  -- a file's name, else none
  optional_file : Kind
  -- a file's name, which must be given
  required_file : Kind
  -- `any` or `chart`, else `any`
  lifecycle_name : Kind

-- what an option stands for
pub data Value : Type 0 where
  number : ℕ → Value
  file : Option Word → Value
  lifecycle : Lifecycle → Value

-- one decimal digit or more, and no more than a number may have
abbrev pub is_number : Word → Bool
is_number text = list_all is_ascii_digit text && (nat_le 1 (length text) && nat_le (length text) MOST_DIGITS)

-- the number that a text writes, if it lies in the range
abbrev pub number_of : ℕ → ℕ → Word → Option ℕ
number_of lowest highest text =
    if is_number text && (nat_le lowest (digits_value 10 text) && nat_le (digits_value 10 text) highest) then Some (digits_value 10 text)
    else None

-- the lifecycle of this name
abbrev pub lifecycle_of : Word → Option Lifecycle
lifecycle_of text = if bytes_eq text (codes "any") then Some Any else (if bytes_eq text (codes "chart") then Some Chart else None)

-- what an option of this kind stands for, given or not. None where the text is no value of the kind
abbrev pub value_of : Kind → Option Word → Option Value
value_of (number_in lowest highest default) None = Some (number default)
value_of (number_in lowest highest default) (Some text) = option_map (λ n. number n) (number_of lowest highest text)
value_of optional_file text = Some (file text)
value_of required_file None = None
value_of required_file (Some text) = Some (file (Some text))
value_of lifecycle_name None = Some (lifecycle Any)
value_of lifecycle_name (Some text) = option_map (λ l. lifecycle l) (lifecycle_of text)

-- What the lines of a script say, and which events a script names. All of it is this project's own.
use Rattle.std.specs.Prelude.{◌≡◌, ⊤, ℕ, ◌+◌, ◌==◌, ◌&&◌, nat_le, Bool, true, false, not, List, [], ◌∷◌, length, filter_map, codes, Option, Some, None, is_some, option_and_then, option_map, Result, Ok, Err, if◌then◌else◌}
use Rattle.std.specs.Char.{is_ascii_digit}
use Rattle.std.specs.List.{list_all, list_any, slice_split, position_from}
use Rattle.std.specs.Option.{option_map_or}
use Rattle.std.specs.Str.{byte, bytes_eq}
use Rattle.std.specs.Str.Parse.{digits_value}
use Rattle.th_base.specs.Handlers.{handlers, takes_bundle}
use Rattle.th_base.specs.declared.fail.Fail.{Fail}
use Rattle.th_base.specs.declared.fail.Fail.TheVariants.{Refused, NoMemory}
use Rattle.th_syntax.specs.declared.class_file.ClassFile.{ClassFile}
use Rattle.th_syntax.specs.declared.event.Event.{Event}
use Rattle.th_syntax.specs.declared.event.Event.TheVariants.{Launch as LaunchEvent, Handler as HandlerEvent}
use Rattle.th_syntax.specs.Machine.{class_id}
use Rattle.th_syntax.specs.Program.{number_named, is_launchable}
use Rattle.th_harness.specs.declared.script_error.ScriptError.{ScriptError}
use Rattle.th_harness.specs.declared.script_error.ScriptError.TheVariants.{Line, Event as BadEvent}
use Rattle.th_harness.specs.declared.number_word.TheConstants.{MOST_DIGITS}

-- ---- lines

-- what a line asks for: a launch of the class of a name, or a call of a handler
pub data Order : Type 0 where
  launches : (name : List ℕ) → Order
  calls : (event : Event) → Order

-- the number that a word of 1 to 5 decimal digits writes
abbrev pub number_in : List ℕ → Option ℕ
number_in word =
    if list_all is_ascii_digit word && (nat_le 1 (length word) && nat_le (length word) MOST_DIGITS) then Some (digits_value 10 word) else None

-- the place of the handler of this name among the handlers
abbrev pub handler_named : List ℕ → Option ℕ
handler_named name = position_from (λ h. bytes_eq h.name name) 0 handlers

-- a Bundle, where one is asked for, stands only after a handler that takes one
abbrev pub may_take : Bool → List ℕ → Bool
may_take true name = list_any (λ h. bytes_eq h.name name && takes_bundle h) handlers
may_take false name = true

abbrev pub call_with : Bool → Option ℕ → Option ℕ → Option Order
call_with fresh None handler = None
call_with fresh (Some object) handler = option_map (λ h. calls (HandlerEvent object h fresh)) handler

-- a call of a handler on the object of a number, with a fresh Bundle or with null
abbrev pub call_of : List ℕ → List ℕ → Bool → Option Order
call_of object name fresh = if may_take fresh name then call_with fresh (number_in object) (handler_named name) else None

-- the words behind `launch`: the name of a class, which isn't empty
abbrev pub launch_in : List (List ℕ) → Option Order
launch_in [] = None
launch_in (name ∷ []) = if nat_le 1 (length name) then Some (launches name) else None
launch_in (name ∷ more ∷ words) = None

-- the words behind a handler's name: nothing, or `bundle`
abbrev pub bundle_in : List (List ℕ) → Option Bool
bundle_in [] = Some false
bundle_in (word ∷ []) = if bytes_eq word (codes "bundle") then Some true else None
bundle_in (word ∷ more ∷ words) = None

-- the words behind `event`: the number of an object, a handler's name, and `bundle` or nothing
abbrev pub call_in : List (List ℕ) → Option Order
call_in [] = None
call_in (object ∷ []) = None
call_in (object ∷ name ∷ words) = option_and_then (call_of object name) (bundle_in words)

abbrev pub order_of : List (List ℕ) → Option Order
order_of [] = None
order_of (verb ∷ words) =
    if bytes_eq verb (codes "launch") then launch_in words else if bytes_eq verb (codes "event") then call_in words else None

-- the words of a line: one space parts two of them
abbrev pub words_of : List ℕ → List (List ℕ)
words_of line = slice_split (λ b. b == byte " ") line

-- what a line asks for; none where it has no such form
abbrev pub order_in : List ℕ → Option Order
order_in line = order_of (words_of line)

-- the line isn't empty, and asks for nothing
abbrev pub is_bad_line : List ℕ → Bool
is_bad_line line = nat_le 1 (length line) && not (is_some (order_in line))

-- the lines of a script, with an empty one more where the last line ends with its line feed
abbrev pub lines_of : List ℕ → List (List ℕ)
lines_of bytes = slice_split (λ b. b == 10) bytes

-- the place of the first bad line, from 0; empty lines count
abbrev pub first_bad_line : List ℕ → Option ℕ
first_bad_line bytes = position_from is_bad_line 0 (lines_of bytes)

-- fine, or the number of the first bad line, from 1
abbrev pub form_of : Option ℕ → Result (Unit {0}) ℕ
form_of None = Ok tt
form_of (Some place) = Err (place + 1)

-- ---- events

-- the class of this name, where the harness launches its objects
abbrev pub launched_class : List ClassFile → List ℕ → Option ℕ
launched_class files name = option_and_then (λ c. if is_launchable files c then Some c else None) (number_named files name)

-- the event that is asked for; none for a launch of a class that isn't launchable
abbrev pub event_of : List ClassFile → Order → Option Event
event_of files (launches name) = option_map (λ c. LaunchEvent (class_id c)) (launched_class files name)
event_of files (calls event) = Some event

-- what is asked for, line by line; empty lines ask for nothing
abbrev pub orders_of : List ℕ → List Order
orders_of bytes = filter_map order_in (lines_of bytes)

-- the place of the first order that names no event, from 0
abbrev pub first_bad_event : List ClassFile → List Order → Option ℕ
first_bad_event files orders = position_from (λ o. not (is_some (event_of files o))) 0 orders

-- the events of a script, or the number of the first that can't be, from 1
abbrev pub events_of : List ClassFile → List Order → Result (List Event) ScriptError
events_of files orders =
    option_map_or (λ place. Err (BadEvent (place + 1))) (first_bad_event files orders) (Ok (filter_map (event_of files) orders))

-- the events of a script: a bad line counts before a launch of a class that isn't launchable
abbrev pub script_of : List ClassFile → List ℕ → Result (List Event) ScriptError
script_of files bytes = option_map_or (λ place. Err (Line (place + 1))) (first_bad_line bytes) (events_of files (orders_of bytes))

-- a call answers as a script says, unless memory ran out
abbrev pub Answers : {V R : Type 0} → Result V (Fail R) → Result V R → Type 0
Answers (Ok value) wanted = wanted ≡ Ok value
Answers (Err (Refused reason)) wanted = wanted ≡ Err reason
Answers (Err NoMemory) wanted = ⊤

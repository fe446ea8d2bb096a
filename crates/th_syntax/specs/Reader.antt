-- Which class file bytes stand for, or their first flaw, as one function: the laws say that it is the
-- grammar of class files and of first flaws.
use Rattle.std.specs.Prelude.{◌==◌, ℕ, List, [], ◌∷◌, length, take, drop, Option, Some, None, Result, Ok, Err, if◌then◌else◌}
use Rattle.std.specs.Str.{bytes_eq}
use Rattle.th_syntax.specs.declared.cause.TheConstants as cause
use Rattle.th_syntax.specs.declared.class_file.ClassFile.{ClassFile}
use Rattle.th_syntax.specs.declared.refusal.Flaw.{Flaw}
use Rattle.th_syntax.specs.Flaws.{flaw_at, first_of}
use Rattle.th_syntax.specs.Forms.{Found, read}
use Rattle.th_syntax.specs.ClassBytes.{RawClass, class_file, magic}
use Rattle.th_syntax.specs.Checks.{second_pass, third_pass, fourth_pass}
use Rattle.th_syntax.specs.ClassGrammar.{class_file_of}

-- the first flaw of a pass, or what comes where it finds none
abbrev pub unless_flawed : {A : Type 0} → Option Flaw → Result A Flaw → Result A Flaw
unless_flawed (Some flaw) next = Err flaw
unless_flawed None next = next

-- the value of a class whose items are whole
abbrev pub valued : Option ClassFile → Result ClassFile Flaw
valued None = Err (flaw_at cause.NOT_CLASS 0)
valued (Some value) = Ok value

abbrev pub checked_class : RawClass → Result ClassFile Flaw
checked_class c =
    unless_flawed (first_of (second_pass c))
    (unless_flawed (first_of (third_pass c))
    (unless_flawed (first_of (fourth_pass c))
    (valued (class_file_of c))))

-- nothing follows the items
abbrev pub behind_items : Result (Found RawClass) Flaw → Result ClassFile Flaw
behind_items (Err flaw) = Err flaw
behind_items (Ok found) = if length found.2 == 0 then checked_class found.0 else Err (flaw_at cause.TRAILING found.1)

-- the class file that bytes stand for, or their first flaw
unfoldable pub reading : List ℕ → Result ClassFile Flaw
reading bytes = if bytes_eq (take 4 bytes) magic then behind_items (read class_file 4 (drop 4 bytes)) else Err (flaw_at cause.NOT_CLASS 0)

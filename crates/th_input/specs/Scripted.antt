-- What is read where a command names a script beside its class files: the script first. And what ends that
-- reading.
use Rattle.std.specs.Prelude.{ℕ, ◌≡◌, ◌≤◌, ◌<◌, List, length, Option}
use Rattle.th_outside.specs.Store.{NamedFile}
use Rattle.th_input.specs.declared.limit.TheConstants.{MOST_CLASS_FILES, MOST_FILE_BYTES}
use Rattle.th_input.specs.declared.unread.Unread.{Unread}
use Rattle.th_input.specs.declared.unread.Unread.TheVariants.{TooManyFiles}
use Rattle.th_input.specs.Input.{MayHold, AreRead, IsUnread, EndsWithin}

-- the script was read, with this content
pub record IsScript (told : Option (List NamedFile)) (script bytes : List ℕ) : Type 0 where
  pub held : MayHold told script bytes
  pub short : length bytes ≤ MOST_FILE_BYTES

-- the script and the class files of the operands were read, with these contents
pub record IsScripted (told : Option (List NamedFile)) (script : List ℕ) (operands : List (List ℕ)) (bytes : List ℕ) (files : List NamedFile)
    : Type 0 where
  pub few : length operands ≤ MOST_CLASS_FILES
  pub is_script : IsScript told script bytes
  pub read : AreRead told operands files

-- What ends the reading: the number of operands, before anything is read; or else the script; or else the
-- first class file that is missing, whose read fails, or that passes a limit.
pub data EndsScripted (told : Option (List NamedFile)) (script : List ℕ) (operands : List (List ℕ)) (unread : Unread) : Type 0 where
  many_operands : MOST_CLASS_FILES < length operands → unread ≡ TooManyFiles → EndsScripted told script operands unread
  at_script : length operands ≤ MOST_CLASS_FILES → IsUnread told script unread → EndsScripted told script operands unread
  behind_script : length operands ≤ MOST_CLASS_FILES → (bytes : List ℕ) → IsScript told script bytes → EndsWithin told operands unread
      → EndsScripted told script operands unread

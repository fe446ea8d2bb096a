-- Which files are a program that a command works on, and why others are refused first: files that are accepted,
-- and within the limits on what a program comes to.
use Rattle.std.specs.Prelude.{◌≡◌, true, false, List}
use Rattle.th_outside.specs.Store.{NamedFile}
use Rattle.th_syntax.specs.declared.class_file.ClassFile.{ClassFile}
use Rattle.th_syntax.specs.declared.refusal.Refusal.{Refusal}
use Rattle.th_accept.specs.Accepted.{IsAccepted, IsRefused}
use Rattle.th_coarse.specs.Coarse.{coarse_alarms, are_few, alarms_refusal}

-- the files are accepted as these class files, which have no more alarms than a program may have
pub record IsProgram (files : List NamedFile) (classes : List ClassFile) : Type 0 where
  pub accepted : IsAccepted files classes
  pub few : are_few (coarse_alarms classes) ≡ true

-- the first refusal: of the files and their class files, or else of a limit of what they come to
pub data IsFirstRefused (files : List NamedFile) (refusal : Refusal) : Type 0 where
  no_program : IsRefused files refusal → IsFirstRefused files refusal
  many_alarms : (classes : List ClassFile) → IsAccepted files classes → are_few (coarse_alarms classes) ≡ false → refusal ≡ alarms_refusal
      → IsFirstRefused files refusal

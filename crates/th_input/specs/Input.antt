-- What is read where a command names files: the list of names, if it names one, and then the class
-- files in order. And what ends the reading.
use Rattle.std.specs.Prelude.{ℕ, ◌≡◌, ◌≤◌, ◌<◌, ◌+◌, List, [], ◌∷◌, ◌++◌, length, map, sum_by, IsUtf8, Option, None, Some, Result, Ok, Err}
use Rattle.std.specs.List.{AllByRecursion}
use Rattle.th_base.specs.declared.fail.Fail.{Fail}
use Rattle.th_base.specs.declared.fail.Fail.TheVariants.{Refused, NoMemory}
use Rattle.th_outside.specs.Store.{NamedFile, content, Lacks}
use Rattle.th_input.specs.declared.limit.TheConstants.{MOST_CLASS_FILES, MOST_FILE_BYTES, MOST_BYTES}
use Rattle.th_input.specs.declared.unread.Unread.{Unread}
use Rattle.th_input.specs.declared.unread.Unread.TheVariants.{Missing, Failed, BadLine, TooManyFiles, TooManyBytes}
use Rattle.th_input.specs.Listing.{lines_of, names_on, IsFirstBad}

-- the store may have these bytes under this name: where it tells what it holds, it has them
abbrev pub MayHold : Option (List NamedFile) → List ℕ → List ℕ → Type 0
MayHold None name bytes = Unit {0}
MayHold (Some files) name bytes = content files name ≡ Some bytes

-- ---- the names

-- the names that a list holds
pub record IsListed (told : Option (List NamedFile)) (list : List ℕ) (names : List (List ℕ)) : Type 0 where
  pub bytes : List ℕ
  pub held : MayHold told list bytes
  pub short : length bytes ≤ MOST_FILE_BYTES
  pub utf8 : AllByRecursion IsUtf8 (lines_of bytes)
  pub names_are : names ≡ names_on (lines_of bytes)

-- the names that are listed, where a list is named
abbrev pub AreListed : Option (List NamedFile) → Option (List ℕ) → List (List ℕ) → Type 0
AreListed told None names = names ≡ []
AreListed told (Some list) names = IsListed told list names

-- the names of all class files: the operands, and behind them those that are listed
pub record AreNames (told : Option (List NamedFile)) (list : Option (List ℕ)) (operands names : List (List ℕ)) : Type 0 where
  pub listed : List (List ℕ)
  pub lists : AreListed told list listed
  pub names_are : names ≡ operands ++ listed

-- ---- the class files

-- how many bytes files have together
abbrev pub total : List NamedFile → ℕ
total files = sum_by (λ file. length file.1) files

-- no file has too many bytes, and neither have all together
pub record AreShort (files : List NamedFile) : Type 0 where
  pub each : AllByRecursion (λ file. length file.1 ≤ MOST_FILE_BYTES) files
  pub together : total files ≤ MOST_BYTES

-- the store may have these files
abbrev pub AreHeld : Option (List NamedFile) → List NamedFile → Type 0
AreHeld told files = AllByRecursion (λ file. MayHold told file.0 file.1) files

-- the class files of these names were read, with these contents
pub record AreRead (told : Option (List NamedFile)) (names : List (List ℕ)) (files : List NamedFile) : Type 0 where
  pub named : map (λ file. file.0) files ≡ names
  pub held : AreHeld told files
  pub short : AreShort files

-- the names are not too many, and their class files were read
pub record IsInputOf (told : Option (List NamedFile)) (names : List (List ℕ)) (files : List NamedFile) : Type 0 where
  pub few : length names ≤ MOST_CLASS_FILES
  pub read : AreRead told names files

-- all class files that are named were read, with these contents
pub record IsInput (told : Option (List NamedFile)) (list : Option (List ℕ)) (operands : List (List ℕ)) (files : List NamedFile) : Type 0 where
  pub names : List (List ℕ)
  pub are_names : AreNames told list operands names
  pub input : IsInputOf told names files

-- ---- what ends the reading

-- a file isn't read: it is missing, a call of the store fails, or it is too long
pub data IsUnread (told : Option (List NamedFile)) (name : List ℕ) (unread : Unread) : Type 0 where
  missing : Lacks told name → unread ≡ Missing name → IsUnread told name unread
  failed : unread ≡ Failed name → IsUnread told name unread
  too_long : (bytes : List ℕ) → MayHold told name bytes → MOST_FILE_BYTES < length bytes → unread ≡ TooManyBytes name → IsUnread told name unread

-- the list ends the reading: it isn't read, or has a bad line
pub data EndsAtList (told : Option (List NamedFile)) (list : List ℕ) (unread : Unread) : Type 0 where
  list_unread : IsUnread told list unread → EndsAtList told list unread
  list_bad : (bytes : List ℕ) → MayHold told list bytes → length bytes ≤ MOST_FILE_BYTES → (offset : ℕ) → IsFirstBad (lines_of bytes) offset
      → unread ≡ BadLine list offset → EndsAtList told list unread

-- a class file ends the reading, behind those that were read: it isn't read, or there are too many bytes with it
pub data EndsAtFile (told : Option (List NamedFile)) (before : List NamedFile) (name : List ℕ) (unread : Unread) : Type 0 where
  file_unread : IsUnread told name unread → EndsAtFile told before name unread
  too_many : (bytes : List ℕ) → MayHold told name bytes → length bytes ≤ MOST_FILE_BYTES → MOST_BYTES < total before + length bytes
      → unread ≡ TooManyBytes name → EndsAtFile told before name unread

-- the first class file that ends the reading
pub record EndsWithin (told : Option (List NamedFile)) (names : List (List ℕ)) (unread : Unread) : Type 0 where
  pub before : List NamedFile
  pub name : List ℕ
  pub behind : List (List ℕ)
  pub names_are : names ≡ map (λ file. file.0) before ++ name ∷ behind
  pub held : AreHeld told before
  pub short : AreShort before
  pub ends : EndsAtFile told before name unread

-- the number of names ends the reading, or else a class file
pub data EndsAmong (told : Option (List NamedFile)) (names : List (List ℕ)) (unread : Unread) : Type 0 where
  many_names : MOST_CLASS_FILES < length names → unread ≡ TooManyFiles → EndsAmong told names unread
  one_file : length names ≤ MOST_CLASS_FILES → EndsWithin told names unread → EndsAmong told names unread

-- What ends the reading: the list; or else the number of names, as soon as all are known; or else the
-- first class file that is missing, whose read fails, or that passes a limit.
pub data Ends (told : Option (List NamedFile)) (list : Option (List ℕ)) (operands : List (List ℕ)) (unread : Unread) : Type 0 where
  at_list : (name : List ℕ) → list ≡ Some name → EndsAtList told name unread → Ends told list operands unread
  behind_list : (names : List (List ℕ)) → AreNames told list operands names → EndsAmong told names unread → Ends told list operands unread

-- ---- answers

-- a fact of the reason for which a call gave nothing, where it isn't want of memory
abbrev pub IfStopped : {X R : Type 0} → Result X (Fail R) → (R → Type 0) → Type 0
IfStopped (Ok x) P = Unit {0}
IfStopped (Err (Refused reason)) P = P reason
IfStopped (Err NoMemory) P = Unit {0}

-- the count of faults after files were read: one more where a call failed
abbrev pub faults_after_unread : {X : Type 0} → ℕ → Result X (Fail Unread) → ℕ
faults_after_unread count (Err (Refused (Failed name))) = count + 1
faults_after_unread count (Err (Refused (Missing name))) = count
faults_after_unread count (Err (Refused (BadLine list offset))) = count
faults_after_unread count (Err (Refused TooManyFiles)) = count
faults_after_unread count (Err (Refused (TooManyBytes name))) = count
faults_after_unread count (Err NoMemory) = count
faults_after_unread count (Ok x) = count

-- the name of the last call that failed, where it is told, is that of the read that failed, and else as before
abbrev pub FailedAfterUnread : {X : Type 0} → Option (List ℕ) → Result X (Fail Unread) → Option (List ℕ) → Type 0
FailedAfterUnread old (Err (Refused (Failed name))) None = Unit {0}
FailedAfterUnread old (Err (Refused (Failed name))) (Some last) = last ≡ name
FailedAfterUnread old (Err (Refused (Missing name))) new = new ≡ old
FailedAfterUnread old (Err (Refused (BadLine list offset))) new = new ≡ old
FailedAfterUnread old (Err (Refused TooManyFiles)) new = new ≡ old
FailedAfterUnread old (Err (Refused (TooManyBytes name))) new = new ≡ old
FailedAfterUnread old (Err NoMemory) new = new ≡ old
FailedAfterUnread old (Ok x) new = new ≡ old

-- a call of the store failed
abbrev pub IsFault : Unread → Type 0
IsFault (Failed name) = Unit {0}
IsFault (Missing name) = ⊥
IsFault (BadLine list offset) = ⊥
IsFault TooManyFiles = ⊥
IsFault (TooManyBytes name) = ⊥

-- How faults are counted: the count rises by one exactly in a call that answers a failure.
use Rattle.std.specs.Prelude.{ℕ, ◌≡◌, ◌+◌, List, Option, None, Some, Result, Ok, Err}
use Rattle.th_outside.specs.declared.files.ReadError.{ReadError}
use Rattle.th_outside.specs.declared.files.ReadError.TheVariants.{Missing, Failed}

-- the count after a read
abbrev pub faults_after_read : {T : Type 0} → ℕ → Result T ReadError → ℕ
faults_after_read count (Err Failed) = count + 1
faults_after_read count (Err Missing) = count
faults_after_read count (Ok n) = count

-- the count after a write
abbrev pub faults_after_write : {T E : Type 0} → ℕ → Result T E → ℕ
faults_after_write count (Err e) = count + 1
faults_after_write count (Ok n) = count

-- the name of the last call that failed, where it is told, is this call's if it failed, and else as before
abbrev pub FailedAfter : {T : Type 0} → Option (List ℕ) → List ℕ → Result T ReadError → Option (List ℕ) → Type 0
FailedAfter old name (Err Failed) None = Unit {0}
FailedAfter old name (Err Failed) (Some last) = last ≡ name
FailedAfter old name (Err Missing) new = new ≡ old
FailedAfter old name (Ok n) new = new ≡ old

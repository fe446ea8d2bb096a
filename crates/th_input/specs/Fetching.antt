-- What is read of a file.
use Rattle.std.specs.Prelude.{ℕ, ◌≡◌, ◌+◌, ◌≤◌, List, length, take, Option, None, Some, Result, Ok, Err, IfSome}
use Rattle.th_outside.specs.Store.{NamedFile, content}
use Rattle.th_input.specs.declared.limit.TheConstants.{MOST_FILE_BYTES}
use Rattle.th_input.specs.declared.fetching.FetchFault.{FetchFault}
use Rattle.th_input.specs.declared.fetching.FetchFault.TheVariants.{Missing, Failed, Memory}

-- the file of a name, where the store is told, begins with these bytes, and has no more, or as many as are read at most
abbrev pub IsFront : Option (List NamedFile) → List ℕ → List ℕ → Type 0
IsFront None name bytes = Unit {0}
IsFront (Some files) name bytes = IfSome (content files name) (λ file. bytes ≡ take (MOST_FILE_BYTES + 1) file)

-- the count of faults after a file was read
abbrev pub faults_after_fetch : {T : Type 0} → ℕ → Result T FetchFault → ℕ
faults_after_fetch count (Ok bytes) = count
faults_after_fetch count (Err Missing) = count
faults_after_fetch count (Err Failed) = count + 1
faults_after_fetch count (Err Memory) = count

-- the name of the last read that failed, where it is told, is this file's if the fetch failed, and else as before
abbrev pub FailedAfterFetch : {T : Type 0} → Option (List ℕ) → List ℕ → Result T FetchFault → Option (List ℕ) → Type 0
FailedAfterFetch old name (Err Failed) None = Unit {0}
FailedAfterFetch old name (Err Failed) (Some last) = last ≡ name
FailedAfterFetch old name (Err Missing) new = new ≡ old
FailedAfterFetch old name (Err Memory) new = new ≡ old
FailedAfterFetch old name (Ok bytes) new = new ≡ old

-- the file of a name, where the store is told, begins with these bytes
abbrev pub IsFrontSoFar : Option (List NamedFile) → List ℕ → List ℕ → Type 0
IsFrontSoFar None name bytes = Unit {0}
IsFrontSoFar (Some files) name bytes = IfSome (content files name) (λ file. bytes ≡ take (length bytes) file)

-- the file of a name, where the store is told, is no longer than this
abbrev pub EndsAt : Option (List NamedFile) → List ℕ → ℕ → Type 0
EndsAt None name n = Unit {0}
EndsAt (Some files) name n = IfSome (content files name) (λ file. length file ≤ n)

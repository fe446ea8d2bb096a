-- Where the reading of a file stands behind its first items.
use Rattle.std.proofs.Common.{◌≡◌, ℕ, ◌+◌, ◌-◌, ◌≤◌, Bool, true, false, ◌&&◌, List, length, drop, Ok, Err, ap, ◌∙◌, arith}
use Rattle.std.specs.Prelude.{nat_le}
use Rattle.std.proofs.lemmas.List.{drop-drop, length-drop}
use Rattle.th_syntax.specs.declared.cause.TheConstants as cause
use Rattle.th_syntax.specs.declared.limit.TheConstants.{OLDEST_MAJOR, NEWEST_MAJOR}
use Rattle.th_syntax.specs.Flaws.{flaw_at}
use Rattle.th_syntax.specs.Forms.{Form, Placed, Found, read}
use Rattle.th_syntax.specs.ClassBytes.{u2, class_file}
use Rattle.th_syntax.proofs.ReadingParts.{read_behind, read_length, read_demand, read_refusal, step_ok}
use Rattle.th_reader.specs.ClassParts.{behind_version}

-- what is left behind a part of a file is the file from there on
pub place_in_file : {A : Type 0} (f : Form A) (at : ℕ) (bytes rest : List ℕ) (found : Found A) → at ≤ length bytes → rest ≡ drop at bytes → read f at rest ≡ Ok found → (found.1 ≤ length bytes) × (found.2 ≡ drop found.1 bytes)
place_in_file f at bytes rest found within from e =
    let far = read_behind f at rest found e in
    let long = read_length f at rest found e in
    let low : at ≤ found.1 = far.0 in
    let size : length rest ≡ length bytes - at = ap length from ∙ length-drop at bytes in
    let sum : (found.1 - at) + at ≡ found.1 = omega arith in
    (omega arith, far.1 ∙ ap (drop (found.1 - at)) from ∙ drop-drop (found.1 - at) at bytes ∙ ap (λ (k : ℕ). drop k bytes) (omega arith))

-- whether the major version is read
abbrev known : ℕ → Bool
known major = nat_le OLDEST_MAJOR major && nat_le major NEWEST_MAJOR

pub class_is : (rest : List ℕ) (minor major : Placed ℕ) (b c : ℕ) (u v : List ℕ) → read u2 4 rest ≡ Ok (minor, b, u) → read u2 b u ≡ Ok (major, c, v) → known major.value ≡ true
    → read class_file 4 rest ≡ read (behind_version major.value) c v
unfolding class_file
class_is rest minor major b c u v first second holds =
    step_ok u2 _ 4 rest (minor, b, u) _ first (step_ok u2 _ b u (major, c, v) _ second (read_demand (known major.value) major.at cause.VERSION _ c v holds))

pub class_unknown : (rest : List ℕ) (minor major : Placed ℕ) (b c : ℕ) (u v : List ℕ) → read u2 4 rest ≡ Ok (minor, b, u) → read u2 b u ≡ Ok (major, c, v) → known major.value ≡ false
    → read class_file 4 rest ≡ Err (flaw_at cause.VERSION major.at)
unfolding class_file
class_unknown rest minor major b c u v first second fails =
    step_ok u2 _ 4 rest (minor, b, u) _ first (step_ok u2 _ b u (major, c, v) _ second (read_refusal (known major.value) major.at cause.VERSION _ c v fails))

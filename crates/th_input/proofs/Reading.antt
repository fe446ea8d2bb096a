-- What was read of a file is the file, where it isn't too long.
use Rattle.std.proofs.Common.{◌≡◌, ℕ, ◌+◌, ◌<◌, ◌≤◌, List, [], ◌∷◌, ◌++◌, map, length, take, Option, None, Some, Result, Ok, Err, IfSome, refl, ap, sym, ◌∙◌, arith, length-take, subst}
use Rattle.std.specs.Prelude.{IfOk}
use Rattle.std.proofs.lemmas.List.{take_all, map-append}
use Rattle.std.proofs.lemmas.List.Sums.{sum_by-cons, sum_by-append}
use Rattle.th_base.specs.declared.fail.Fail.{Fail}
use Rattle.th_base.specs.declared.fail.Fail.TheVariants.{Refused, NoMemory}
use Rattle.th_outside.specs.Store.{NamedFile, content, Lacks}
use Rattle.th_input.specs.declared.limit.TheConstants.{MOST_FILE_BYTES, MOST_BYTES}
use Rattle.th_input.specs.declared.unread.Unread.{Unread}
use Rattle.th_input.specs.declared.unread.Unread.TheVariants.{TooManyBytes}
use Rattle.th_input.specs.Fetching.{IsFront}
use Rattle.th_input.specs.Input.{MayHold, IsUnread, too_long, IfStopped, AreRead, EndsAtFile, EndsWithin, total}
use Rattle.th_input.proofs.Growing.{all_more}

whole_if : (file : Option (List ℕ)) (bytes : List ℕ) → IfSome file (λ f. bytes ≡ take (MOST_FILE_BYTES + 1) f) → (file ≡ None → ⊥) → length bytes ≤ MOST_FILE_BYTES → file ≡ Some bytes
whole_if None bytes front there short = absurd (there refl)
whole_if (Some file) bytes front there short =
    let len : length bytes ≡ length (take (MOST_FILE_BYTES + 1) file) = ap length front in
    let fits : length file ≤ MOST_FILE_BYTES + 1 = omega (arith, len, length-take (MOST_FILE_BYTES + 1) file, short) in
    ap (λ (f : List ℕ). Some f) (sym (front ∙ take_all (MOST_FILE_BYTES + 1) file fits))

pub whole : (told : Option (List NamedFile)) (name bytes : List ℕ) → IsFront told name bytes → (Lacks told name → ⊥) → length bytes ≤ MOST_FILE_BYTES → MayHold told name bytes
whole None name bytes front there short = tt
whole (Some files) name bytes front there short = whole_if (content files name) bytes front there short

pub record IsLong (told : Option (List NamedFile)) (name : List ℕ) : Type 0 where
  pub bytes : List ℕ
  pub held : MayHold told name bytes
  pub long : MOST_FILE_BYTES < length bytes

long_if : (file : Option (List ℕ)) (bytes : List ℕ) → IfSome file (λ f. bytes ≡ take (MOST_FILE_BYTES + 1) f) → (file ≡ None → ⊥) → MOST_FILE_BYTES < length bytes
    → (f : List ℕ) × (file ≡ Some f) × (MOST_FILE_BYTES < length f)
long_if None bytes front there long = absurd (there refl)
long_if (Some file) bytes front there long =
    let len : length bytes ≡ length (take (MOST_FILE_BYTES + 1) file) = ap length front in
    (file, refl, omega (arith, len, length-take (MOST_FILE_BYTES + 1) file, long))

pub is_long : (told : Option (List NamedFile)) (name bytes : List ℕ) → IsFront told name bytes → (Lacks told name → ⊥) → MOST_FILE_BYTES < length bytes → IsLong told name
is_long None name bytes front there long = record { bytes = bytes; held = tt; long = long }
is_long (Some files) name bytes front there long =
    let found = long_if (content files name) bytes front there long in
    record { bytes = found.0; held = found.1; long = found.2 }

-- ---- of the call that looks at the length

pub held_where_short : (r : Result (List ℕ) (Fail Unread)) (told : Option (List NamedFile)) (name bytes : List ℕ) → IfOk r (λ text. text ≡ bytes) → IfOk r (λ text. length text ≤ MOST_FILE_BYTES)
    → IsFront told name bytes → (Lacks told name → ⊥) → IfOk r (MayHold told name)
held_where_short (Ok text) told name bytes same short front there =
    subst (MayHold told name) (sym same) (whole told name bytes front there (subst (λ (t : List ℕ). length t ≤ MOST_FILE_BYTES) same short))
held_where_short (Err e) told name bytes same short front there = tt

pub unread_where_long : (r : Result (List ℕ) (Fail Unread)) (told : Option (List NamedFile)) (name bytes : List ℕ) → IfStopped r (λ unread. (MOST_FILE_BYTES < length bytes) × (unread ≡ TooManyBytes name))
    → IsFront told name bytes → (Lacks told name → ⊥) → IfStopped r (IsUnread told name)
unread_where_long (Ok text) told name bytes long front there = tt
unread_where_long (Err (Refused unread)) told name bytes long front there =
    let is = is_long told name bytes front there long.0 in too_long is.bytes is.held is.long long.1
unread_where_long (Err NoMemory) told name bytes long front there = tt

-- ---- the files so far

pub total_more : (files : List NamedFile) (name bytes : List ℕ) → total (files ++ (name, bytes) ∷ []) ≡ total files + length bytes
total_more files name bytes =
    sum_by-append (λ (f : NamedFile). length f.1) files ((name, bytes) ∷ [])
    ∙ (let one = sum_by-cons (λ (f : NamedFile). length f.1) (name, bytes) [] in
    let g : total files + total ((name, bytes) ∷ []) ≡ total files + length bytes = omega (arith, one) in g)

-- one more file was read
pub read_more : (told : Option (List NamedFile)) (names : List (List ℕ)) (files : List NamedFile) (name bytes : List ℕ) → AreRead told names files → MayHold told name bytes
    → length bytes ≤ MOST_FILE_BYTES → total files + length bytes ≤ MOST_BYTES → AreRead told (names ++ name ∷ []) (files ++ (name, bytes) ∷ [])
read_more told names files name bytes read held short few = record {
  named = map-append (λ (f : NamedFile). f.0) files ((name, bytes) ∷ []) ∙ ap (λ (ns : List (List ℕ)). ns ++ name ∷ []) read.named;
  held = all_more (λ (f : NamedFile). MayHold told f.0 f.1) files (name, bytes) read.held held;
  short = record {
    each = all_more (λ (f : NamedFile). length f.1 ≤ MOST_FILE_BYTES) files (name, bytes) read.short.each short;
    together = let sum = total_more files name bytes in omega (arith, sum, few);
  };
}

-- the reading ends at the next file
pub ends_here : (told : Option (List NamedFile)) (front names behind : List (List ℕ)) (files : List NamedFile) (name : List ℕ) (unread : Unread) → AreRead told front files
    → names ≡ front ++ name ∷ behind → EndsAtFile told files name unread → EndsWithin told names unread
ends_here told front names behind files name unread read cut ends = record {
  before = files;
  name = name;
  behind = behind;
  names_are = cut ∙ ap (λ (ns : List (List ℕ)). ns ++ name ∷ behind) (sym read.named);
  held = read.held;
  short = read.short;
  ends = ends;
}

-- ---- what follows from why a call gave nothing

pub stopped_then : {X R : Type 0} {P Q : R → Type 0} (r : Result X (Fail R)) → IfStopped r P → ((reason : R) → P reason → Q reason) → IfStopped r Q
stopped_then (Ok x) stopped then = tt
stopped_then (Err (Refused reason)) stopped then = then reason stopped
stopped_then (Err NoMemory) stopped then = tt

-- the same where the fault is handed on
pub handed_on : {X Y R : Type 0} {P Q : R → Type 0} (r : Result X (Fail R)) (s : Result Y (Fail R)) (fail : Fail R) → r ≡ Err fail → s ≡ Err fail → IfStopped r P → ((reason : R) → P reason → Q reason) → IfStopped s Q
handed_on {P = P} {Q = Q} r s (Refused reason) from to stopped then =
    subst (λ t. IfStopped t Q) (sym to) (then reason (subst (λ t. IfStopped t P) from stopped))
handed_on {Q = Q} r s NoMemory from to stopped then = subst (λ t. IfStopped t Q) (sym to) tt

-- Opcodes that no row has.
use Rattle.std.proofs.Common.{◌≡◌, ℕ, zero, suc, ◌+◌, ◌-◌, ◌≤◌, ◌<◌, Bool, true, false, not, ◌&&◌, ◌||◌, cond, List, [], ◌∷◌, Ok, Err, refl, sym, ap, subst, ◌∙◌, arith}
use Rattle.std.specs.Prelude.{nat_le}
use Rattle.std.specs.List.{list_any}
use Rattle.th_syntax.specs.declared.cause.TheConstants as cause
use Rattle.th_syntax.specs.declared.instr.Instr.{Instr}
use Rattle.th_syntax.specs.Forms.{Form, wrong, read}
use Rattle.th_syntax.specs.ClassBytes.{Pool}
use Rattle.th_syntax.specs.CodeBytes.{Spelled, plain, Row, among, rows}
use Rattle.th_code.specs.Judged.{judged, operands_of}
use Rattle.th_code.proofs.Operands.{judged_plain}

-- whether one of the rows has the opcode
abbrev pub covers : List Row → ℕ → Bool
covers rows code = list_any (λ row. nat_le row.first code && nat_le code row.last) rows

-- whether the test holds of so many numbers from the first one on
unfoldable pub all_in : ℕ → ℕ → (ℕ → Bool) → Bool
all_in first zero test = true
all_in first (suc n) test = test first && all_in (first + 1) n test

left_of : (a b : Bool) → (a && b) ≡ true → a ≡ true
left_of true b e = refl
left_of false b e = e

right_of : (a b : Bool) → (a && b) ≡ true → b ≡ true
right_of true b e = e
right_of false b e = absurd cc

holds_at : (j n first : ℕ) (test : ℕ → Bool) → all_in first n test ≡ true → j < n → test (first + j) ≡ true
unfolding all_in
holds_at j zero first test e lt = absurd (omega arith)
holds_at zero (suc n) first test e lt =
    let here : first + 0 ≡ first = omega arith in
    ap test here ∙ left_of (test first) (all_in (first + 1) n test) e
holds_at (suc j) (suc n) first test e lt =
    let here : first + suc j ≡ (first + 1) + j = omega arith in
    ap test here ∙ holds_at j n (first + 1) test (right_of (test first) (all_in (first + 1) n test) e) (omega arith)

not_covered : (c l : Bool) → (not c || l) ≡ true → l ≡ false → c ≡ false
not_covered true l e is = let h : false ≡ true = sym is ∙ e in absurd cc
not_covered false l e is = refl

-- what isn't listed is in no row
pub sieved : (first n : ℕ) (covered listed : ℕ → Bool) → all_in first n (λ k. not (covered k) || listed k) ≡ true → (code : ℕ) → first ≤ code → code < first + n → listed code ≡ false → covered code ≡ false
sieved first n covered listed all code low high other =
    let is : first + (code - first) ≡ code = omega arith in
    let here : (not (covered (first + (code - first))) || listed (first + (code - first))) ≡ true = holds_at (code - first) n first (λ k. not (covered k) || listed k) all (omega arith) in
    not_covered (covered code) (listed code) (subst (λ (k : ℕ). (not (covered k) || listed k) ≡ true) is here) other

neither : (a b : Bool) → (a || b) ≡ false → (a ≡ false) × (b ≡ false)
neither true b e = absurd cc
neither false b e = (refl, e)

skips : (one : Row) (code pc : ℕ) (others : Form Spelled) → (nat_le one.first code && nat_le code one.last) ≡ false → cond (nat_le one.first code && nat_le code one.last) (one.operands (code - one.first) pc) others ≡ others
skips one code pc others e = rw e refl

pub among_none : (rows : List Row) (code pc at : ℕ) → covers rows code ≡ false → among rows code pc at ≡ wrong at cause.OPCODE
among_none [] code pc at e = refl
among_none (one ∷ rows) code pc at e =
    let parts = neither (nat_le one.first code && nat_le code one.last) (covers rows code) e in
    skips one code pc (among rows code pc at) parts.0 ∙ among_none rows code pc at parts.1

pub wrong_judged : (pc at : ℕ) (bytes : List ℕ) → judged (wrong pc cause.OPCODE) at bytes ≡ Err cause.OPCODE
unfolding judged read
wrong_judged pc at bytes = refl

pub refused_opcode : (pool : Pool) (code pc at : ℕ) (bytes : List ℕ) → covers (rows pool) code ≡ false → judged (operands_of pool code pc) at bytes ≡ Err cause.OPCODE
unfolding operands_of
refused_opcode pool code pc at bytes e = ap (λ (form : Form Spelled). judged form at bytes) (among_none (rows pool) code pc pc e) ∙ wrong_judged pc at bytes

-- an instruction without operands
pub bare_read : (pool : Pool) (code pc at : ℕ) (bytes : List ℕ) (i : Instr) → operands_of pool code pc ≡ plain i → judged (operands_of pool code pc) at bytes ≡ Ok (i, at, bytes)
bare_read pool code pc at bytes i e = ap (λ (form : Form Spelled). judged form at bytes) e ∙ judged_plain i at bytes

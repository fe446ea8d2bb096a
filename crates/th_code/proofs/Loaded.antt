-- What the pool gives to the instructions that load a constant.
use Rattle.std.proofs.Common.{◌≡◌, ℕ, true, false, List, Result, Ok, Err, refl, ap}
use Rattle.std.specs.Prelude.{Option, Some, None, ◌==◌, ℤ}
use Rattle.std.specs.Option.{option_map, option_map_or, option_and_then}
use Rattle.th_syntax.specs.declared.cause.TheConstants as cause
use Rattle.th_syntax.specs.declared.tag.TheConstants as tag
use Rattle.th_syntax.specs.declared.instr.Instr.{Instr}
use Rattle.th_syntax.specs.declared.instr.Instr.TheVariants.{Int, Long, Str}
use Rattle.th_syntax.specs.Forms.{Form, whole, item, wrong, Found, read}
use Rattle.th_syntax.specs.ClassBytes.{Pool, Entry, integer, float, long, double, string, tag_of}
use Rattle.th_syntax.specs.PoolChecks.{entry_of, has_tag, utf8_of, integer_in, integer_of, long_in, long_of, string_in, string_of}
use Rattle.th_syntax.specs.CodeBytes.{Spelled, instr, flawed, plain, given, loaded, load, loaded_wide, load_wide}
use Rattle.th_code.specs.Judged.{judged, said}

-- ---- forms that take no bytes

abbrev IsWhole : Form Spelled → Type 0
IsWhole (whole s) = Unit {0}
IsWhole other = ⊥

pub said_ok : (form : Form Spelled) (i : Instr) (at : ℕ) (bytes : List ℕ) → said form ≡ Ok i → judged form at bytes ≡ Ok (i, at, bytes)
unfolding judged read
said_ok (whole (instr j)) i at bytes e = let same : j ≡ i = cc in ap (λ (x : Instr). (let r : Result (Found Instr) ℕ = Ok (x, at, bytes) in r)) same
said_ok (whole (flawed number numbers)) i at bytes e = absurd cc
said_ok (item n next) i at bytes e = absurd cc
said_ok (wrong place number) i at bytes e = absurd cc

said_err : (form : Form Spelled) (n at : ℕ) (bytes : List ℕ) → IsWhole form → said form ≡ Err n → judged form at bytes ≡ Err n
unfolding judged read
said_err (whole (instr j)) n at bytes is e = absurd cc
said_err (whole (flawed number numbers)) n at bytes is e = let same : _ ≡ n = cc in ap (λ (x : ℕ). (let r : Result (Found Instr) ℕ = Err x in r)) same
said_err (item k next) n at bytes is e = absurd is
said_err (wrong place number) n at bytes is e = absurd is

text_whole : (o : Option (List ℕ)) → IsWhole (given cause.OPCODE o (λ bytes. plain (Str bytes)))
text_whole None = tt
text_whole (Some bytes) = tt

load_whole : (pool : Pool) (o : Option Entry) → IsWhole (given cause.OPCODE o (loaded pool))
load_whole pool None = tt
load_whole pool (Some (integer value)) = tt
load_whole pool (Some (string text)) = text_whole (utf8_of pool text)
load_whole pool (Some float) = tt
load_whole pool (Some other) = tt

wide_whole : (o : Option Entry) → IsWhole (given cause.OPCODE o loaded_wide)
wide_whole None = tt
wide_whole (Some (long value)) = tt
wide_whole (Some double) = tt
wide_whole (Some other) = tt

pub load_ok : (pool : Pool) (index : ℕ) (i : Instr) (at : ℕ) (bytes : List ℕ) → said (load pool index) ≡ Ok i → judged (load pool index) at bytes ≡ Ok (i, at, bytes)
load_ok pool index i at bytes e = said_ok (load pool index) i at bytes e

pub load_err : (pool : Pool) (index n at : ℕ) (bytes : List ℕ) → said (load pool index) ≡ Err n → judged (load pool index) at bytes ≡ Err n
load_err pool index n at bytes e = said_err (load pool index) n at bytes (load_whole pool (entry_of pool index)) e

pub wide_ok : (pool : Pool) (index : ℕ) (i : Instr) (at : ℕ) (bytes : List ℕ) → said (load_wide pool index) ≡ Ok i → judged (load_wide pool index) at bytes ≡ Ok (i, at, bytes)
wide_ok pool index i at bytes e = said_ok (load_wide pool index) i at bytes e

pub wide_err : (pool : Pool) (index n at : ℕ) (bytes : List ℕ) → said (load_wide pool index) ≡ Err n → judged (load_wide pool index) at bytes ≡ Err n
wide_err pool index n at bytes e = said_err (load_wide pool index) n at bytes (wide_whole (entry_of pool index)) e

-- ---- ldc and ldc_w

int_at : (pool : Pool) (o : Option Entry) (v : ℤ) → Some v ≡ option_and_then integer_in o → said (given cause.OPCODE o (loaded pool)) ≡ Ok (Int v)
int_at pool None v e = absurd cc
int_at pool (Some (integer w)) v e = let same : w ≡ v = cc in ap (λ (x : ℤ). (let r : Result Instr ℕ = Ok (Int x) in r)) same
int_at pool (Some other) v e = absurd cc

text_at : (pool : Pool) (o : Option Entry) (bytes copy : List ℕ) → Some bytes ≡ option_and_then (string_in pool) o → copy ≡ bytes → said (given cause.OPCODE o (loaded pool)) ≡ Ok (Str copy)
text_at pool None bytes copy e same = absurd cc
text_at pool (Some (string text)) bytes copy e same = rw (← e, same) refl
text_at pool (Some other) bytes copy e same = absurd cc

float_at : (pool : Pool) (o : Option Entry) → option_map_or (λ found. found == tag.FLOAT) (option_map tag_of o) false ≡ true → said (given cause.OPCODE o (loaded pool)) ≡ Err 7
float_at pool None e = absurd cc
float_at pool (Some float) e = refl
float_at pool (Some other) e = absurd cc

other_at : (pool : Pool) (o : Option Entry) → None ≡ option_and_then integer_in o → None ≡ option_and_then (string_in pool) o → option_map_or (λ found. found == tag.FLOAT) (option_map tag_of o) false ≡ false → said (given cause.OPCODE o (loaded pool)) ≡ Err cause.OPCODE
other_at pool None e f g = refl
other_at pool (Some (integer w)) e f g = absurd cc
other_at pool (Some (string text)) e f g = rw (← f) refl
other_at pool (Some float) e f g = absurd cc
other_at pool (Some other) e f g = refl

pub load_int : (pool : Pool) (index : ℕ) (v : ℤ) → Some v ≡ integer_of pool index → said (load pool index) ≡ Ok (Int v)
load_int pool index v e = int_at pool (entry_of pool index) v e

pub load_text : (pool : Pool) (index : ℕ) (bytes copy : List ℕ) → Some bytes ≡ string_of pool index → copy ≡ bytes → said (load pool index) ≡ Ok (Str copy)
load_text pool index bytes copy e same = text_at pool (entry_of pool index) bytes copy e same

pub load_float : (pool : Pool) (index : ℕ) → has_tag pool index tag.FLOAT ≡ true → said (load pool index) ≡ Err 7
load_float pool index e = float_at pool (entry_of pool index) e

pub load_other : (pool : Pool) (index : ℕ) → None ≡ integer_of pool index → None ≡ string_of pool index → has_tag pool index tag.FLOAT ≡ false → said (load pool index) ≡ Err cause.OPCODE
load_other pool index e f g = other_at pool (entry_of pool index) e f g

pub ruleset loads = (load_int, load_text, load_float, load_other)

-- ---- ldc2_w

long_at : (o : Option Entry) (v : ℤ) → Some v ≡ option_and_then long_in o → said (given cause.OPCODE o loaded_wide) ≡ Ok (Long v)
long_at None v e = absurd cc
long_at (Some (long w)) v e = let same : w ≡ v = cc in ap (λ (x : ℤ). (let r : Result Instr ℕ = Ok (Long x) in r)) same
long_at (Some other) v e = absurd cc

double_at : (o : Option Entry) → option_map_or (λ found. found == tag.DOUBLE) (option_map tag_of o) false ≡ true → said (given cause.OPCODE o loaded_wide) ≡ Err 7
double_at None e = absurd cc
double_at (Some double) e = refl
double_at (Some other) e = absurd cc

wide_other_at : (o : Option Entry) → None ≡ option_and_then long_in o → option_map_or (λ found. found == tag.DOUBLE) (option_map tag_of o) false ≡ false → said (given cause.OPCODE o loaded_wide) ≡ Err cause.OPCODE
wide_other_at None e g = refl
wide_other_at (Some (long w)) e g = absurd cc
wide_other_at (Some double) e g = absurd cc
wide_other_at (Some other) e g = refl

pub wide_long : (pool : Pool) (index : ℕ) (v : ℤ) → Some v ≡ long_of pool index → said (load_wide pool index) ≡ Ok (Long v)
wide_long pool index v e = long_at (entry_of pool index) v e

pub wide_double : (pool : Pool) (index : ℕ) → has_tag pool index tag.DOUBLE ≡ true → said (load_wide pool index) ≡ Err 7
wide_double pool index e = double_at (entry_of pool index) e

pub wide_other : (pool : Pool) (index : ℕ) → None ≡ long_of pool index → has_tag pool index tag.DOUBLE ≡ false → said (load_wide pool index) ≡ Err cause.OPCODE
wide_other pool index e g = wide_other_at (entry_of pool index) e g

pub ruleset wide_loads = (wide_long, wide_double, wide_other)

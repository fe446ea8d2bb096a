-- The flaws of a Code attribute's content, and of what is decoded of it.
use Rattle.std.proofs.Common.{◌≡◌, ℕ, Bool, true, false, ◌&&◌, List, Err, refl, sym, ap, ◌∙◌}
use Rattle.std.specs.Prelude.{Option, Some, nat_le, nat_lt}
use Rattle.th_base.specs.declared.fail.Fail.{Fail}
use Rattle.th_base.specs.declared.fail.Fail.TheVariants.{Refused, NoMemory}
use Rattle.th_syntax.specs.declared.cause.TheConstants as cause
use Rattle.th_syntax.specs.declared.limit.TheConstants.{MOST_CODE_BYTES}
use Rattle.th_syntax.specs.declared.refusal.Flaw.{Flaw}
use Rattle.th_syntax.specs.Flaws.{Ascend, IsFirst, flaw_at}
use Rattle.th_syntax.specs.ClassBytes.{Pool, RawCode}
use Rattle.th_syntax.specs.Decoding.{code_flaws, flaws_in}
use Rattle.th_pool.specs.Gives.{IfRefused}
use Rattle.th_reader.specs.Passes.{Makes, front_flaw}
use Rattle.th_reader.proofs.Walking.{front_first}

abbrev has_length : ℕ → Bool
has_length length = nat_lt 0 length && nat_le length MOST_CODE_BYTES

pub wrong_length : (pool : Pool) (code : RawCode) → has_length code.length.value ≡ false → front_flaw (code_flaws pool code) ≡ Some (flaw_at cause.CODE_SHAPE code.length.at)
unfolding code_flaws
wrong_length pool code e = rw e refl

pub good_length : (pool : Pool) (code : RawCode) → has_length code.length.value ≡ true → code_flaws pool code ≡ flaws_in pool code.max_locals code.bytes.at code.bytes.value
unfolding code_flaws
good_length pool code e = rw e refl

pub decode_stops : {X : Type 0} (Y : Type 0) (value : Option X) (flaws all : List Flaw) (fail : Fail Flaw) → all ≡ flaws → Ascend flaws → IfRefused {X = Y} (Err fail) (IsFirst flaws) → Makes all value (Err fail)
decode_stops Y value flaws all (Refused flaw) same up first = ap front_flaw same ∙ sym (front_first flaws flaw up first)
decode_stops Y value flaws all NoMemory same up first = tt

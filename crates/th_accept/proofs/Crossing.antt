-- Class files and refusals may go from thread to thread.
use denote.Param.Send.{IsSend, IsSync, recorded_send, recorded_sync, enum_send, enum_sync, EachSend, EachSync, sendable}
use denote.Enum.Declared.{Declared, shape, row}
use denote.Enum.Enum.{Enum}
use denote.RattleType.{RattleType}
use Rattle.std.proofs.Common.{ℕ, zero, suc, List, [], ◌∷◌, take, drop}
use Rattle.std.proofs.Crossing.{crosses}
use Rattle.th_base.specs.contracts.text.Text as Text
use Rattle.th_syntax.specs.contracts.instr.Instr as Instr
use Rattle.th_syntax.specs.contracts.class_file.Code as Code
use Rattle.th_syntax.specs.contracts.class_file.Constant as Constant
use Rattle.th_syntax.specs.contracts.class_file.Member as Member
use Rattle.th_syntax.specs.contracts.class_file.ClassFile as ClassFile
use Rattle.th_syntax.specs.contracts.refusal.Refusal as Refusal

pub text_send : IsSend Text.the_row
text_send = search (sendable, crosses) depth 40

pub text_sync : IsSync Text.the_row
text_sync = search (sendable, crosses) depth 40

-- ---- instructions: their variants are many, so they are searched for in parts, the switches in one of
-- their own

split_send : (n : ℕ) (variants : List (List RattleType)) → EachSend (take n variants) → EachSend (drop n variants) → EachSend variants
split_send zero variants front rest = rest
split_send (suc n) [] front rest = tt
split_send (suc n) (fields ∷ variants) front rest = (front.0, split_send n variants front.1 rest)

split_sync : (n : ℕ) (variants : List (List RattleType)) → EachSync (take n variants) → EachSync (drop n variants) → EachSync variants
split_sync zero variants front rest = rest
split_sync (suc n) [] front rest = tt
split_sync (suc n) (fields ∷ variants) front rest = (front.0, split_sync n variants front.1 rest)

enum_sends : (T : Declared) → EachSend (shape T).variants → IsSend (row T)
enum_sends T each = recorded_send (Enum (shape T)) T.D T.to T.to_one (enum_send (shape T) each)

enum_syncs : (T : Declared) → EachSync (shape T).variants → IsSync (row T)
enum_syncs T each = recorded_sync (Enum (shape T)) T.D T.to T.to_one (enum_sync (shape T) each)

abbrev variants : List (List RattleType)
variants = (shape Instr.the_type).variants

instr_variants_send : EachSend variants
instr_variants_send =
    split_send 16 variants (search (text_send, sendable, crosses) depth 40)
    (split_send 16 (drop 16 variants) (search (sendable, crosses) depth 40)
    (split_send 2 (drop 32 variants) (search (sendable, crosses) depth 40)
    (search (text_send, sendable, crosses) depth 40)))

instr_variants_sync : EachSync variants
instr_variants_sync =
    split_sync 16 variants (search (text_sync, sendable, crosses) depth 40)
    (split_sync 16 (drop 16 variants) (search (sendable, crosses) depth 40)
    (split_sync 2 (drop 32 variants) (search (sendable, crosses) depth 40)
    (search (text_sync, sendable, crosses) depth 40)))

pub instr_send : IsSend Instr.the_row
instr_send = enum_sends Instr.the_type instr_variants_send

pub instr_sync : IsSync Instr.the_row
instr_sync = enum_syncs Instr.the_type instr_variants_sync

pub constant_send : IsSend Constant.the_row
constant_send = search (text_send, sendable, crosses) depth 40

pub constant_sync : IsSync Constant.the_row
constant_sync = search (text_sync, sendable, crosses) depth 40

pub code_send : IsSend Code.the_row
code_send = search (instr_send, sendable, crosses) depth 40

pub code_sync : IsSync Code.the_row
code_sync = search (instr_sync, sendable, crosses) depth 40

pub member_send : IsSend Member.the_row
member_send = search (text_send, constant_send, code_send, sendable, crosses) depth 40

pub member_sync : IsSync Member.the_row
member_sync = search (text_sync, constant_sync, code_sync, sendable, crosses) depth 40

pub class_send : IsSend ClassFile.the_row
class_send = search (text_send, member_send, sendable, crosses) depth 40

pub class_sync : IsSync ClassFile.the_row
class_sync = search (text_sync, member_sync, sendable, crosses) depth 40

pub refusal_send : IsSend Refusal.the_row
refusal_send = search (text_send, sendable, crosses) depth 40

use Rattle.std.proofs.Common.{◌∙◌, ℕ, List, sym}
use Rattle.std.specs.Prelude.{Some}
use Rattle.std.proofs.lemmas.Result.{err_from_is_err_and}
use Rattle.th_syntax.specs.declared.instr.Instr.{Instr}
use Rattle.th_syntax.specs.Decoding.{flaws_in, code_flaws}
use Rattle.th_syntax.specs.ClassGrammar as grammar
use Rattle.th_reader.specs.RawView.{code_view}
use Rattle.th_reader.proofs.Coding.{wrong_length, good_length, decode_stops}
use Rattle.th_reader.proofs.codes.code_of.Goals as goal

pub returns-then-not-is_code_length : goal.returns-then-not-is_code_length
returns-then-not-is_code_length c = wrong_length c.args.pool.now (code_view c.args.raw) (sym c.is_code_length.ensures ∙ cc)

pub returns-in_err-instrs : goal.returns-in_err-instrs
returns-in_err-instrs c =
    let raw = code_view c.args.raw in
    let p = err_from_is_err_and c.from_residual.result c.from_residual.ensures.1 in
    let good = good_length c.args.pool.now (code_view c.args.raw) (sym c.is_code_length.ensures ∙ cc) in
    rw (p.1, p.2)
    (decode_stops (List (ℕ × Instr)) (Some (grammar.code_value c.args.pool.now raw)) (flaws_in c.args.pool.now raw.max_locals raw.bytes.at raw.bytes.value) (code_flaws c.args.pool.now raw) c.in_err-instrs.field-0.0 good (c.flaws_ascend.ensures.code c.args.pool.now raw.max_locals raw.bytes.at raw.bytes.value) c.in_err-instrs.ensures.first)

pub returns : goal.returns
returns c =
    let good = good_length c.args.pool.now (code_view c.args.raw) (sym c.is_code_length.ensures ∙ cc) in
    (good ∙ c.in_ok-instrs.ensures.flawless, rw c.in_ok-instrs.ensures.value cc)

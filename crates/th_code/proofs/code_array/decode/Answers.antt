use Rattle.std.proofs.Common.{◌∙◌, ◌+◌, ◌<◌, ℕ, Bool, List, length, ap, arith}
use Rattle.th_syntax.specs.declared.instr.Instr.{Instr}
use Rattle.th_code.specs.Starts.{is_marked, first_stray_of}
use Rattle.th_code.proofs.Flowing.{stray_inside, no_flaws, stray_first, fail_first}
use Rattle.th_code.proofs.code_array.decode.Goals as goal

pub returns-in-Err-clause-first : goal.returns-in-Err-clause-first
returns-in-Err-clause-first c =
    fail_first ℕ ℕ c.args.pool.now c.args.max_locals c.args.at c.args.code.now c.in-Err.fail (c.flaws_ascend.ensures.code c.args.pool.now c.args.max_locals c.args.at c.args.code.now) c.flaws_ascend.ensures.first c.in-Err.ensures.stopped

pub refused-requires : goal.refused-requires
refused-requires c =
    let starts = c.in-Ok.decoded.starts.items in
    let strays = c.in-Some.ensures ∙ ap (λ (s : List Bool). first_stray_of (is_marked s) c.as_slice-2.result.now) c.as_slice.ensures.value ∙ ap (λ (xs : List (ℕ × Instr)). first_stray_of (is_marked starts) xs) c.as_slice-2.ensures.value in
    let inside : c.in-Some.pc < length c.args.code.now = stray_inside c.args.pool.now c.args.max_locals c.args.at c.args.code.now c.in-Ok.decoded.instrs.items starts c.in-Some.pc c.in-Ok.ensures.read strays in
    let room : c.args.at + length c.args.code.now < 4294967296 = c.requires in
    omega arith

pub returns-in-Some-clause-first : goal.returns-in-Some-clause-first
returns-in-Some-clause-first c =
    let starts = c.in-Ok.decoded.starts.items in
    let strays = c.in-Some.ensures ∙ ap (λ (s : List Bool). first_stray_of (is_marked s) c.as_slice-2.result.now) c.as_slice.ensures.value ∙ ap (λ (xs : List (ℕ × Instr)). first_stray_of (is_marked starts) xs) c.as_slice-2.ensures.value in
    rw c.refused.ensures
    (stray_first c.args.pool.now c.args.max_locals c.args.at c.args.code.now c.in-Ok.decoded.instrs.items starts c.in-Some.pc (c.flaws_ascend.ensures.code c.args.pool.now c.args.max_locals c.args.at c.args.code.now) c.flaws_ascend.ensures.first c.in-Ok.ensures.read strays)

pub returns-in-None-clause-flawless : goal.returns-in-None-clause-flawless
returns-in-None-clause-flawless c =
    let starts = c.in-Ok.decoded.starts.items in
    let strays = c.in-None.ensures ∙ ap (λ (s : List Bool). first_stray_of (is_marked s) c.as_slice-2.result.now) c.as_slice.ensures.value ∙ ap (λ (xs : List (ℕ × Instr)). first_stray_of (is_marked starts) xs) c.as_slice-2.ensures.value in
    no_flaws c.args.pool.now c.args.max_locals c.args.at c.args.code.now c.in-Ok.decoded.instrs.items starts c.in-Ok.ensures.read strays

use Rattle.std.proofs.Common.{◌≡◌, ◌∙◌, ◌+◌, ◌<◌, ℕ, true, false, length, sym, arith}
use Rattle.std.specs.Prelude.{nat_le}
use Rattle.th_syntax.specs.Decoding.{locals_named}
use Rattle.th_code.proofs.Steps.{starts_out, shrinks, passes_on, passes_short, fail_stops, is_passed, more_so, no_more}
use Rattle.th_code.proofs.code_array.read_instrs.Goals as goal

pub loop-place-init : goal.loop-place-init
loop-place-init c =
    rw (c.new-instrs.ensures.items, c.start_of-place.ensures.at, c.start_of-place.ensures.rest)
    (starts_out c.args.pool.now c.args.max_locals c.args.at c.args.code.now c.in_ok-starts.starts.items c.in_ok-starts.ensures.len c.in_ok-starts.ensures.none)

pub placed-requires : goal.placed-requires
placed-requires c =
    let lt : 0 < length c.loop-place.place.rest.now = more_so (length c.loop-place.place.rest.now) (sym c.has_more.ensures ∙ c.loop-place-test.true) in
    let total : c.loop-place.place.at + length c.loop-place.place.rest.now ≡ length c.args.code.now = c.loop-place.invariant.place in
    let room : c.args.at + length c.args.code.now < 4294967296 = c.requires in
    let here : c.offset_of-pc.result ≡ c.loop-place.place.at = c.offset_of-pc.ensures in
    omega arith

pub refused-requires : goal.refused-requires
refused-requires c =
    let lt : 0 < length c.loop-place.place.rest.now = more_so (length c.loop-place.place.rest.now) (sym c.has_more.ensures ∙ c.loop-place-test.true) in
    let total : c.loop-place.place.at + length c.loop-place.place.rest.now ≡ length c.args.code.now = c.loop-place.invariant.place in
    let room : c.args.at + length c.args.code.now < 4294967296 = c.requires in
    let here : c.offset_of-pc.result ≡ c.loop-place.place.at = c.offset_of-pc.ensures in
    omega arith

pub mark-requires : goal.mark-requires
mark-requires c =
    let lt : 0 < length c.loop-place.place.rest.now = more_so (length c.loop-place.place.rest.now) (sym c.has_more.ensures ∙ c.loop-place-test.true) in
    let total : c.loop-place.place.at + length c.loop-place.place.rest.now ≡ length c.args.code.now = c.loop-place.invariant.place in
    let room : c.args.at + length c.args.code.now < 4294967296 = c.requires in
    let here : c.offset_of-pc.result ≡ c.loop-place.place.at = c.offset_of-pc.ensures in
    let wide : length c.loop-place.starts.items ≡ length c.args.code.now = c.loop-place.invariant.room in
    omega arith

pub returns-in-Err-clause-stopped : goal.returns-in-Err-clause-stopped
returns-in-Err-clause-stopped c =
    rw (c.placed.ensures, c.offset_of-pc.ensures)
    (fail_stops ℕ c.args.pool.now c.args.max_locals c.args.at c.args.code.now c.loop-place.instrs.items c.loop-place.starts.items c.loop-place.place.at c.loop-place.place.rest.now c.in-Err.fail c.loop-place.invariant (more_so (length c.loop-place.place.rest.now) (sym c.has_more.ensures ∙ c.loop-place-test.true)) c.in-Err.ensures)

pub returns-then-not-has_locals-clause-stopped : goal.returns-then-not-has_locals-clause-stopped
returns-then-not-has_locals-clause-stopped c =
    let fails : nat_le (locals_named c.in-Ok.found.0) c.args.max_locals ≡ false = cc in
    rw (c.refused.ensures, c.offset_of-pc.ensures)
    (passes_short c.args.pool.now c.args.max_locals c.args.at c.args.code.now c.loop-place.instrs.items c.loop-place.starts.items c.loop-place.place.at c.loop-place.place.rest.now c.in-Ok.found.0 c.in-Ok.found.1.at c.in-Ok.found.1.rest.now c.loop-place.invariant (more_so (length c.loop-place.place.rest.now) (sym c.has_more.ensures ∙ c.loop-place-test.true)) c.in-Ok.ensures fails)

pub loop-place-smaller : goal.loop-place-smaller
loop-place-smaller c = shrinks c.args.pool.now c.loop-place.place.at c.loop-place.place.rest.now c.in-Ok.found.0 c.in-Ok.found.1.at c.in-Ok.found.1.rest.now c.in-Ok.ensures

pub loop-place-preserved : goal.loop-place-preserved
loop-place-preserved c =
    let holds : nat_le (locals_named c.in-Ok.found.0) c.args.max_locals ≡ true = cc in
    rw (c.in_ok-push.ensures.items, c.mark.ensures, c.offset_of-pc.ensures)
    (passes_on c.args.pool.now c.args.max_locals c.args.at c.args.code.now c.loop-place.instrs.items c.loop-place.starts.items c.loop-place.place.at c.loop-place.place.rest.now c.in-Ok.found.0 c.in-Ok.found.1.at c.in-Ok.found.1.rest.now c.loop-place.invariant (more_so (length c.loop-place.place.rest.now) (sym c.has_more.ensures ∙ c.loop-place-test.true)) c.in-Ok.ensures holds)

pub returns-clause-read : goal.returns-clause-read
returns-clause-read c =
    is_passed c.args.pool.now c.args.max_locals c.args.at c.args.code.now c.loop-place.instrs.items c.loop-place.starts.items c.loop-place.place.at c.loop-place.place.rest.now c.loop-place.invariant (no_more (length c.loop-place.place.rest.now) (sym c.has_more.ensures ∙ c.loop-place-test.false))

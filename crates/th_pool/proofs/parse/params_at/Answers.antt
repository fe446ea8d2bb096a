use Rattle.std.proofs.Common.{◌≡◌, ◌∙◌, ℕ, suc, ◌+◌, ◌-◌, length, sym, ap, arith}
use Rattle.th_syntax.specs.Descriptors as types
use Rattle.th_pool.proofs.Methods.{with_params, params_end, params_missing, params_bad, params_on, params_none}
use Rattle.th_pool.proofs.parse.params_at.Goals as goal

pub returns-in_default : goal.returns-in_default
returns-in_default c =
    let room : length c.args.bytes.now - c.loop.counter ≡ suc (length c.args.bytes.now - (c.loop.counter + 1)) = omega arith in
    params_missing (length c.args.bytes.now - (c.loop.counter + 1)) c.loop.rest.now c.loop.params _ c.in_default.ensures
    (ap (λ (k : ℕ). with_params c.loop.params (types.types_at k c.loop.rest.now)) (sym room) ∙ c.loop.invariant)

pub returns-then-letter-eq41 : goal.returns-then-letter-eq41
returns-then-letter-eq41 c =
    let room : length c.args.bytes.now - c.loop.counter ≡ suc (length c.args.bytes.now - (c.loop.counter + 1)) = omega arith in
    params_end (length c.args.bytes.now - (c.loop.counter + 1)) c.loop.rest.now c.in-Some.letter c.in-Some.others.now c.loop.params _ c.in-Some.ensures c.if-letter-eq41.true
    (ap (λ (k : ℕ). with_params c.loop.params (types.types_at k c.loop.rest.now)) (sym room) ∙ c.loop.invariant)

pub returns-in_default-type_at : goal.returns-in_default-type_at
returns-in_default-type_at c =
    let room : length c.args.bytes.now - c.loop.counter ≡ suc (length c.args.bytes.now - (c.loop.counter + 1)) = omega arith in
    params_bad (length c.args.bytes.now - (c.loop.counter + 1)) c.loop.rest.now c.in-Some.letter c.in-Some.others.now c.loop.params _ c.in-Some.ensures c.if-letter-eq41.false c.in_default-type_at.ensures
    (ap (λ (k : ℕ). with_params c.loop.params (types.types_at k c.loop.rest.now)) (sym room) ∙ c.loop.invariant)

pub loop-preserved : goal.loop-preserved
loop-preserved c =
    let room : length c.args.bytes.now - c.loop.counter ≡ suc (length c.args.bytes.now - (c.loop.counter + 1)) = omega arith in
    rw c.in_ok-push.ensures
    (params_on (length c.args.bytes.now - (c.loop.counter + 1)) c.loop.rest.now c.in-Some.letter c.in-Some.others.now c.loop.params c.in-Some-type_at.found c.in-Some-type_at.others.now _ c.in-Some.ensures c.if-letter-eq41.false c.in-Some-type_at.ensures
    (ap (λ (k : ℕ). with_params c.loop.params (types.types_at k c.loop.rest.now)) (sym room) ∙ c.loop.invariant))

pub returns : goal.returns
returns c =
    let none : length c.args.bytes.now - c.loop.counter ≡ 0 = omega arith in
    params_none c.loop.rest.now c.loop.params _ (ap (λ (k : ℕ). with_params c.loop.params (types.types_at k c.loop.rest.now)) (sym none) ∙ c.loop.invariant)

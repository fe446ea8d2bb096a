use Rattle.std.proofs.Common.{◌≡◌, ◌∙◌, ℕ, suc, ◌+◌, List, length, drop, sym, ap, arith, add-one}
use Rattle.std.proofs.lemmas.List.{drop-drop}
use Rattle.std.proofs.Math.Seq.{drop-length}
use Rattle.th_syntax.specs.Descriptors as types
use Rattle.th_pool.proofs.Spelling.{passed, name_next, name_found, name_missing}
use Rattle.th_pool.proofs.descriptor.name_before.Goals as goal

pub returns-then-bytes-i-eq59 : goal.returns-then-bytes-i-eq59
returns-then-bytes-i-eq59 c =
    let next : c.loop-i.i + 1 ≡ suc c.loop-i.i = omega arith in
    let rest : c.split_at-then-bytes-i-eq59.result.1.now ≡ drop (suc c.loop-i.i) c.args.bytes.now =
    c.split_at-then-bytes-i-eq59.ensures.back ∙ ap (λ (bs : List ℕ). drop 1 bs) c.split_at.ensures.back ∙ drop-drop 1 c.loop-i.i c.args.bytes.now ∙ ap (λ (k : ℕ). drop k c.args.bytes.now) next in
    rw (c.split_at.ensures.front, rest) (sym (name_found c.loop-i.i c.args.bytes.now c.loop-i-test.true c.if-bytes-i-eq59.true) ∙ c.loop-i.invariant)

pub loop-i-preserved : goal.loop-i-preserved
loop-i-preserved c = rw add-one (name_next c.loop-i.i c.args.bytes.now c.loop-i-test.true c.if-bytes-i-eq59.false ∙ c.loop-i.invariant)

pub returns : goal.returns
returns c =
    let last : c.loop-i.i ≡ length c.args.bytes.now = omega arith in
    sym (name_missing c.args.bytes.now) ∙ ap (λ (bs : List ℕ). passed (length c.args.bytes.now) c.args.bytes.now (types.name_before bs)) (sym (drop-length c.args.bytes.now))
    ∙ ap (λ (k : ℕ). passed k c.args.bytes.now (types.name_before (drop k c.args.bytes.now))) (sym last) ∙ c.loop-i.invariant

use Rattle.std.proofs.Common.{◌≡◌, ◌∙◌, ℕ, length, drop, sym, ap, arith, add-one}
use Rattle.std.proofs.Math.Seq.{drop-length}
use Rattle.th_syntax.specs.Descriptors as types
use Rattle.th_pool.specs.Types.{with_dimensions}
use Rattle.th_pool.proofs.Spelling.{array_next, element_here, nothing_here}
use Rattle.th_pool.proofs.descriptor.dimensions_at.Goals as goal

pub returns-then-bytes-i-ne91-clause-element : goal.returns-then-bytes-i-ne91-clause-element
returns-then-bytes-i-ne91-clause-element c =
    ap (with_dimensions c.loop-i.i) (sym (element_here c.loop-i.i c.args.bytes.now c.loop-i-test.true c.if-bytes-i-ne91.true)) ∙ c.loop-i.invariant

pub loop-i-preserved : goal.loop-i-preserved
loop-i-preserved c = rw add-one (array_next c.loop-i.i c.args.bytes.now c.loop-i-test.true c.if-bytes-i-ne91.false ∙ c.loop-i.invariant)

pub returns-clause-element : goal.returns-clause-element
returns-clause-element c =
    let last : c.loop-i.i ≡ length c.args.bytes.now = omega arith in
    ap (with_dimensions (length c.args.bytes.now)) (sym (nothing_here (drop (length c.args.bytes.now) c.args.bytes.now) (drop-length c.args.bytes.now)))
    ∙ ap (λ (k : ℕ). with_dimensions k (types.type_at (drop k c.args.bytes.now))) (sym last) ∙ c.loop-i.invariant

use Rattle.std.proofs.Common.{◌≡◌, ◌+◌, ◌<◌, ◌≤◌, length, take, sum_by, ap, sym, subst, ◌∙◌, arith}
use Rattle.std.proofs.lemmas.List.Sums.{sum_by_more, sum_by_more_le}
use Rattle.th_base.specs.declared.class.ClassInfo.{ClassInfo}
use Rattle.th_linker.proofs.InOrder.{take_whole}
use Rattle.th_linker.proofs.Known.{few_methods, many_methods}
use Rattle.th_linker.proofs.program.has_few_methods.Goals as goal

pub returns-then-here-left : goal.returns-then-here-left
returns-then-here-left c =
    let f : ClassInfo → _ = λ k. length k.methods in
    let i = c.loop-class.class-index in
    let so_far = sum_by_more_le f c.classes-class-items.result.now i c.class-item.result c.loop-class-test.true in
    let same = ap f c.class-item.is in
    let kept = c.loop-class.invariant in
    sym (many_methods c.args.program.now c.classes-class-items.result.now (c.classes-class-items.ensures.value ∙ c.hierarchy.ensures) (omega (arith, so_far, same, kept)))

pub loop-class-preserved : goal.loop-class-preserved
loop-class-preserved c =
    let f : ClassInfo → _ = λ k. length k.methods in
    let i = c.loop-class.class-index in
    let more = sum_by_more f c.classes-class-items.result.now i c.class-item.result c.loop-class-test.true in
    let same = ap f c.class-item.is in
    let kept = c.loop-class.invariant in
    omega (arith, more, same, kept)

pub returns : goal.returns
returns c =
    let kept = c.loop-class.invariant in
    let whole = ap (sum_by (λ (k : ClassInfo). length k.methods)) (take_whole c.classes-class-items.result.now c.loop-class.class-index c.loop-class-test.false) in
    sym (few_methods c.args.program.now c.classes-class-items.result.now (c.classes-class-items.ensures.value ∙ c.hierarchy.ensures) (omega (arith, kept, whole)))

use Rattle.std.proofs.Common.{subst, sym}
use Rattle.th_pure.specs.declared.products.Progress.{Progress}
use Rattle.th_pure.specs.Early.{AreOpen, LeavesInequality}
use Rattle.th_pure.proofs.Relations.{normal_le, each_ok}
use Rattle.th_pure.proofs.products.add.Goals as goal

pub returns-in-Some-clause-inequalities : goal.returns-in-Some-clause-inequalities
returns-in-Some-clause-inequalities c =
    let mixed = rw c.in-Some.is at c.in_ok-made.ensures.exact in
    let left : LeavesInequality c.normal.result = subst LeavesInequality (sym c.normal.ensures.value) (normal_le c.in-Some.fact mixed.rel) in
    each_ok (λ (p : Progress). LeavesInequality c.normal.result → AreOpen c.args.so_far → AreOpen p) (λ (p : Progress). AreOpen c.args.so_far → AreOpen p) c.keep.result
    (λ p h. h left) c.keep.ensures.inequalities

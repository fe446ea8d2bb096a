use Rattle.std.proofs.Common.{List, [], ◌∷◌, Option, None, length, length-append, sym, ap, subst, arith}
use Rattle.th_kinds.specs.declared.state.State.{State}
use Rattle.th_kinds.specs.Kept.{seen_kept, IsNothing}
use Rattle.th_kinds.proofs.Marks.{nothing_more}
use Rattle.th_kinds.proofs.first.nowhere.Goals as goal

pub loop-added-preserved : goal.loop-added-preserved
loop-added-preserved c =
    let one : List (Option State) = None ∷ [] in
    record {
      long = let items = ap length c.in_ok-push.ensures.items in let long = c.loop-added.invariant.long in omega (arith, length-append c.loop-added.kept.items one);
      nothing = subst (λ (ks : List (Option State)). IsNothing (seen_kept ks)) (sym c.in_ok-push.ensures.items) (nothing_more c.loop-added.kept.items c.loop-added.invariant.nothing);
    }

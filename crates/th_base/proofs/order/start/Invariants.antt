use Rattle.std.proofs.Common.{◌≡◌, ℕ, ◌<◌, length, get_or}
use Rattle.th_base.specs.declared.order.Mark.TheVariants.{New}
use Rattle.th_base.specs.Hierarchy.{direct_supertypes}
use Rattle.th_base.specs.Order.{mark_of}
use Rattle.th_base.proofs.order.start.Given as goal

-- all classes so far are new, and none of their supertypes has been looked at
abbrev pub invariant-loop-class : goal.invariant-loop-class
invariant-loop-class l = record {
  marked : length l.marks.items ≡ l.class-index;
  counted : length l.left.items ≡ l.class-index;
  new : (c : ℕ) → mark_of l.marks.items c ≡ New;
  all_left : (c : ℕ) → c < l.class-index → get_or l.left.items c 0 ≡ length (direct_supertypes l.classes c);
}

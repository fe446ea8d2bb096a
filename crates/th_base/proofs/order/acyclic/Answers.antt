use Rattle.std.proofs.Common.{List, ℕ, Option, Some, None, is_some, Vec, Global, refl}
use Rattle.std.specs.Prelude.{◌↔◌, IfSome, IfNone, IsTrue}
use Rattle.th_base.specs.declared.class.ClassInfo.{ClassInfo}
use Rattle.th_base.specs.Hierarchy.{IsAcyclic}
use Rattle.th_base.specs.Order.{IsOrder}
use Rattle.th_base.proofs.Ordered.{IsAcyclic-from_order}
use Rattle.th_base.proofs.order.acyclic.Goals as goal

decided : (classes : List ClassInfo) (found : Option (Vec ℕ Global)) → IfSome found (λ order. IsOrder classes order.items) → IfNone found (IsAcyclic classes → ⊥)
    → IsTrue (is_some found) ↔ IsAcyclic classes
decided classes (Some order) is none = ((λ _. IsAcyclic-from_order classes order.items is), (λ _. refl))
decided classes None is none = ((λ h. cc), (λ a. absurd (none a)))

pub returns : goal.returns
returns c = rw c.is_some.ensures (decided c.args.classes.now c.in_ok-found.found c.in_ok-found.ensures.some c.in_ok-found.ensures.none)

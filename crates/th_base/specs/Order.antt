-- Private to the hierarchy: an order of classes in which each stands after its direct supertypes, and the
-- walk that finds one.
use Rattle.std.specs.Prelude.{ℕ, ◌≡◌, ◌<◌, ◌≤◌, ◌+◌, ◌-◌, true, List, [], ◌∷◌, ◌++◌, map, length, take, slice_index, slice_set, sum}
use Rattle.std.specs.List.{slice_index_or, sum_by}
use Rattle.std.specs.Option.{option_map, option_to_list}
use Rattle.th_base.specs.declared.class.ClassInfo.{ClassInfo}
use Rattle.th_base.specs.declared.order.Mark.{Mark}
use Rattle.th_base.specs.declared.order.Mark.TheVariants.{New, Open, Done}
use Rattle.th_base.specs.declared.order.Walk.{Walk}
use Rattle.th_base.specs.Hierarchy.{direct_supertypes}
use Rattle.th_base.specs.IdSet.{has}

-- each class from a place on stands after its direct supertypes
abbrev pub StandAfter : List ClassInfo → List ℕ → Type 0
StandAfter classes order =
    (k s : ℕ) → k < length order → has (direct_supertypes classes (slice_index order k)) s ≡ true → has (take k order) s ≡ true

-- all classes and nothing else, each after its direct supertypes
pub record IsOrder (classes : List ClassInfo) (order : List ℕ) : Type 0 where
  pub in_range : (c : ℕ) → has order c ≡ true → c < length classes
  pub covers : (c : ℕ) → c < length classes → has order c ≡ true
  pub after : StandAfter classes order

-- the mark of a class
abbrev pub mark_of : List Mark → ℕ → Mark
mark_of marks c = slice_index_or marks c New

-- a depth-first walk up the hierarchy: the open classes are a path upwards, done classes are in order
pub record IsWalk (classes : List ClassInfo) (marks : List Mark) (left path order : List ℕ) (next : ℕ) : Type 0 where
  pub marked : length marks ≡ length classes
  pub counted : length left ≡ length classes
  pub next_in : next ≤ length classes
  pub path_in : (c : ℕ) → has path c ≡ true → c < length classes
  pub order_in : (c : ℕ) → has order c ≡ true → c < length classes
  pub started : (c : ℕ) → c < next → mark_of marks c ≡ New → ⊥
  pub open_on_path : (c : ℕ) → mark_of marks c ≡ Open → has path c ≡ true
  pub done_in_order : (c : ℕ) → mark_of marks c ≡ Done → has order c ≡ true
  pub upwards : (k : ℕ) → k + 1 < length path → has (direct_supertypes classes (slice_index path k)) (slice_index path (k + 1)) ≡ true
  pub left_in : (c : ℕ) → c < length classes → slice_index left c ≤ length (direct_supertypes classes c)
  pub looked_at : (c j : ℕ) → c < length classes → slice_index left c ≤ j → j < length (direct_supertypes classes c)
      → mark_of marks (slice_index (direct_supertypes classes c) j) ≡ Done
  pub after : StandAfter classes order

abbrev pub Walks : List ClassInfo → Walk → Type 0
Walks classes w = IsWalk classes w.marks.items w.left.items w.path.items w.order.items w.next

-- what a class that isn't opened yet still costs
abbrev pub opening : Mark → ℕ
opening New = 2
opening Open = 0
opening Done = 0

-- at most how many steps the walk still takes
abbrev pub steps_left : List ClassInfo → Walk → ℕ
steps_left classes w = ((sum w.left.items + sum_by opening w.marks.items) + length w.path.items) + (length classes - w.next)

-- a step that goes on
pub record StepsOn (classes : List ClassInfo) (old new : Walk) : Type 0 where
  pub walks : Walks classes new
  pub nearer : steps_left classes new < steps_left classes old

-- a class is opened, at the end of the path
pub record Opens (old new : Walk) (class : ℕ) : Type 0 where
  pub marks : new.marks.items ≡ slice_set old.marks.items class Open
  pub left : new.left.items ≡ old.left.items
  pub path : new.path.items ≡ old.path.items ++ class ∷ []
  pub order : new.order.items ≡ old.order.items
  pub next : new.next ≡ old.next

-- the direct supertypes that a class names: the superinterfaces, then the superclass
abbrev pub supertypes_in : ClassInfo → List ℕ
supertypes_in k = map (λ i. i.0) k.interfaces ++ option_to_list (option_map (λ s. s.0) k.super_id)

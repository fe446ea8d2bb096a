-- Private to the hierarchy: a climb by direct supertypes, and ranks that never rise on the way.
use Rattle.std.specs.Prelude.{ℕ, ◌≡◌, ◌<◌, ◌≤◌, ◌+◌, ◌||◌, ◌⊎◌, Bool, true, false, List, ◌++◌, map, length}
use Rattle.std.specs.List.{slice_index_or, sum_by}
use Rattle.std.specs.Option.{option_map, option_to_list}
use Rattle.th_base.specs.declared.class.ClassInfo.{ClassInfo}
use Rattle.th_base.specs.declared.climb.Climb.{Climb}
use Rattle.th_base.specs.Hierarchy.{direct_supertypes}
use Rattle.th_base.specs.IdSet.{has}

abbrev pub is_seen : List Bool → ℕ → Bool
is_seen seen x = slice_index_or seen x false

-- what a class that isn't seen yet still costs
abbrev pub unseen : Bool → ℕ
unseen true = 0
unseen false = 2

-- at most how many steps the climb still takes
abbrev pub steps_of : List Bool → List ℕ → ℕ
steps_of seen todo = sum_by unseen seen + length todo

-- classes have been seen: those that were not are now to be climbed from
pub record Sees (seen seen' : List Bool) (todo todo' more : List ℕ) : Type 0 where
  pub room : length seen' ≡ length seen
  pub marks : (x : ℕ) → x < length seen → is_seen seen' x ≡ (is_seen seen x || has more x)
  pub comes : (x : ℕ) → has todo' x ≡ true → (has todo x ≡ true) ⊎ ((has more x ≡ true) × (x < length seen))
  pub stays : (x : ℕ) → has todo x ≡ true → has todo' x ≡ true
  pub waits : (x : ℕ) → is_seen seen' x ≡ true → (is_seen seen x ≡ true) ⊎ (has todo' x ≡ true)
  pub nearer : steps_of seen' todo' ≤ steps_of seen todo

abbrev pub HasSeen : Climb → Climb → List ℕ → Type 0
HasSeen old new more = Sees old.seen.items new.seen.items old.todo.items new.todo.items more

-- the rank of a class
abbrev pub rank_of : List ℕ → ℕ → ℕ
rank_of ranks c = slice_index_or ranks c 0

-- no direct supertype has a higher rank
abbrev pub NeverRise : List ClassInfo → List ℕ → Type 0
NeverRise classes ranks = (c s : ℕ) → has (direct_supertypes classes c) s ≡ true → rank_of ranks s ≤ rank_of ranks c

-- the direct supertypes that a class names, the superclass before the interfaces
abbrev pub superclass_first_in : ClassInfo → List ℕ
superclass_first_in k = option_to_list (option_map (λ s. s.0) k.super_id) ++ map (λ i. i.0) k.interfaces

-- What points-to facts say, as sets, and how the lists of `Facts` say it.
use Rattle.std.specs.Prelude.{ℕ, ◌≡◌, ◌==◌, ◌&&◌, Bool, true, false, List, [], ◌∷◌, length, map, slice_get}
use Rattle.std.specs.List.{list_any, AllByRecursion}
use Rattle.std.specs.List.Sorted.{IsStrictlySortedBy}
use Rattle.std.specs.Option.{option_map_or}
use Rattle.std.specs.Ordering.{nat_cmp}
use Rattle.std.specs.Cmp.Lexicographic.{slice_cmp}
use Rattle.th_base.specs.declared.class.ClassInfo.{ClassInfo}
use Rattle.th_base.specs.declared.number.FieldId.{FieldId}
use Rattle.th_base.specs.declared.number.MethodId.{MethodId}
use Rattle.th_base.specs.declared.number.NodeId.{NodeId}
use Rattle.th_base.specs.declared.number.SiteId.{SiteId}
use Rattle.th_base.specs.IdSet.{has, IsAscending}
use Rattle.th_ir.specs.declared.facts.Facts.{Facts}
use Rattle.th_ir.specs.declared.program.RegProgram.{RegProgram}
use Rattle.th_ir.specs.Program.{register_count}
use Rattle.th_ir.specs.Fields.{field_count}

-- which sites a register, a static field, a field of the objects of a site, and the elements of the
-- arrays of a site may hold; which methods a node may call; which methods may run
pub record FactSets : Type 0 where
  pub reg : ℕ → ℕ → Bool
  pub static : ℕ → ℕ → Bool
  pub cell : ℕ → ℕ → ℕ → Bool
  pub elem : ℕ → ℕ → Bool
  pub call : ℕ → ℕ → Bool
  pub reached : ℕ → Bool

-- the first set is part of the second
abbrev pub IsWithin : (ℕ → Bool) → (ℕ → Bool) → Type 0
IsWithin xs ys = (x : ℕ) → xs x ≡ true → ys x ≡ true

-- the first facts say no more than the second
pub record SaysWithin (t u : FactSets) : Type 0 where
  pub reg : (r : ℕ) → IsWithin (t.reg r) (u.reg r)
  pub static : (f : ℕ) → IsWithin (t.static f) (u.static f)
  pub cell : (s f : ℕ) → IsWithin (t.cell s f) (u.cell s f)
  pub elem : (s : ℕ) → IsWithin (t.elem s) (u.elem s)
  pub call : (n : ℕ) → IsWithin (t.call n) (u.call n)
  pub reached : IsWithin t.reached u.reached

-- ---- lists

-- the set at a place of a list of sets; empty past its end
abbrev pub set_at : List (List ℕ) → ℕ → ℕ → Bool
set_at sets k x = option_map_or (λ xs. has xs x) (slice_get sets k) false

-- what the lists of facts say
abbrev pub sets_of : Facts → FactSets
sets_of facts = record {
  reg = set_at facts.regs;
  static = set_at facts.statics;
  cell = λ s f x. list_any (λ c. (c.0.0 == s && c.1.0 == f) && has c.2 x) facts.cells;
  elem = λ s x. list_any (λ e. e.0.0 == s && has e.1 x) facts.elems;
  call = λ n m. list_any (λ c. c.0.0 == n && c.1.0 == m) facts.calls;
  reached = has facts.reached;
}

-- lists of numbers ascend, each once: by the first number in which they differ
abbrev pub AscendBy : {X : Type 0} → (X → List ℕ) → List X → Type 0
AscendBy key xs = IsStrictlySortedBy (slice_cmp nat_cmp) (map key xs)

-- a set is listed where it isn't empty, ascending
abbrev pub IsListedSet : List ℕ → Type 0
IsListedSet [] = ⊥
IsListedSet (x ∷ xs) = IsAscending (x ∷ xs)

abbrev pub cell_key : SiteId × FieldId × List ℕ → List ℕ
cell_key c = c.0.0 ∷ c.1.0 ∷ []

abbrev pub elem_key : SiteId × List ℕ → List ℕ
elem_key e = e.0.0 ∷ []

abbrev pub call_key : NodeId × MethodId → List ℕ
call_key c = c.0.0 ∷ c.1.0 ∷ []

-- the lists have the form of facts: one set for each register and field; cells, elements and calls
-- ascend, each once; cells and elements have no empty set; each set ascends
pub record AreListed (h : List ClassInfo) (p : RegProgram) (facts : Facts) : Type 0 where
  pub regs : length facts.regs ≡ register_count p
  pub regs_ascend : AllByRecursion IsAscending facts.regs
  pub statics : length facts.statics ≡ field_count h
  pub statics_ascend : AllByRecursion IsAscending facts.statics
  pub cells : AllByRecursion (λ c. IsListedSet c.2) facts.cells
  pub cells_ascend : AscendBy cell_key facts.cells
  pub elems : AllByRecursion (λ e. IsListedSet e.1) facts.elems
  pub elems_ascend : AscendBy elem_key facts.elems
  pub calls_ascend : AscendBy call_key facts.calls
  pub reached_ascends : IsAscending facts.reached

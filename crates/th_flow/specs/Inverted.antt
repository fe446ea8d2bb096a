-- Private to the crate: lists turned round, and the lists that are.
use Rattle.std.specs.Prelude.{ℕ, ◌≡◌, ◌==◌, ◌&&◌, ◌-◌, nat_lt, Bool, false, List, [], length, map, flat_map, filter, codes, option_to_list, slice_index}
use Rattle.std.specs.List.{slice_index_or}
use Rattle.std.specs.Option.{option_map, option_map_or}
use Rattle.th_base.specs.declared.class.ClassInfo.{ClassInfo}
use Rattle.th_base.specs.declared.number.MethodId.{MethodId}
use Rattle.th_base.specs.declared.number.NodeId.{NodeId}
use Rattle.th_base.specs.Hierarchy.{lineage_of, declared_method}
use Rattle.th_base.specs.IdSet.{has}
use Rattle.th_ir.specs.declared.program.Node.{Node}
use Rattle.th_ir.specs.declared.stmt.Stmt.{Stmt}
use Rattle.th_ir.specs.declared.stmt.Stmt.TheVariants.{Nop, Init, Copy}
use Rattle.th_ir.specs.declared.program.RegProgram.{RegProgram}
use Rattle.th_ir.specs.Program.{method_at, node_at}
use Rattle.th_ir.specs.WellFormed.{places_from}
use Rattle.th_flow.specs.Flows.{numbers_of}

abbrev pub row_at : List (List NodeId) → ℕ → List ℕ
row_at rows r = numbers_of (slice_index_or rows r [])

-- the places of the lists that have a number
abbrev pub places_with : ℕ → List (List ℕ) → List ℕ
places_with r lists = places_from (λ l. has l r) 0 lists

-- the last number of a list is this one
abbrev pub is_last : List ℕ → ℕ → Bool
is_last row n = nat_lt 0 (length row) && slice_index row (length row - 1) == n

-- the numbers of a node's successors
abbrev pub successor_numbers : Node → List ℕ
successor_numbers node = map (λ t. t.0) node.next

-- the methods that a node may call
abbrev pub called_by : List (NodeId × MethodId) → ℕ → List ℕ
called_by calls n = map (λ c. c.1.0) (filter (λ c. c.0.0 == n) calls)

-- the initialisers of a class and of its superclasses
abbrev pub initialisers_along : List ClassInfo → List ℕ → List ℕ
initialisers_along h line = flat_map (λ k. option_to_list (option_map (λ i. i.id.0) (declared_method h (codes "<clinit>") (codes "()V") k))) line

abbrev pub initialisers_of : List ClassInfo → ℕ → List ℕ
initialisers_of h c = initialisers_along h (lineage_of h c)

-- the initialisers that a statement may enter
abbrev pub entered_by : List ClassInfo → Stmt → List ℕ
entered_by h (Init c) = initialisers_of h c.0
entered_by h _ = []

-- the registers that a Copy sets
abbrev pub targets_of : Stmt → List ℕ
targets_of (Copy pairs) = map (λ m. m.0.0) pairs
targets_of _ = []

-- whether a Copy at a node sets a register
abbrev pub sets_at : RegProgram → ℕ → ℕ → Bool
sets_at p n r = option_map_or (λ node. has (targets_of node.stmt) r) (node_at p n) false

-- whether a node is the entry of a method
abbrev pub is_entry : RegProgram → ℕ → ℕ → Bool
is_entry p m n = option_map_or (λ method. method.entry.0 == n) (method_at p m) false

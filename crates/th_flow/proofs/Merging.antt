-- The registers that the predecessors of a node set are its merge registers.
use Rattle.std.proofs.Common.{◌≡◌, ℕ, zero, suc, Bool, true, false, List, [], ◌∷◌, length, map, Option, None, Some, slice_get, refl, sym, ap, subst, inl, inr, arith, ◌∙◌, eqb}
use Rattle.std.specs.Prelude.{◌↔◌}
use Rattle.std.specs.List.{list_any}
use Rattle.std.specs.Option.{option_map_or}
use Rattle.std.proofs.lemmas.Bool.{eqb-true, eq-eqb, or_cases, or_left, or_right}
use Rattle.th_base.specs.declared.number.NodeId.{NodeId}
use Rattle.th_base.specs.declared.number.Reg.{Reg}
use Rattle.th_base.specs.IdSet.{has}
use Rattle.th_ir.specs.declared.program.Node.{Node}
use Rattle.th_ir.specs.declared.program.RegProgram.{RegProgram}
use Rattle.th_ir.specs.declared.stmt.Stmt.{Stmt}
use Rattle.th_ir.specs.declared.stmt.Stmt.TheVariants.{Copy}
use Rattle.th_ir.specs.Flow.{FlowsTo}
use Rattle.th_ir.specs.Program.{Among, node_at}
use Rattle.th_ir.proofs.Plain.{some_is}
use Rattle.th_flow.specs.Flows.{Precedes, numbers_of, ListEach, IsMergeRegister}
use Rattle.th_flow.specs.Inverted.{targets_of, sets_at}

-- ---- a register among the targets of pairs

record IsTarget (pairs : List (Reg × Reg)) (r : ℕ) : Type 0 where
  pair : Reg × Reg
  among : Among pairs pair
  sets : pair.0.0 ≡ r

target_of : (pairs : List (Reg × Reg)) (r : ℕ) → has (map (λ m. m.0.0) pairs) r ≡ true → IsTarget pairs r
target_of [] r e = absurd cc
target_of (m ∷ pairs) r e = elim (or_cases (eqb m.0.0 r) (has (map (λ k. k.0.0) pairs) r) e) [
  | inl here ↦ record { pair = m; among = (0, refl); sets = eqb-true m.0.0 r here }
  | inr more ↦ (let t = target_of pairs r more in record { pair = t.pair; among = (suc t.among.0, t.among.1); sets = t.sets })
]

of_target : (pairs : List (Reg × Reg)) (k r : ℕ) (m : Reg × Reg) → slice_get pairs k ≡ Some m → m.0.0 ≡ r → has (map (λ m. m.0.0) pairs) r ≡ true
of_target [] k r m e is = absurd cc
of_target (x ∷ pairs) zero r m e is = or_left (eqb x.0.0 r) (has (map (λ k. k.0.0) pairs) r) (eq-eqb x.0.0 r (ap (λ (z : Reg × Reg). z.0.0) (some_is x m e) ∙ is))
of_target (x ∷ pairs) (suc k) r m e is = or_right (eqb x.0.0 r) (has (map (λ k. k.0.0) pairs) r) (of_target pairs k r m e is)

-- ---- a Copy that sets a register

record CopySets (stmt : Stmt) (r : ℕ) : Type 0 where
  pairs : List (Reg × Reg)
  copies : stmt ≡ Copy pairs
  target : IsTarget pairs r

copy_sets : (stmt : Stmt) (r : ℕ) → has (targets_of stmt) r ≡ true → CopySets stmt r
copy_sets (Copy pairs) r e = record { pairs = pairs; copies = refl; target = target_of pairs r e }
copy_sets stmt r e = absurd cc

record SetsAt (p : RegProgram) (n r : ℕ) : Type 0 where
  node : Node
  stands : node_at p n ≡ Some node
  sets : CopySets node.stmt r

sets_there : (p : RegProgram) (n r : ℕ) → sets_at p n r ≡ true → SetsAt p n r
sets_there p n r e = by_node (node_at p n) refl e
  where
    by_node : (o : Option Node) → node_at p n ≡ o → option_map_or (λ node. has (targets_of node.stmt) r) o false ≡ true → SetsAt p n r
    by_node None is e = absurd cc
    by_node (Some node) is e = record { node = node; stands = is; sets = copy_sets node.stmt r e }

-- ---- among the predecessors

record AnySource (p : RegProgram) (sources : List NodeId) (r : ℕ) : Type 0 where
  source : ℕ
  listed : has (numbers_of sources) source ≡ true
  sets : sets_at p source r ≡ true

any_source : (p : RegProgram) (sources : List NodeId) (r : ℕ) → list_any (λ n. sets_at p n.0 r) sources ≡ true → AnySource p sources r
any_source p [] r e = absurd cc
any_source p (s ∷ sources) r e = elim (or_cases (sets_at p s.0 r) (list_any (λ n. sets_at p n.0 r) sources) e) [
  | inl here ↦ record { source = s.0; listed = or_left (eqb s.0 s.0) (has (numbers_of sources) s.0) (eq-eqb s.0 s.0 refl); sets = here }
  | inr more ↦ (let a = any_source p sources r more in record { source = a.source; listed = or_right (eqb s.0 a.source) (has (numbers_of sources) a.source) a.listed; sets = a.sets })
]

of_source : (p : RegProgram) (sources : List NodeId) (r n : ℕ) → has (numbers_of sources) n ≡ true → sets_at p n r ≡ true → list_any (λ s. sets_at p s.0 r) sources ≡ true
of_source p [] r n e sets = absurd cc
of_source p (s ∷ sources) r n e sets = elim (or_cases (eqb s.0 n) (has (numbers_of sources) n) e) [
  | inl here ↦ or_left (sets_at p s.0 r) (list_any (λ k. sets_at p k.0 r) sources) (ap (λ k. sets_at p k r) (eqb-true s.0 n here) ∙ sets)
  | inr more ↦ or_right (sets_at p s.0 r) (list_any (λ k. sets_at p k.0 r) sources) (of_source p sources r n more sets)
]

pub merged : (p : RegProgram) (lists : List (List NodeId)) (n : ℕ) (sources : List NodeId) (r : ℕ) → ListEach (length p.nodes) (Precedes p) lists → slice_get lists n ≡ Some sources
    → (list_any (λ s. sets_at p s.0 r) sources ≡ true) ↔ IsMergeRegister p n r
merged p lists n sources r each stands = (
  λ e.
      let a = any_source p sources r e in
      let s = sets_there p a.source r a.sets in
      record {
        source = a.source;
        node = s.node;
        stands = s.stands;
        pairs = s.sets.pairs;
        copies = s.sets.copies;
        flows = ((each.each n sources stands).members a.source).0 a.listed;
        pair = s.sets.target.pair;
        among = s.sets.target.among;
        sets = s.sets.target.sets;
      },
  λ m.
      let here = of_target m.pairs m.among.0 r m.pair m.among.1 m.sets in
      let sets : sets_at p m.source r ≡ true =
      ap (λ (o : Option Node). option_map_or (λ node. has (targets_of node.stmt) r) o false) m.stands ∙ ap (λ t. has (targets_of t) r) m.copies ∙ here in
      of_source p sources r m.source (((each.each n sources stands).members m.source).1 m.flows) sets,
)

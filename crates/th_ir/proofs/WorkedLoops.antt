-- Loop heads of the method by hand.
use Rattle.std.proofs.Common.{◌≡◌, ℕ, zero, suc, ◌==◌, Bool, true, false, List, [], ◌∷◌, Some, slice_get, refl, sym, ap, subst, ◌∙◌}
use Rattle.std.specs.Prelude.{◌&&◌, ◌||◌, not}
use Rattle.std.specs.List.{list_all, list_any}
use Rattle.std.proofs.lemmas.Bool.{eq-eqb}
use Rattle.th_base.specs.declared.number.NodeId.{NodeId}
use Rattle.th_base.specs.declared.number.Reg.{Reg}
use Rattle.th_ir.specs.declared.program.RegProgram.{RegProgram}
use Rattle.th_ir.specs.declared.program.Node.{Node}
use Rattle.th_ir.specs.declared.stmt.Stmt.{Stmt}
use Rattle.th_ir.specs.declared.stmt.Stmt.TheVariants.{Nop, Copy}
use Rattle.th_ir.specs.Program.{Among, node_at}
use Rattle.th_ir.specs.Flow.{FlowsTo, LeadsOn, one, more, IsMergePoint, IsLoopHead}
use Rattle.th_ir.specs.WorkedLooping.{looping_program}
use Rattle.th_ir.proofs.Plain.{some_is, same_found, or_true}
use Rattle.th_ir.proofs.TestedStatements.{all_tested}

flow : (n k : ℕ) (node : Node) (to : NodeId) → node_at looping_program n ≡ Some node → slice_get node.next k ≡ Some to → FlowsTo looping_program n to.0
flow n k node to stands is = record { node = node; stands = stands; next = to; follows = (k, is); number = refl }

round : LeadsOn looping_program 1 1
round = more {via = 3} (more {via = 2} (one (flow 1 0 _ record { 0 = 2 } refl refl)) (flow 2 0 _ record { 0 = 3 } refl refl)) (flow 3 0 _ record { 0 = 1 } refl refl)

pub loop_head : IsLoopHead looping_program 1
loop_head = record {
  merges = record { source = 0; node = _; stands = refl; pairs = []; copies = refl; flows = flow 0 0 _ record { 0 = 1 } refl refl };
  returns = round;
}

pub meeting : IsMergePoint looping_program 7
meeting = record { source = 5; node = _; stands = refl; pairs = []; copies = refl; flows = flow 5 0 _ record { 0 = 7 } refl refl }

-- the last node leads nowhere
none_follows : (node : Node) (next : NodeId) → node_at looping_program 7 ≡ Some node → Among node.next next → ⊥
none_follows node next stands follows = nothing follows.0 (subst (λ (n : Node). slice_get n.next follows.0 ≡ Some next) (sym (some_is _ node stands)) follows.1)
  where
    nothing : (k : ℕ) → slice_get {X = NodeId} [] k ≡ Some next → ⊥
    nothing k is = cc

leads_nowhere : (to : ℕ) → LeadsOn looping_program 7 to → ⊥
leads_nowhere to (one flows) = none_follows flows.node flows.next flows.stands flows.follows
leads_nowhere to (more leads flows) = leads_nowhere _ leads

pub no_way_back : IsLoopHead looping_program 7 → ⊥
no_way_back is = leads_nowhere 7 is.returns

-- ---- where no Copy leads

abbrev is_copy : Stmt → Bool
is_copy (Copy pairs) = true
is_copy other = false

abbrev copies_to : ℕ → Node → Bool
copies_to n node = is_copy node.stmt && list_any (λ (x : NodeId). x.0 == n) node.next

any_of : (n : ℕ) (xs : List NodeId) (k : ℕ) (x : NodeId) → slice_get xs k ≡ Some x → x.0 ≡ n → list_any (λ (y : NodeId). y.0 == n) xs ≡ true
any_of n [] k x is same = absurd cc
any_of n (y ∷ xs) zero x is same =
    let here : (y.0 == n) ≡ true = eq-eqb y.0 n (ap (λ (z : NodeId). z.0) (some_is y x is) ∙ same) in
    subst (λ (b : Bool). (b || list_any (λ (z : NodeId). z.0 == n) xs) ≡ true) (sym here) refl
any_of n (y ∷ xs) (suc k) x is same =
    subst (λ (b : Bool). ((y.0 == n) || b) ≡ true) (sym (any_of n xs k x is same)) (or_true (y.0 == n))

no_merge : (p : RegProgram) (n : ℕ) → list_all (λ (x : Node). not (copies_to n x)) p.nodes ≡ true → IsMergePoint p n → ⊥
no_merge p n all is =
    let flows = is.flows in
    let same : flows.node ≡ is.node = same_found (node_at p is.source) flows.node is.node flows.stands is.stands in
    let leads : list_any (λ (y : NodeId). y.0 == n) is.node.next ≡ true =
    subst (λ (z : Node). list_any (λ (y : NodeId). y.0 == n) z.next ≡ true) same (any_of n flows.node.next flows.follows.0 flows.next flows.follows.1 flows.number) in
    let copies : is_copy is.node.stmt ≡ true = ap is_copy is.copies in
    let tested : not (copies_to n is.node) ≡ true = all_tested (λ (x : Node). not (copies_to n x)) p.nodes is.source is.node all is.stands in
    contradicted (is_copy is.node.stmt) (list_any (λ (y : NodeId). y.0 == n) is.node.next) copies leads tested
  where
    contradicted : (a b : Bool) → a ≡ true → b ≡ true → not (a && b) ≡ true → ⊥
    contradicted true true first second e = cc
    contradicted true false first second e = cc
    contradicted false b first second e = cc

pub no_copy : IsLoopHead looping_program 2 → ⊥
no_copy is = no_merge looping_program 2 refl is.merges

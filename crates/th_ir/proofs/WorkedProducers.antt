-- The producers of the edge of a static field with a String constant.
use Rattle.std.proofs.Common.{◌≡◌, ℕ, zero, suc, ◌==◌, ◌↔◌, Bool, true, false, List, [], ◌∷◌, Some, slice_get, refl, sym, ap, subst, ◌∙◌}
use Rattle.std.specs.Prelude.{◌||◌, not}
use Rattle.std.proofs.lemmas.Bool.{eqb-true}
use Rattle.th_base.specs.declared.number.FieldId.{FieldId}
use Rattle.th_base.specs.declared.number.NodeId.{NodeId}
use Rattle.th_base.specs.declared.number.SiteId.{SiteId}
use Rattle.th_ir.specs.declared.graph.Producer.{Producer}
use Rattle.th_ir.specs.declared.graph.Producer.TheVariants.{Node as StoreAt, Constant}
use Rattle.th_ir.specs.declared.program.Node.{Node}
use Rattle.th_ir.specs.declared.stmt.Stmt.{Stmt}
use Rattle.th_ir.specs.declared.stmt.Stmt.TheVariants.{Nop, PutStatic}
use Rattle.th_ir.specs.Program.{Among}
use Rattle.th_ir.specs.FactSets.{sets_of}
use Rattle.th_ir.specs.Graph.{StoreGives, StoresAt, Produces, AreProducers}
use Rattle.th_ir.specs.WorkedGraph.{static_edge, naming_producers, store_at}
use Rattle.th_ir.specs.WorkedNaming.{naming_classes, naming_program, naming_facts}
use Rattle.th_ir.proofs.Plain.{some_is}
use Rattle.th_ir.proofs.TestedStatements.{tested, all_from, at_place}
use Rattle.th_ir.proofs.TestedFacts.{in_order}

abbrev pub stores_static : Stmt → Bool
stores_static (PutStatic f src) = true
stores_static _ = false

gives_static : (stmt : Stmt) → StoreGives naming_classes naming_program (sets_of naming_facts) stmt (static_edge 0 0) → stores_static stmt ≡ true
gives_static (PutStatic f src) gives = refl
gives_static _ gives = absurd gives

abbrev pub only_at : ℕ → Node → Bool
only_at n x = not (stores_static x.stmt) || n == 21

stores_once : (n : NodeId) → StoresAt naming_classes naming_program (sets_of naming_facts) n.0 (static_edge 0 0) → Among naming_producers (StoreAt n)
stores_once n s =
    let there : all_from only_at 0 naming_program.nodes ≡ true = refl in
    let here = tested (stores_static s.node.stmt) (n.0 == 21) (gives_static s.node.stmt s.gives) (at_place only_at naming_program.nodes n.0 s.node there s.stands) in
    let make : ℕ → Producer = λ k. StoreAt record { 0 = k } in
    (1, ap Some (ap make (sym (eqb-true n.0 21 here))))

produces : (x : Producer) → Produces naming_classes naming_program (sets_of naming_facts) (static_edge 0 0) x → Among naming_producers x
produces (StoreAt n) s = stores_once n s
produces (Constant f) s = (0, ap Some (ap Constant (sym s.0)))

listed_produces : (x : Producer) (k : ℕ) → slice_get naming_producers k ≡ Some x → Produces naming_classes naming_program (sets_of naming_facts) (static_edge 0 0) x
listed_produces x zero is = subst (Produces naming_classes naming_program (sets_of naming_facts) (static_edge 0 0)) (some_is (Constant record { 0 = 0 }) x is) (refl, (0, refl))
listed_produces x (suc zero) is =
    subst (Produces naming_classes naming_program (sets_of naming_facts) (static_edge 0 0)) (some_is (store_at 21) x is)
    record { node = _; stands = refl; reached = refl; gives = (refl, refl) }
listed_produces x (suc (suc k)) is = absurd cc

pub naming_produced : AreProducers naming_classes naming_program (sets_of naming_facts) (static_edge 0 0) naming_producers
naming_produced = record {
  producers_are = λ x. (λ among. listed_produces x among.0 among.1, λ p. produces x p);
  ascend = in_order ((0 ∷ 0 ∷ []) ∷ (1 ∷ 21 ∷ []) ∷ []) refl;
}

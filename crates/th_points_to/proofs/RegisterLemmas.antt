-- Each register that a program names is below the count of its registers.
use Rattle.std.proofs.Common.{◌≡◌, ℕ, ◌<◌, zero, suc, List, [], ◌∷◌, ◌++◌, Some, slice_get, sym, subst}
use Rattle.std.specs.Prelude.{map}
use Rattle.std.specs.List.{AllByRecursion, flat_map}
use Rattle.th_base.specs.declared.number.Reg.{Reg}
use Rattle.th_ir.specs.declared.program.Method.{Method}
use Rattle.th_ir.specs.declared.program.Node.{Node}
use Rattle.th_ir.specs.declared.program.RegProgram.{RegProgram}
use Rattle.th_ir.specs.Program.{node_at, registers_set, registers_read, registers_of, register_count}
use Rattle.th_ir.proofs.Plain.{some_is}
use Rattle.th_points_to.specs.declared.place.Layout.{Layout}
use Rattle.th_points_to.proofs.Above.{all_below}
use Rattle.th_points_to.proofs.Obeying.{AreRegisters, HasRegisters}

all_left : {A : Type 0} (P : A → Type 0) (xs ys : List A) → AllByRecursion P (xs ++ ys) → AllByRecursion P xs
all_left P [] ys all = tt
all_left P (x ∷ xs) ys all = (all.0, all_left P xs ys all.1)

all_right : {A : Type 0} (P : A → Type 0) (xs ys : List A) → AllByRecursion P (xs ++ ys) → AllByRecursion P ys
all_right P [] ys all = all
all_right P (x ∷ xs) ys all = all_right P xs ys all.1

all_unmapped : {A : Type 0} (f : A → ℕ) (P : ℕ → Type 0) (xs : List A) → AllByRecursion P (map f xs) → AllByRecursion (λ x. P (f x)) xs
all_unmapped f P [] all = tt
all_unmapped f P (x ∷ xs) all = (all.0, all_unmapped f P xs all.1)

all_of_each : {A B : Type 0} (f : A → List B) (P : B → Type 0) (xs : List A) (k : ℕ) (x : A) → AllByRecursion P (flat_map f xs) → slice_get xs k ≡ Some x → AllByRecursion P (f x)
all_of_each f P [] k x all e = absurd cc
all_of_each f P (y ∷ xs) zero x all e = subst (λ z. AllByRecursion P (f z)) (some_is y x e) (all_left P (f y) (flat_map f xs) all)
all_of_each f P (y ∷ xs) (suc k) x all e = all_of_each f P xs k x (all_right P (f y) (flat_map f xs) all) e

pub has_registers : (l : Layout) (p : RegProgram) → l.registers ≡ register_count p → HasRegisters l p
has_registers l p e =
    let params : List Reg = flat_map (λ m. m.params) p.methods in
    let named : List Reg = flat_map registers_of p.nodes in
    let below : AllByRecursion (λ (x : ℕ). x < l.registers) (p.refs ++ map (λ (r : Reg). r.0) (params ++ named)) =
    subst (λ (n : ℕ). AllByRecursion (λ (x : ℕ). x < n) (p.refs ++ map (λ (r : Reg). r.0) (params ++ named))) (sym e) (all_below (p.refs ++ map (λ (r : Reg). r.0) (params ++ named))) in
    let all : AreRegisters l (params ++ named) =
    all_unmapped (λ (r : Reg). r.0) (λ (x : ℕ). x < l.registers) (params ++ named) (all_right (λ (x : ℕ). x < l.registers) p.refs (map (λ (r : Reg). r.0) (params ++ named)) below) in
    let at_node : (n : ℕ) (node : Node) → node_at p n ≡ Some node → AreRegisters l (registers_set node.stmt ++ registers_read node.stmt) =
    λ n node at. all_of_each registers_of (λ (r : Reg). r.0 < l.registers) p.nodes n node (all_right (λ (r : Reg). r.0 < l.registers) params named all) at in
    record {
      set = λ n node at. all_left (λ (r : Reg). r.0 < l.registers) (registers_set node.stmt) (registers_read node.stmt) (at_node n node at);
      read = λ n node at. all_right (λ (r : Reg). r.0 < l.registers) (registers_set node.stmt) (registers_read node.stmt) (at_node n node at);
      params = λ m method at. all_of_each (λ (k : Method). k.params) (λ (r : Reg). r.0 < l.registers) p.methods m method (all_left (λ (r : Reg). r.0 < l.registers) params named all) at;
    }

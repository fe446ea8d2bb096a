-- Which inclusions and base pairs a program has, and that they are in range.
use Rattle.std.proofs.Common.{◌≡◌, ℕ, ◌+◌, ◌<◌, ◌&&◌, Bool, true, false, List, ◌++◌, length, Option, None, Some, refl, ap, ◌∙◌, subst, arith, ltb, inl, inr, if◌then◌else◌}
use Rattle.std.specs.Prelude.{codes}
use Rattle.std.specs.List.{Contains}
use Rattle.std.specs.Option.{option_and_then, option_map, option_to_list}
use Rattle.std.proofs.lemmas.Bool.{ltb-true, lt-ltb}
use Rattle.std.proofs.lemmas.List.Elements.{Contains-append_left, Contains-append_right, Contains-append_cases}
use Rattle.th_base.specs.declared.class.ClassInfo.{ClassInfo}
use Rattle.th_base.specs.declared.class.MethodInfo.{MethodInfo}
use Rattle.th_base.specs.declared.number.ClassId.{ClassId}
use Rattle.th_base.specs.declared.number.MethodId.{MethodId}
use Rattle.th_base.specs.declared.number.NodeId.{NodeId}
use Rattle.th_base.specs.Hierarchy.{superclass_of, declared_method, direct_supertypes, IsAcyclic}
use Rattle.th_base.proofs.Enough.{superclass_is_direct}
use Rattle.th_base.proofs.Membership.{Contains-from_has}
use Rattle.th_incl.specs.declared.constraints.Inclusion.{Inclusion}
use Rattle.th_incl.specs.Least.{IsInRange}
use Rattle.th_ir.specs.declared.facts.Facts.{Facts}
use Rattle.th_ir.specs.declared.program.Node.{Node}
use Rattle.th_ir.specs.declared.program.RegProgram.{RegProgram}
use Rattle.th_ir.specs.Program.{node_at}
use Rattle.th_mod.specs.declared.effect.Part.{Part}
use Rattle.th_mod.specs.declared.effect.Effect.{Effect}
use Rattle.th_mod.specs.declared.effect.Effect.TheVariants.{Nothing, WritesField, WritesStatic, WritesElement, Makes, Calls, Initialises}
use Rattle.th_mod.specs.Effects.{effect_of, number_of}
use Rattle.th_mod.specs.Systems.{numbers_below, goes, method_copy, class_copy, effect_copy, call_copy, effect_init, init_copy, superclass_copy, initialiser_copy, call_copies, init_copies, own_copies, class_copies, copies_of, base_pair, base_pairs}
use Rattle.th_mod.specs.Told.{system_of}
use Rattle.th_mod.proofs.Flat.{joined, joins, in_option, option_in, found_at, at_found, below_in, in_below, some_same}

-- ---- options that a test makes

-- what came of an option came of its item
pub came_of : {X Y : Type 0} (f : X → Option Y) (o : Option X) (y : Y) → option_and_then f o ≡ Some y → (x : X) × (o ≡ Some x) × (f x ≡ Some y)
came_of f None y e = absurd cc
came_of f (Some x) y e = (x, refl, e)

pub mapped_of : {X Y : Type 0} (f : X → Y) (o : Option X) (y : Y) → option_map f o ≡ Some y → (x : X) × (o ≡ Some x) × (f x ≡ y)
mapped_of f None y e = absurd cc
mapped_of f (Some x) y e = (x, refl, some_same (f x) y e)

tested : {X : Type 0} (b : Bool) (x y : X) → (if b then Some x else None) ≡ Some y → (b ≡ true) × (x ≡ y)
tested true x y e = (refl, some_same x y e)
tested false x y e = absurd cc

tested_both : {X : Type 0} (a b : Bool) (x y : X) → (if a && b then Some x else None) ≡ Some y → (a ≡ true) × (b ≡ true) × (x ≡ y)
tested_both true true x y e = (refl, refl, some_same x y e)
tested_both true false x y e = absurd cc
tested_both false b x y e = absurd cc

passes_one : {X : Type 0} (b : Bool) (x : X) → b ≡ true → (if b then Some x else None) ≡ Some x
passes_one true x one = refl
passes_one false x one = absurd cc

passes_both : {X : Type 0} (a b : Bool) (x : X) → a ≡ true → b ≡ true → (if a && b then Some x else None) ≡ Some x
passes_both true true x one two = refl
passes_both true false x one two = absurd cc
passes_both false b x one two = absurd cc

-- ---- what an effect includes

call_of_effect : (k : ℕ) (p : RegProgram) (effect : Effect) (callee m : ℕ) (j : Inclusion) → effect_copy k p effect callee m ≡ Some j
    → (effect ≡ Calls) × (method_copy k p callee m ≡ Some j)
call_of_effect k p Calls callee m j e = (refl, e)
call_of_effect k p (Initialises c) callee m j e = absurd cc
call_of_effect k p Nothing callee m j e = absurd cc
call_of_effect k p (WritesField f) callee m j e = absurd cc
call_of_effect k p (WritesStatic f) callee m j e = absurd cc
call_of_effect k p WritesElement callee m j e = absurd cc
call_of_effect k p (Makes site) callee m j e = absurd cc

init_of_effect : (k : ℕ) (p : RegProgram) (effect : Effect) (m : ℕ) (j : Inclusion) → effect_init k p effect m ≡ Some j
    → (c : ClassId) × (effect ≡ Initialises c) × (class_copy k p c.0 m ≡ Some j)
init_of_effect k p (Initialises c) m j e = (c, refl, e)
init_of_effect k p Calls m j e = absurd cc
init_of_effect k p Nothing m j e = absurd cc
init_of_effect k p (WritesField f) m j e = absurd cc
init_of_effect k p (WritesStatic f) m j e = absurd cc
init_of_effect k p WritesElement m j e = absurd cc
init_of_effect k p (Makes site) m j e = absurd cc

-- ---- each inclusion is of one of four kinds

pub record HoldsOfCopies (h : List ClassInfo) (p : RegProgram) (facts : Facts) (P : Inclusion → Type 0) : Type 0 where
  pub call : (call : NodeId × MethodId) (node : Node) → Contains facts.calls call → node_at p call.0.0 ≡ Some node → effect_of node.stmt ≡ Calls
      → call.1.0 < length p.methods → node.method.0 < length p.methods → P (goes (length h + call.1.0) (length h + node.method.0))
  pub init : (n : ℕ) (node : Node) (c : ClassId) → node_at p n ≡ Some node → effect_of node.stmt ≡ Initialises c → c.0 < length h
      → node.method.0 < length p.methods → P (goes c.0 (length h + node.method.0))
  pub super : (c s : ℕ) → c < length h → superclass_of h c ≡ Some s → P (goes s c)
  pub own : (c : ℕ) (i : MethodInfo) → c < length h → declared_method h (codes "<clinit>") (codes "()V") c ≡ Some i → i.id.0 < length p.methods
      → P (goes (length h + i.id.0) c)

of_calls : (h : List ClassInfo) (p : RegProgram) (facts : Facts) (P : Inclusion → Type 0) → HoldsOfCopies h p facts P → (j : Inclusion)
    → Contains (call_copies (length h) p facts.calls) j → P j
of_calls h p facts P all j one =
    let from = joined (λ (call : NodeId × MethodId). option_to_list (call_copy (length h) p call)) facts.calls j one in
    let call = from.0 in
    let made = came_of (λ (node : Node). effect_copy (length h) p (effect_of node.stmt) call.1.0 node.method.0) (node_at p call.0.0) j (in_option (call_copy (length h) p call) j from.2) in
    let is = call_of_effect (length h) p (effect_of made.0.stmt) call.1.0 made.0.method.0 j made.2 in
    let t = tested_both (ltb call.1.0 (length p.methods)) (ltb made.0.method.0 (length p.methods)) (goes (length h + call.1.0) (length h + made.0.method.0)) j is.1 in
    subst P t.2 (all.call call made.0 from.1 made.1 is.0 (ltb-true call.1.0 (length p.methods) t.0) (ltb-true made.0.method.0 (length p.methods) t.1))

of_inits : (h : List ClassInfo) (p : RegProgram) (facts : Facts) (P : Inclusion → Type 0) → HoldsOfCopies h p facts P → (j : Inclusion)
    → Contains (init_copies (length h) p p.nodes) j → P j
of_inits h p facts P all j one =
    let from = joined (λ (node : Node). option_to_list (init_copy (length h) p node)) p.nodes j one in
    let node = from.0 in
    let at = found_at p.nodes node from.1 in
    let is = init_of_effect (length h) p (effect_of node.stmt) node.method.0 j (in_option (init_copy (length h) p node) j from.2) in
    let t = tested_both (ltb is.0.0 (length h)) (ltb node.method.0 (length p.methods)) (goes is.0.0 (length h + node.method.0)) j is.2 in
    subst P t.2 (all.init at.0 node is.0 at.1 is.1 (ltb-true is.0.0 (length h) t.0) (ltb-true node.method.0 (length p.methods) t.1))

of_super : (h : List ClassInfo) (p : RegProgram) (facts : Facts) (P : Inclusion → Type 0) → HoldsOfCopies h p facts P → (c : ℕ) (j : Inclusion) → c < length h
    → superclass_copy h c ≡ Some j → P j
of_super h p facts P all c j lt e =
    let from = mapped_of (λ (s : ℕ). goes s c) (superclass_of h c) j e in
    subst P from.2 (all.super c from.0 lt from.1)

of_own : (h : List ClassInfo) (p : RegProgram) (facts : Facts) (P : Inclusion → Type 0) → HoldsOfCopies h p facts P → (c : ℕ) (j : Inclusion) → c < length h
    → initialiser_copy h p c ≡ Some j → P j
of_own h p facts P all c j lt e =
    let from = came_of (λ (i : MethodInfo). if ltb i.id.0 (length p.methods) then Some (goes (length h + i.id.0) c) else None) (declared_method h (codes "<clinit>") (codes "()V") c) j e in
    let t = tested (ltb from.0.id.0 (length p.methods)) (goes (length h + from.0.id.0) c) j from.2 in
    subst P t.1 (all.own c from.0 lt from.1 (ltb-true from.0.id.0 (length p.methods) t.0))

of_classes : (h : List ClassInfo) (p : RegProgram) (facts : Facts) (P : Inclusion → Type 0) → HoldsOfCopies h p facts P → (j : Inclusion)
    → Contains (class_copies h p (length h)) j → P j
of_classes h p facts P all j one =
    let from = joined (own_copies h p) (numbers_below (length h)) j one in
    let lt = in_below (length h) from.0 from.1 in
    elim (Contains-append_cases (option_to_list (superclass_copy h from.0)) (option_to_list (initialiser_copy h p from.0)) j from.2) [
      | inl super ↦ of_super h p facts P all from.0 j lt (in_option (superclass_copy h from.0) j super)
      | inr own ↦ of_own h p facts P all from.0 j lt (in_option (initialiser_copy h p from.0) j own)
    ]

pub each_copy : (h : List ClassInfo) (p : RegProgram) (facts : Facts) (P : Inclusion → Type 0) → HoldsOfCopies h p facts P → (j : Inclusion)
    → Contains (copies_of h p facts) j → P j
each_copy h p facts P all j one =
    elim (Contains-append_cases (call_copies (length h) p facts.calls ++ init_copies (length h) p p.nodes) (class_copies h p (length h)) j one) [
      | inl nodes ↦ elim (Contains-append_cases (call_copies (length h) p facts.calls) (init_copies (length h) p p.nodes) j nodes) [
        | inl calls ↦ of_calls h p facts P all j calls
        | inr inits ↦ of_inits h p facts P all j inits
      ]
      | inr classes ↦ of_classes h p facts P all j classes
    ]

-- ---- each kind is among the inclusions

pub call_in : (h : List ClassInfo) (p : RegProgram) (facts : Facts) (call : NodeId × MethodId) (node : Node) → Contains facts.calls call → node_at p call.0.0 ≡ Some node
    → effect_of node.stmt ≡ Calls → call.1.0 < length p.methods → node.method.0 < length p.methods
    → Contains (copies_of h p facts) (goes (length h + call.1.0) (length h + node.method.0))
call_in h p facts call node one at is callee caller =
    let j : Inclusion = goes (length h + call.1.0) (length h + node.method.0) in
    let e : call_copy (length h) p call ≡ Some j =
    ap (λ o. option_and_then (λ (n : Node). effect_copy (length h) p (effect_of n.stmt) call.1.0 n.method.0) o) at
    ∙ ap (λ effect. effect_copy (length h) p effect call.1.0 node.method.0) is
    ∙ passes_both (ltb call.1.0 (length p.methods)) (ltb node.method.0 (length p.methods)) j (lt-ltb call.1.0 (length p.methods) callee) (lt-ltb node.method.0 (length p.methods) caller) in
    Contains-append_left (call_copies (length h) p facts.calls ++ init_copies (length h) p p.nodes) (class_copies h p (length h)) j
    (Contains-append_left (call_copies (length h) p facts.calls) (init_copies (length h) p p.nodes) j
    (joins (λ (c : NodeId × MethodId). option_to_list (call_copy (length h) p c)) facts.calls call j one (option_in (call_copy (length h) p call) j e)))

pub init_in : (h : List ClassInfo) (p : RegProgram) (facts : Facts) (n : ℕ) (node : Node) (c : ClassId) → node_at p n ≡ Some node → effect_of node.stmt ≡ Initialises c
    → c.0 < length h → node.method.0 < length p.methods → Contains (copies_of h p facts) (goes c.0 (length h + node.method.0))
init_in h p facts n node c at is class method =
    let j : Inclusion = goes c.0 (length h + node.method.0) in
    let e : init_copy (length h) p node ≡ Some j =
    ap (λ effect. effect_init (length h) p effect node.method.0) is
    ∙ passes_both (ltb c.0 (length h)) (ltb node.method.0 (length p.methods)) j (lt-ltb c.0 (length h) class) (lt-ltb node.method.0 (length p.methods) method) in
    Contains-append_left (call_copies (length h) p facts.calls ++ init_copies (length h) p p.nodes) (class_copies h p (length h)) j
    (Contains-append_right (call_copies (length h) p facts.calls) (init_copies (length h) p p.nodes) j
    (joins (λ (m : Node). option_to_list (init_copy (length h) p m)) p.nodes node j (at_found p.nodes n node at) (option_in (init_copy (length h) p node) j e)))

class_in : (h : List ClassInfo) (p : RegProgram) (facts : Facts) (c : ℕ) (j : Inclusion) → c < length h → Contains (own_copies h p c) j → Contains (copies_of h p facts) j
class_in h p facts c j lt one =
    Contains-append_right (call_copies (length h) p facts.calls ++ init_copies (length h) p p.nodes) (class_copies h p (length h)) j
    (joins (own_copies h p) (numbers_below (length h)) c j (below_in (length h) c lt) one)

pub super_in : (h : List ClassInfo) (p : RegProgram) (facts : Facts) (c s : ℕ) → c < length h → superclass_of h c ≡ Some s → Contains (copies_of h p facts) (goes s c)
super_in h p facts c s lt e =
    class_in h p facts c (goes s c) lt
    (Contains-append_left (option_to_list (superclass_copy h c)) (option_to_list (initialiser_copy h p c)) (goes s c)
    (option_in (superclass_copy h c) (goes s c) (ap (λ o. option_map (λ (s : ℕ). goes s c) o) e)))

pub own_in : (h : List ClassInfo) (p : RegProgram) (facts : Facts) (c : ℕ) (i : MethodInfo) → c < length h → declared_method h (codes "<clinit>") (codes "()V") c ≡ Some i
    → i.id.0 < length p.methods → Contains (copies_of h p facts) (goes (length h + i.id.0) c)
own_in h p facts c i lt e less =
    let j : Inclusion = goes (length h + i.id.0) c in
    let made : initialiser_copy h p c ≡ Some j =
    ap (λ o. option_and_then (λ (i : MethodInfo). if ltb i.id.0 (length p.methods) then Some (goes (length h + i.id.0) c) else None) o) e
    ∙ passes_one (ltb i.id.0 (length p.methods)) j (lt-ltb i.id.0 (length p.methods) less) in
    class_in h p facts c j lt (Contains-append_right (option_to_list (superclass_copy h c)) (option_to_list (initialiser_copy h p c)) j (option_in (initialiser_copy h p c) j made))

-- ---- base pairs

-- a base pair is what a node puts into its method's set
pub record IsOfNode (k : ℕ) (p : RegProgram) (part : Part) (i x : ℕ) : Type 0 where
  pub place : ℕ
  pub node : Node
  pub stands : node_at p place ≡ Some node
  pub inside : node.method.0 < length p.methods
  pub set : k + node.method.0 ≡ i
  pub number : number_of (effect_of node.stmt) part ≡ Some x

pub pair_of_node : (k : ℕ) (p : RegProgram) (part : Part) (i x : ℕ) → Contains (base_pairs k p part p.nodes) (i, x) → IsOfNode k p part i x
pair_of_node k p part i x one =
    let pair : ℕ × ℕ = (i, x) in
    let from = joined {Y = ℕ × ℕ} (λ (node : Node). option_to_list {X = ℕ × ℕ} (base_pair k p part node)) p.nodes pair one in
    let node = from.0 in
    let at = found_at p.nodes node from.1 in
    let made = came_of {Y = ℕ × ℕ} (λ (y : ℕ). if ltb node.method.0 (length p.methods) then Some (k + node.method.0, y) else None) (number_of (effect_of node.stmt) part) pair (in_option {X = ℕ × ℕ} (base_pair k p part node) pair from.2) in
    let made_pair : ℕ × ℕ = (k + node.method.0, made.0) in
    let t = tested {X = ℕ × ℕ} (ltb node.method.0 (length p.methods)) made_pair pair made.2 in
    record {
      place = at.0;
      node = node;
      stands = at.1;
      inside = ltb-true node.method.0 (length p.methods) t.0;
      set = ap (λ (q : ℕ × ℕ). q.0) t.1;
      number = made.1 ∙ ap (λ (y : ℕ). let o : Option ℕ = Some y in o) (ap (λ (q : ℕ × ℕ). q.1) t.1);
    }

pub pair_in : (k : ℕ) (p : RegProgram) (part : Part) (n x : ℕ) (node : Node) → node_at p n ≡ Some node → node.method.0 < length p.methods → number_of (effect_of node.stmt) part ≡ Some x
    → Contains (base_pairs k p part p.nodes) (k + node.method.0, x)
pair_in k p part n x node at inside e =
    let pair : ℕ × ℕ = (k + node.method.0, x) in
    let made : base_pair k p part node ≡ Some pair =
    ap (λ o. option_and_then {U = ℕ × ℕ} (λ (y : ℕ). if ltb node.method.0 (length p.methods) then Some (k + node.method.0, y) else None) o) e
    ∙ passes_one {X = ℕ × ℕ} (ltb node.method.0 (length p.methods)) pair (lt-ltb node.method.0 (length p.methods) inside) in
    joins {Y = ℕ × ℕ} (λ (m : Node). option_to_list {X = ℕ × ℕ} (base_pair k p part m)) p.nodes node pair (at_found p.nodes n node at) (option_in {X = ℕ × ℕ} (base_pair k p part node) pair made)

-- ---- all are in range

pub superclass_inside : (h : List ClassInfo) (c s : ℕ) → IsAcyclic h → superclass_of h c ≡ Some s → s < length h
superclass_inside h c s acyclic e = acyclic.in_range c s (Contains-from_has (direct_supertypes h c) s (superclass_is_direct h c s e))

abbrev IsWithin : ℕ → Inclusion → Type 0
IsWithin sets j = (j.from < sets) × (j.to < sets) × (j.filter < 1)

all_within : (h : List ClassInfo) (p : RegProgram) (facts : Facts) → IsAcyclic h → HoldsOfCopies h p facts (IsWithin (length h + length p.methods))
all_within h p facts acyclic = record {
  call = λ call node one at is callee caller. (omega arith, omega arith, omega arith);
  init = λ n node c at is class method. (omega arith, omega arith, omega arith);
  super = λ c s lt e. (let inside : s < length h = superclass_inside h c s acyclic e in (omega arith, omega arith, omega arith));
  own = λ c i lt e less. (omega arith, omega arith, omega arith);
}

pub system_in_range : (h : List ClassInfo) (p : RegProgram) (facts : Facts) (part : Part) (passing : List ℕ) → IsAcyclic h
    → IsInRange (system_of (length h + length p.methods) (base_pairs (length h) p part p.nodes) (copies_of h p facts) passing)
system_in_range h p facts part passing acyclic = record {
  base = λ i x one. (let of = pair_of_node (length h) p part i x one in omega (arith, of.inside, of.set));
  copies = λ j one. each_copy h p facts (IsWithin (length h + length p.methods)) (all_within h p facts acyclic) j one;
}

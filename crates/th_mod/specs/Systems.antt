-- The inclusions whose least sets are the summaries. There is a set for each class, of what its
-- initialisers and those of its superclasses write and make, and after these a set for each method.
use Rattle.std.specs.Prelude.{ℕ, ◌+◌, ◌&&◌, nat_lt, zero, suc, List, [], ◌∷◌, ◌++◌, length, codes, Option, None, Some, if◌then◌else◌}
use Rattle.std.specs.List.{flat_map}
use Rattle.std.specs.Option.{option_and_then, option_map, option_to_list}
use Rattle.th_base.specs.declared.class.ClassInfo.{ClassInfo}
use Rattle.th_base.specs.declared.number.MethodId.{MethodId}
use Rattle.th_base.specs.declared.number.NodeId.{NodeId}
use Rattle.th_base.specs.Hierarchy.{superclass_of, declared_method}
use Rattle.th_incl.specs.declared.constraints.Inclusion.{Inclusion}
use Rattle.th_ir.specs.declared.facts.Facts.{Facts}
use Rattle.th_ir.specs.declared.program.Node.{Node}
use Rattle.th_ir.specs.declared.program.RegProgram.{RegProgram}
use Rattle.th_ir.specs.Program.{node_at}
use Rattle.th_mod.specs.declared.effect.Part.{Part}
use Rattle.th_mod.specs.declared.effect.Effect.{Effect}
use Rattle.th_mod.specs.declared.effect.Effect.TheVariants.{Nothing, WritesField, WritesStatic, WritesElement, Makes, Calls, Initialises}
use Rattle.th_mod.specs.Effects.{effect_of, number_of}

-- the numbers below a bound, in order
abbrev pub numbers_below : ℕ → List ℕ
numbers_below zero = []
numbers_below (suc n) = numbers_below n ++ n ∷ []

-- all of one set is in another: every number passes the one filter
abbrev pub goes : ℕ → ℕ → Inclusion
goes from to = record { from = from; to = to; filter = 0 }

-- from one method to another, behind so many classes, where both are methods of the program
abbrev pub method_copy : ℕ → RegProgram → ℕ → ℕ → Option Inclusion
method_copy k p from to =
    if nat_lt from (length p.methods) && nat_lt to (length p.methods) then Some (goes (k + from) (k + to)) else None

-- from a class to a method, where both are there
abbrev pub class_copy : ℕ → RegProgram → ℕ → ℕ → Option Inclusion
class_copy k p class to = if nat_lt class k && nat_lt to (length p.methods) then Some (goes class (k + to)) else None

-- what a node's effect includes in its method, where the node may call this other method
abbrev pub effect_copy : ℕ → RegProgram → Effect → ℕ → ℕ → Option Inclusion
effect_copy k p Calls callee m = method_copy k p callee m
effect_copy k p (Initialises c) callee m = None
effect_copy k p Nothing callee m = None
effect_copy k p (WritesField f) callee m = None
effect_copy k p (WritesStatic f) callee m = None
effect_copy k p WritesElement callee m = None
effect_copy k p (Makes site) callee m = None

-- from the called method to the caller
abbrev pub call_copy : ℕ → RegProgram → NodeId × MethodId → Option Inclusion
call_copy k p call = option_and_then (λ node. effect_copy k p (effect_of node.stmt) call.1.0 node.method.0) (node_at p call.0.0)

-- from the class that a node initialises to its method
abbrev pub effect_init : ℕ → RegProgram → Effect → ℕ → Option Inclusion
effect_init k p (Initialises c) m = class_copy k p c.0 m
effect_init k p Calls m = None
effect_init k p Nothing m = None
effect_init k p (WritesField f) m = None
effect_init k p (WritesStatic f) m = None
effect_init k p WritesElement m = None
effect_init k p (Makes site) m = None

abbrev pub init_copy : ℕ → RegProgram → Node → Option Inclusion
init_copy k p node = effect_init k p (effect_of node.stmt) node.method.0

-- from the superclass to the class
abbrev pub superclass_copy : List ClassInfo → ℕ → Option Inclusion
superclass_copy h c = option_map (λ s. goes s c) (superclass_of h c)

-- from the class's own initialiser to the class
abbrev pub initialiser_copy : List ClassInfo → RegProgram → ℕ → Option Inclusion
initialiser_copy h p c =
    option_and_then
    (λ i. if nat_lt i.id.0 (length p.methods) then Some (goes (length h + i.id.0) c) else None)
    (declared_method h (codes "<clinit>") (codes "()V") c)

abbrev pub call_copies : ℕ → RegProgram → List (NodeId × MethodId) → List Inclusion
call_copies k p calls = flat_map (λ call. option_to_list (call_copy k p call)) calls

abbrev pub init_copies : ℕ → RegProgram → List Node → List Inclusion
init_copies k p nodes = flat_map (λ node. option_to_list (init_copy k p node)) nodes

abbrev pub own_copies : List ClassInfo → RegProgram → ℕ → List Inclusion
own_copies h p c = option_to_list (superclass_copy h c) ++ option_to_list (initialiser_copy h p c)

abbrev pub class_copies : List ClassInfo → RegProgram → ℕ → List Inclusion
class_copies h p n = flat_map (own_copies h p) (numbers_below n)

-- all inclusions
abbrev pub copies_of : List ClassInfo → RegProgram → Facts → List Inclusion
copies_of h p facts = (call_copies (length h) p facts.calls ++ init_copies (length h) p p.nodes) ++ class_copies h p (length h)

-- ---- base pairs

-- what a node itself puts into a part of its method's summary
abbrev pub base_pair : ℕ → RegProgram → Part → Node → Option (ℕ × ℕ)
base_pair k p part node =
    option_and_then {U = ℕ × ℕ}
    (λ x. if nat_lt node.method.0 (length p.methods) then Some (k + node.method.0, x) else None)
    (number_of (effect_of node.stmt) part)

abbrev pub base_pairs : ℕ → RegProgram → Part → List Node → List (ℕ × ℕ)
base_pairs k p part nodes = flat_map {A = ℕ × ℕ} (λ node. option_to_list {X = ℕ × ℕ} (base_pair k p part node)) nodes

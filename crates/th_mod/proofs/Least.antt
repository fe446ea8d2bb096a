-- The least sets of a program's inclusions are its least summaries.
use Rattle.std.proofs.Common.{◌≡◌, ℕ, ◌+◌, ◌<◌, ◌≤◌, ◌==◌, ◌&&◌, Bool, true, false, List, [], ◌∷◌, length, map, Option, Some, slice_get, refl, sym, ap, ◌∙◌, subst, inl, inr, arith}
use Rattle.std.specs.Prelude.{codes}
use Rattle.std.specs.List.{Contains}
use Rattle.std.specs.Option.{option_map, option_map_or}
use Rattle.std.proofs.lemmas.Bool.{eq-eqb, eqb-true, cases_order}
use Rattle.std.proofs.lemmas.List.{length-map}
use Rattle.std.proofs.lemmas.Option.{slice_get-map, slice_get-get_or, slice_get_past}
use Rattle.th_base.specs.declared.class.ClassInfo.{ClassInfo}
use Rattle.th_base.specs.declared.number.ClassId.{ClassId}
use Rattle.th_base.specs.declared.number.MethodId.{MethodId}
use Rattle.th_base.specs.declared.number.NodeId.{NodeId}
use Rattle.th_base.specs.Hierarchy.{IsAcyclic}
use Rattle.th_base.specs.IdSet.{has}
use Rattle.th_incl.specs.declared.constraints.Constraints.{Constraints}
use Rattle.th_incl.specs.declared.constraints.Inclusion.{Inclusion}
use Rattle.th_incl.specs.Least.{set_at, Reaches, given, passed}
use Rattle.th_incl.proofs.Counts.{ascending_at}
use Rattle.th_ir.specs.declared.facts.Facts.{Facts}
use Rattle.th_ir.specs.declared.facts.Mods.{Mods}
use Rattle.th_ir.specs.declared.program.Node.{Node}
use Rattle.th_ir.specs.declared.program.RegProgram.{RegProgram}
use Rattle.th_ir.specs.Calls.{IsInitialiser}
use Rattle.th_ir.specs.FactSets.{sets_of}
use Rattle.th_ir.specs.Program.{node_at}
use Rattle.th_ir.specs.Summaries.{ModSets, IsPart, HoldsSums, SumsWithin, sums_of, IsListedMods, LeastMods}
use Rattle.th_mod.specs.declared.effect.Part.{Part}
use Rattle.th_mod.specs.declared.effect.Part.TheVariants.{Fields, Statics, Elements, Sites}
use Rattle.th_mod.specs.declared.effect.Effect.TheVariants.{Calls, Initialises}
use Rattle.th_mod.specs.Effects.{effect_of, number_of}
use Rattle.th_mod.specs.Systems.{numbers_below, goes, base_pairs, copies_of}
use Rattle.th_mod.specs.Told.{NodesHaveMethods, system_of, AreTold, is_filled, mods_at, gathered}
use Rattle.th_mod.proofs.Copies.{HoldsOfCopies, each_copy, call_in, init_in, super_in, own_in, pair_of_node, pair_in, superclass_inside}
use Rattle.th_mod.proofs.Flat.{length-numbers_below, number_at, all_mapped, passing_member, member_passes}
use Rattle.th_mod.proofs.Initialisers.{with_superclass_inside, declaring_inside, initialised_inside, goes_down, initialiser_of_super, own_initialiser}
use Rattle.th_mod.proofs.Sums.{part_of, part_within, told_of_sums, calls_of_sums, inits_of_sums, sums_of_all}

-- the inclusions for one part
abbrev pub part_system : List ClassInfo → RegProgram → Facts → Part → List ℕ → Constraints
part_system h p facts part passing = system_of (length h + length p.methods) (base_pairs (length h) p part p.nodes) (copies_of h p facts) passing

-- ---- calls

in_graph : (facts : Facts) (call : NodeId × MethodId) → Contains facts.calls call → (sets_of facts).call call.0.0 call.1.0 ≡ true
in_graph facts call one =
    member_passes (λ (c : NodeId × MethodId). c.0.0 == call.0.0 && c.1.0 == call.1.0) facts.calls call one (both (call.0.0 == call.0.0) (call.1.0 == call.1.0) (eq-eqb call.0.0 call.0.0 refl) (eq-eqb call.1.0 call.1.0 refl))
  where
    both : (a b : Bool) → a ≡ true → b ≡ true → (a && b) ≡ true
    both true b one two = two
    both false b one two = absurd cc

record IsListedCall (facts : Facts) (n to : ℕ) : Type 0 where
  call : NodeId × MethodId
  one : Contains facts.calls call
  node : call.0.0 ≡ n
  callee : call.1.0 ≡ to

from_graph : (facts : Facts) (n to : ℕ) → (sets_of facts).call n to ≡ true → IsListedCall facts n to
from_graph facts n to e =
    let m = passing_member (λ (c : NodeId × MethodId). c.0.0 == n && c.1.0 == to) facts.calls e in
    let t = parts (m.0.0.0 == n) (m.0.1.0 == to) m.2 in
    record { call = m.0; one = m.1; node = eqb-true m.0.0.0 n t.0; callee = eqb-true m.0.1.0 to t.1 }
  where
    parts : (a b : Bool) → (a && b) ≡ true → (a ≡ true) × (b ≡ true)
    parts true b e = (refl, e)
    parts false b e = absurd cc

-- ---- what reaches a set holds of its method, or of an initialiser of its class

-- what nodes put into a part, and what goes from callees and initialisers to methods
pub record IsClosed (h : List ClassInfo) (p : RegProgram) (facts : Facts) (part : Part) (Q : ℕ → ℕ → Type 0) : Type 0 where
  pub told : (n x : ℕ) (node : Node) → node_at p n ≡ Some node → number_of (effect_of node.stmt) part ≡ Some x → Q node.method.0 x
  pub calls : (n to x : ℕ) (node : Node) → node_at p n ≡ Some node → effect_of node.stmt ≡ Calls → (sets_of facts).call n to ≡ true → Q to x → Q node.method.0 x
  pub inits : (n to x : ℕ) (node : Node) (c : ClassId) → node_at p n ≡ Some node → effect_of node.stmt ≡ Initialises c → IsInitialiser h c.0 to → Q to x → Q node.method.0 x

pub record Says (h : List ClassInfo) (Q : ℕ → ℕ → Type 0) (i x : ℕ) : Type 0 where
  pub method : (m : ℕ) → i ≡ length h + m → Q m x
  pub class : i < length h → (to : ℕ) × IsInitialiser h i to × Q to x

of_method : (h : List ClassInfo) (Q : ℕ → ℕ → Type 0) (m x : ℕ) → Q m x → Says h Q (length h + m) x
of_method h Q m x e = record {
  method = λ k same. (let is : m ≡ k = omega arith in subst (λ (n : ℕ). Q n x) is e);
  class = λ lt. absurd (omega arith);
}

of_class : (h : List ClassInfo) (Q : ℕ → ℕ → Type 0) (c x to : ℕ) → c < length h → IsInitialiser h c to → Q to x → Says h Q c x
of_class h Q c x to inside is e = record { method = λ k same. absurd (omega arith); class = λ lt. (to, is, e) }

says_on : (h : List ClassInfo) (p : RegProgram) (facts : Facts) (part : Part) (Q : ℕ → ℕ → Type 0) (x : ℕ) → IsAcyclic h → IsClosed h p facts part Q
    → HoldsOfCopies h p facts (λ (j : Inclusion). Says h Q j.from x → Says h Q j.to x)
says_on h p facts part Q x acyclic closed = record {
  call = λ call node one at is callee caller says.
      of_method h Q node.method.0 x (closed.calls call.0.0 call.1.0 x node at is (in_graph facts call one) (says.method call.1.0 refl));
  init = λ n node c at is class method says. (let s = says.class class in of_method h Q node.method.0 x (closed.inits n s.0 x node c at is s.1 s.2));
  super = λ c s lt e says.
      (let t = says.class (superclass_inside h c s acyclic e) in of_class h Q c x t.0 lt (initialiser_of_super h c s t.0 acyclic lt e t.1) t.2);
  own = λ c i lt e less says. of_class h Q c x i.id.0 lt (own_initialiser h c i acyclic lt e) (says.method i.id.0 refl);
}

pub says_all : (h : List ClassInfo) (p : RegProgram) (facts : Facts) (part : Part) (passing : List ℕ) (Q : ℕ → ℕ → Type 0) → IsAcyclic h → IsClosed h p facts part Q
    → (i x : ℕ) → Reaches (part_system h p facts part passing) i x → Says h Q i x
says_all h p facts part passing Q acyclic closed _ _ (given i x one) =
    let of = pair_of_node (length h) p part i x one in
    subst (λ (k : ℕ). Says h Q k x) of.set (of_method h Q of.node.method.0 x (closed.told of.place x of.node of.stands of.number))
says_all h p facts part passing Q acyclic closed _ _ (passed j x one r f) =
    each_copy h p facts (λ (k : Inclusion). Says h Q k.from x → Says h Q k.to x) (says_on h p facts part Q x acyclic closed) j one
    (says_all h p facts part passing Q acyclic closed j.from x r)

-- summaries that hold are closed
sums_are_closed : (h : List ClassInfo) (p : RegProgram) (facts : Facts) (u : ModSets) (part : Part) → HoldsSums h p (sets_of facts) u
    → IsClosed h p facts part (λ m x. part_of part u m x ≡ true)
sums_are_closed h p facts u part holds = record {
  told = λ n x node at e. told_of_sums part node.stmt h (sets_of facts) u node.method.0 n x e (holds n node at);
  calls = λ n to x node at is call e. part_within part u to node.method.0 x (calls_of_sums node.stmt h (sets_of facts) u node.method.0 n to is (holds n node at) call) e;
  inits = λ n to x node c at is init e. part_within part u to node.method.0 x (inits_of_sums node.stmt h (sets_of facts) u node.method.0 n to c is (holds n node at) init) e;
}

-- ---- through inclusions

abbrev pub PassesAll : List ClassInfo → RegProgram → Part → List ℕ → Type 0
PassesAll h p part passing = (i x : ℕ) → Contains (base_pairs (length h) p part p.nodes) (i, x) → has passing x ≡ true

reached_passes : (h : List ClassInfo) (p : RegProgram) (facts : Facts) (part : Part) (passing : List ℕ) → PassesAll h p part passing
    → (i x : ℕ) → Reaches (part_system h p facts part passing) i x → has passing x ≡ true
reached_passes h p facts part passing pass _ _ (given i x one) = pass i x one
reached_passes h p facts part passing pass _ _ (passed j x one r f) = reached_passes h p facts part passing pass j.from x r

through : (h : List ClassInfo) (p : RegProgram) (facts : Facts) (part : Part) (passing : List ℕ) → PassesAll h p part passing
    → (from to x : ℕ) → Contains (copies_of h p facts) (goes from to) → Reaches (part_system h p facts part passing) from x → Reaches (part_system h p facts part passing) to x
through h p facts part passing pass from to x one r = passed (goes from to) x one r (reached_passes h p facts part passing pass from x r)

-- what is in the set of one method is in that of another, of each part
abbrev Carries : List ClassInfo → RegProgram → Facts → ℕ → ℕ → Type 0
Carries h p facts to m =
    (part : Part) (passing : List ℕ) → PassesAll h p part passing → to < length p.methods → (x : ℕ)
    → Reaches (part_system h p facts part passing) (length h + to) x → Reaches (part_system h p facts part passing) (length h + m) x

call_carries : (h : List ClassInfo) (p : RegProgram) (facts : Facts) (n to : ℕ) (node : Node) → node_at p n ≡ Some node → node.method.0 < length p.methods
    → effect_of node.stmt ≡ Calls → (sets_of facts).call n to ≡ true → Carries h p facts to node.method.0
call_carries h p facts n to node at inside is e part passing pass less x r =
    let l = from_graph facts n to e in
    let stands : node_at p l.call.0.0 ≡ Some node = ap (λ (k : ℕ). node_at p k) l.node ∙ at in
    let callee : l.call.1.0 < length p.methods = omega (arith, l.callee) in
    through h p facts part passing pass (length h + l.call.1.0) (length h + node.method.0) x (call_in h p facts l.call node l.one stands is callee inside)
    (subst (λ (k : ℕ). Reaches (part_system h p facts part passing) (length h + k) x) (sym l.callee) r)

init_carries : (h : List ClassInfo) (p : RegProgram) (facts : Facts) (n to : ℕ) (node : Node) (c : ClassId) → node_at p n ≡ Some node → node.method.0 < length p.methods
    → effect_of node.stmt ≡ Initialises c → IsInitialiser h c.0 to → Carries h p facts to node.method.0
init_carries h p facts n to node c at inside is i part passing pass less x r =
    let own_less : i.info.id.0 < length p.methods = omega (arith, i.number) in
    let own = declaring_inside h (codes "<clinit>") (codes "()V") i.class i.info i.declared in
    let start : Reaches (part_system h p facts part passing) i.class x =
    through h p facts part passing pass (length h + i.info.id.0) i.class x (own_in h p facts i.class i.info own i.declared own_less)
    (subst (λ (k : ℕ). Reaches (part_system h p facts part passing) (length h + k) x) (sym i.number) r) in
    let down : Reaches (part_system h p facts part passing) c.0 x =
    goes_down h (λ (k : ℕ). Reaches (part_system h p facts part passing) k x)
    (λ k s e reached. through h p facts part passing pass s k x (super_in h p facts k s (with_superclass_inside h k s e) e) reached)
    (length h) c.0 i.class i.above start in
    through h p facts part passing pass c.0 (length h + node.method.0) x (init_in h p facts n node c at is (initialised_inside h c.0 to i) inside) down

-- ---- the lists

-- the sets of the four parts
pub record AreParts (h : List ClassInfo) (p : RegProgram) (facts : Facts) (fields statics elements sites : List (List ℕ)) : Type 0 where
  pub fields_told : AreTold (length h + length p.methods) (base_pairs (length h) p Fields p.nodes) (copies_of h p facts) fields
  pub statics_told : AreTold (length h + length p.methods) (base_pairs (length h) p Statics p.nodes) (copies_of h p facts) statics
  pub elements_told : AreTold (length h + length p.methods) (base_pairs (length h) p Elements p.nodes) (copies_of h p facts) elements
  pub sites_told : AreTold (length h + length p.methods) (base_pairs (length h) p Sites p.nodes) (copies_of h p facts) sites

filled : (xs : List ℕ) (x : ℕ) → has xs x ≡ true → is_filled xs ≡ true
filled [] x e = absurd cc
filled (y ∷ ys) x e = refl

filled_with : (xs : List ℕ) → is_filled xs ≡ true → (x : ℕ) × (has xs x ≡ true)
filled_with [] e = absurd cc
filled_with (y ∷ ys) e = (y, ap (λ (b : Bool). b) (first_has y ys))
  where
    first_has : (z : ℕ) (zs : List ℕ) → has (z ∷ zs) z ≡ true
    first_has z zs = rw (eq-eqb z z refl) refl

mapped_at : {X : Type 0} (f : ℕ → X) (n m : ℕ) → m < n → slice_get (map f (numbers_below n)) m ≡ Some (f m)
mapped_at f n m lt =
    slice_get-map f (numbers_below n) m
    ∙ ap (option_map f) (slice_get-get_or (numbers_below n) m 0 (omega (arith, length-numbers_below n)))
    ∙ ap (λ (k : ℕ). let o : Option _ = Some (f k) in o) (number_at n m lt)

mapped_inside : {X : Type 0} (f : ℕ → X) (n m : ℕ) (test : X → Bool) → option_map_or test (slice_get (map f (numbers_below n)) m) false ≡ true → (m < n) × (test (f m) ≡ true)
mapped_inside f n m test e = elim (cases_order m n) [
  | inl same ↦ absurd (past (omega arith))
  | inr (inl less) ↦ (less, sym (ap (λ o. option_map_or test o false) (mapped_at f n m less)) ∙ e)
  | inr (inr more) ↦ absurd (past (omega arith))
]
  where
    past : n ≤ m → ⊥
    past le =
        let none = slice_get_past (map f (numbers_below n)) m (omega (arith, length-map (numbers_below n) f, length-numbers_below n)) in
        let no : false ≡ true = sym (ap (λ o. option_map_or test o false) none) ∙ e in
        absurd cc

-- what reaches the set of a method is said of it, and nothing else
abbrev pub SaidOf : List ClassInfo → RegProgram → Facts → Part → List ℕ → List Mods → Type 0
SaidOf h p facts part passing mods =
    (m x : ℕ) → m < length p.methods → Reaches (part_system h p facts part passing) (length h + m) x → part_of part (sums_of mods) m x ≡ true

pub record Reached (h : List ClassInfo) (p : RegProgram) (facts : Facts) (part : Part) (passing : List ℕ) (m x : ℕ) : Type 0 where
  pub inside : m < length p.methods
  pub reached : Reaches (part_system h p facts part passing) (length h + m) x

-- the lists of the four parts, and what they say
pub record IsSaid (h : List ClassInfo) (p : RegProgram) (facts : Facts) (fields statics elements sites : List ℕ) (mods : List Mods) : Type 0 where
  pub fields_pass : PassesAll h p Fields fields
  pub statics_pass : PassesAll h p Statics statics
  pub elements_pass : PassesAll h p Elements elements
  pub sites_pass : PassesAll h p Sites sites
  pub fields_said : SaidOf h p facts Fields fields mods
  pub statics_said : SaidOf h p facts Statics statics mods
  pub elements_said : SaidOf h p facts Elements elements mods
  pub sites_said : SaidOf h p facts Sites sites mods
  pub fields_only : (m x : ℕ) → (sums_of mods).fields m x ≡ true → Reached h p facts Fields fields m x
  pub statics_only : (m x : ℕ) → (sums_of mods).statics m x ≡ true → Reached h p facts Statics statics m x
  pub elements_only : (m : ℕ) → (sums_of mods).elements m ≡ true → (x : ℕ) × Reached h p facts Elements elements m x
  pub sites_only : (m x : ℕ) → (sums_of mods).sites m x ≡ true → Reached h p facts Sites sites m x

pub all_said : (h : List ClassInfo) (p : RegProgram) (facts : Facts) (fields statics elements sites : List (List ℕ)) (parts : AreParts h p facts fields statics elements sites)
    → IsSaid h p facts parts.fields_told.passing parts.statics_told.passing parts.elements_told.passing parts.sites_told.passing (gathered (length h) (length p.methods) fields statics elements sites)
all_said h p facts fields statics elements sites parts =
    let at = λ (m : ℕ). mods_at fields statics elements sites (length h + m) in
    record {
      fields_pass = parts.fields_told.passes;
      statics_pass = parts.statics_told.passes;
      elements_pass = parts.elements_told.passes;
      sites_pass = parts.sites_told.passes;
      fields_said = λ m x lt r. ap (λ o. option_map_or (λ (k : Mods). has k.fields x) o false) (mapped_at at (length p.methods) m lt) ∙ (parts.fields_told.least.exact (length h + m) x).1 r;
      statics_said = λ m x lt r. ap (λ o. option_map_or (λ (k : Mods). has k.statics x) o false) (mapped_at at (length p.methods) m lt) ∙ (parts.statics_told.least.exact (length h + m) x).1 r;
      elements_said = λ m x lt r.
          ap (λ o. option_map_or (λ (k : Mods). k.elements) o false) (mapped_at at (length p.methods) m lt)
          ∙ filled (set_at elements (length h + m)) x ((parts.elements_told.least.exact (length h + m) x).1 r);
      sites_said = λ m x lt r. ap (λ o. option_map_or (λ (k : Mods). has k.sites x) o false) (mapped_at at (length p.methods) m lt) ∙ (parts.sites_told.least.exact (length h + m) x).1 r;
      fields_only = λ m x e.
          (let u = mapped_inside at (length p.methods) m (λ (k : Mods). has k.fields x) e in
          record { inside = u.0; reached = (parts.fields_told.least.exact (length h + m) x).0 u.1 });
      statics_only = λ m x e.
          (let u = mapped_inside at (length p.methods) m (λ (k : Mods). has k.statics x) e in
          record { inside = u.0; reached = (parts.statics_told.least.exact (length h + m) x).0 u.1 });
      elements_only = λ m e.
          (let u = mapped_inside at (length p.methods) m (λ (k : Mods). k.elements) e in
          let f = filled_with (set_at elements (length h + m)) u.1 in
          (f.0, record { inside = u.0; reached = (parts.elements_told.least.exact (length h + m) f.0).0 f.1 }));
      sites_only = λ m x e.
          (let u = mapped_inside at (length p.methods) m (λ (k : Mods). has k.sites x) e in
          record { inside = u.0; reached = (parts.sites_told.least.exact (length h + m) x).0 u.1 });
    }

-- ---- the summaries hold, and are the least that do

carried_part : (h : List ClassInfo) (p : RegProgram) (facts : Facts) (f s e t : List ℕ) (mods : List Mods) → IsSaid h p facts f s e t mods → (to m : ℕ)
    → m < length p.methods → Carries h p facts to m → IsPart (sums_of mods) to m
carried_part h p facts f s e t mods said to m inside carries = record {
  fields = λ x is. (let r = said.fields_only to x is in said.fields_said m x inside (carries Fields f said.fields_pass r.inside x r.reached));
  statics = λ x is. (let r = said.statics_only to x is in said.statics_said m x inside (carries Statics s said.statics_pass r.inside x r.reached));
  elements = λ is. (let r = said.elements_only to is in said.elements_said m r.0 inside (carries Elements e said.elements_pass r.1.inside r.0 r.1.reached));
  sites = λ x is. (let r = said.sites_only to x is in said.sites_said m x inside (carries Sites t said.sites_pass r.inside x r.reached));
}

-- what a node itself puts into a part
own_said : (h : List ClassInfo) (p : RegProgram) (facts : Facts) (f s e t : List ℕ) (mods : List Mods) → IsSaid h p facts f s e t mods → (n : ℕ) (node : Node) → node_at p n ≡ Some node
    → node.method.0 < length p.methods → (part : Part) (x : ℕ) → number_of (effect_of node.stmt) part ≡ Some x → part_of part (sums_of mods) node.method.0 x ≡ true
own_said h p facts f s e t mods said n node at inside Fields x is = said.fields_said node.method.0 x inside (given (length h + node.method.0) x (pair_in (length h) p Fields n x node at inside is))
own_said h p facts f s e t mods said n node at inside Statics x is = said.statics_said node.method.0 x inside (given (length h + node.method.0) x (pair_in (length h) p Statics n x node at inside is))
own_said h p facts f s e t mods said n node at inside Elements x is = said.elements_said node.method.0 x inside (given (length h + node.method.0) x (pair_in (length h) p Elements n x node at inside is))
own_said h p facts f s e t mods said n node at inside Sites x is = said.sites_said node.method.0 x inside (given (length h + node.method.0) x (pair_in (length h) p Sites n x node at inside is))

pub said_holds : (h : List ClassInfo) (p : RegProgram) (facts : Facts) (f s e t : List ℕ) (mods : List Mods) → NodesHaveMethods p → IsSaid h p facts f s e t mods → HoldsSums h p (sets_of facts) (sums_of mods)
said_holds h p facts f s e t mods have said n node at =
    let inside = have n node at in
    sums_of_all node.stmt h (sets_of facts) (sums_of mods) node.method.0 n record {
      told = own_said h p facts f s e t mods said n node at inside;
      calls = λ is to call. carried_part h p facts f s e t mods said to node.method.0 inside (call_carries h p facts n to node at inside is call);
      inits = λ c is to init. carried_part h p facts f s e t mods said to node.method.0 inside (init_carries h p facts n to node c at inside is init);
    }

said_within : (h : List ClassInfo) (p : RegProgram) (facts : Facts) (f s e t : List ℕ) (mods : List Mods) → IsAcyclic h → IsSaid h p facts f s e t mods → (u : ModSets)
    → HoldsSums h p (sets_of facts) u → SumsWithin (sums_of mods) u
said_within h p facts f s e t mods acyclic said u holds = record {
  fields = λ m x is. (let r = said.fields_only m x is in (says_all h p facts Fields f (λ m x. part_of Fields u m x ≡ true) acyclic (sums_are_closed h p facts u Fields holds) (length h + m) x r.reached).method m refl);
  statics = λ m x is. (let r = said.statics_only m x is in (says_all h p facts Statics s (λ m x. part_of Statics u m x ≡ true) acyclic (sums_are_closed h p facts u Statics holds) (length h + m) x r.reached).method m refl);
  elements = λ m is. (let r = said.elements_only m is in (says_all h p facts Elements e (λ m x. part_of Elements u m x ≡ true) acyclic (sums_are_closed h p facts u Elements holds) (length h + m) r.0 r.1.reached).method m refl);
  sites = λ m x is. (let r = said.sites_only m x is in (says_all h p facts Sites t (λ m x. part_of Sites u m x ≡ true) acyclic (sums_are_closed h p facts u Sites holds) (length h + m) x r.reached).method m refl);
}

pub least_summaries : (h : List ClassInfo) (p : RegProgram) (facts : Facts) (fields statics elements sites : List (List ℕ)) → IsAcyclic h → NodesHaveMethods p
    → AreParts h p facts fields statics elements sites → LeastMods h p facts (gathered (length h) (length p.methods) fields statics elements sites)
least_summaries h p facts fields statics elements sites acyclic have parts =
    let at = λ (m : ℕ). mods_at fields statics elements sites (length h + m) in
    let said = all_said h p facts fields statics elements sites parts in
    record {
      least = record {
        holds = said_holds h p facts _ _ _ _ (gathered (length h) (length p.methods) fields statics elements sites) have said;
        least = said_within h p facts _ _ _ _ (gathered (length h) (length p.methods) fields statics elements sites) acyclic said;
      };
      count = length-map (numbers_below (length p.methods)) at ∙ length-numbers_below (length p.methods);
      listed = all_mapped IsListedMods at (λ m. record {
        fields = ascending_at fields parts.fields_told.least.ascending (length h + m);
        statics = ascending_at statics parts.statics_told.least.ascending (length h + m);
        sites = ascending_at sites parts.sites_told.least.ascending (length h + m);
      }) (numbers_below (length p.methods));
    }

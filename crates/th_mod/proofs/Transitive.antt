-- The summaries tell what some method writes and makes that a run may come to run.
use Rattle.std.proofs.Common.{◌≡◌, ◌⊎◌, ℕ, ◌+◌, true, List, length, Option, Some, refl, ap, subst, inl, inr}
use Rattle.th_base.specs.declared.class.ClassInfo.{ClassInfo}
use Rattle.th_base.specs.declared.number.ClassId.{ClassId}
use Rattle.th_base.specs.declared.number.MethodId.{MethodId}
use Rattle.th_base.specs.declared.number.Reg.{Reg}
use Rattle.th_base.specs.Hierarchy.{IsAcyclic}
use Rattle.th_ir.specs.declared.facts.Facts.{Facts}
use Rattle.th_ir.specs.declared.program.Node.{Node}
use Rattle.th_ir.specs.declared.program.RegProgram.{RegProgram}
use Rattle.th_ir.specs.declared.stmt.CallKind.{CallKind}
use Rattle.th_ir.specs.declared.stmt.Stmt.{Stmt}
use Rattle.th_ir.specs.declared.stmt.Stmt.TheVariants.{PutStatic, PutField, PutElem, New, NewArray, Call, Init}
use Rattle.th_ir.specs.FactSets.{FactSets, sets_of}
use Rattle.th_ir.specs.Program.{node_at}
use Rattle.th_ir.specs.Summaries.{ModSets, HoldsSums, Sums, sums_of}
use Rattle.th_mod.specs.declared.effect.Part.{Part}
use Rattle.th_mod.specs.declared.effect.Part.TheVariants.{Fields, Statics, Elements, Sites}
use Rattle.th_mod.specs.declared.effect.Effect.TheVariants.{Calls, Initialises}
use Rattle.th_mod.specs.Effects.{effect_of, number_of}
use Rattle.th_mod.specs.Told.{NodesHaveMethods, gathered}
use Rattle.th_mod.specs.Transitive.{MayRun, itself, by_call, by_init, HasStatement, AreTransitive}
use Rattle.th_mod.proofs.Flat.{some_same}
use Rattle.th_mod.proofs.Least.{IsClosed, Reached, AreParts, says_all, all_said, said_holds}
use Rattle.th_mod.proofs.Sums.{part_of, part_within}

-- ---- what a statement is, by what it does

record IsCall (stmt : Stmt) : Type 0 where
  dst : Option Reg
  kind : CallKind
  method : MethodId
  args : List Reg
  is : stmt ≡ Call dst kind method args

call_is : (stmt : Stmt) → effect_of stmt ≡ Calls → IsCall stmt
call_is (Call dst kind k args) e = record { dst = dst; kind = kind; method = k; args = args; is = refl }
call_is _ e = absurd cc

init_is : (stmt : Stmt) (c : ClassId) → effect_of stmt ≡ Initialises c → stmt ≡ Init c
init_is (Init k) c e = let same : k ≡ c = cc in ap Init same
init_is _ c e = absurd cc

-- ---- a method tells of a number

record Tells (p : RegProgram) (part : Part) (m x : ℕ) : Type 0 where
  place : ℕ
  node : Node
  stands : node_at p place ≡ Some node
  within : node.method.0 ≡ m
  number : number_of (effect_of node.stmt) part ≡ Some x

states : (p : RegProgram) (part : Part) (m x : ℕ) (t : Tells p part m x) (stmt : Stmt) → t.node.stmt ≡ stmt → HasStatement p m stmt
states p part m x t stmt e = record { place = t.place; node = t.node; stands = t.stands; within = t.within; is = e }

record IsPutField (stmt : Stmt) (f : ℕ) : Type 0 where
  base : Reg
  src : Reg
  is : stmt ≡ PutField base record { 0 = f } src

put_field : (stmt : Stmt) (f : ℕ) → number_of (effect_of stmt) Fields ≡ Some f → IsPutField stmt f
put_field (PutField base k src) f e = record { base = base; src = src; is = ap (λ (n : ℕ). PutField base record { 0 = n } src) (some_same k.0 f e) }
put_field _ f e = absurd cc

record IsPutStatic (stmt : Stmt) (f : ℕ) : Type 0 where
  src : Reg
  is : stmt ≡ PutStatic record { 0 = f } src

put_static : (stmt : Stmt) (f : ℕ) → number_of (effect_of stmt) Statics ≡ Some f → IsPutStatic stmt f
put_static (PutStatic k src) f e = record { src = src; is = ap (λ (n : ℕ). PutStatic record { 0 = n } src) (some_same k.0 f e) }
put_static _ f e = absurd cc

record IsPutElem (stmt : Stmt) : Type 0 where
  array : Reg
  src : Reg
  is : stmt ≡ PutElem array src

put_elem : (stmt : Stmt) (x : ℕ) → number_of (effect_of stmt) Elements ≡ Some x → IsPutElem stmt
put_elem (PutElem array src) x e = record { array = array; src = src; is = refl }
put_elem _ x e = absurd cc

record IsNew (stmt : Stmt) (s : ℕ) : Type 0 where
  dst : Reg
  is : stmt ≡ New dst record { 0 = s }

record IsNewArray (stmt : Stmt) (s : ℕ) : Type 0 where
  dst : Reg
  count : Reg
  is : stmt ≡ NewArray dst record { 0 = s } count

makes : (stmt : Stmt) (s : ℕ) → number_of (effect_of stmt) Sites ≡ Some s → IsNew stmt s ⊎ IsNewArray stmt s
makes (New dst site) s e = inl record { dst = dst; is = ap (λ (n : ℕ). New dst record { 0 = n }) (some_same site.0 s e) }
makes (NewArray dst site count) s e = inr record { dst = dst; count = count; is = ap (λ (n : ℕ). NewArray dst record { 0 = n } count) (some_same site.0 s e) }
makes _ s e = absurd cc

-- ---- from a summary to a way

abbrev LeadsTo : List ClassInfo → RegProgram → FactSets → Part → ℕ → ℕ → Type 0
LeadsTo h p t part m x = (last : ℕ) × MayRun h p t m last × Tells p part last x

ways_are_closed : (h : List ClassInfo) (p : RegProgram) (facts : Facts) (part : Part) → IsClosed h p facts part (LeadsTo h p (sets_of facts) part)
ways_are_closed h p facts part = record {
  told = λ n x node at e. (node.method.0, itself node.method.0, record { place = n; node = node; stands = at; within = refl; number = e });
  calls = λ n to x node at is call way.
      (let c = call_is node.stmt is in (way.0, by_call n node c.dst c.kind c.method c.args to way.0 at c.is call way.1, way.2));
  inits = λ n to x node c at is init way. (way.0, by_init n node c to way.0 at (init_is node.stmt c is) init way.1, way.2);
}

way_of : (h : List ClassInfo) (p : RegProgram) (facts : Facts) (part : Part) (passing : List ℕ) (m x : ℕ) → IsAcyclic h → Reached h p facts part passing m x
    → LeadsTo h p (sets_of facts) part m x
way_of h p facts part passing m x acyclic r =
    (says_all h p facts part passing (LeadsTo h p (sets_of facts) part) acyclic (ways_are_closed h p facts part) (length h + m) x r.reached).method m refl

-- ---- from a way to a summary

along : (h : List ClassInfo) (p : RegProgram) (t : FactSets) (s : ModSets) (part : Part) (x : ℕ) → HoldsSums h p t s → (m last : ℕ) → MayRun h p t m last
    → part_of part s last x ≡ true → part_of part s m x ≡ true
along h p t s part x holds _ _ (itself m) e = e
along h p t s part x holds _ _ (by_call n node dst kind k args to last at is call run) e =
    let sums : Sums h t s node.method.0 n (Call dst kind k args) = subst (λ (st : Stmt). Sums h t s node.method.0 n st) is (holds n node at) in
    part_within part s to node.method.0 x (sums to call) (along h p t s part x holds to last run e)
along h p t s part x holds _ _ (by_init n node c to last at is init run) e =
    let sums : Sums h t s node.method.0 n (Init c) = subst (λ (st : Stmt). Sums h t s node.method.0 n st) is (holds n node at) in
    part_within part s to node.method.0 x (sums to init) (along h p t s part x holds to last run e)

-- what is asked for a statement of a method
asked : (h : List ClassInfo) (p : RegProgram) (t : FactSets) (s : ModSets) (m : ℕ) (stmt : Stmt) → HoldsSums h p t s → (has : HasStatement p m stmt) → Sums h t s m has.place stmt
asked h p t s m stmt holds has =
    subst (λ (k : ℕ). Sums h t s k has.place stmt) has.within
    (subst (λ (st : Stmt). Sums h t s has.node.method.0 has.place st) has.is (holds has.place has.node has.stands))

-- ---- both

pub summaries_are_transitive : (h : List ClassInfo) (p : RegProgram) (facts : Facts) (fields statics elements sites : List (List ℕ)) → IsAcyclic h → NodesHaveMethods p
    → AreParts h p facts fields statics elements sites → AreTransitive h p (sets_of facts) (sums_of (gathered (length h) (length p.methods) fields statics elements sites))
summaries_are_transitive h p facts fields statics elements sites acyclic have parts =
    let t = sets_of facts in
    let s = sums_of (gathered (length h) (length p.methods) fields statics elements sites) in
    let said = all_said h p facts fields statics elements sites parts in
    let holds = said_holds h p facts _ _ _ _ (gathered (length h) (length p.methods) fields statics elements sites) have said in
    record {
      fields = λ m f. (
        λ e.
            (let w = way_of h p facts Fields _ m f acyclic (said.fields_only m f e) in let is = put_field w.2.node.stmt f w.2.number in
            (w.0, w.1, (is.base, is.src, states p Fields w.0 f w.2 (PutField is.base record { 0 = f } is.src) is.is))),
        λ w. along h p t s Fields f holds m w.0 w.1 (asked h p t s w.0 (PutField w.2.0 record { 0 = f } w.2.1) holds w.2.2),
      );
      statics = λ m f. (
        λ e.
            (let w = way_of h p facts Statics _ m f acyclic (said.statics_only m f e) in let is = put_static w.2.node.stmt f w.2.number in
            (w.0, w.1, (is.src, states p Statics w.0 f w.2 (PutStatic record { 0 = f } is.src) is.is))),
        λ w. along h p t s Statics f holds m w.0 w.1 (asked h p t s w.0 (PutStatic record { 0 = f } w.2.0) holds w.2.1),
      );
      elements = λ m. (
        λ e.
            (let r = said.elements_only m e in let w = way_of h p facts Elements _ m r.0 acyclic r.1 in let is = put_elem w.2.node.stmt r.0 w.2.number in
            (w.0, w.1, (is.array, is.src, states p Elements w.0 r.0 w.2 (PutElem is.array is.src) is.is))),
        λ w. along h p t s Elements 0 holds m w.0 w.1 (asked h p t s w.0 (PutElem w.2.0 w.2.1) holds w.2.2),
      );
      sites = λ m x. (
        λ e.
            (let w = way_of h p facts Sites _ m x acyclic (said.sites_only m x e) in (
              w.0,
              w.1,
              elim (makes w.2.node.stmt x w.2.number) [
                | inl is ↦ inl (is.dst, states p Sites w.0 x w.2 (New is.dst record { 0 = x }) is.is)
                | inr is ↦ inr (is.dst, is.count, states p Sites w.0 x w.2 (NewArray is.dst record { 0 = x } is.count) is.is)
              ],
            )),
        λ w. along h p t s Sites x holds m w.0 w.1 (elim w.2 [
          | inl one ↦ asked h p t s w.0 (New one.0 record { 0 = x }) holds one.1
          | inr one ↦ asked h p t s w.0 (NewArray one.0 record { 0 = x } one.1) holds one.2
        ]),
      );
    }

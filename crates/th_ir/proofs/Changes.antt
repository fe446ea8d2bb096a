-- Each kind of change keeps the invariant, where what it sets is held.
use Rattle.std.proofs.Common.{◌≡◌, ℕ, pos, ◌==◌, inl, inr, Bool, true, false, List, [], ◌∷◌, ◌++◌, length, map, Option, None, Some, slice_get, refl, sym, ap, subst, arith, append-nil, ◌∙◌}
use Rattle.std.specs.Prelude.{zip}
use Rattle.std.proofs.lemmas.Int.{ints}
use Rattle.std.specs.List.{AllByRecursion}
use Rattle.std.specs.Option.{option_map, option_map_or}
use Rattle.th_base.specs.declared.class.ClassInfo.{ClassInfo}
use Rattle.th_base.specs.declared.number.Reg.{Reg}
use Rattle.th_base.specs.declared.number.MethodId.{MethodId}
use Rattle.th_base.specs.IdSet.{has}
use Rattle.th_ir.specs.declared.program.RegProgram.{RegProgram}
use Rattle.th_ir.specs.declared.program.Method.{Method}
use Rattle.th_ir.specs.declared.program.Node.{Node}
use Rattle.th_ir.specs.declared.stmt.Stmt.{Stmt}
use Rattle.th_ir.specs.declared.stmt.Stmt.TheVariants.{Call, Init, Return}
use Rattle.th_ir.specs.Program.{Among, AreDistinct, node_at, method_at, is_ref, is_harness}
use Rattle.th_ir.specs.Fields.{stage_field, is_ref_field, is_static_field, class_has}
use Rattle.th_ir.specs.Sites.{site_class, is_ref_array, is_string_site, launch_class}
use Rattle.th_ir.specs.Machine.{RegValue, IntValue, NullValue, Address, Contents, RegObject, RegFrame, RegState, field_value, first_value, written, static_written, with_field, with_element, changed_at}
use Rattle.th_ir.specs.Effects.{Change, Sets, SetsStatic, SetsField, SetsElement, Makes, Enters, Leaves}
use Rattle.th_ir.specs.Step.{moved, GoesOn, entry_regs, Begins, result_writes, Resumes, launch_register, address_in, launched_by, Returns, Happens}
use Rattle.th_ir.specs.FactSets.{FactSets}
use Rattle.th_ir.specs.Rules.{FlowsOut, CallsAll, Obeys, HoldsRules}
use Rattle.th_ir.specs.Statements.{HasEntry, IsCallee, FitsResult, FitsCallee, IsProper}
use Rattle.th_ir.specs.WellFormed.{IsWellFormed}
use Rattle.th_ir.specs.Good.{IsHeld, IsContents, IsStaticValue, IsLaunchObject, IsLaunchValue, IsPickValue, pick_register, IsReg, IsFrame, Waits, StandsWaiting, AreStacked, AreStaged, IsGood}
use Rattle.th_ir.proofs.Plain.{some_is, same_found, not_both, changed_number, all_map, all_append, absent_left, distinct_last}
use Rattle.th_ir.proofs.Heaps.{IsExtended, same_heap, get_new, grown, grown_cases, changed, changed_cases, with_contents, static_on, held_more, contents_on, launched_on, reg_on, frame_on, written_all, field_put, element_put, field_stage, element_stage, next_not_launched}
use Rattle.th_ir.proofs.Apart.{IsPlain, IsPlainResult, IsApart, node_apart, harness_entry, listed_harness, launch_special, pick_special}

-- the state and its innermost frame at a node, before a step
pub record AtNode (h : List ClassInfo) (p : RegProgram) (t : FactSets) (s : RegState) (f : RegFrame) (below : List RegFrame) (node : Node) : Type 0 where
  pub good : IsGood h p t s
  pub frames : AllByRecursion (IsFrame p t s.heap s.launched) (f ∷ below)
  pub stack : AreStacked h p t (f ∷ below)
  pub stands : node_at p f.node ≡ Some node

-- the node at which a frame stands is of the frame's method
pub node_within : (p : RegProgram) (t : FactSets) (heap : List RegObject) (launched : List ℕ) (f : RegFrame) (node : Node) → IsFrame p t heap launched f → node_at p f.node ≡ Some node → node.method.0 ≡ f.method
node_within p t heap launched f node frame stands =
    ap (λ (n : Node). n.method.0) (same_found (node_at p f.node) node frame.node stands frame.stands) ∙ frame.within

-- a register that is written gets what it may hold
abbrev pub IsWritten : RegProgram → FactSets → RegState → ℕ → ℕ × RegValue → Type 0
IsWritten p t s m w = IsReg p t s.heap s.launched m w.0 w.1

-- a parameter gets what it may hold
abbrev pub IsPassed : RegProgram → FactSets → RegState → ℕ × RegValue → Type 0
IsPassed p t s w = IsHeld s.heap (t.reg w.0) (is_ref p w.0) w.1

-- what a store into a field must meet
pub record MaySetField (h : List ClassInfo) (p : RegProgram) (t : FactSets) (s : RegState) (a f : ℕ) (v : RegValue) : Type 0 where
  pub object : RegObject
  pub stands : slice_get s.heap a ≡ Some object
  pub class : ℕ
  pub site : site_class h p object.site ≡ Some class
  pub slot : class_has h class f ≡ true
  pub held : IsHeld s.heap (t.cell object.site f) (is_ref_field h f) v
  pub staged : f ≡ stage_field → has s.launched a ≡ true

-- what a store into a static field must meet
pub record MaySetStatic (h : List ClassInfo) (t : FactSets) (s : RegState) (f : ℕ) (v : RegValue) : Type 0 where
  pub static : is_static_field h f ≡ true
  pub held : IsHeld s.heap (t.static f) (is_ref_field h f) v

pub record MaySetElement (p : RegProgram) (t : FactSets) (s : RegState) (a : ℕ) (v : RegValue) : Type 0 where
  pub object : RegObject
  pub stands : slice_get s.heap a ≡ Some object
  pub held : IsHeld s.heap (t.elem object.site) (is_ref_array p object.site) v

pub record MayMake (h : List ClassInfo) (p : RegProgram) (t : FactSets) (s : RegState) (m dst : ℕ) (o : RegObject) : Type 0 where
  pub ref : is_ref p dst ≡ true
  pub in_set : t.reg dst o.site ≡ true
  pub contents : IsContents h p t s.heap o.site o.contents
  pub launch : launch_register p m ≡ Some dst → (k : ℕ) × (launch_class p o.site ≡ Some k)
  pub pick : pick_register p m ≡ Some dst → ⊥
  pub stage : (v : RegValue) → field_value stage_field o.contents ≡ Some v → v ≡ IntValue (pos 0)

pub record MayEnter (h : List ClassInfo) (p : RegProgram) (t : FactSets) (s : RegState) (f : RegFrame) (node : Node) (m : ℕ) (arguments : List RegValue) : Type 0 where
  pub callee : IsCallee p m
  pub reached : t.reached m ≡ true
  pub waits : Waits h p t f.node node.stmt m
  pub passed : (method : Method) → method_at p m ≡ Some method → AllByRecursion (IsPassed p t s) (zip (map (λ (r : Reg). r.0) method.params) arguments)

pub record MayLeave (node : Node) (src : Option ℕ) : Type 0 where
  pub from : Option Reg
  pub returns : node.stmt ≡ Return from
  pub same : src ≡ option_map (λ (r : Reg). r.0) from

-- what must hold of a change
abbrev pub Allowed : List ClassInfo → RegProgram → FactSets → RegState → RegFrame → Node → Change → Type 0
Allowed h p t s f node (Sets ws) = AllByRecursion (IsWritten p t s f.method) ws
Allowed h p t s f node (SetsStatic g v) = MaySetStatic h t s g v
Allowed h p t s f node (SetsField a g v) = MaySetField h p t s a g v
Allowed h p t s f node (SetsElement a k v) = MaySetElement p t s a v
Allowed h p t s f node (Makes dst o) = MayMake h p t s f.method dst o
Allowed h p t s f node (Enters m arguments) = MayEnter h p t s f node m arguments
Allowed h p t s f node (Leaves src) = MayLeave node src

-- ---- going on

stack_on : (h : List ClassInfo) (p : RegProgram) (t : FactSets) (f : RegFrame) (k : ℕ) (regs : ℕ → RegValue) (below : List RegFrame) → AreStacked h p t (f ∷ below) → AreStacked h p t (moved f k regs ∷ below)
stack_on h p t f k regs [] stack = stack
stack_on h p t f k regs (g ∷ below) stack = stack

-- what heap, static fields and registers must meet after a step of the innermost frame
pub record IsNext (h : List ClassInfo) (p : RegProgram) (t : FactSets) (s : RegState) (f : RegFrame) (regs : ℕ → RegValue) (heap : List RegObject) (statics : ℕ → RegValue) : Type 0 where
  pub grows : IsExtended s.heap heap
  pub objects : (a : ℕ) (o : RegObject) → slice_get heap a ≡ Some o → IsContents h p t heap o.site o.contents
  pub statics_held : (g : ℕ) → IsStaticValue h t heap g (statics g)
  pub regs_held : (r : ℕ) → IsReg p t heap s.launched f.method r (regs r)
  pub staged : AreStaged heap s.launched

strings_on : (s : RegState) (p : RegProgram) (heap : List RegObject) → IsExtended s.heap heap → ((a : ℕ) → is_string_site p a ≡ true → (o : RegObject) × (slice_get s.heap a ≡ Some o) × (o.site ≡ a))
    → (a : ℕ) → is_string_site p a ≡ true → (o : RegObject) × (slice_get heap a ≡ Some o) × (o.site ≡ a)
strings_on s p heap grows strings a e = let old = strings a e in let new = grows a old.0 old.1 in (new.0, new.1, new.2 ∙ old.2)

goes_on : (h : List ClassInfo) (p : RegProgram) (t : FactSets) (s : RegState) (f : RegFrame) (below : List RegFrame) (node : Node) (regs : ℕ → RegValue) (heap : List RegObject) (statics : ℕ → RegValue) (u : RegState)
    → IsWellFormed h p → IsGood h p t s → IsFrame p t s.heap s.launched f → AllByRecursion (IsFrame p t s.heap s.launched) below → AreStacked h p t (f ∷ below)
    → node_at p f.node ≡ Some node → IsNext h p t s f regs heap statics → GoesOn s f below node regs heap statics u → IsGood h p t u
goes_on h p t s f below node regs heap statics u wf good frame frames stack stands next step =
    let to = wf.nodes.successors f.node node step.next stands step.follows in
    subst (IsGood h p t) (sym step.after) record {
      heap = next.objects;
      strings = strings_on s p heap next.grows good.strings;
      statics = next.statics_held;
      launched = all_map (IsLaunchObject p s.heap) (IsLaunchObject p heap) (launched_on p s.heap heap next.grows) s.launched good.launched;
      distinct = good.distinct;
      frames = (
        record { node = to.node; stands = to.stands; within = to.within ∙ node_within p t s.heap s.launched f node frame stands; reached = frame.reached; regs = next.regs_held },
        all_map (IsFrame p t s.heap s.launched) (IsFrame p t heap s.launched) (frame_on p t s.heap heap next.grows s.launched) below frames,
      );
      stack = stack_on h p t f step.next.0 regs below stack;
      staged = next.staged;
    }

goes_on_top : (h : List ClassInfo) (p : RegProgram) (t : FactSets) (s : RegState) (f : RegFrame) (below : List RegFrame) (node : Node) (regs : ℕ → RegValue) (heap : List RegObject) (statics : ℕ → RegValue) (u : RegState)
    → IsWellFormed h p → AtNode h p t s f below node → IsNext h p t s f regs heap statics → GoesOn s f below node regs heap statics u → IsGood h p t u
goes_on_top h p t s f below node regs heap statics u wf at next step =
    goes_on h p t s f below node regs heap statics u wf at.good at.frames.0 at.frames.1 at.stack at.stands next step

-- registers are written, and nothing else changes
writes_next : (h : List ClassInfo) (p : RegProgram) (t : FactSets) (s : RegState) (f : RegFrame) (ws : List (ℕ × RegValue)) → IsGood h p t s → IsFrame p t s.heap s.launched f
    → AllByRecursion (IsWritten p t s f.method) ws → IsNext h p t s f (written ws f.regs) s.heap s.statics
writes_next h p t s f ws good frame all = record {
  grows = same_heap s.heap;
  objects = good.heap;
  statics_held = good.statics;
  regs_held = written_all (λ (r : ℕ) (v : RegValue). IsReg p t s.heap s.launched f.method r v) ws f.regs all frame.regs;
  staged = good.staged;
}

-- the heap changes at an address
changed_next : (h : List ClassInfo) (p : RegProgram) (t : FactSets) (s : RegState) (f : RegFrame) (a : ℕ) (o : RegObject) (g : Contents → Contents) → IsGood h p t s → IsFrame p t s.heap s.launched f
    → slice_get s.heap a ≡ Some o → (IsContents h p t s.heap o.site o.contents → IsContents h p t s.heap o.site (g o.contents))
    → ((b : Contents) (v : RegValue) → has s.launched a ≡ false → field_value stage_field (g b) ≡ Some v → field_value stage_field b ≡ Some v) → IsNext h p t s f f.regs (changed_at a g s.heap) s.statics
changed_next h p t s f a o g good frame stands put stage =
    let more = changed_at a g s.heap in let ext = changed s.heap a g in
    record {
      grows = ext;
      objects = λ b w e. elim (changed_cases s.heap a g b w e) [
        | inl old ↦ contents_on h p t s.heap more ext w.site w.contents (good.heap b w old)
        | inr new ↦
            let same : o ≡ new.0 = same_found (slice_get s.heap a) o new.0 stands new.1 in
            let here : IsContents h p t s.heap o.site (g o.contents) = put (good.heap a o stands) in
            subst (λ (x : RegObject). IsContents h p t more x.site x.contents) new.3
            (contents_on h p t s.heap more ext new.0.site (g new.0.contents) (subst (λ (x : RegObject). IsContents h p t s.heap x.site (g x.contents)) same here))
      ];
      statics_held = λ k. static_on h t s.heap more ext k (s.statics k) (good.statics k);
      regs_held = λ r. reg_on p t s.heap more ext s.launched f.method r (f.regs r) (frame.regs r);
      staged = λ b w v e is out. elim (changed_cases s.heap a g b w e) [
        | inl old ↦ good.staged b w v old is out
        | inr new ↦
            let here : field_value stage_field (g new.0.contents) ≡ Some v = ap (λ (x : RegObject). field_value stage_field x.contents) new.3 ∙ is in
            let away : has s.launched a ≡ false = ap (has s.launched) (sym new.2) ∙ out in
            good.staged a new.0 v new.1 (stage new.0.contents v away here) away
      ];
    }

-- an object is made
made_next : (h : List ClassInfo) (p : RegProgram) (t : FactSets) (s : RegState) (f : RegFrame) (dst : ℕ) (o : RegObject) → IsGood h p t s → IsFrame p t s.heap s.launched f
    → MayMake h p t s f.method dst o → IsNext h p t s f (written ((dst, Address (length s.heap)) ∷ []) f.regs) (s.heap ++ o ∷ []) s.statics
made_next h p t s f dst o good frame may =
    let more = s.heap ++ o ∷ [] in let ext = grown s.heap o in
    let new : IsReg p t more s.launched f.method dst (Address (length s.heap)) = record {
      held = (may.ref, (o, get_new s.heap o, may.in_set));
      launch = λ e. let k = may.launch e in (record { object = o; stands = get_new s.heap o; class = k.0; launch = k.1 }, next_not_launched p s.heap s.launched good.launched);
      pick = λ e. absurd (may.pick e);
    } in
    record {
      grows = ext;
      objects = λ a w e. elim (grown_cases s.heap o a w e) [
        | inl old ↦ contents_on h p t s.heap more ext w.site w.contents (good.heap a w old)
        | inr same ↦ subst (λ (x : RegObject). IsContents h p t more x.site x.contents) same.0 (contents_on h p t s.heap more ext o.site o.contents may.contents)
      ];
      statics_held = λ k. static_on h t s.heap more ext k (s.statics k) (good.statics k);
      regs_held = written_all (λ (r : ℕ) (v : RegValue). IsReg p t more s.launched f.method r v) ((dst, Address (length s.heap)) ∷ []) f.regs (new, tt)
          (λ r. reg_on p t s.heap more ext s.launched f.method r (f.regs r) (frame.regs r));
      staged = λ a w v e is out. elim (grown_cases s.heap o a w e) [
        | inl old ↦ good.staged a w v old is out
        | inr same ↦ may.stage v (ap (λ (x : RegObject). field_value stage_field x.contents) same.0 ∙ is)
      ];
    }

-- ---- entering

pub first_held : (heap : List RegObject) (set : ℕ → Bool) (ref : Bool) → IsHeld heap set ref (first_value ref)
first_held heap set true = refl
first_held heap set false = (refl, record { low = omega (arith, ints); high = omega (arith, ints) })

-- a frame at the entry of a method
begun : (h : List ClassInfo) (p : RegProgram) (t : FactSets) (s : RegState) (m : ℕ) (method : Method) (arguments : List RegValue) → HasEntry p m → method_at p m ≡ Some method → t.reached m ≡ true
    → AllByRecursion (IsPassed p t s) (zip (map (λ (r : Reg). r.0) method.params) arguments)
    → ((r : ℕ) → launch_register p m ≡ Some r → IsLaunchValue p s.heap s.launched (entry_regs p method arguments r)) → ((r : ℕ) → pick_register p m ≡ Some r → IsPickValue s.launched (entry_regs p method arguments r))
    → IsFrame p t s.heap s.launched (record { method = m; node = method.entry.0; regs = entry_regs p method arguments })
begun h p t s m method arguments entry stands reached held launch pick = record {
  node = entry.node;
  stands = subst (λ (x : Method). node_at p x.entry.0 ≡ Some entry.node) (same_found (method_at p m) entry.method method entry.stands stands) entry.entry;
  within = entry.within;
  reached = reached;
  regs = λ r. record {
    held = written_all (λ (r : ℕ) (v : RegValue). IsHeld s.heap (t.reg r) (is_ref p r) v) (zip (map (λ (r : Reg). r.0) method.params) arguments) (λ r. first_value (is_ref p r)) held
        (λ r. first_held s.heap (t.reg r) (is_ref p r)) r;
    launch = launch r;
    pick = pick r;
  };
}

pub nothing_passed : (P : ℕ × RegValue → Type 0) (ks : List ℕ) → AllByRecursion P (zip ks (let none : List RegValue = [] in none))
nothing_passed P [] = tt
nothing_passed P (k ∷ ks) = tt

nothing_written : (ks : List ℕ) (regs : ℕ → RegValue) (r : ℕ) → written (zip ks (let none : List RegValue = [] in none)) regs r ≡ regs r
nothing_written [] regs r = refl
nothing_written (k ∷ ks) regs r = refl

-- the harness starts a method
pub started : (h : List ClassInfo) (p : RegProgram) (t : FactSets) (s u : RegState) (m : MethodId) → IsWellFormed h p → HoldsRules h p t → IsGood h p t s → Among p.harness m → Begins p s [] m.0 [] u → IsGood h p t u
started h p t s u m wf rules good among step =
    let numbers = map (λ (r : Reg). r.0) step.method.params in
    let null : (r : ℕ) → is_ref p r ≡ true → entry_regs p step.method [] r ≡ NullValue = λ r e. nothing_written numbers (λ q. first_value (is_ref p q)) r ∙ ap first_value e in
    subst (IsGood h p t) (sym step.after) record {
      heap = good.heap;
      strings = good.strings;
      statics = good.statics;
      launched = good.launched;
      distinct = good.distinct;
      frames = (
        begun h p t s m.0 step.method [] (harness_entry h p wf m among) step.stands (rules.harness m among) (nothing_passed (IsPassed p t s) numbers)
            (λ r e. subst (IsLaunchValue p s.heap s.launched) (sym (null r (launch_special h p wf m.0 r e).ref)) tt) (λ r e. subst (IsPickValue s.launched) (sym (null r (pick_special h p wf m.0 r e).ref)) tt),
        tt,
      );
      stack = listed_harness among.0 p.harness m among.1;
      staged = good.staged;
    }

entered : (h : List ClassInfo) (p : RegProgram) (t : FactSets) (s u : RegState) (f : RegFrame) (below : List RegFrame) (node : Node) (m : ℕ) (arguments : List RegValue) → IsWellFormed h p → AtNode h p t s f below node
    → MayEnter h p t s f node m arguments → Begins p s (f ∷ below) m arguments u → IsGood h p t u
entered h p t s u f below node m arguments wf at may step =
    subst (IsGood h p t) (sym step.after) record {
      heap = at.good.heap;
      strings = at.good.strings;
      statics = at.good.statics;
      launched = at.good.launched;
      distinct = at.good.distinct;
      frames = (
        begun h p t s m step.method arguments may.callee.entry step.stands may.reached (may.passed step.method step.stands)
            (λ r e. absurd (not_both (is_harness p m) (launch_special h p wf m r e).harness may.callee.own)) (λ r e. absurd (not_both (is_harness p m) (pick_special h p wf m r e).harness may.callee.own)),
        at.frames,
      );
      stack = (may.callee.own, record { node = node; stands = at.stands; waits = may.waits }, at.stack);
      staged = at.good.staged;
    }

-- ---- leaving

-- the last frame returns: what a launch made is launched
launch_list : (p : RegProgram) (heap : List RegObject) (launched : List ℕ) (v : RegValue) → IsLaunchValue p heap launched v → AllByRecursion (IsLaunchObject p heap) (address_in v)
launch_list p heap launched (IntValue n) is = absurd is
launch_list p heap launched NullValue is = tt
launch_list p heap launched (Address a) is = (is.0, tt)

launch_distinct : (p : RegProgram) (heap : List RegObject) (launched : List ℕ) (v : RegValue) → AreDistinct launched → IsLaunchValue p heap launched v → AreDistinct (launched ++ address_in v)
launch_distinct p heap launched (IntValue n) all is = absurd is
launch_distinct p heap launched NullValue all is = rw (append-nil launched) all
launch_distinct p heap launched (Address a) all is = distinct_last launched a all is.1

launched_of : (p : RegProgram) (s : RegState) (f : RegFrame) (o : Option ℕ) → AreDistinct s.launched → ((r : ℕ) → o ≡ Some r → IsLaunchValue p s.heap s.launched (f.regs r))
    → AllByRecursion (IsLaunchObject p s.heap) (option_map_or (λ r. address_in (f.regs r)) o []) × AreDistinct (s.launched ++ option_map_or (λ r. address_in (f.regs r)) o [])
launched_of p s f None all launch = (tt, rw (append-nil s.launched) all)
launched_of p s f (Some r) all launch = (launch_list p s.heap s.launched (f.regs r) (launch r refl), launch_distinct p s.heap s.launched (f.regs r) all (launch r refl))

pub plain_reg : (p : RegProgram) (t : FactSets) (heap : List RegObject) (launched : List ℕ) (m r : ℕ) (v : RegValue) → IsPlain p m r → IsHeld heap (t.reg r) (is_ref p r) v → IsReg p t heap launched m r v
plain_reg p t heap launched m r v plain held = record { held = held; launch = λ e. absurd (plain.0 e); pick = λ e. absurd (plain.1 e) }

-- the register of a Call may hold what its callee returned
result_held : (h : List ClassInfo) (p : RegProgram) (t : FactSets) (s : RegState) (f g : RegFrame) (node : Node) (dst src : Option Reg) → IsFrame p t s.heap s.launched f
    → node_at p f.node ≡ Some node → node.method.0 ≡ f.method → node.stmt ≡ Return src → FlowsOut p t dst f.method → FitsResult p dst src → IsPlainResult p g.method dst
    → AllByRecursion (IsWritten p t s g.method) (result_writes dst (option_map f.regs (option_map (λ (q : Reg). q.0) src)))
result_held h p t s f g node None src frame stands within is flows same plain = tt
result_held h p t s f g node (Some dst) None frame stands within is flows same plain = tt
result_held h p t s f g node (Some dst) (Some src) frame stands within is flows same plain = (
  plain_reg p t s.heap s.launched g.method dst.0 (f.regs src.0) plain
      (held_more s.heap (t.reg src.0) (t.reg dst.0) (is_ref p src.0) (is_ref p dst.0) (f.regs src.0) (flows f.node node src stands within is) same (frame.regs src.0).held),
  tt,
)

resumed : (h : List ClassInfo) (p : RegProgram) (t : FactSets) (s u : RegState) (f g : RegFrame) (below : List RegFrame) (node outer : Node) (src : Option Reg) (stmt : Stmt) → IsWellFormed h p → HoldsRules h p t → AtNode h p t s f (g ∷ below) node
    → node.stmt ≡ Return src → node_at p g.node ≡ Some outer → outer.stmt ≡ stmt → Waits h p t g.node stmt f.method
    → Resumes s (option_map f.regs (option_map (λ (q : Reg). q.0) src)) g below outer stmt u → IsGood h p t u
resumed h p t s u f g below node outer src (Call dst kind m args) wf rules at is stands same waits step =
    let frame = at.frames.1.0 in
    let inside = node_within p t s.heap s.launched g outer frame stands in
    let within = node_within p t s.heap s.launched f node at.frames.0 at.stands in
    let proper : IsProper h p (Call dst kind m args) = subst (IsProper h p) same (wf.nodes.statements g.node outer stands) in
    let fits : FitsCallee p dst args f.method = proper.targets f.method waits.1 in
    let obeys : Obeys h p t g.node (Call dst kind m args) = subst (Obeys h p t g.node) same (rules.nodes g.node outer stands (subst (λ (k : ℕ). t.reached k ≡ true) (sym inside) frame.reached)) in
    let plain : IsPlainResult p g.method dst = subst (λ (k : ℕ). IsPlainResult p k dst) inside (subst (IsApart p outer.method.0) same (node_apart h p wf g.node outer stands)) in
    let ws = result_writes dst (option_map f.regs (option_map (λ (q : Reg). q.0) src)) in
    let held : AllByRecursion (IsWritten p t s g.method) ws =
    result_held h p t s f g node dst src at.frames.0 at.stands within is (obeys.flows f.method waits.0).result (fits.result f.node node src at.stands within is) plain in
    goes_on h p t s g below outer (written ws g.regs) s.heap s.statics u wf at.good frame at.frames.1.1 at.stack.2 stands
    (writes_next h p t s g ws at.good frame held) step
resumed h p t s u f g below node outer src (Init k) wf rules at is stands same waits step =
    subst (IsGood h p t) (sym step) record {
      heap = at.good.heap;
      strings = at.good.strings;
      statics = at.good.statics;
      launched = at.good.launched;
      distinct = at.good.distinct;
      frames = at.frames.1;
      stack = at.stack.2;
      staged = at.good.staged;
    }
resumed h p t s u f g below node outer src stmt wf rules at is stands same waits step = absurd waits

left : (h : List ClassInfo) (p : RegProgram) (t : FactSets) (s u : RegState) (f : RegFrame) (below : List RegFrame) (node : Node) (src : Option ℕ) → IsWellFormed h p → HoldsRules h p t → AtNode h p t s f below node
    → MayLeave node src → Returns p s f below (option_map f.regs src) u → IsGood h p t u
left h p t s u f [] node src wf rules at may step =
    let all = launched_of p s f (launch_register p f.method) at.good.distinct (λ r e. (at.frames.0.regs r).launch e) in
    subst (IsGood h p t) (sym step) record {
      heap = at.good.heap;
      strings = at.good.strings;
      statics = at.good.statics;
      launched = all_append (IsLaunchObject p s.heap) s.launched (launched_by p f) at.good.launched all.0;
      distinct = all.1;
      frames = tt;
      stack = tt;
      staged = λ a o v e is out. at.good.staged a o v e is (absent_left s.launched (launched_by p f) a out);
    }
left h p t s u f (g ∷ below) node src wf rules at may step =
    let waits = at.stack.1 in
    let outer : waits.node ≡ step.0 = same_found (node_at p g.node) waits.node step.0 waits.stands step.1 in
    let waiting : Waits h p t g.node step.0.stmt f.method = subst (λ (n : Node). Waits h p t g.node n.stmt f.method) outer waits.waits in
    resumed h p t s u f g below node step.0 may.from step.0.stmt wf rules at may.returns step.1 refl waiting
    (subst (λ (o : Option ℕ). Resumes s (option_map f.regs o) g below step.0 step.0.stmt u) may.same step.2)

-- ---- all kinds of change

pub happens : (h : List ClassInfo) (p : RegProgram) (t : FactSets) (s u : RegState) (f : RegFrame) (below : List RegFrame) (node : Node) (c : Change) → IsWellFormed h p → HoldsRules h p t → AtNode h p t s f below node
    → Allowed h p t s f node c → Happens p s f below node c u → IsGood h p t u
happens h p t s u f below node (Sets ws) wf rules at may step =
    goes_on_top h p t s f below node (written ws f.regs) s.heap s.statics u wf at (writes_next h p t s f ws at.good at.frames.0 may) step
happens h p t s u f below node (SetsStatic g v) wf rules at may step =
    goes_on_top h p t s f below node f.regs s.heap (static_written g v s.statics) u wf at record {
      grows = same_heap s.heap;
      objects = at.good.heap;
      statics_held = λ k. changed_number (IsStaticValue h t s.heap) k g v (s.statics k) (record { held = may.held; others = λ out. absurd (not_both (is_static_field h g) may.static out) }) (at.good.statics k);
      regs_held = at.frames.0.regs;
      staged = at.good.staged;
    } step
happens h p t s u f below node (SetsField a g v) wf rules at may step =
    goes_on_top h p t s f below node f.regs (changed_at a (with_field g v) s.heap) s.statics u wf at
    (changed_next h p t s f a may.object (with_field g v) at.good at.frames.0 may.stands
    (λ is. field_put h p t s.heap may.object.site g v may.object.contents is may.class may.site may.slot may.held)
    (λ b w out is. field_stage g v w b (λ same. not_both (has s.launched a) (may.staged same) out) is)) step
happens h p t s u f below node (SetsElement a k v) wf rules at may step =
    goes_on_top h p t s f below node f.regs (changed_at a (with_element k v) s.heap) s.statics u wf at
    (changed_next h p t s f a may.object (with_element k v) at.good at.frames.0 may.stands
    (λ is. element_put h p t s.heap may.object.site k v may.object.contents is may.held) (λ b w out is. element_stage k v w b is)) step
happens h p t s u f below node (Makes dst o) wf rules at may step =
    goes_on_top h p t s f below node (written ((dst, Address (length s.heap)) ∷ []) f.regs) (s.heap ++ o ∷ []) s.statics u wf at
    (made_next h p t s f dst o at.good at.frames.0 may) step
happens h p t s u f below node (Enters m arguments) wf rules at may step = entered h p t s u f below node m arguments wf at may step
happens h p t s u f below node (Leaves src) wf rules at may step = left h p t s u f below node src wf rules at may step

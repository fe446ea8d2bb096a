-- What each statement does is allowed: one clause a statement.
use Rattle.std.proofs.Common.{◌≡◌, ℕ, ℤ, pos, ◌+ℤ◌, neg_ℤ, ◌==◌, ◌<◌, inl, inr, Bool, true, false, List, [], ◌∷◌, length, map, Option, None, Some, slice_get, refl, sym, ap, subst, arith, ◌∙◌, if◌then◌else◌}
use Rattle.std.specs.Prelude.{zip, ◌^◌}
use Rattle.std.specs.List.{AllByRecursion}
use Rattle.std.specs.Option.{option_and_then, option_map_or}
use Rattle.std.proofs.lemmas.Int.{ints}
use Rattle.std.proofs.lemmas.List.{length-replicate}
use Rattle.th_base.specs.declared.class.ClassInfo.{ClassInfo}
use Rattle.th_base.specs.declared.number.Reg.{Reg}
use Rattle.th_base.specs.declared.operation.Elem.{Elem}
use Rattle.th_base.specs.declared.operation.Elem.TheVariants.{Int as IntElem, Ref as RefElem, Byte as ByteElem, Char as CharElem, Short as ShortElem}
use Rattle.th_base.specs.IdSet.{has}
use Rattle.th_wrap.specs.Arithmetic.{sum_of, negation_of}
use Rattle.th_wrap.proofs.Range.{wrapped_in_range}
use Rattle.th_ir.specs.declared.program.RegProgram.{RegProgram}
use Rattle.th_ir.specs.declared.program.Method.{Method}
use Rattle.th_ir.specs.declared.program.Node.{Node}
use Rattle.th_ir.specs.declared.program.Place.{Place}
use Rattle.th_ir.specs.declared.program.Place.TheVariants.{Str as AtString, Launch as AtLaunch, Event as AtEvent, Code as AtCode}
use Rattle.th_ir.specs.declared.program.Site.{Site}
use Rattle.th_ir.specs.declared.stmt.CallKind.{CallKind}
use Rattle.th_ir.specs.declared.stmt.CallKind.TheVariants.{Virtual, Special, Static}
use Rattle.th_ir.specs.declared.stmt.Stmt.{Stmt}
use Rattle.th_ir.specs.declared.stmt.Stmt.TheVariants.{Nop, Const, Null, Str, Copy, Arith, Neg, AddConst, Narrow, AnyInt, Assume, GetStatic, PutStatic, GetField, PutField, GetElem, PutElem, Length, New, NewArray, Cast, InstanceOf, Call, Init, Return, Pick, NonNull, Halt}
use Rattle.th_ir.specs.Program.{is_ref, site_at}
use Rattle.th_ir.specs.Fields.{stage_field, is_ref_field, class_has, has_field}
use Rattle.th_ir.specs.Sites.{site_class, is_ref_array, is_ref_elem, site_is, can_store, launched_at, launch_class}
use Rattle.th_ir.specs.Calls.{site_target}
use Rattle.th_ir.specs.Machine.{RegValue, IntValue, NullValue, Address, Contents, Instance, Array, RegObject, RegFrame, RegState, PointsTo, length_of, first_value}
use Rattle.th_ir.specs.Effects.{IsInt, Change, Sets, sets, goes_on, SetsAnyInt, narrowed, is_instance, is_storable, new_element, arguments_of, CallsOn, Effect}
use Rattle.th_ir.specs.FactSets.{FactSets}
use Rattle.th_ir.specs.Rules.{Copies, ArgumentsFlow, ReceiverFlows, FlowsIn, CallsAll, CallsOnSites, CallFlows, Obeys, HoldsRules}
use Rattle.th_ir.specs.Statements.{FitParameters, FitsCallee, IsProper}
use Rattle.th_ir.specs.WellFormed.{IsPlaced, IsWellFormed}
use Rattle.th_ir.specs.Good.{IsHeld, IsFieldHeld, IsContents, IsLaunchObject, IsPickValue, IsFrame, Waits}
use Rattle.th_ir.proofs.Plain.{some_is, same_found, all_at, all_replicate, has_at}
use Rattle.th_ir.proofs.Heaps.{held_more, held_site, field_held, element_held}
use Rattle.th_ir.proofs.Slots.{has_slot}
use Rattle.th_ir.proofs.Ranges.{arithmetic_in, narrowed_in, small_number}
use Rattle.th_ir.proofs.Apart.{IsPlain, IsApart, node_apart}
use Rattle.th_ir.proofs.Changes.{AtNode, node_within, IsWritten, IsPassed, Allowed, first_held, nothing_passed, plain_reg}

-- ---- registers

set_one : (h : List ClassInfo) (p : RegProgram) (t : FactSets) (s : RegState) (f : RegFrame) (node : Node) (dst : Reg) (v : RegValue) (c : Change) → IsPlain p f.method dst.0
    → IsHeld s.heap (t.reg dst.0) (is_ref p dst.0) v → c ≡ sets dst v → Allowed h p t s f node c
set_one h p t s f node dst v c plain held e = subst (Allowed h p t s f node) (sym e) (plain_reg p t s.heap s.launched f.method dst.0 v plain held, tt)

set_none : (h : List ClassInfo) (p : RegProgram) (t : FactSets) (s : RegState) (f : RegFrame) (node : Node) (c : Change) → c ≡ goes_on → Allowed h p t s f node c
set_none h p t s f node c e = subst (Allowed h p t s f node) (sym e) tt

set_any : (h : List ClassInfo) (p : RegProgram) (t : FactSets) (s : RegState) (f : RegFrame) (node : Node) (dst : Reg) (c : Change) → IsPlain p f.method dst.0 → is_ref p dst.0 ≡ false → SetsAnyInt dst c → Allowed h p t s f node c
set_any h p t s f node dst c plain int e = set_one h p t s f node dst (IntValue e.0) c plain (int, e.1) e.2

copies_held : (p : RegProgram) (t : FactSets) (s : RegState) (f : RegFrame) → IsFrame p t s.heap s.launched f → (pairs : List (Reg × Reg)) → Copies t pairs
    → AllByRecursion (λ (m : Reg × Reg). is_ref p m.0.0 ≡ is_ref p m.1.0) pairs → AllByRecursion (λ (m : Reg × Reg). IsPlain p f.method m.0.0) pairs → AllByRecursion (IsWritten p t s f.method) (map (λ m. (m.0.0, f.regs m.1.0)) pairs)
copies_held p t s f frame [] flows same plain = tt
copies_held p t s f frame (m ∷ pairs) flows same plain = (
  plain_reg p t s.heap s.launched f.method m.0.0 (f.regs m.1.0) plain.0 (held_more s.heap (t.reg m.1.0) (t.reg m.0.0) (is_ref p m.1.0) (is_ref p m.0.0) (f.regs m.1.0) flows.0 same.0 (frame.regs m.1.0).held),
  copies_held p t s f frame pairs flows.1 same.1 plain.1,
)

-- ---- values that are tested

-- a value of a subtype, where the sites of subtypes are in the set
instance_held : (h : List ClassInfo) (p : RegProgram) (heap : List RegObject) (text : List ℕ) (xs ys : ℕ → Bool) (ref : Bool) (v : RegValue) → IsHeld heap xs ref v → is_instance h p heap text v ≡ true
    → ((x : ℕ) → xs x ≡ true → site_is h p text x ≡ true → ys x ≡ true) → IsHeld heap ys ref v
instance_held h p heap text xs ys ref (IntValue n) held is flows = absurd cc
instance_held h p heap text xs ys ref NullValue held is flows = absurd cc
instance_held h p heap text xs ys ref (Address a) held is flows =
    let same : site_is h p text held.1.0.site ≡ true = ap (λ (o : Option RegObject). option_map_or (λ x. site_is h p text x.site) o false) (sym held.1.1) ∙ is in
    (held.0, (held.1.0, held.1.1, flows held.1.0.site held.1.2 same))

null_held : (heap : List RegObject) (set : ℕ → Bool) (ref : Bool) (v : RegValue) → ref ≡ true → v ≡ NullValue → IsHeld heap set ref v
null_held heap set ref v is e = subst (IsHeld heap set ref) (sym e) is

stored_held : (h : List ClassInfo) (p : RegProgram) (heap : List RegObject) (array : ℕ) (xs ys : ℕ → Bool) (ref to : Bool) (v : RegValue) → IsHeld heap xs ref v → to ≡ true → is_storable h p heap array v ≡ true
    → ((x : ℕ) → xs x ≡ true → can_store h p array x ≡ true → ys x ≡ true) → IsHeld heap ys to v
stored_held h p heap array xs ys ref to (IntValue n) held is e flows = absurd cc
stored_held h p heap array xs ys ref to NullValue held is e flows = is
stored_held h p heap array xs ys ref to (Address a) held is e flows =
    let same : can_store h p array held.1.0.site ≡ true = ap (λ (o : Option RegObject). option_map_or (λ x. can_store h p array x.site) o false) (sym held.1.1) ∙ e in
    (is, (held.1.0, held.1.1, flows held.1.0.site held.1.2 same))

bit_held : (heap : List RegObject) (set : ℕ → Bool) (ref b : Bool) → ref ≡ false → IsHeld heap set ref (IntValue (if b then pos 1 else pos 0))
bit_held heap set ref true is = (is, small_number 1 (omega arith))
bit_held heap set ref false is = (is, small_number 0 (omega arith))

-- ---- new objects

pub new_field_held : (h : List ClassInfo) (heap : List RegObject) (set : ℕ → Bool) (c f : ℕ) (b : Bool) → class_has h c f ≡ b → IsFieldHeld h heap set c f (if b then Some (first_value (is_ref_field h f)) else None)
new_field_held h heap set c f true e = (e, first_held heap set (is_ref_field h f))
new_field_held h heap set c f false e = e

-- a stage is 0 at first
pub first_stage : (b : Bool) (v : RegValue) → (if b then Some (first_value false) else None) ≡ Some v → v ≡ IntValue (pos 0)
first_stage true v e = sym (some_is (first_value false) v e)
first_stage false v e = absurd cc

few_elements : (n : ℕ) → IsInt (pos n) → n < 2 ^ 31
few_elements n int = let high = int.high in omega (arith, ints)

array_length : (h : List ClassInfo) (p : RegProgram) (t : FactSets) (heap : List RegObject) (s : ℕ) (b : Contents) (n : ℕ) → IsContents h p t heap s b → length_of b ≡ Some n → n < 2 ^ 31
array_length h p t heap s (Instance fields) n is e = absurd cc
array_length h p t heap s (Array elements) n is e = subst (λ (k : ℕ). k < 2 ^ 31) (some_is (length elements) n e) is.1

-- the class of a launch's site is the one that is launched
site_found : (p : RegProgram) (s k : ℕ) (o : Option Site) → option_and_then (λ (site : Site). launched_at site.place) o ≡ Some k → (site : Site) × (o ≡ Some site) × (launched_at site.place ≡ Some k)
site_found p s k None e = absurd cc
site_found p s k (Some site) e = (site, refl, e)

launch_placed : (h : List ClassInfo) (p : RegProgram) (s k : ℕ) (place : Place) → IsPlaced h p s place → launched_at place ≡ Some k → site_class h p s ≡ Some k
launch_placed h p s k (AtString text) is e = absurd cc
launch_placed h p s k (AtLaunch c) is e = is.1 ∙ e
launch_placed h p s k AtEvent is e = absurd cc
launch_placed h p s k (AtCode m offset) is e = absurd cc

pub launch_site_class : (h : List ClassInfo) (p : RegProgram) → IsWellFormed h p → (s k : ℕ) → launch_class p s ≡ Some k → site_class h p s ≡ Some k
launch_site_class h p wf s k e = let found = site_found p s k (site_at p s) e in launch_placed h p s k found.0.place (wf.sites.placed s found.0 found.1) found.2

-- ---- calls

arguments_held : (p : RegProgram) (t : FactSets) (s : RegState) (regs : ℕ → RegValue) → ((r : ℕ) → IsHeld s.heap (t.reg r) (is_ref p r) (regs r)) → (args params : List Reg) → ArgumentsFlow t args params → FitParameters p args params
    → AllByRecursion (IsPassed p t s) (zip (map (λ (r : Reg). r.0) params) (arguments_of regs args))
arguments_held p t s regs held [] [] flows fit = tt
arguments_held p t s regs held [] (q ∷ params) flows fit = absurd fit
arguments_held p t s regs held (a ∷ args) [] flows fit = absurd fit
arguments_held p t s regs held (a ∷ args) (q ∷ params) flows fit =
    (held_more s.heap (t.reg a.0) (t.reg q.0) (is_ref p a.0) (is_ref p q.0) (regs a.0) flows.0 fit.0 (held a.0), arguments_held p t s regs held args params flows.1 fit.1)

receiver_held : (h : List ClassInfo) (p : RegProgram) (t : FactSets) (s : RegState) (regs : ℕ → RegValue) (kind : CallKind) (m to : ℕ) (receiver : Reg) → ((r : ℕ) → IsHeld s.heap (t.reg r) (is_ref p r) (regs r))
    → (at : PointsTo s.heap (regs receiver.0)) → site_target h p kind m at.object.site ≡ Some to → (args params : List Reg) → slice_get args 0 ≡ Some receiver → ReceiverFlows h p t kind m to args params → FitParameters p args params
    → AllByRecursion (IsPassed p t s) (zip (map (λ (r : Reg). r.0) params) (arguments_of regs args))
receiver_held h p t s regs kind m to receiver held at target [] params first flows fit = absurd cc
receiver_held h p t s regs kind m to receiver held at target (x ∷ args) [] first flows fit = absurd fit
receiver_held h p t s regs kind m to receiver held at target (x ∷ args) (q ∷ params) first flows fit =
    let is : receiver ≡ x = sym (some_is x receiver first) in
    let same : regs x.0 ≡ Address at.address = ap (λ (r : Reg). regs r.0) (sym is) ∙ at.value in
    let in_set : t.reg x.0 at.object.site ≡ true = subst (λ (r : Reg). t.reg r.0 at.object.site ≡ true) is (held_site s.heap (t.reg receiver.0) (is_ref p receiver.0) (regs receiver.0) (held receiver.0) at) in
    let old : IsHeld s.heap (t.reg x.0) (is_ref p x.0) (Address at.address) = subst (IsHeld s.heap (t.reg x.0) (is_ref p x.0)) same (held x.0) in
    let new : IsHeld s.heap (t.reg q.0) (is_ref p q.0) (Address at.address) = (fit.0 ∙ old.0, (at.object, at.stands, flows.0 at.object.site in_set target)) in
    (subst (IsHeld s.heap (t.reg q.0) (is_ref p q.0)) (sym same) new, arguments_held p t s regs held args params flows.1 fit.1)

-- a call with a receiver, of either kind
receiver_call : (h : List ClassInfo) (p : RegProgram) (t : FactSets) (s : RegState) (f : RegFrame) (below : List RegFrame) (node : Node) (dst : Option Reg) (kind : CallKind) (m : ℕ) (args : List Reg) (c : Change) → AtNode h p t s f below node
    → ((to : ℕ) → (x : ℕ) → site_target h p kind m x ≡ Some to → FitsCallee p dst args to) → CallsOnSites h p t f.node kind m args → ((to : ℕ) → t.call f.node to ≡ true → CallFlows h p t dst kind m args to)
    → ((to : ℕ) (method : Method) → FlowsIn h p t kind m to args method.params → ReceiverFlows h p t kind m to args method.params)
    → ((to : ℕ) (x : ℕ) → site_target h p kind m x ≡ Some to → t.call f.node to ≡ true → Waits h p t f.node node.stmt to) → CallsOn h p s f.regs kind m args c → Allowed h p t s f node c
receiver_call h p t s f below node dst kind m args c at fits calls flows receives waits e =
    let held : (r : ℕ) → IsHeld s.heap (t.reg r) (is_ref p r) (f.regs r) = λ r. (at.frames.0.regs r).held in
    let site = e.at.object.site in
    let in_set = held_site s.heap (t.reg e.receiver.0) (is_ref p e.receiver.0) (f.regs e.receiver.0) (held e.receiver.0) e.at in
    let call = calls e.receiver site e.to e.first in_set e.target in
    let fit = fits e.to site e.target in
    let flow = flows e.to call in
    subst (Allowed h p t s f node) (sym e.change) record {
      callee = fit.callee;
      reached = flow.reached;
      waits = waits e.to site e.target call;
      passed = λ method stands.
          receiver_held h p t s f.regs kind m e.to e.receiver held e.at e.target args method.params e.first (receives e.to method (flow.arguments method stands)) (fit.arguments method stands);
    }

-- ---- one clause a statement

by_statement : (h : List ClassInfo) (p : RegProgram) (t : FactSets) (s : RegState) (f : RegFrame) (below : List RegFrame) (node : Node) (stmt : Stmt) (c : Change) → IsWellFormed h p → AtNode h p t s f below node → node.stmt ≡ stmt
    → IsProper h p stmt → Obeys h p t f.node stmt → IsApart p f.method stmt → Effect h p s f.regs stmt c → Allowed h p t s f node c
by_statement h p t s f below node Nop c wf at is proper obeys apart e = set_none h p t s f node c e
by_statement h p t s f below node (Const dst n) c wf at is proper obeys apart e = set_one h p t s f node dst (IntValue n) c apart proper e
by_statement h p t s f below node (Null dst) c wf at is proper obeys apart e = set_one h p t s f node dst NullValue c apart proper e
by_statement h p t s f below node (Str dst site) c wf at is proper obeys apart e =
    let o = at.good.strings site.0 proper.1 in
    set_one h p t s f node dst (Address site.0) c apart (proper.0, (o.0, o.1, subst (λ (x : ℕ). t.reg dst.0 x ≡ true) (sym o.2) obeys)) e
by_statement h p t s f below node (Copy pairs) c wf at is proper obeys apart e =
    subst (Allowed h p t s f node) (sym e) (copies_held p t s f at.frames.0 pairs obeys proper.0 apart)
by_statement h p t s f below node (Arith dst op a b) c wf at is proper obeys apart e =
    let int : IsHeld s.heap (t.reg a.0) (is_ref p a.0) (IntValue e.0) = subst (IsHeld s.heap (t.reg a.0) (is_ref p a.0)) e.3 (at.frames.0.regs a.0).held in
    set_one h p t s f node dst (IntValue e.2) c apart (proper.0, arithmetic_in op e.0 e.1 e.2 int.1 e.5) e.6
by_statement h p t s f below node (Neg dst a) c wf at is proper obeys apart e =
    set_one h p t s f node dst (IntValue (negation_of 32 e.0)) c apart (proper.0, wrapped_in_range 32 (neg_ℤ e.0) (omega arith)) e.2
by_statement h p t s f below node (AddConst dst a k) c wf at is proper obeys apart e =
    set_one h p t s f node dst (IntValue (sum_of 32 e.0 k)) c apart (proper.0, wrapped_in_range 32 (e.0 +ℤ k) (omega arith)) e.2
by_statement h p t s f below node (Narrow dst op a) c wf at is proper obeys apart e = set_one h p t s f node dst (IntValue (narrowed op e.0)) c apart (proper.0, narrowed_in op e.0) e.2
by_statement h p t s f below node (AnyInt dst) c wf at is proper obeys apart e = set_any h p t s f node dst c apart proper e
by_statement h p t s f below node (Assume condition) c wf at is proper obeys apart e = set_none h p t s f node c e.1
by_statement h p t s f below node (GetStatic dst g) c wf at is proper obeys apart e =
    set_one h p t s f node dst (s.statics g.0) c apart (held_more s.heap (t.static g.0) (t.reg dst.0) (is_ref_field h g.0) (is_ref p dst.0) (s.statics g.0) obeys proper.0 (at.good.statics g.0).held) e
by_statement h p t s f below node (PutStatic g src) c wf at is proper obeys apart e =
    subst (Allowed h p t s f node) (sym e) record {
      static = proper.1;
      held = held_more s.heap (t.reg src.0) (t.static g.0) (is_ref p src.0) (is_ref_field h g.0) (f.regs src.0) obeys (sym proper.0) (at.frames.0.regs src.0).held;
    }
by_statement h p t s f below node (GetField dst base g) c wf at is proper obeys apart e =
    let o = e.0.object in
    let from = field_held h p t s.heap o.site g.0 o.contents e.1 (at.good.heap e.0.address o e.0.stands) e.2 in
    let site = held_site s.heap (t.reg base.0) (is_ref p base.0) (f.regs base.0) (at.frames.0.regs base.0).held e.0 in
    set_one h p t s f node dst e.1 c apart
    (held_more s.heap (t.cell o.site g.0) (t.reg dst.0) (is_ref_field h g.0) (is_ref p dst.0) e.1 (obeys o.site site (has_slot h p o.site g.0 wf.numbers from.0)) proper.0 from.1) e.3
by_statement h p t s f below node (PutField base g src) c wf at is proper obeys apart e =
    let o = e.0.object in
    let from = field_held h p t s.heap o.site g.0 o.contents e.1 (at.good.heap e.0.address o e.0.stands) e.2 in
    let site = held_site s.heap (t.reg base.0) (is_ref p base.0) (f.regs base.0) (at.frames.0.regs base.0).held e.0 in
    subst (Allowed h p t s f node) (sym e.3) record {
      object = o;
      stands = e.0.stands;
      class = from.0.0;
      site = from.0.1;
      slot = from.0.2;
      held = held_more s.heap (t.reg src.0) (t.cell o.site g.0) (is_ref p src.0) (is_ref_field h g.0) (f.regs src.0) (obeys o.site site (has_slot h p o.site g.0 wf.numbers from.0)) (sym proper.0) (at.frames.0.regs src.0).held;
      staged = λ stage. subst (IsPickValue s.launched) e.0.value ((at.frames.0.regs base.0).pick (apart stage));
    }
by_statement h p t s f below node (GetElem dst array RefElem) c wf at is proper obeys apart e =
    let o = e.0.at.object in
    let refs : is_ref_array p o.site ≡ true = ap is_ref_elem e.0.kind_is in
    let site = held_site s.heap (t.reg array.0) (is_ref p array.0) (f.regs array.0) (at.frames.0.regs array.0).held e.0.at in
    let held = element_held h p t s.heap o.site e.0.place o.contents e.0.value (at.good.heap e.0.at.address o e.0.at.stands) e.0.stands in
    set_one h p t s f node dst e.0.value c apart
    (held_more s.heap (t.elem o.site) (t.reg dst.0) (is_ref_array p o.site) (is_ref p dst.0) e.0.value (obeys o.site site refs) (proper.0 ∙ sym refs) held) e.1
by_statement h p t s f below node (GetElem dst array IntElem) c wf at is proper obeys apart e = set_any h p t s f node dst c apart proper.0 e.1
by_statement h p t s f below node (GetElem dst array ByteElem) c wf at is proper obeys apart e = set_any h p t s f node dst c apart proper.0 e.1
by_statement h p t s f below node (GetElem dst array CharElem) c wf at is proper obeys apart e = set_any h p t s f node dst c apart proper.0 e.1
by_statement h p t s f below node (GetElem dst array ShortElem) c wf at is proper obeys apart e = set_any h p t s f node dst c apart proper.0 e.1
by_statement h p t s f below node (PutElem array src) c wf at is proper obeys apart e =
    let o = e.0.at.object in
    let refs : is_ref_array p o.site ≡ true = ap is_ref_elem e.0.kind_is in
    let site = held_site s.heap (t.reg array.0) (is_ref p array.0) (f.regs array.0) (at.frames.0.regs array.0).held e.0.at in
    subst (Allowed h p t s f node) (sym e.2) record {
      object = o;
      stands = e.0.at.stands;
      held = stored_held h p s.heap o.site (t.reg src.0) (t.elem o.site) (is_ref p src.0) (is_ref_array p o.site) (f.regs src.0) (at.frames.0.regs src.0).held refs e.1 (λ x in_src can. obeys o.site x site refs in_src can);
    }
by_statement h p t s f below node (Length dst array) c wf at is proper obeys apart e =
    let o = e.0.object in
    set_one h p t s f node dst (IntValue (pos e.1)) c apart (proper.0, small_number e.1 (array_length h p t s.heap o.site o.contents e.1 (at.good.heap e.0.address o e.0.stands) e.2)) e.3
by_statement h p t s f below node (New dst site) c wf at is proper obeys apart e =
    subst (Allowed h p t s f node) (sym e.2) record {
      ref = proper.0;
      in_set = obeys;
      contents = (e.0, e.1, λ g. new_field_held h s.heap (t.cell site.0 g) e.0 g (class_has h e.0 g) refl);
      launch = apart.0;
      pick = apart.1;
      stage = λ v is. first_stage (class_has h e.0 stage_field) v is;
    }
by_statement h p t s f below node (NewArray dst site count) c wf at is proper obeys apart e =
    let int : IsHeld s.heap (t.reg count.0) (is_ref p count.0) (IntValue (pos e.0)) = subst (IsHeld s.heap (t.reg count.0) (is_ref p count.0)) e.1 (at.frames.0.regs count.0).held in
    subst (Allowed h p t s f node) (sym e.2) record {
      ref = proper.0;
      in_set = obeys;
      contents = (
        proper.1,
        subst (λ (n : ℕ). n < 2 ^ 31) (sym (length-replicate e.0 (new_element p site.0))) (few_elements e.0 int.1),
        all_replicate (IsHeld s.heap (t.elem site.0) (is_ref_array p site.0)) e.0 (new_element p site.0) (first_held s.heap (t.elem site.0) (is_ref_array p site.0)),
      );
      launch = λ here. absurd (apart.0 here);
      pick = apart.1;
      stage = λ v is. absurd cc;
    }
by_statement h p t s f below node (Cast dst src text) c wf at is proper obeys apart e =
    set_one h p t s f node dst (f.regs src.0) c apart
    (elim e.0 [
      | inl null ↦ null_held s.heap (t.reg dst.0) (is_ref p dst.0) (f.regs src.0) proper.0 null
      | inr of ↦ subst (λ (b : Bool). IsHeld s.heap (t.reg dst.0) b (f.regs src.0)) (proper.1 ∙ sym proper.0) (instance_held h p s.heap text (t.reg src.0) (t.reg dst.0) (is_ref p src.0) (f.regs src.0) (at.frames.0.regs src.0).held of obeys)
    ]) e.1
by_statement h p t s f below node (InstanceOf dst src text) c wf at is proper obeys apart e =
    let b = is_instance h p s.heap text (f.regs src.0) in
    set_one h p t s f node dst (IntValue (if b then pos 1 else pos 0)) c apart (bit_held s.heap (t.reg dst.0) (is_ref p dst.0) b proper.0) e
by_statement h p t s f below node (Call dst Virtual m args) c wf at is proper obeys apart e =
    receiver_call h p t s f below node dst Virtual m.0 args c at (λ to x target. proper.targets to (x, target)) obeys.targets obeys.flows (λ to method flows. flows)
    (λ to x target call. subst (λ (w : Stmt). Waits h p t f.node w to) (sym is) (call, (x, target))) e
by_statement h p t s f below node (Call dst (Special k) m args) c wf at is proper obeys apart e =
    receiver_call h p t s f below node dst (Special k) m.0 args c at (λ to x target. proper.targets to (x, target)) obeys.targets obeys.flows (λ to method flows. flows)
    (λ to x target call. subst (λ (w : Stmt). Waits h p t f.node w to) (sym is) (call, (x, target))) e
by_statement h p t s f below node (Call dst Static m args) c wf at is proper obeys apart e =
    let call = obeys.targets e.0 e.1 in let fit = proper.targets e.0 e.1 in let flow = obeys.flows e.0 call in
    subst (Allowed h p t s f node) (sym e.2) record {
      callee = fit.callee;
      reached = flow.reached;
      waits = subst (λ (w : Stmt). Waits h p t f.node w e.0) (sym is) (call, e.1);
      passed = λ method stands. arguments_held p t s f.regs (λ r. (at.frames.0.regs r).held) args method.params (flow.arguments method stands) (fit.arguments method stands);
    }
by_statement h p t s f below node (Init k) c wf at is proper obeys apart e =
    elim e [
      | inl passes ↦ set_none h p t s f node c passes
      | inr calls ↦ subst (Allowed h p t s f node) (sym calls.2) record {
        callee = proper.1 calls.0 calls.1;
        reached = obeys calls.0 calls.1;
        waits = subst (λ (w : Stmt). Waits h p t f.node w calls.0) (sym is) calls.1;
        passed = λ method stands. nothing_passed (IsPassed p t s) (map (λ (r : Reg). r.0) method.params);
      }
    ]
by_statement h p t s f below node (Return src) c wf at is proper obeys apart e = subst (Allowed h p t s f node) (sym e) record { from = src; returns = is; same = refl }
by_statement h p t s f below node (Pick dst k) c wf at is proper obeys apart e =
    let o = e.1 in
    let l : IsLaunchObject p s.heap e.0 = all_at (IsLaunchObject p s.heap) s.launched e.2.0 e.0 at.good.launched e.2.1 in
    let same : l.object ≡ o = same_found (slice_get s.heap e.0) l.object o l.stands e.3 in
    let made : launch_class p o.site ≡ Some l.class = ap (λ (x : RegObject). launch_class p x.site) (sym same) ∙ l.launch in
    let class : l.class ≡ k.0 = same_found (site_class h p o.site) l.class k.0 (launch_site_class h p wf o.site l.class made) e.4 in
    subst (Allowed h p t s f node) (sym e.5) (
      record {
        held = (proper.0, (o, e.3, obeys o.site (made ∙ ap (λ (x : ℕ). let some : Option ℕ = Some x in some) class)));
        launch = λ here. absurd (apart here);
        pick = λ here. has_at s.launched e.2.0 e.0 e.2.1;
      },
      tt,
    )
by_statement h p t s f below node (NonNull src) c wf at is proper obeys apart e = set_none h p t s f node c e.2
by_statement h p t s f below node Halt c wf at is proper obeys apart e = absurd e

-- in a well-formed program with facts that hold the rules
pub allowed : (h : List ClassInfo) (p : RegProgram) (t : FactSets) (s : RegState) (f : RegFrame) (below : List RegFrame) (node : Node) (c : Change) → IsWellFormed h p → HoldsRules h p t → AtNode h p t s f below node → Effect h p s f.regs node.stmt c
    → Allowed h p t s f node c
allowed h p t s f below node c wf rules at e =
    let inside = node_within p t s.heap s.launched f node at.frames.0 at.stands in
    by_statement h p t s f below node node.stmt c wf at refl (wf.nodes.statements f.node node at.stands)
    (rules.nodes f.node node at.stands (subst (λ (k : ℕ). t.reached k ≡ true) (sym inside) at.frames.0.reached))
    (subst (λ (k : ℕ). IsApart p k node.stmt) inside (node_apart h p wf f.node node at.stands)) e

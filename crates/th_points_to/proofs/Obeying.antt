-- What nodes ask place by place is what the rules say.
use Rattle.std.proofs.Common.{◌≡◌, ℕ, ◌<◌, Bool, true, false, List, [], ◌∷◌, length, drop, Option, Some, None, slice_get, refl, sym, subst, arith, if◌then◌else◌}
use Rattle.std.specs.Prelude.{nat_le, zip, map, option_to_list}
use Rattle.std.specs.List.{AllByRecursion}
use Rattle.std.specs.Option.{option_map_or, option_and_then}
use Rattle.std.proofs.lemmas.Option.{slice_get_within}
use Rattle.th_base.specs.declared.built_in.TheConstants.{BUILT_IN_COUNT}
use Rattle.th_base.specs.declared.class.ClassInfo.{ClassInfo}
use Rattle.th_base.specs.declared.number.Reg.{Reg}
use Rattle.th_base.specs.declared.number.SiteId.{SiteId}
use Rattle.th_base.specs.declared.operation.Elem.{Elem}
use Rattle.th_base.specs.declared.operation.Elem.TheVariants.{Int as IntElem, Ref as RefElem, Byte as ByteElem, Char as CharElem, Short as ShortElem}
use Rattle.th_base.specs.Launchable.{is_launchable, is_activity, can_be_made}
use Rattle.th_ir.specs.declared.program.RegProgram.{RegProgram}
use Rattle.th_ir.specs.declared.program.Method.{Method}
use Rattle.th_ir.specs.declared.program.Node.{Node}
use Rattle.th_ir.specs.declared.program.Site.{Site}
use Rattle.th_ir.specs.declared.stmt.CallKind.{CallKind}
use Rattle.th_ir.specs.declared.stmt.CallKind.TheVariants.{Virtual, Special, Static as StaticCall}
use Rattle.th_ir.specs.declared.stmt.Stmt.{Stmt}
use Rattle.th_ir.specs.declared.stmt.Stmt.TheVariants.{Str, Copy, GetStatic, PutStatic, GetField, PutField, GetElem, PutElem, New, NewArray, Cast, Call, Init, Pick}
use Rattle.th_ir.specs.Program.{method_at, node_at, site_at, registers_set, registers_read}
use Rattle.th_ir.specs.Fields.{field_at, field_count, is_static_field}
use Rattle.th_ir.specs.Sites.{is_array_text, component_kind, is_array_site, is_ref_array, is_ref_elem, is_string_site, site_class, launch_class}
use Rattle.th_ir.specs.Calls.{site_target}
use Rattle.th_ir.specs.FactSets.{FactSets}
use Rattle.th_ir.specs.Rules.{Obeys, Copies, ArgumentsFlow, ReceiverFlows, FlowsIn, FlowsOut, CallFlows, CallsAll, CallsTargets}
use Rattle.th_ir.specs.Statements.{IsProper}
use Rattle.th_ir.proofs.Plain.{some_is, and_parts, all_map}
use Rattle.th_points_to.specs.declared.place.Layout.{Layout}
use Rattle.th_points_to.specs.declared.place.Place.TheVariants.{Register, Elements}
use Rattle.th_points_to.specs.Places.{Includes, AreInRange}
use Rattle.th_points_to.specs.Asked.{passed, FlowAll, ResultGoes, CallGoes, Goes, CallAsks, Asks, receiver_of, base_of, CallsOn, AsksOn}

-- ---- from the rules

flow_all : (l : Layout) (u : FactSets) (args params : List Reg) → ArgumentsFlow u args params → FlowAll l u (zip args params)
flow_all l u [] params is = tt
flow_all l u (a ∷ args) [] is = tt
flow_all l u (a ∷ args) (q ∷ params) is = (λ there to. is.0, flow_all l u args params is.1)

zip_none : (xs : List Reg) → (let none : List Reg = [] in zip xs none) ≡ []
zip_none [] = refl
zip_none (x ∷ xs) = refl

flow_rest : (h : List ClassInfo) (l : Layout) (p : RegProgram) (u : FactSets) (kind : CallKind) (m to : ℕ) (args params : List Reg) → ReceiverFlows h p u kind m to args params
    → FlowAll l u (zip (drop 1 args) (drop 1 params))
flow_rest h l p u kind m to [] params is = tt
flow_rest h l p u kind m to (a ∷ args) [] is = subst (λ ps. FlowAll l u ps) (sym (zip_none args)) tt
flow_rest h l p u kind m to (a ∷ args) (q ∷ params) is = flow_all l u args params is.1

flows_passed : (h : List ClassInfo) (l : Layout) (p : RegProgram) (u : FactSets) (kind : CallKind) (m to : ℕ) (args params : List Reg) → FlowsIn h p u kind m to args params
    → FlowAll l u (zip (passed kind args) (passed kind params))
flows_passed h l p u Virtual m to args params is = flow_rest h l p u Virtual m to args params is
flows_passed h l p u (Special k) m to args params is = flow_rest h l p u (Special k) m to args params is
flows_passed h l p u StaticCall m to args params is = flow_all l u args params is

result_goes : (l : Layout) (p : RegProgram) (u : FactSets) (dst : Option Reg) (to : ℕ) → FlowsOut p u dst to → ResultGoes l p u dst to
result_goes l p u None to is = tt
result_goes l p u (Some dst) to is = λ inside n node src at within returns there place. is n node src at within returns

call_goes : (h : List ClassInfo) (l : Layout) (p : RegProgram) (u : FactSets) (dst : Option Reg) (kind : CallKind) (m : ℕ) (args : List Reg) (to : ℕ) → CallFlows h p u dst kind m args to
    → CallGoes l p u dst kind args to
call_goes h l p u dst kind m args to is = record {
  reached = is.reached;
  arguments = λ method at. flows_passed h l p u kind m to args method.params (is.arguments method at);
  result = result_goes l p u dst to is.result;
}

pub goes_of : (stmt : Stmt) (h : List ClassInfo) (l : Layout) (p : RegProgram) (u : FactSets) (n : ℕ) → Obeys h p u n stmt → (to : ℕ) → u.call n to ≡ true → Goes l p u stmt to
goes_of (Call dst kind m args) h l p u n is to one = call_goes h l p u dst kind m.0 args to (is.flows to one)
goes_of _ h l p u n is to one = tt

call_asks : (kind : CallKind) (h : List ClassInfo) (l : Layout) (p : RegProgram) (u : FactSets) (n m : ℕ) (dst : Option Reg) (args : List Reg) → CallsAll h p u n dst kind m args
    → (stmt : Stmt) → ((to : ℕ) → u.call n to ≡ true → Goes l p u stmt to) → CallAsks h l p u n kind m stmt
call_asks Virtual h l p u n m dst args is stmt goes = tt
call_asks (Special k) h l p u n m dst args is stmt goes = tt
call_asks StaticCall h l p u n m dst args is stmt goes = λ to e. (let one = is.targets to e in record { call = one; goes = goes to one })

pub asks_of : (stmt : Stmt) (h : List ClassInfo) (l : Layout) (p : RegProgram) (u : FactSets) (n : ℕ) → Obeys h p u n stmt → Asks h l p u n stmt
asks_of (Str dst site) h l p u n is = λ there place. is
asks_of (Copy pairs) h l p u n is = all_map _ (λ m. Includes l u (Register m.1) (Register m.0)) (λ m one there to. one) pairs is
asks_of (GetStatic dst f) h l p u n is = λ there to. is
asks_of (PutStatic f src) h l p u n is = λ there to. is
asks_of (New dst site) h l p u n is = λ there place. is
asks_of (NewArray dst site count) h l p u n is = λ there place. is
asks_of (Call dst kind m args) h l p u n is = call_asks kind h l p u n m.0 dst args is (Call dst kind m args) (goes_of (Call dst kind m args) h l p u n is)
asks_of (Init k) h l p u n is = λ inside. is
asks_of (Pick dst k) h l p u n is = λ inside s e there place. is s e
asks_of _ h l p u n is = tt

receiver_flows : (h : List ClassInfo) (p : RegProgram) (u : FactSets) (kind : CallKind) (m to s : ℕ) (r q : Reg) (args params : List Reg) → ReceiverFlows h p u kind m to args params
    → slice_get args 0 ≡ Some r → slice_get params 0 ≡ Some q → u.reg r.0 s ≡ true → site_target h p kind m s ≡ Some to → u.reg q.0 s ≡ true
receiver_flows h p u kind m to s r q [] params is one other there e = absurd cc
receiver_flows h p u kind m to s r q (a ∷ args) [] is one other there e = absurd cc
receiver_flows h p u kind m to s r q (a ∷ args) (b ∷ params) is one other there e =
    subst (λ (x : Reg). u.reg x.0 s ≡ true) (some_is b q other) (is.0 s (subst (λ (x : Reg). u.reg x.0 s ≡ true) (sym (some_is a r one)) there) e)

calls_on : (kind : CallKind) (h : List ClassInfo) (l : Layout) (p : RegProgram) (u : FactSets) (n m : ℕ) (dst : Option Reg) (args : List Reg) (r : Reg) (a : ℕ) → CallsAll h p u n dst kind m args
    → (stmt : Stmt) → ((to : ℕ) → u.call n to ≡ true → Goes l p u stmt to) → receiver_of kind args ≡ Some r → u.reg r.0 a ≡ true
    → (to : ℕ) → site_target h p kind m a ≡ Some to → CallsOn l p u n stmt to a
calls_on Virtual h l p u n m dst args r a is stmt goes first there to e =
    let one = is.targets r a to first there e in
    record {
      calls = record { call = one; goes = goes to one };
      receiver = λ method q at param inside place. receiver_flows h p u Virtual m to a r q args method.params ((is.flows to one).arguments method at) first param there e;
    }
calls_on (Special k) h l p u n m dst args r a is stmt goes first there to e =
    let one = is.targets r a to first there e in
    record {
      calls = record { call = one; goes = goes to one };
      receiver = λ method q at param inside place. receiver_flows h p u (Special k) m to a r q args method.params ((is.flows to one).arguments method at) first param there e;
    }
calls_on StaticCall h l p u n m dst args r a is stmt goes first there to e = absurd cc

elem_asks : (kind : Elem) (h : List ClassInfo) (l : Layout) (p : RegProgram) (u : FactSets) (n : ℕ) (dst array r : Reg) (a : SiteId) → Obeys h p u n (GetElem dst array kind)
    → base_of (GetElem dst array kind) ≡ Some r → u.reg r.0 a.0 ≡ true → is_ref_array p a.0 ≡ true → Includes l u (Elements a) (Register dst)
elem_asks RefElem h l p u n dst array r a is base one is_array = λ there to. is a.0 (subst (λ (x : Reg). u.reg x.0 a.0 ≡ true) (sym (some_is array r base)) one) is_array
elem_asks IntElem h l p u n dst array r a is base one is_array = absurd cc
elem_asks ByteElem h l p u n dst array r a is base one is_array = absurd cc
elem_asks CharElem h l p u n dst array r a is base one is_array = absurd cc
elem_asks ShortElem h l p u n dst array r a is base one is_array = absurd cc

pub asks_on_of : (stmt : Stmt) (h : List ClassInfo) (l : Layout) (p : RegProgram) (u : FactSets) (n : ℕ) (r : Reg) (a : SiteId) → Obeys h p u n stmt → base_of stmt ≡ Some r → u.reg r.0 a.0 ≡ true
    → AsksOn h l p u n stmt a
asks_on_of (GetField dst base f) h l p u n r a is e one = λ had there to. is a.0 (subst (λ (x : Reg). u.reg x.0 a.0 ≡ true) (sym (some_is base r e)) one) had
asks_on_of (PutField base f src) h l p u n r a is e one = λ had there to. is a.0 (subst (λ (x : Reg). u.reg x.0 a.0 ≡ true) (sym (some_is base r e)) one) had
asks_on_of (GetElem dst array kind) h l p u n r a is e one = λ is_array. elem_asks kind h l p u n dst array r a is e one is_array
asks_on_of (PutElem array src) h l p u n r a is e one =
    λ is_array there to x in_src pass. is a.0 x (subst (λ (y : Reg). u.reg y.0 a.0 ≡ true) (sym (some_is array r e)) one) is_array in_src pass
asks_on_of (Cast dst src text) h l p u n r a is e one = λ sub there place. is a.0 (subst (λ (x : Reg). u.reg x.0 a.0 ≡ true) (sym (some_is src r e)) one) sub
asks_on_of (Call dst kind m args) h l p u n r a is e one =
    calls_on kind h l p u n m.0 dst args r a.0 is (Call dst kind m args) (goes_of (Call dst kind m args) h l p u n is) e one
asks_on_of _ h l p u n r a is e one = tt

-- ---- to the rules

abbrev pub AreRegisters : Layout → List Reg → Type 0
AreRegisters l rs = AllByRecursion (λ r. r.0 < l.registers) rs

-- each register that the program names is there
pub record HasRegisters (l : Layout) (p : RegProgram) : Type 0 where
  pub set : (n : ℕ) (node : Node) → node_at p n ≡ Some node → AreRegisters l (registers_set node.stmt)
  pub read : (n : ℕ) (node : Node) → node_at p n ≡ Some node → AreRegisters l (registers_read node.stmt)
  pub params : (m : ℕ) (method : Method) → method_at p m ≡ Some method → AreRegisters l method.params

-- each node is of a method
abbrev pub HaveMethods : RegProgram → Type 0
HaveMethods p = (n : ℕ) (node : Node) → node_at p n ≡ Some node → node.method.0 < length p.methods

flow_back : (l : Layout) (t : FactSets) (args params : List Reg) → AreRegisters l args → AreRegisters l params → FlowAll l t (zip args params) → ArgumentsFlow t args params
flow_back l t [] params a b is = tt
flow_back l t (x ∷ args) [] a b is = tt
flow_back l t (x ∷ args) (q ∷ params) a b is = (is.0 a.0 b.0, flow_back l t args params a.1 b.1 is.1)

copies_back : (l : Layout) (t : FactSets) (pairs : List (Reg × Reg)) → AreRegisters l (map (λ m. m.0) pairs) → AreRegisters l (map (λ m. m.1) pairs)
    → AllByRecursion (λ m. Includes l t (Register m.1) (Register m.0)) pairs → Copies t pairs
copies_back l t [] a b is = tt
copies_back l t (m ∷ pairs) a b is = (is.0 b.0 a.0, copies_back l t pairs a.1 b.1 is.1)

receiver_back : (h : List ClassInfo) (l : Layout) (p : RegProgram) (t : FactSets) (kind : CallKind) (m to : ℕ) (args params : List Reg) → AreInRange l t → AreRegisters l args → AreRegisters l params
    → ((r q : Reg) (s : ℕ) → slice_get args 0 ≡ Some r → slice_get params 0 ≡ Some q → t.reg r.0 s ≡ true → site_target h p kind m s ≡ Some to → q.0 < l.registers → t.reg q.0 s ≡ true)
    → FlowAll l t (zip (drop 1 args) (drop 1 params)) → ReceiverFlows h p t kind m to args params
receiver_back h l p t kind m to [] params range a b first is = tt
receiver_back h l p t kind m to (x ∷ args) [] range a b first is = tt
receiver_back h l p t kind m to (x ∷ args) (q ∷ params) range a b first is = (λ s there e. first x q s refl refl there e b.0, flow_back l t args params a.1 b.1 is)

result_back : (l : Layout) (p : RegProgram) (t : FactSets) (dst : Option Reg) (to : ℕ) → HasRegisters l p → HaveMethods p → AreRegisters l (option_to_list dst) → ResultGoes l p t dst to → FlowsOut p t dst to
result_back l p t None to regs have a is = tt
result_back l p t (Some dst) to regs have a is = λ n node src at within returns.
    (let read : AreRegisters l (src ∷ []) = subst (λ (st : Stmt). AreRegisters l (registers_read st)) returns (regs.read n node at) in
    is (subst (λ (m : ℕ). m < length p.methods) within (have n node at)) n node src at within returns read.0 a.0)

-- what is asked of each site of the base, of a call
abbrev OnEach : List ClassInfo → Layout → RegProgram → FactSets → ℕ → CallKind → ℕ → List Reg → Stmt → Type 0
OnEach h l p t n kind m args stmt = (r : Reg) (a : ℕ) → receiver_of kind args ≡ Some r → t.reg r.0 a ≡ true → (to : ℕ) → site_target h p kind m a ≡ Some to → CallsOn l p t n stmt to a

targets_back : (kind : CallKind) (h : List ClassInfo) (l : Layout) (p : RegProgram) (t : FactSets) (n m : ℕ) (args : List Reg) (stmt : Stmt) → CallAsks h l p t n kind m stmt
    → OnEach h l p t n kind m args stmt → CallsTargets h p t n kind m args
targets_back Virtual h l p t n m args stmt asks on = λ r s to first there e. (on r s first there to e).calls.call
targets_back (Special k) h l p t n m args stmt asks on = λ r s to first there e. (on r s first there to e).calls.call
targets_back StaticCall h l p t n m args stmt asks on = λ to e. (asks to e).call

flows_back : (kind : CallKind) (h : List ClassInfo) (l : Layout) (p : RegProgram) (t : FactSets) (n m to : ℕ) (args : List Reg) (method : Method) (stmt : Stmt) → AreInRange l t
    → AreRegisters l args → AreRegisters l method.params → method_at p to ≡ Some method → OnEach h l p t n kind m args stmt → FlowAll l t (zip (passed kind args) (passed kind method.params))
    → FlowsIn h p t kind m to args method.params
flows_back Virtual h l p t n m to args method stmt range a b at on is =
    receiver_back h l p t Virtual m to args method.params range a b
    (λ r q s first param there e inside. (on r s first there to e).receiver method q at param (range (Register r) s there) inside) is
flows_back (Special k) h l p t n m to args method stmt range a b at on is =
    receiver_back h l p t (Special k) m to args method.params range a b
    (λ r q s first param there e inside. (on r s first there to e).receiver method q at param (range (Register r) s there) inside) is
flows_back StaticCall h l p t n m to args method stmt range a b at on is = flow_back l t args method.params a b is

-- the layout is the program's
pub record IsLayout (h : List ClassInfo) (p : RegProgram) (l : Layout) : Type 0 where
  pub fields : l.fields ≡ field_count h
  pub sites : l.sites ≡ length p.sites

pub found_by : {A : Type 0} (f : A → Bool) (o : Option A) → option_map_or f o false ≡ true → (x : A) × (o ≡ Some x)
found_by f None e = absurd cc
found_by f (Some x) e = (x, refl)

pub found_then : {A B : Type 0} (f : A → Option B) (o : Option A) (y : B) → option_and_then f o ≡ Some y → (x : A) × (o ≡ Some x)
found_then f None y e = absurd cc
found_then f (Some x) y e = (x, refl)

site_inside : (h : List ClassInfo) (p : RegProgram) (l : Layout) (s : ℕ) (site : Site) → IsLayout h p l → site_at p s ≡ Some site → s < l.sites
site_inside h p l s site is at = let inside = slice_get_within p.sites s site at in omega (arith, inside, is.sites)

pub string_inside : (h : List ClassInfo) (p : RegProgram) (l : Layout) (s : ℕ) → IsLayout h p l → is_string_site p s ≡ true → s < l.sites
string_inside h p l s is e = let found = found_by _ (site_at p s) e in site_inside h p l s found.0 is found.1

class_inside : (h : List ClassInfo) (p : RegProgram) (l : Layout) (s k : ℕ) → IsLayout h p l → site_class h p s ≡ Some k → s < l.sites
class_inside h p l s k is e = let found = found_then _ (site_at p s) k e in site_inside h p l s found.0 is found.1

array_inside : (h : List ClassInfo) (p : RegProgram) (l : Layout) (s : ℕ) → IsLayout h p l → is_array_site p s ≡ true → s < l.sites
array_inside h p l s is e = let found = found_by _ (site_at p s) e in site_inside h p l s found.0 is found.1

launch_inside : (h : List ClassInfo) (p : RegProgram) (l : Layout) (s k : ℕ) → IsLayout h p l → launch_class p s ≡ Some k → s < l.sites
launch_inside h p l s k is e = let found = found_then _ (site_at p s) k e in site_inside h p l s found.0 is found.1

pub static_inside : (h : List ClassInfo) (p : RegProgram) (l : Layout) (f : ℕ) → IsLayout h p l → is_static_field h f ≡ true → f < l.fields
static_inside h p l f is e =
    let found = found_by _ (field_at h f) e in
    let inside = slice_get_within _ f found.0 found.1 in
    omega (arith, inside, is.fields)

pub ref_array_inside : (p : RegProgram) (s : ℕ) → is_ref_array p s ≡ true → s < length p.sites
ref_array_inside p s e = by (site_at p s) refl e
  where
    by : (o : Option Site) → site_at p s ≡ o → is_ref_elem (option_and_then (λ site. if is_array_text site.class then component_kind (drop 1 site.class) else None) o) ≡ true → s < length p.sites
    by None at e = absurd cc
    by (Some site) at e = slice_get_within p.sites s site at

launchable_inside : (h : List ClassInfo) (k : ℕ) → is_launchable h k ≡ true → k < length h
launchable_inside h k e =
    let first = and_parts (nat_le BUILT_IN_COUNT k) _ e in
    let rest = and_parts (is_activity h k) _ first.1 in
    let found = found_by can_be_made (slice_get h k) rest.1 in
    slice_get_within h k found.0 found.1

elem_back : (kind : Elem) (h : List ClassInfo) (l : Layout) (p : RegProgram) (t : FactSets) (n : ℕ) (dst array : Reg) → AreInRange l t → dst.0 < l.registers
    → ((r : Reg) (a : SiteId) → base_of (GetElem dst array kind) ≡ Some r → t.reg r.0 a.0 ≡ true → AsksOn h l p t n (GetElem dst array kind) a) → Obeys h p t n (GetElem dst array kind)
elem_back RefElem h l p t n dst array range inside on = λ a one is_array. on array record { 0 = a } refl one is_array (range (Register array) a one) inside
elem_back IntElem h l p t n dst array range inside on = tt
elem_back ByteElem h l p t n dst array range inside on = tt
elem_back CharElem h l p t n dst array range inside on = tt
elem_back ShortElem h l p t n dst array range inside on = tt

pub obeys_of : (stmt : Stmt) (h : List ClassInfo) (l : Layout) (p : RegProgram) (t : FactSets) (n : ℕ) → IsLayout h p l → HasRegisters l p → HaveMethods p → AreInRange l t
    → AreRegisters l (registers_set stmt) → AreRegisters l (registers_read stmt) → IsProper h p stmt
    → Asks h l p t n stmt → ((r : Reg) (a : SiteId) → base_of stmt ≡ Some r → t.reg r.0 a.0 ≡ true → AsksOn h l p t n stmt a) → ((to : ℕ) → t.call n to ≡ true → Goes l p t stmt to)
    → Obeys h p t n stmt
obeys_of (Str dst site) h l p t n layout regs have range set read proper asks on goes = asks (string_inside h p l site.0 layout proper.1) set.0
obeys_of (Copy pairs) h l p t n layout regs have range set read proper asks on goes = copies_back l t pairs set read asks
obeys_of (GetStatic dst f) h l p t n layout regs have range set read proper asks on goes = asks (static_inside h p l f.0 layout proper.1) set.0
obeys_of (PutStatic f src) h l p t n layout regs have range set read proper asks on goes = asks read.0 (static_inside h p l f.0 layout proper.1)
obeys_of (GetField dst base f) h l p t n layout regs have range set read proper asks on goes = λ a one had. on base record { 0 = a } refl one had tt set.0
obeys_of (PutField base f src) h l p t n layout regs have range set read proper asks on goes = λ a one had. on base record { 0 = a } refl one had read.1.0 tt
obeys_of (GetElem dst array kind) h l p t n layout regs have range set read proper asks on goes = elem_back kind h l p t n dst array range set.0 on
obeys_of (PutElem array src) h l p t n layout regs have range set read proper asks on goes =
    λ a s one is_array there can. on array record { 0 = a } refl one is_array read.1.0 (range (Register array) a one) s there can
obeys_of (New dst site) h l p t n layout regs have range set read proper asks on goes = asks (class_inside h p l site.0 proper.1.0 layout proper.1.1) set.0
obeys_of (NewArray dst site count) h l p t n layout regs have range set read proper asks on goes = asks (array_inside h p l site.0 layout proper.1) set.0
obeys_of (Cast dst src text) h l p t n layout regs have range set read proper asks on goes = λ s one sub. on src record { 0 = s } refl one sub (range (Register src) s one) set.0
obeys_of (Call dst kind m args) h l p t n layout regs have range set read proper asks on goes =
    let on_each : OnEach h l p t n kind m.0 args (Call dst kind m args) = λ r a first there to e. on r record { 0 = a } first there to e in
    record {
      targets = targets_back kind h l p t n m.0 args (Call dst kind m args) asks on_each;
      flows = λ to one. record {
        reached = (goes to one).reached;
        arguments = λ method at. flows_back kind h l p t n m.0 to args method (Call dst kind m args) range read (regs.params to method at) at on_each ((goes to one).arguments method at);
        result = result_back l p t dst to regs have set (goes to one).result;
      };
    }
obeys_of (Init k) h l p t n layout regs have range set read proper asks on goes = asks (slice_get_within h k.0 proper.0.0 proper.0.1)
obeys_of (Pick dst k) h l p t n layout regs have range set read proper asks on goes = λ s e. asks (launchable_inside h k.0 proper.1) s e (launch_inside h p l s k.0 layout e) set.0
obeys_of _ h l p t n layout regs have range set read proper asks on goes = tt

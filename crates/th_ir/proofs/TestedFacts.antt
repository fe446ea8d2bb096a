-- Tests that compute, for facts that hold the rules and are listed in order.
use Rattle.std.proofs.Common.{◌≡◌, ℕ, zero, suc, ◌+◌, ◌<◌, ◌==◌, Bool, true, false, List, [], ◌∷◌, length, Option, None, Some, slice_get, map, refl, sym, ap, subst, ◌∙◌}
use Rattle.std.specs.Prelude.{◌&&◌, ◌||◌, not, nat_lt}
use Rattle.std.specs.List.{AllByRecursion, list_all, list_any}
use Rattle.std.specs.List.Sorted.{IsStrictlySortedBy}
use Rattle.std.specs.Option.{option_map_or}
use Rattle.std.specs.Ordering.{nat_cmp}
use Rattle.std.specs.Cmp.Lexicographic.{slice_cmp}
use Rattle.std.specs.declared.cmp.Ordering.{Ordering}
use Rattle.std.specs.declared.cmp.Ordering.TheVariants.{Less, Equal, Greater}
use Rattle.std.proofs.lemmas.Bool.{eqb-true, eq-eqb, ltb-true}
use Rattle.th_base.specs.declared.class.ClassInfo.{ClassInfo}
use Rattle.th_base.specs.declared.number.FieldId.{FieldId}
use Rattle.th_base.specs.declared.number.MethodId.{MethodId}
use Rattle.th_base.specs.declared.number.NodeId.{NodeId}
use Rattle.th_base.specs.declared.number.Reg.{Reg}
use Rattle.th_base.specs.declared.number.SiteId.{SiteId}
use Rattle.th_base.specs.declared.operation.Elem.{Elem}
use Rattle.th_base.specs.declared.operation.Elem.TheVariants.{Int as IntElem, Ref as RefElem, Byte as ByteElem, Char as CharElem, Short as ShortElem}
use Rattle.th_base.specs.IdSet.{has, IsAscending}
use Rattle.th_ir.specs.declared.facts.Facts.{Facts}
use Rattle.th_ir.specs.declared.program.RegProgram.{RegProgram}
use Rattle.th_ir.specs.declared.program.Method.{Method}
use Rattle.th_ir.specs.declared.program.Node.{Node}
use Rattle.th_ir.specs.declared.program.Site.{Site}
use Rattle.th_ir.specs.declared.stmt.CallKind.{CallKind}
use Rattle.th_ir.specs.declared.stmt.CallKind.TheVariants.{Virtual, Special, Static}
use Rattle.th_ir.specs.declared.stmt.Stmt.{Stmt}
use Rattle.th_ir.specs.declared.stmt.Stmt.TheVariants.{Nop, Const, Null, Str, Copy, Arith, Neg, AddConst, Narrow, AnyInt, Assume, GetStatic, PutStatic, GetField, PutField, GetElem, PutElem, Length, New, NewArray, Cast, InstanceOf, Call, Init, Return, Pick, NonNull, Halt}
use Rattle.th_ir.specs.Program.{Among, method_at, node_at, site_at}
use Rattle.th_ir.specs.Fields.{has_field}
use Rattle.th_ir.specs.Sites.{is_ref_array, can_store, launch_class}
use Rattle.th_ir.specs.Calls.{site_target, static_target, IsInitialiser}
use Rattle.th_ir.specs.FactSets.{IsWithin, sets_of, set_at, IsListedSet}
use Rattle.th_ir.specs.Rules.{Copies, ReadsElem, CallsTargets, ArgumentsFlow, ReceiverFlows, FlowsIn, FlowsOut, CallFlows, Obeys, HoldsRules}
use Rattle.th_ir.proofs.Plain.{some_is}
use Rattle.th_ir.proofs.TestedStatements.{both_hold, not_true, tested, all_found, all_tested, all_by, all_from, at_place, at_member, each_initialiser, at_initialiser}
use Rattle.th_ir.proofs.TestedPrograms.{is_owner}

-- ---- sets of lists

abbrev pub listed_or : Option (List ℕ) → List ℕ
listed_or None = []
listed_or (Some xs) = xs

-- the set at a place
abbrev pub listed_at : List (List ℕ) → ℕ → List ℕ
listed_at sets k = listed_or (slice_get sets k)

listed_by : (o : Option (List ℕ)) (x : ℕ) → option_map_or (λ xs. has xs x) o false ≡ true → has (listed_or o) x ≡ true
listed_by None x e = absurd cc
listed_by (Some xs) x e = e

-- what holds of each number of the set at a place
pub at_listed : (test : ℕ → Bool) (sets : List (List ℕ)) (k : ℕ) → list_all test (listed_at sets k) ≡ true → (x : ℕ) → set_at sets k x ≡ true → test x ≡ true
at_listed test sets k all x e = at_member test (listed_at sets k) x all (listed_by (slice_get sets k) x e)

abbrev pub is_cell : ℕ → ℕ → SiteId × FieldId × List ℕ → Bool
is_cell s f c = c.0.0 == s && c.1.0 == f

abbrev pub cell_test : (ℕ → Bool) → ℕ → ℕ → SiteId × FieldId × List ℕ → Bool
cell_test test s f c = not (is_cell s f c) || list_all test c.2

pub in_cells : (test : ℕ → Bool) (s f x : ℕ) (cells : List (SiteId × FieldId × List ℕ)) → list_all (cell_test test s f) cells ≡ true
    → list_any (λ (c : SiteId × FieldId × List ℕ). (c.0.0 == s && c.1.0 == f) && has c.2 x) cells ≡ true → test x ≡ true
in_cells test s f x [] all e = absurd cc
in_cells test s f x (c ∷ cells) all e =
    let parts = both_hold (cell_test test s f c) (list_all (cell_test test s f) cells) all in
    this_or (is_cell s f c) (has c.2 x) refl refl parts.0 (in_cells test s f x cells parts.1) e
  where
    this_or : (a b : Bool) → is_cell s f c ≡ a → has c.2 x ≡ b → (not (is_cell s f c) || list_all test c.2) ≡ true
        → (list_any (λ (k : SiteId × FieldId × List ℕ). (k.0.0 == s && k.1.0 == f) && has k.2 x) cells ≡ true → test x ≡ true)
        → ((a && b) || list_any (λ (k : SiteId × FieldId × List ℕ). (k.0.0 == s && k.1.0 == f) && has k.2 x) cells) ≡ true → test x ≡ true
    this_or true true is in_it here more e = at_member test c.2 x (tested (is_cell s f c) (list_all test c.2) is here) in_it
    this_or true false is in_it here more e = more e
    this_or false b is in_it here more e = more e

abbrev pub elem_test : (ℕ → Bool) → ℕ → SiteId × List ℕ → Bool
elem_test test s c = not (c.0.0 == s) || list_all test c.1

pub in_elems : (test : ℕ → Bool) (s x : ℕ) (elems : List (SiteId × List ℕ)) → list_all (elem_test test s) elems ≡ true
    → list_any (λ (c : SiteId × List ℕ). c.0.0 == s && has c.1 x) elems ≡ true → test x ≡ true
in_elems test s x [] all e = absurd cc
in_elems test s x (c ∷ elems) all e =
    let parts = both_hold (elem_test test s c) (list_all (elem_test test s) elems) all in
    this_or (c.0.0 == s) (has c.1 x) refl refl parts.0 (in_elems test s x elems parts.1) e
  where
    this_or : (a b : Bool) → (c.0.0 == s) ≡ a → has c.1 x ≡ b → (not (c.0.0 == s) || list_all test c.1) ≡ true
        → (list_any (λ (k : SiteId × List ℕ). k.0.0 == s && has k.1 x) elems ≡ true → test x ≡ true)
        → ((a && b) || list_any (λ (k : SiteId × List ℕ). k.0.0 == s && has k.1 x) elems) ≡ true → test x ≡ true
    this_or true true is in_it here more e = at_member test c.1 x (tested (c.0.0 == s) (list_all test c.1) is here) in_it
    this_or true false is in_it here more e = more e
    this_or false b is in_it here more e = more e

abbrev pub call_test : (ℕ → Bool) → ℕ → NodeId × MethodId → Bool
call_test test n c = not (c.0.0 == n) || test c.1.0

pub in_calls : (test : ℕ → Bool) (n m : ℕ) (calls : List (NodeId × MethodId)) → list_all (call_test test n) calls ≡ true
    → list_any (λ (c : NodeId × MethodId). c.0.0 == n && c.1.0 == m) calls ≡ true → test m ≡ true
in_calls test n m [] all e = absurd cc
in_calls test n m (c ∷ calls) all e =
    let parts = both_hold (call_test test n c) (list_all (call_test test n) calls) all in
    this_or (c.0.0 == n) (c.1.0 == m) refl refl parts.0 (in_calls test n m calls parts.1) e
  where
    this_or : (a b : Bool) → (c.0.0 == n) ≡ a → (c.1.0 == m) ≡ b → (not (c.0.0 == n) || test c.1.0) ≡ true
        → (list_any (λ (k : NodeId × MethodId). k.0.0 == n && k.1.0 == m) calls ≡ true → test m ≡ true)
        → ((a && b) || list_any (λ (k : NodeId × MethodId). k.0.0 == n && k.1.0 == m) calls) ≡ true → test m ≡ true
    this_or true true is same here more e = subst (λ (k : ℕ). test k ≡ true) (eqb-true c.1.0 m same) (tested (c.0.0 == n) (test c.1.0) is here)
    this_or true false is same here more e = more e
    this_or false b is same here more e = more e

pub is_owner_of : (c : ℕ) (o : Option ℕ) → o ≡ Some c → is_owner c o ≡ true
is_owner_of c o e = rw e (eq-eqb c c refl)

-- ---- the rules of each statement

abbrev pub copy_test : Facts → Reg × Reg → Bool
copy_test facts m = list_all ((sets_of facts).reg m.0.0) (listed_at facts.regs m.1.0)

abbrev pub read_field_test : List ClassInfo → RegProgram → Facts → ℕ → ℕ → ℕ → Bool
read_field_test h p facts dst f a = not (has_field h p a f) || list_all (cell_test ((sets_of facts).reg dst) a f) facts.cells

abbrev pub write_field_test : List ClassInfo → RegProgram → Facts → ℕ → ℕ → ℕ → Bool
write_field_test h p facts f src a = not (has_field h p a f) || list_all ((sets_of facts).cell a f) (listed_at facts.regs src)

abbrev pub store_test : List ClassInfo → RegProgram → Facts → ℕ → ℕ → Bool
store_test h p facts a s = not (can_store h p a s) || (sets_of facts).elem a s

abbrev pub write_elem_test : List ClassInfo → RegProgram → Facts → ℕ → ℕ → Bool
write_elem_test h p facts src a = not (is_ref_array p a) || list_all (store_test h p facts a) (listed_at facts.regs src)

abbrev pub read_elem_test : RegProgram → Facts → ℕ → ℕ → Bool
read_elem_test p facts dst a = not (is_ref_array p a) || list_all (elem_test ((sets_of facts).reg dst) a) facts.elems

abbrev pub elem_kind_test : RegProgram → Facts → Reg → Reg → Elem → Bool
elem_kind_test p facts dst array RefElem = list_all (read_elem_test p facts dst.0) (listed_at facts.regs array.0)
elem_kind_test p facts dst array IntElem = true
elem_kind_test p facts dst array ByteElem = true
elem_kind_test p facts dst array CharElem = true
elem_kind_test p facts dst array ShortElem = true

reads_elem : (p : RegProgram) (facts : Facts) (dst array : Reg) (kind : Elem) → elem_kind_test p facts dst array kind ≡ true → ReadsElem p (sets_of facts) dst array kind
reads_elem p facts dst array RefElem e = λ a in_it is x there.
    let test = at_listed (read_elem_test p facts dst.0) facts.regs array.0 e a in_it in
    in_elems ((sets_of facts).reg dst.0) a x facts.elems (tested (is_ref_array p a) (list_all (elem_test ((sets_of facts).reg dst.0) a) facts.elems) is test) there
reads_elem p facts dst array IntElem e = tt
reads_elem p facts dst array ByteElem e = tt
reads_elem p facts dst array CharElem e = tt
reads_elem p facts dst array ShortElem e = tt

-- ---- calls

abbrev pub receiver_targets : List ClassInfo → RegProgram → Facts → ℕ → CallKind → ℕ → List Reg → Bool
receiver_targets h p facts n kind m [] = true
receiver_targets h p facts n kind m (r ∷ args) =
    list_all (λ s. option_map_or ((sets_of facts).call n) (site_target h p kind m s) true) (listed_at facts.regs r.0)

abbrev pub call_targets : List ClassInfo → RegProgram → Facts → ℕ → CallKind → ℕ → List Reg → Bool
call_targets h p facts n Virtual m args = receiver_targets h p facts n Virtual m args
call_targets h p facts n (Special k) m args = receiver_targets h p facts n (Special k) m args
call_targets h p facts n Static m args = option_map_or ((sets_of facts).call n) (static_target h m) true

on_sites : (h : List ClassInfo) (p : RegProgram) (facts : Facts) (n : ℕ) (kind : CallKind) (m : ℕ) (args : List Reg) → receiver_targets h p facts n kind m args ≡ true
    → (r : Reg) (s to : ℕ) → slice_get args 0 ≡ Some r → (sets_of facts).reg r.0 s ≡ true → site_target h p kind m s ≡ Some to → (sets_of facts).call n to ≡ true
on_sites h p facts n kind m [] e r s to first in_it is = absurd cc
on_sites h p facts n kind m (q ∷ args) e r s to first in_it is =
    let same : q ≡ r = some_is q r first in
    let there = subst (λ (x : Reg). (sets_of facts).reg x.0 s ≡ true) (sym same) in_it in
    let test = at_listed (λ k. option_map_or ((sets_of facts).call n) (site_target h p kind m k) true) facts.regs q.0 e s there in
    all_found ((sets_of facts).call n) (site_target h p kind m s) to test is

calls_targets : (h : List ClassInfo) (p : RegProgram) (facts : Facts) (n : ℕ) (kind : CallKind) (m : ℕ) (args : List Reg) → call_targets h p facts n kind m args ≡ true
    → CallsTargets h p (sets_of facts) n kind m args
calls_targets h p facts n Virtual m args e = on_sites h p facts n Virtual m args e
calls_targets h p facts n (Special k) m args e = on_sites h p facts n (Special k) m args e
calls_targets h p facts n Static m args e = λ to is. all_found ((sets_of facts).call n) (static_target h m) to e is

abbrev pub arguments_test : Facts → List Reg → List Reg → Bool
arguments_test facts [] params = true
arguments_test facts (a ∷ args) [] = false
arguments_test facts (a ∷ args) (q ∷ params) = list_all ((sets_of facts).reg q.0) (listed_at facts.regs a.0) && arguments_test facts args params

arguments_flow : (facts : Facts) (args params : List Reg) → arguments_test facts args params ≡ true → ArgumentsFlow (sets_of facts) args params
arguments_flow facts [] params e = tt
arguments_flow facts (a ∷ args) [] e = absurd cc
arguments_flow facts (a ∷ args) (q ∷ params) e =
    let parts = both_hold (list_all ((sets_of facts).reg q.0) (listed_at facts.regs a.0)) (arguments_test facts args params) e in
    (at_listed ((sets_of facts).reg q.0) facts.regs a.0 parts.0, arguments_flow facts args params parts.1)

abbrev pub gives_test : List ClassInfo → RegProgram → Facts → CallKind → ℕ → ℕ → ℕ → ℕ → Bool
gives_test h p facts kind m to q s = not (is_owner to (site_target h p kind m s)) || (sets_of facts).reg q s

abbrev pub receiver_flow_test : List ClassInfo → RegProgram → Facts → CallKind → ℕ → ℕ → List Reg → List Reg → Bool
receiver_flow_test h p facts kind m to [] params = true
receiver_flow_test h p facts kind m to (a ∷ args) [] = false
receiver_flow_test h p facts kind m to (a ∷ args) (q ∷ params) =
    list_all (gives_test h p facts kind m to q.0) (listed_at facts.regs a.0) && arguments_test facts args params

receiver_flows : (h : List ClassInfo) (p : RegProgram) (facts : Facts) (kind : CallKind) (m to : ℕ) (args params : List Reg)
    → receiver_flow_test h p facts kind m to args params ≡ true → ReceiverFlows h p (sets_of facts) kind m to args params
receiver_flows h p facts kind m to [] params e = tt
receiver_flows h p facts kind m to (a ∷ args) [] e = absurd cc
receiver_flows h p facts kind m to (a ∷ args) (q ∷ params) e =
    let parts = both_hold (list_all (gives_test h p facts kind m to q.0) (listed_at facts.regs a.0)) (arguments_test facts args params) e in (
      λ s in_it is.
          tested (is_owner to (site_target h p kind m s)) ((sets_of facts).reg q.0 s) (is_owner_of to (site_target h p kind m s) is)
          (at_listed (gives_test h p facts kind m to q.0) facts.regs a.0 parts.0 s in_it),
      arguments_flow facts args params parts.1,
    )

abbrev pub flow_in_test : List ClassInfo → RegProgram → Facts → CallKind → ℕ → ℕ → List Reg → List Reg → Bool
flow_in_test h p facts Virtual m to args params = receiver_flow_test h p facts Virtual m to args params
flow_in_test h p facts (Special k) m to args params = receiver_flow_test h p facts (Special k) m to args params
flow_in_test h p facts Static m to args params = arguments_test facts args params

flows_in : (h : List ClassInfo) (p : RegProgram) (facts : Facts) (kind : CallKind) (m to : ℕ) (args params : List Reg)
    → flow_in_test h p facts kind m to args params ≡ true → FlowsIn h p (sets_of facts) kind m to args params
flows_in h p facts Virtual m to args params e = receiver_flows h p facts Virtual m to args params e
flows_in h p facts (Special k) m to args params e = receiver_flows h p facts (Special k) m to args params e
flows_in h p facts Static m to args params e = arguments_flow facts args params e

abbrev pub return_flow : Facts → Reg → Stmt → Bool
return_flow facts dst (Return (Some src)) = list_all ((sets_of facts).reg dst.0) (listed_at facts.regs src.0)
return_flow facts dst _ = true

abbrev pub node_flow : Facts → Reg → ℕ → Node → Bool
node_flow facts dst to x = not (x.method.0 == to) || return_flow facts dst x.stmt

abbrev pub flow_out_test : RegProgram → Facts → Option Reg → ℕ → Bool
flow_out_test p facts None to = true
flow_out_test p facts (Some dst) to = list_all (node_flow facts dst to) p.nodes

flows_out : (p : RegProgram) (facts : Facts) (dst : Option Reg) (to : ℕ) → flow_out_test p facts dst to ≡ true → FlowsOut p (sets_of facts) dst to
flows_out p facts None to e = tt
flows_out p facts (Some dst) to e = λ n node src stands within is.
    let all = all_tested (node_flow facts dst to) p.nodes n node e stands in
    let own = tested (node.method.0 == to) (return_flow facts dst node.stmt) (eq-eqb node.method.0 to within) all in
    at_listed ((sets_of facts).reg dst.0) facts.regs src.0 (subst (λ (x : Stmt). return_flow facts dst x ≡ true) is own)

abbrev pub flow_test : List ClassInfo → RegProgram → Facts → Option Reg → CallKind → ℕ → List Reg → ℕ → Bool
flow_test h p facts dst kind m args to =
    (sets_of facts).reached to
    && (option_map_or (λ (x : Method). flow_in_test h p facts kind m to args x.params) (method_at p to) true && flow_out_test p facts dst to)

call_flows : (h : List ClassInfo) (p : RegProgram) (facts : Facts) (dst : Option Reg) (kind : CallKind) (m : ℕ) (args : List Reg) (to : ℕ)
    → flow_test h p facts dst kind m args to ≡ true → CallFlows h p (sets_of facts) dst kind m args to
call_flows h p facts dst kind m args to e =
    let parts = both_hold ((sets_of facts).reached to) (option_map_or (λ (x : Method). flow_in_test h p facts kind m to args x.params) (method_at p to) true && flow_out_test p facts dst to) e in
    let more = both_hold (option_map_or (λ (x : Method). flow_in_test h p facts kind m to args x.params) (method_at p to) true) (flow_out_test p facts dst to) parts.1 in
    record {
      reached = parts.0;
      arguments = λ method is. flows_in h p facts kind m to args method.params (all_found (λ (x : Method). flow_in_test h p facts kind m to args x.params) (method_at p to) method more.0 is);
      result = flows_out p facts dst to more.1;
    }

-- ---- each statement

abbrev pub pick_test : RegProgram → Facts → ℕ → ℕ → ℕ → Site → Bool
pick_test p facts dst k s x = not (is_owner k (launch_class p s)) || (sets_of facts).reg dst s

gives_launched : (p : RegProgram) (facts : Facts) (dst k : ℕ) → all_from (pick_test p facts dst k) 0 p.sites ≡ true
    → (s : ℕ) → launch_class p s ≡ Some k → (sets_of facts).reg dst s ≡ true
gives_launched p facts dst k e s is = by_site (site_at p s) refl
  where
    no_launch : site_at p s ≡ None → launch_class p s ≡ Some k → ⊥
    no_launch none is = let gone : launch_class p s ≡ None = rw none refl in cc

    by_site : (site : Option Site) → site_at p s ≡ site → (sets_of facts).reg dst s ≡ true
    by_site None none = absurd (no_launch none is)
    by_site (Some site) there =
        tested (is_owner k (launch_class p s)) ((sets_of facts).reg dst s) (is_owner_of k (launch_class p s) is) (at_place (pick_test p facts dst k) p.sites s site e there)

-- the statements that the small programs have; of the others those without a rule
abbrev pub obeys_test : List ClassInfo → RegProgram → Facts → ℕ → Stmt → Bool
obeys_test h p facts n Nop = true
obeys_test h p facts n (Const dst k) = true
obeys_test h p facts n (Null dst) = true
obeys_test h p facts n (Str dst site) = (sets_of facts).reg dst.0 site.0
obeys_test h p facts n (Copy pairs) = list_all (copy_test facts) pairs
obeys_test h p facts n (Assume condition) = true
obeys_test h p facts n (GetStatic dst f) = list_all ((sets_of facts).reg dst.0) (listed_at facts.statics f.0)
obeys_test h p facts n (PutStatic f src) = list_all ((sets_of facts).static f.0) (listed_at facts.regs src.0)
obeys_test h p facts n (GetField dst base f) = list_all (read_field_test h p facts dst.0 f.0) (listed_at facts.regs base.0)
obeys_test h p facts n (PutField base f src) = list_all (write_field_test h p facts f.0 src.0) (listed_at facts.regs base.0)
obeys_test h p facts n (GetElem dst array kind) = elem_kind_test p facts dst array kind
obeys_test h p facts n (PutElem array src) = list_all (write_elem_test h p facts src.0) (listed_at facts.regs array.0)
obeys_test h p facts n (New dst site) = (sets_of facts).reg dst.0 site.0
obeys_test h p facts n (NewArray dst site count) = (sets_of facts).reg dst.0 site.0
obeys_test h p facts n (Call dst kind m args) =
    call_targets h p facts n kind m.0 args && list_all (call_test (flow_test h p facts dst kind m.0 args) n) facts.calls
obeys_test h p facts n (Init k) = each_initialiser (sets_of facts).reached h k.0
obeys_test h p facts n (Return src) = true
obeys_test h p facts n (Pick dst k) = all_from (pick_test p facts dst.0 k.0) 0 p.sites
obeys_test h p facts n _ = false

obeys : (h : List ClassInfo) (p : RegProgram) (facts : Facts) (n : ℕ) (stmt : Stmt) → obeys_test h p facts n stmt ≡ true → Obeys h p (sets_of facts) n stmt
obeys h p facts n Nop e = tt
obeys h p facts n (Const dst k) e = tt
obeys h p facts n (Null dst) e = tt
obeys h p facts n (Str dst site) e = e
obeys h p facts n (Copy pairs) e =
    all_by (λ m. IsWithin ((sets_of facts).reg m.1.0) ((sets_of facts).reg m.0.0)) (copy_test facts) (λ m is. at_listed ((sets_of facts).reg m.0.0) facts.regs m.1.0 is) pairs e
obeys h p facts n (Assume condition) e = tt
obeys h p facts n (GetStatic dst f) e = at_listed ((sets_of facts).reg dst.0) facts.statics f.0 e
obeys h p facts n (PutStatic f src) e = at_listed ((sets_of facts).static f.0) facts.regs src.0 e
obeys h p facts n (GetField dst base f) e = λ a in_it is x there.
    let test = at_listed (read_field_test h p facts dst.0 f.0) facts.regs base.0 e a in_it in
    in_cells ((sets_of facts).reg dst.0) a f.0 x facts.cells (tested (has_field h p a f.0) (list_all (cell_test ((sets_of facts).reg dst.0) a f.0) facts.cells) is test) there
obeys h p facts n (PutField base f src) e = λ a in_it is.
    let test = at_listed (write_field_test h p facts f.0 src.0) facts.regs base.0 e a in_it in
    at_listed ((sets_of facts).cell a f.0) facts.regs src.0 (tested (has_field h p a f.0) (list_all ((sets_of facts).cell a f.0) (listed_at facts.regs src.0)) is test)
obeys h p facts n (GetElem dst array kind) e = reads_elem p facts dst array kind e
obeys h p facts n (PutElem array src) e = λ a s in_it is there may.
    let test = at_listed (write_elem_test h p facts src.0) facts.regs array.0 e a in_it in
    let each = tested (is_ref_array p a) (list_all (store_test h p facts a) (listed_at facts.regs src.0)) is test in
    tested (can_store h p a s) ((sets_of facts).elem a s) may (at_listed (store_test h p facts a) facts.regs src.0 each s there)
obeys h p facts n (New dst site) e = e
obeys h p facts n (NewArray dst site count) e = e
obeys h p facts n (Call dst kind m args) e =
    let parts = both_hold (call_targets h p facts n kind m.0 args) (list_all (call_test (flow_test h p facts dst kind m.0 args) n) facts.calls) e in
    record {
      targets = calls_targets h p facts n kind m.0 args parts.0;
      flows = λ to is. call_flows h p facts dst kind m.0 args to (in_calls (flow_test h p facts dst kind m.0 args) n to facts.calls parts.1 is);
    }
obeys h p facts n (Init k) e = λ m is. at_initialiser (sets_of facts).reached h k.0 m e is
obeys h p facts n (Return src) e = tt
obeys h p facts n (Pick dst k) e = gives_launched p facts dst.0 k.0 e
obeys h p facts n _ e = absurd cc

-- ---- all rules

abbrev pub node_obeys : List ClassInfo → RegProgram → Facts → ℕ → Node → Bool
node_obeys h p facts n x = not ((sets_of facts).reached x.method.0) || obeys_test h p facts n x.stmt

abbrev pub constant_test : Facts → FieldId × SiteId → Bool
constant_test facts i = (sets_of facts).static i.0.0 i.1.0

pub holds_rules : (h : List ClassInfo) (p : RegProgram) (facts : Facts) → list_all (λ (m : MethodId). (sets_of facts).reached m.0) p.harness ≡ true
    → list_all (constant_test facts) p.strings ≡ true → all_from (node_obeys h p facts) 0 p.nodes ≡ true → HoldsRules h p (sets_of facts)
holds_rules h p facts harness constants nodes = record {
  harness = λ m among. all_tested (λ (x : MethodId). (sets_of facts).reached x.0) p.harness among.0 m harness among.1;
  constants = all_by (λ i. (sets_of facts).static i.0.0 i.1.0 ≡ true) (constant_test facts) (λ i is. is) p.strings constants;
  nodes = λ n x is reached.
      obeys h p facts n x.stmt
      (tested ((sets_of facts).reached x.method.0) (obeys_test h p facts n x.stmt) reached (at_place (node_obeys h p facts) p.nodes n x nodes is));
}

-- ---- what is listed is within other facts

pub listed_within : (test : ℕ → ℕ → Bool) (sets : List (List ℕ)) → all_from (λ k xs. list_all (test k) xs) 0 sets ≡ true
    → (k x : ℕ) → set_at sets k x ≡ true → test k x ≡ true
listed_within test sets e k x is = by_set (slice_get sets k) refl is
  where
    by_set : (o : Option (List ℕ)) → slice_get sets k ≡ o → option_map_or (λ xs. has xs x) o false ≡ true → test k x ≡ true
    by_set None none is = absurd cc
    by_set (Some xs) there is = at_member (test k) xs x (at_place (λ k xs. list_all (test k) xs) sets k xs e there) is

-- ---- order

abbrev pub ascending_test : List ℕ → Bool
ascending_test [] = true
ascending_test (x ∷ xs) = list_all (λ y. nat_lt x y) xs && ascending_test xs

pub ascends : (xs : List ℕ) → ascending_test xs ≡ true → IsAscending xs
ascends [] e = tt
ascends (x ∷ xs) e =
    let parts = both_hold (list_all (λ y. nat_lt x y) xs) (ascending_test xs) e in (all_by (λ y. x < y) (λ y. nat_lt x y) (λ y. ltb-true x y) xs parts.0, ascends xs parts.1)

abbrev pub listed_set_test : List ℕ → Bool
listed_set_test [] = false
listed_set_test (x ∷ xs) = ascending_test (x ∷ xs)

pub listed_set : (xs : List ℕ) → listed_set_test xs ≡ true → IsListedSet xs
listed_set [] e = absurd cc
listed_set (x ∷ xs) e = ascends (x ∷ xs) e

pub all_ascend : (sets : List (List ℕ)) → list_all ascending_test sets ≡ true → AllByRecursion IsAscending sets
all_ascend sets e = all_by IsAscending ascending_test ascends sets e

abbrev pub is_less : Ordering → Bool
is_less Less = true
is_less Equal = false
is_less Greater = false

less_is : (o : Ordering) → is_less o ≡ true → o ≡ Less
less_is Less e = refl
less_is Equal e = absurd cc
less_is Greater e = absurd cc

abbrev pub order_test : List (List ℕ) → Bool
order_test [] = true
order_test (x ∷ xs) = list_all (λ y. is_less (slice_cmp nat_cmp x y)) xs && order_test xs

-- lists of numbers in order
pub in_order : (xs : List (List ℕ)) → order_test xs ≡ true → IsStrictlySortedBy (slice_cmp nat_cmp) xs
unfolding IsStrictlySortedBy
in_order [] e = tt
in_order (x ∷ xs) e =
    let parts = both_hold (list_all (λ y. is_less (slice_cmp nat_cmp x y)) xs) (order_test xs) e in
    (all_by (λ y. slice_cmp nat_cmp x y ≡ Less) (λ y. is_less (slice_cmp nat_cmp x y)) (λ y. less_is (slice_cmp nat_cmp x y)) xs parts.0, in_order xs parts.1)

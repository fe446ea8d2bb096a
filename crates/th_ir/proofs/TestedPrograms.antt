-- Tests that compute, for well-formed programs as a whole.
use Rattle.std.proofs.Common.{◌≡◌, ℕ, zero, suc, ◌+◌, ◌<◌, ◌≤◌, ◌==◌, Bool, true, false, List, [], ◌∷◌, ◌++◌, length, Option, None, Some, slice_get, map, refl, sym, ap, subst, arith, ◌∙◌}
use Rattle.std.specs.Prelude.{◌&&◌, ◌||◌, ◌↔◌, not, nat_lt, nat_le}
use Rattle.std.specs.List.{AllByRecursion, list_all, list_any}
use Rattle.std.specs.Option.{option_map, option_map_or}
use Rattle.std.proofs.lemmas.Bool.{eqb-true, eq-eqb, ltb-true, leb-true}
use Rattle.th_base.specs.declared.class.ClassInfo.{ClassInfo}
use Rattle.th_base.specs.declared.class.FieldInfo.{FieldInfo}
use Rattle.th_base.specs.declared.class.MethodInfo.{MethodInfo}
use Rattle.th_base.specs.declared.number.FieldId.{FieldId}
use Rattle.th_base.specs.declared.number.NodeId.{NodeId}
use Rattle.th_base.specs.declared.number.Reg.{Reg}
use Rattle.th_base.specs.IdSet.{has}
use Rattle.th_ir.specs.declared.program.RegProgram.{RegProgram}
use Rattle.th_ir.specs.declared.program.Method.{Method}
use Rattle.th_ir.specs.declared.program.Node.{Node}
use Rattle.th_ir.specs.declared.program.Place.{Place}
use Rattle.th_ir.specs.declared.program.Site.{Site}
use Rattle.th_ir.specs.declared.stmt.Stmt.{Stmt}
use Rattle.th_ir.specs.declared.stmt.Stmt.TheVariants.{Nop, Const, Null, Str, Copy, Arith, Neg, AddConst, Narrow, AnyInt, Assume, GetStatic, PutStatic, GetField, PutField, GetElem, PutElem, Length, New, NewArray, Cast, InstanceOf, Call, Init, Return, Pick, NonNull, Halt}
use Rattle.th_ir.specs.Program.{Among, AreDistinct, method_at, node_at, site_at, is_harness, registers_set, registers_read, registers_of}
use Rattle.th_ir.specs.Fields.{owned_fields, field_at, stage_field}
use Rattle.th_ir.specs.Sites.{launch_class}
use Rattle.th_ir.specs.Calls.{owned_methods, declared_at}
use Rattle.th_ir.specs.Flow.{FlowsTo, LeadsOn, one, more, IsMergePoint, IsLoopHead}
use Rattle.th_ir.specs.Harness.{Parts, IsApartObject}
use Rattle.th_ir.specs.Statements.{HasEntry, IsProper, SetsNoOperand, IsOrdinary}
use Rattle.th_ir.specs.WellFormed.{HasOwner, AreMethods, IsNodeOf, AreNodes, Uses, as_parameter, in_statement, AreApart, return_nodes}
use Rattle.th_ir.proofs.Plain.{some_is}
use Rattle.th_ir.proofs.TestedStatements.{both_hold, not_true, tested, found_by, all_found, all_tested, all_by, all_from, at_place, entry_test, has_entry, distinct_test, are_distinct, proper_test, proper}

-- ---- methods

pub numbered_methods : (h : List ClassInfo) → all_from (λ m (d : ℕ × MethodInfo). d.1.id.0 == m) 0 (owned_methods h) ≡ true
    → (m : ℕ) (d : ℕ × MethodInfo) → declared_at h m ≡ Some d → d.1.id.0 ≡ m
numbered_methods h e m d is = eqb-true d.1.id.0 m (at_place (λ k (x : ℕ × MethodInfo). x.1.id.0 == k) (owned_methods h) m d e is)

pub numbered_fields : (h : List ClassInfo) → all_from (λ f (d : ℕ × FieldInfo). d.1.id.0 == f) 0 (owned_fields h) ≡ true
    → (f : ℕ) (d : ℕ × FieldInfo) → field_at h f ≡ Some d → d.1.id.0 ≡ f
numbered_fields h e f d is = eqb-true d.1.id.0 f (at_place (λ k (x : ℕ × FieldInfo). x.1.id.0 == k) (owned_fields h) f d e is)

abbrev pub is_owner : ℕ → Option ℕ → Bool
is_owner c None = false
is_owner c (Some k) = k == c

pub owner_is : (c : ℕ) (o : Option ℕ) → is_owner c o ≡ true → o ≡ Some c
owner_is c None e = absurd cc
owner_is c (Some k) e = ap Some (eqb-true k c e)

abbrev pub owner_test : RegProgram → ℕ → ℕ × MethodInfo → Bool
owner_test p m d = option_map_or (λ (x : Method). is_owner d.0 (option_map (λ k. k.0) x.owner)) (method_at p m) false

pub has_owner : (h : List ClassInfo) (p : RegProgram) → all_from (owner_test p) 0 (owned_methods h) ≡ true
    → (m : ℕ) (d : ℕ × MethodInfo) → declared_at h m ≡ Some d → HasOwner p m d.0
has_owner h p e m d is =
    let found = found_by (λ (x : Method). is_owner d.0 (option_map (λ k. k.0) x.owner)) (method_at p m) (at_place (owner_test p) (owned_methods h) m d e is) in
    record { method = found.0; stands = found.1; owner = owner_is d.0 (option_map (λ k. k.0) found.0.owner) found.2 }

abbrev pub same_numbers : List ℕ → List ℕ → Bool
same_numbers [] [] = true
same_numbers [] (y ∷ ys) = false
same_numbers (x ∷ xs) [] = false
same_numbers (x ∷ xs) (y ∷ ys) = x == y && same_numbers xs ys

numbers_same : (xs ys : List ℕ) → same_numbers xs ys ≡ true → xs ≡ ys
numbers_same [] [] e = refl
numbers_same [] (y ∷ ys) e = absurd cc
numbers_same (x ∷ xs) [] e = absurd cc
numbers_same (x ∷ xs) (y ∷ ys) e =
    let parts = both_hold (x == y) (same_numbers xs ys) e in
    let first = eqb-true x y parts.0 in let rest = numbers_same xs ys parts.1 in ap (λ (z : ℕ). z ∷ xs) first ∙ ap (λ (zs : List ℕ). y ∷ zs) rest

abbrev pub method_test : RegProgram → ℕ → Method → Bool
method_test p m x = distinct_test (map (λ r. r.0) x.params) && same_numbers (map (λ n. n.0) x.returns) (return_nodes p m)

pub are_methods : (h : List ClassInfo) (p : RegProgram) → length p.methods ≡ length (owned_methods h) + length p.harness
    → all_from (owner_test p) 0 (owned_methods h) ≡ true → all_from (method_test p) 0 p.methods ≡ true → AreMethods h p
are_methods h p count owned e =
    let at : (m : ℕ) (x : Method) → method_at p m ≡ Some x → (distinct_test (map (λ r. r.0) x.params) ≡ true) × (same_numbers (map (λ n. n.0) x.returns) (return_nodes p m) ≡ true) =
    λ m x is. both_hold (distinct_test (map (λ r. r.0) x.params)) (same_numbers (map (λ n. n.0) x.returns) (return_nodes p m)) (at_place (method_test p) p.methods m x e is) in
    record {
      count = count;
      owners = has_owner h p owned;
      params = λ m x is. are_distinct (map (λ r. r.0) x.params) (at m x is).0;
      returns = λ m x is. numbers_same (map (λ n. n.0) x.returns) (return_nodes p m) (at m x is).1;
    }

-- ---- nodes

abbrev pub free_test : List ℕ → Reg → Bool
free_test read r = not (has read r.0)

abbrev pub operands_test : Stmt → Bool
operands_test (Copy pairs) = true
operands_test (Call dst kind m args) = true
operands_test stmt = list_all (free_test (map (λ x. x.0) (registers_read stmt))) (registers_set stmt)

free_all : (read : List ℕ) (rs : List Reg) → list_all (free_test read) rs ≡ true → AllByRecursion (λ r. has read r.0 ≡ false) rs
free_all read rs e = all_by (λ r. has read r.0 ≡ false) (free_test read) (λ r is. not_true (has read r.0) is) rs e

sets_no_operand : (stmt : Stmt) → operands_test stmt ≡ true → SetsNoOperand stmt
sets_no_operand (Copy pairs) e = tt
sets_no_operand (Call dst kind m args) e = tt
sets_no_operand stmt e = free_all (map (λ x. x.0) (registers_read stmt)) (registers_set stmt) e

abbrev pub leads_test : RegProgram → ℕ → NodeId → Bool
leads_test p m next = option_map_or (λ (n : Node). n.method.0 == m) (node_at p next.0) false

-- a successor is of a greater rank
abbrev pub rank_test : (ℕ → ℕ) → ℕ → NodeId → Bool
rank_test rank n next = nat_lt (rank n) (rank next.0)

abbrev pub node_test : List ClassInfo → RegProgram → (ℕ → ℕ) → ℕ → Node → Bool
node_test h p rank n x =
    (entry_test p x.method.0 && list_all (leads_test p x.method.0) x.next)
    && ((proper_test h p x.stmt && operands_test x.stmt) && (not x.loop_head && list_all (rank_test rank n) x.next))

record Tested (h : List ClassInfo) (p : RegProgram) (rank : ℕ → ℕ) (n : ℕ) (x : Node) : Type 0 where
  pub entry : entry_test p x.method.0 ≡ true
  pub leads : list_all (leads_test p x.method.0) x.next ≡ true
  pub proper : proper_test h p x.stmt ≡ true
  pub operands : operands_test x.stmt ≡ true
  pub no_head : x.loop_head ≡ false
  pub ranks : list_all (rank_test rank n) x.next ≡ true

node_tested : (h : List ClassInfo) (p : RegProgram) (rank : ℕ → ℕ) (n : ℕ) (x : Node) → all_from (node_test h p rank) 0 p.nodes ≡ true → node_at p n ≡ Some x → Tested h p rank n x
node_tested h p rank n x e is =
    let both = both_hold (entry_test p x.method.0 && list_all (leads_test p x.method.0) x.next) ((proper_test h p x.stmt && operands_test x.stmt) && (not x.loop_head && list_all (rank_test rank n) x.next)) (at_place (node_test h p rank) p.nodes n x e is) in
    let one = both_hold (entry_test p x.method.0) (list_all (leads_test p x.method.0) x.next) both.0 in
    let rest = both_hold (proper_test h p x.stmt && operands_test x.stmt) (not x.loop_head && list_all (rank_test rank n) x.next) both.1 in
    let two = both_hold (proper_test h p x.stmt) (operands_test x.stmt) rest.0 in
    let three = both_hold (not x.loop_head) (list_all (rank_test rank n) x.next) rest.1 in
    record { entry = one.0; leads = one.1; proper = two.0; operands = two.1; no_head = not_true x.loop_head three.0; ranks = three.1 }

flow_rises : (h : List ClassInfo) (p : RegProgram) (rank : ℕ → ℕ) → all_from (node_test h p rank) 0 p.nodes ≡ true → (n to : ℕ) → FlowsTo p n to → rank n < rank to
flow_rises h p rank e n to flow =
    let all = (node_tested h p rank n flow.node e flow.stands).ranks in
    let next = all_tested (rank_test rank n) flow.node.next flow.follows.0 flow.next all flow.follows.1 in
    subst (λ (k : ℕ). rank n < rank k) flow.number (ltb-true (rank n) (rank flow.next.0) next)

path_rises : (h : List ClassInfo) (p : RegProgram) (rank : ℕ → ℕ) → all_from (node_test h p rank) 0 p.nodes ≡ true → (n to : ℕ) → LeadsOn p n to → rank n < rank to
path_rises h p rank e n to (one flow) = flow_rises h p rank e n to flow
path_rises h p rank e n to (more {via = via} path flow) =
    let first = path_rises h p rank e n via path in let last = flow_rises h p rank e via to flow in omega arith

no_loop_head : (h : List ClassInfo) (p : RegProgram) (rank : ℕ → ℕ) → all_from (node_test h p rank) 0 p.nodes ≡ true → (n : ℕ) → IsLoopHead p n → ⊥
no_loop_head h p rank e n head = let rises = path_rises h p rank e n n head.returns in omega arith

-- where the flow only goes on to nodes of greater rank, and each node meets the tests
pub are_nodes : (h : List ClassInfo) (p : RegProgram) (rank : ℕ → ℕ) → all_from (node_test h p rank) 0 p.nodes ≡ true → AreNodes h p
are_nodes h p rank e = record {
  entries = λ n x is. has_entry p x.method.0 (node_tested h p rank n x e is).entry;
  successors = λ n x next is among.
      let leads = all_tested (leads_test p x.method.0) x.next among.0 next (node_tested h p rank n x e is).leads among.1 in
      let found = found_by (λ (y : Node). y.method.0 == x.method.0) (node_at p next.0) leads in
      record { node = found.0; stands = found.1; within = eqb-true found.0.method.0 x.method.0 found.2 };
  statements = λ n x is. proper h p x.stmt (node_tested h p rank n x e is).proper;
  operands = λ n x is. sets_no_operand x.stmt (node_tested h p rank n x e is).operands;
  loop_heads = λ n x is.
      (λ head. absurd (let none = (node_tested h p rank n x e is).no_head in cc), λ head. absurd (no_loop_head h p rank e n head));
}

-- ---- registers

-- the method that uses each register
abbrev pub user_test : List ℕ → ℕ → ℕ → Bool
user_test users m r = option_map_or (λ (k : ℕ). k == m) (slice_get users r) false

abbrev pub method_uses : List ℕ → ℕ → Method → Bool
method_uses users m x = list_all (user_test users m) (map (λ r. r.0) x.params)

abbrev pub node_uses : List ℕ → Node → Bool
node_uses users x = list_all (user_test users x.method.0) (map (λ r. r.0) (registers_of x))

used_by : (users : List ℕ) (p : RegProgram) → all_from (method_uses users) 0 p.methods ≡ true → list_all (node_uses users) p.nodes ≡ true
    → (m r : ℕ) → Uses p m r → slice_get users r ≡ Some m
used_by users p methods nodes m r (as_parameter x is among) =
    let all = at_place (method_uses users) p.methods m x methods is in
    let one = all_tested (user_test users m) (map (λ r. r.0) x.params) among.0 r all among.1 in
    let found = found_by (λ (k : ℕ). k == m) (slice_get users r) one in found.1 ∙ ap Some (eqb-true found.0 m found.2)
used_by users p methods nodes m r (in_statement n x is within among) =
    let all = all_tested (node_uses users) p.nodes n x nodes is in
    let one = all_tested (user_test users x.method.0) (map (λ r. r.0) (registers_of x)) among.0 r all among.1 in
    let found = found_by (λ (k : ℕ). k == x.method.0) (slice_get users r) one in found.1 ∙ ap Some (eqb-true found.0 x.method.0 found.2 ∙ within)

pub are_apart : (users : List ℕ) (p : RegProgram) → all_from (method_uses users) 0 p.methods ≡ true → list_all (node_uses users) p.nodes ≡ true → AreApart p
are_apart users p methods nodes m k r this other =
    some_is m k (sym (used_by users p methods nodes m r this) ∙ used_by users p methods nodes k r other)

-- ---- what is only of the harness

abbrev pub stage_free : ℕ → Bool
stage_free f = not (f == stage_field)

abbrev pub ordinary_test : RegProgram → Stmt → Bool
ordinary_test p (New dst site) = option_map_or (λ (c : ℕ). false) (launch_class p site.0) true
ordinary_test p (Pick dst k) = false
ordinary_test p (PutField base f src) = stage_free f.0
ordinary_test p _ = true

no_launch : (o : Option ℕ) → option_map_or (λ (c : ℕ). false) o true ≡ true → o ≡ None
no_launch None e = refl
no_launch (Some c) e = absurd cc

no_stage : (f : ℕ) → stage_free f ≡ true → f ≡ stage_field → ⊥
no_stage f e is = let same = eq-eqb f stage_field is in let other = not_true (f == stage_field) e in cc

is_ordinary : (p : RegProgram) (stmt : Stmt) → ordinary_test p stmt ≡ true → IsOrdinary p stmt
is_ordinary p (New dst site) e = no_launch (launch_class p site.0) e
is_ordinary p (Pick dst k) e = absurd cc
is_ordinary p (PutField base f src) e = no_stage f.0 e
is_ordinary p _ e = tt

abbrev pub others_test : RegProgram → Node → Bool
others_test p x = is_harness p x.method.0 || ordinary_test p x.stmt

pub others_ordinary : (p : RegProgram) → list_all (others_test p) p.nodes ≡ true
    → (n : ℕ) (x : Node) → node_at p n ≡ Some x → is_harness p x.method.0 ≡ false → IsOrdinary p x.stmt
others_ordinary p e n x is own = is_ordinary p x.stmt (one_of (is_harness p x.method.0) (ordinary_test p x.stmt) own (all_tested (others_test p) p.nodes n x e is))
  where
    one_of : (a b : Bool) → a ≡ false → (a || b) ≡ true → b ≡ true
    one_of true b not e = absurd cc
    one_of false b not e = e

-- ---- the nodes of one method

-- the nodes of a method are those from one number to before another
abbrev pub range_test : ℕ → ℕ → ℕ → ℕ → Node → Bool
range_test m first end n x = not (x.method.0 == m) || (nat_le first n && nat_lt n end)

pub in_range : (p : RegProgram) (m first end : ℕ) → all_from (range_test m first end) 0 p.nodes ≡ true
    → (n : ℕ) (x : Node) → node_at p n ≡ Some x → x.method.0 ≡ m → (first ≤ n) × (n < end)
in_range p m first end e n x is own =
    let test = at_place (range_test m first end) p.nodes n x e is in
    let bounds = both_hold (nat_le first n) (nat_lt n end) (tested (x.method.0 == m) (nat_le first n && nat_lt n end) (eq-eqb x.method.0 m own) test) in
    (leb-true first n bounds.0, ltb-true n end bounds.1)

-- ---- the register of the object

differ : (a b : ℕ) → not (a == b) ≡ true → a ≡ b → ⊥
differ a b e is = let same = eq-eqb a b is in let other = not_true (a == b) e in cc

pub apart_object : (q : Parts) → (not (q.object.0 == q.stage.0) && (not (q.object.0 == q.next_stage.0) && not (q.object.0 == q.bundle.0))) ≡ true → IsApartObject q
apart_object q e =
    let parts = both_hold (not (q.object.0 == q.stage.0)) (not (q.object.0 == q.next_stage.0) && not (q.object.0 == q.bundle.0)) e in
    let more = both_hold (not (q.object.0 == q.next_stage.0)) (not (q.object.0 == q.bundle.0)) parts.1 in
    record {
      stage = differ q.object.0 q.stage.0 parts.0;
      next_stage = differ q.object.0 q.next_stage.0 more.0;
      bundle = differ q.object.0 q.bundle.0 more.1;
    }

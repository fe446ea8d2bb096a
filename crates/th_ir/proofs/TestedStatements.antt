-- Tests that compute, for what holds of the statements of a well-formed program.
use Rattle.std.proofs.Common.{◌≡◌, ℕ, ℤ, pos, negsuc, zero, suc, ◌+◌, ◌<◌, ◌==◌, Bool, true, false, List, [], ◌∷◌, length, Option, None, Some, slice_get, map, codes, refl, sym, ap, subst, arith, ◌∙◌}
use Rattle.std.specs.Prelude.{◌&&◌, ◌||◌, not, nat_lt}
use Rattle.std.specs.List.{AllByRecursion, list_all, list_any, range_with_len}
use Rattle.std.specs.Option.{option_map_or, option_and_then}
use Rattle.std.proofs.lemmas.Bool.{eqb-true, eq-eqb, ltb-true}
use Rattle.std.proofs.lemmas.Int.{ints}
use Rattle.th_base.specs.declared.class.ClassInfo.{ClassInfo}
use Rattle.th_base.specs.declared.class.MethodInfo.{MethodInfo}
use Rattle.th_base.specs.declared.number.FieldId.{FieldId}
use Rattle.th_base.specs.declared.number.MethodId.{MethodId}
use Rattle.th_base.specs.declared.number.Reg.{Reg}
use Rattle.th_base.specs.Hierarchy.{lineage_of, declared_method, is_subclass}
use Rattle.th_base.specs.IdSet.{has}
use Rattle.th_base.specs.Launchable.{is_launchable}
use Rattle.th_ir.specs.declared.program.RegProgram.{RegProgram}
use Rattle.th_ir.specs.declared.program.Method.{Method}
use Rattle.th_ir.specs.declared.program.Node.{Node}
use Rattle.th_ir.specs.declared.program.Site.{Site}
use Rattle.th_ir.specs.declared.stmt.CallKind.{CallKind}
use Rattle.th_ir.specs.declared.stmt.CallKind.TheVariants.{Virtual, Special, Static}
use Rattle.th_ir.specs.declared.stmt.Condition.{Condition}
use Rattle.th_ir.specs.declared.stmt.Condition.TheVariants.{Ints, SameRef, OtherRef, IsNull, NotNull, Key, NoKey}
use Rattle.th_ir.specs.declared.stmt.Stmt.{Stmt}
use Rattle.th_ir.specs.declared.stmt.Stmt.TheVariants.{Nop, Const, Null, Str, Copy, Arith, Neg, AddConst, Narrow, AnyInt, Assume, GetStatic, PutStatic, GetField, PutField, GetElem, PutElem, Length, New, NewArray, Cast, InstanceOf, Call, Init, Return, Pick, NonNull, Halt}
use Rattle.th_ir.specs.Program.{AreDistinct, method_at, node_at, site_at, is_harness, is_ref}
use Rattle.th_ir.specs.Fields.{is_ref_field, is_static_field, is_instance_field}
use Rattle.th_ir.specs.Sites.{site_class, is_array_site, is_ref_elem, is_string_site}
use Rattle.th_ir.specs.Calls.{declared_at, site_target, static_target, IsTarget, IsInitialiser}
use Rattle.th_ir.specs.Effects.{IsInt}
use Rattle.th_ir.specs.Statements.{IsRefReg, IsIntReg, HasEntry, IsCallee, FitParameters, FitsResult, FitsCallee, IsInstanceMethod, IsStaticMethod, HasReceiver, HoldsInstanceMethod, NamesMethod, IsProperCall, IsProperCondition, IsProper}
use Rattle.th_ir.proofs.Plain.{some_is}

-- ---- tests in general

pub both_hold : (a b : Bool) → (a && b) ≡ true → (a ≡ true) × (b ≡ true)
both_hold true b e = (refl, e)
both_hold false b e = absurd cc

pub not_true : (a : Bool) → not a ≡ true → a ≡ false
not_true true e = absurd cc
not_true false e = refl

-- where the first holds, so does the second
pub tested : (a b : Bool) → a ≡ true → (not a || b) ≡ true → b ≡ true
tested true b is e = e
tested false b is e = absurd cc

abbrev pub same_bool : Bool → Bool → Bool
same_bool true b = b
same_bool false b = not b

pub same_bools : (a b : Bool) → same_bool a b ≡ true → a ≡ b
same_bools true b e = sym e
same_bools false b e = sym (not_true b e)

-- what a look-up finds meets a test
pub found_by : {A : Type 0} (test : A → Bool) (o : Option A) → option_map_or test o false ≡ true → (x : A) × (o ≡ Some x) × (test x ≡ true)
found_by test None e = absurd cc
found_by test (Some x) e = (x, refl, e)

pub all_found : {A : Type 0} (test : A → Bool) (o : Option A) (x : A) → option_map_or test o true ≡ true → o ≡ Some x → test x ≡ true
all_found test None x e is = absurd cc
all_found test (Some y) x e is = subst (λ (z : _). test z ≡ true) (some_is y x is) e

pub all_tested : {A : Type 0} (test : A → Bool) (xs : List A) (k : ℕ) (x : A) → list_all test xs ≡ true → slice_get xs k ≡ Some x → test x ≡ true
all_tested test [] k x e is = absurd cc
all_tested test (y ∷ xs) zero x e is = subst (λ (z : _). test z ≡ true) (some_is y x is) (both_hold (test y) (list_all test xs) e).0
all_tested test (y ∷ xs) (suc k) x e is = all_tested test xs k x (both_hold (test y) (list_all test xs) e).1 is

pub all_by : {A : Type 0} (P : A → Type 0) (test : A → Bool) → ((x : A) → test x ≡ true → P x) → (xs : List A) → list_all test xs ≡ true → AllByRecursion P xs
all_by P test sound [] e = tt
all_by P test sound (x ∷ xs) e =
    let parts = both_hold (test x) (list_all test xs) e in (sound x parts.0, all_by P test sound xs parts.1)

-- each element meets a test of its place and itself
abbrev pub all_from : {A : Type 0} → (ℕ → A → Bool) → ℕ → List A → Bool
all_from test n [] = true
all_from test n (x ∷ xs) = test n x && all_from test (n + 1) xs

from_at : {A : Type 0} (test : ℕ → A → Bool) (n : ℕ) (xs : List A) (k : ℕ) (x : A) → all_from test n xs ≡ true → slice_get xs k ≡ Some x → test (n + k) x ≡ true
from_at test n [] k x all e = absurd cc
from_at test n (y ∷ xs) zero x all e =
    let here : n ≡ n + 0 = omega arith in
    subst (λ (m : ℕ). test m x ≡ true) here (subst (λ (z : _). test n z ≡ true) (some_is y x e) (both_hold (test n y) (all_from test (n + 1) xs) all).0)
from_at test n (y ∷ xs) (suc k) x all e =
    let here : n + 1 + k ≡ n + suc k = omega arith in
    subst (λ (m : ℕ). test m x ≡ true) here (from_at test (n + 1) xs k x (both_hold (test n y) (all_from test (n + 1) xs) all).1 e)

pub at_place : {A : Type 0} (test : ℕ → A → Bool) (xs : List A) (k : ℕ) (x : A) → all_from test 0 xs ≡ true → slice_get xs k ≡ Some x → test k x ≡ true
at_place test xs k x all e = let here : 0 + k ≡ k = omega arith in subst (λ (m : ℕ). test m x ≡ true) here (from_at test 0 xs k x all e)

-- what holds of each number of a list holds of one that is in it
pub at_member : (test : ℕ → Bool) (xs : List ℕ) (c : ℕ) → list_all test xs ≡ true → list_any (λ k. k == c) xs ≡ true → test c ≡ true
at_member test [] c all e = absurd cc
at_member test (x ∷ xs) c all e =
    let parts = both_hold (test x) (list_all test xs) all in this_or x xs (x == c) refl parts.0 (at_member test xs c parts.1) e
  where
    this_or : (x : ℕ) (xs : List ℕ) (b : Bool) → (x == c) ≡ b → test x ≡ true → (list_any (λ k. k == c) xs ≡ true → test c ≡ true)
        → (b || list_any (λ k. k == c) xs) ≡ true → test c ≡ true
    this_or x xs true is here more e = subst (λ (k : ℕ). test k ≡ true) (eqb-true x c is) here
    this_or x xs false is here more e = more e

-- ---- methods that are entered

abbrev pub entry_test : RegProgram → ℕ → Bool
entry_test p m = option_map_or (λ (x : Method). option_map_or (λ (n : Node). n.method.0 == m) (node_at p x.entry.0) false) (method_at p m) false

pub has_entry : (p : RegProgram) (m : ℕ) → entry_test p m ≡ true → HasEntry p m
has_entry p m e =
    let method = found_by (λ (x : Method). option_map_or (λ (n : Node). n.method.0 == m) (node_at p x.entry.0) false) (method_at p m) e in
    let node = found_by (λ (n : Node). n.method.0 == m) (node_at p method.0.entry.0) method.2 in
    record { method = method.0; stands = method.1; node = node.0; entry = node.1; within = eqb-true node.0.method.0 m node.2 }

abbrev pub callee_test : RegProgram → ℕ → Bool
callee_test p m = entry_test p m && not (is_harness p m)

pub is_callee : (p : RegProgram) (m : ℕ) → callee_test p m ≡ true → IsCallee p m
is_callee p m e =
    let parts = both_hold (entry_test p m) (not (is_harness p m)) e in
    record { entry = has_entry p m parts.0; own = not_true (is_harness p m) parts.1 }

-- ---- calls

abbrev pub params_test : RegProgram → List Reg → List Reg → Bool
params_test p [] [] = true
params_test p [] (q ∷ params) = false
params_test p (a ∷ args) [] = false
params_test p (a ∷ args) (q ∷ params) = same_bool (is_ref p q.0) (is_ref p a.0) && params_test p args params

fit_parameters : (p : RegProgram) (args params : List Reg) → params_test p args params ≡ true → FitParameters p args params
fit_parameters p [] [] e = tt
fit_parameters p [] (q ∷ params) e = absurd cc
fit_parameters p (a ∷ args) [] e = absurd cc
fit_parameters p (a ∷ args) (q ∷ params) e =
    let parts = both_hold (same_bool (is_ref p q.0) (is_ref p a.0)) (params_test p args params) e in
    (same_bools (is_ref p q.0) (is_ref p a.0) parts.0, fit_parameters p args params parts.1)

abbrev pub result_test : RegProgram → Option Reg → Option Reg → Bool
result_test p None None = true
result_test p None (Some src) = false
result_test p (Some dst) None = false
result_test p (Some dst) (Some src) = same_bool (is_ref p dst.0) (is_ref p src.0)

fits_result : (p : RegProgram) (dst src : Option Reg) → result_test p dst src ≡ true → FitsResult p dst src
fits_result p None None e = tt
fits_result p None (Some src) e = absurd cc
fits_result p (Some dst) None e = absurd cc
fits_result p (Some dst) (Some src) e = same_bools (is_ref p dst.0) (is_ref p src.0) e

abbrev pub return_test : RegProgram → Option Reg → Stmt → Bool
return_test p dst (Return src) = result_test p dst src
return_test p dst _ = true

abbrev pub returns_test : RegProgram → Option Reg → ℕ → Node → Bool
returns_test p dst to node = not (node.method.0 == to) || return_test p dst node.stmt

abbrev pub callee_fits : RegProgram → Option Reg → List Reg → ℕ → Bool
callee_fits p dst args to =
    callee_test p to && (option_map_or (λ (x : Method). params_test p args x.params) (method_at p to) true && list_all (returns_test p dst to) p.nodes)

fits_callee : (p : RegProgram) (dst : Option Reg) (args : List Reg) (to : ℕ) → callee_fits p dst args to ≡ true → FitsCallee p dst args to
fits_callee p dst args to e =
    let parts = both_hold (callee_test p to) (option_map_or (λ (x : Method). params_test p args x.params) (method_at p to) true && list_all (returns_test p dst to) p.nodes) e in
    let flows = both_hold (option_map_or (λ (x : Method). params_test p args x.params) (method_at p to) true) (list_all (returns_test p dst to) p.nodes) parts.1 in
    record {
      callee = is_callee p to parts.0;
      arguments = λ method is. fit_parameters p args method.params (all_found (λ (x : Method). params_test p args x.params) (method_at p to) method flows.0 is);
      result = λ n node src stands within is.
          let all = all_tested (returns_test p dst to) p.nodes n node flows.1 stands in
          let own = tested (node.method.0 == to) (return_test p dst node.stmt) (eq-eqb node.method.0 to within) all in
          fits_result p dst src (subst (λ (x : Stmt). return_test p dst x ≡ true) is own);
    }

abbrev pub instance_test : List ClassInfo → ℕ → Bool
instance_test h m = option_map_or (λ (d : ℕ × MethodInfo). not d.1.is_static) (declared_at h m) false

instance_method : (h : List ClassInfo) (m : ℕ) → instance_test h m ≡ true → IsInstanceMethod h m
instance_method h m e =
    let found = found_by (λ (d : ℕ × MethodInfo). not d.1.is_static) (declared_at h m) e in
    record { declared = found.0; stands = found.1; instance = not_true found.0.1.is_static found.2 }

static_method : (h : List ClassInfo) (m : ℕ) → option_map_or (λ (d : ℕ × MethodInfo). d.1.is_static) (declared_at h m) false ≡ true → IsStaticMethod h m
static_method h m e =
    let found = found_by (λ (d : ℕ × MethodInfo). d.1.is_static) (declared_at h m) e in record { declared = found.0; stands = found.1; static = found.2 }

abbrev pub receiver_test : RegProgram → List Reg → Bool
receiver_test p args = option_map_or (λ (r : Reg). is_ref p r.0) (slice_get args 0) false

has_receiver : (p : RegProgram) (args : List Reg) → receiver_test p args ≡ true → HasReceiver p args
has_receiver p args e = let found = found_by (λ (r : Reg). is_ref p r.0) (slice_get args 0) e in record { receiver = found.0; first = found.1; kind = found.2 }

abbrev pub holds_test : List ClassInfo → Option MethodId → Bool
holds_test h None = true
holds_test h (Some t) = instance_test h t.0

holds_instance : (h : List ClassInfo) (t : Option MethodId) → holds_test h t ≡ true → HoldsInstanceMethod h t
holds_instance h None e = tt
holds_instance h (Some t) e = instance_method h t.0 e

abbrev pub names_test : List ClassInfo → RegProgram → CallKind → ℕ → List Reg → Bool
names_test h p Virtual m args = instance_test h m && receiver_test p args
names_test h p (Special t) m args = instance_test h m && (receiver_test p args && holds_test h t)
names_test h p Static m args = option_map_or (λ (d : ℕ × MethodInfo). d.1.is_static) (declared_at h m) false

names_method : (h : List ClassInfo) (p : RegProgram) (kind : CallKind) (m : ℕ) (args : List Reg) → names_test h p kind m args ≡ true → NamesMethod h p kind m args
names_method h p Virtual m args e =
    let parts = both_hold (instance_test h m) (receiver_test p args) e in (instance_method h m parts.0, has_receiver p args parts.1)
names_method h p (Special t) m args e =
    let parts = both_hold (instance_test h m) (receiver_test p args && holds_test h t) e in
    let more = both_hold (receiver_test p args) (holds_test h t) parts.1 in
    (instance_method h m parts.0, has_receiver p args more.0, holds_instance h t more.1)
names_method h p Static m args e = static_method h m e

-- each target on a receiver of a site of the program meets a test
abbrev pub each_target : (ℕ → Bool) → List ClassInfo → RegProgram → CallKind → ℕ → Bool
each_target test h p kind m = all_from (λ s (site : Site). option_map_or test (site_target h p kind m s) true) 0 p.sites

no_site : (h : List ClassInfo) (p : RegProgram) (kind : CallKind) (m s : ℕ) (to : ℕ) → site_at p s ≡ None → site_target h p kind m s ≡ Some to → ⊥
no_site h p kind m s to none e = let gone : site_target h p kind m s ≡ None = rw none refl in cc

pub at_target : (test : ℕ → Bool) (h : List ClassInfo) (p : RegProgram) (kind : CallKind) (m s to : ℕ) → each_target test h p kind m ≡ true → site_target h p kind m s ≡ Some to → test to ≡ true
at_target test h p kind m s to all e = by_site (site_at p s) refl
  where
    by_site : (site : Option Site) → site_at p s ≡ site → test to ≡ true
    by_site None is = absurd (no_site h p kind m s to is e)
    by_site (Some site) is =
        all_found test (site_target h p kind m s) to (at_place (λ k (x : Site). option_map_or test (site_target h p kind m k) true) p.sites s site all is) e

abbrev pub targets_test : List ClassInfo → RegProgram → Option Reg → CallKind → ℕ → List Reg → Bool
targets_test h p dst Virtual m args = each_target (callee_fits p dst args) h p Virtual m
targets_test h p dst (Special t) m args = each_target (callee_fits p dst args) h p (Special t) m
targets_test h p dst Static m args = option_map_or (callee_fits p dst args) (static_target h m) true

targets_fit : (h : List ClassInfo) (p : RegProgram) (dst : Option Reg) (kind : CallKind) (m : ℕ) (args : List Reg) → targets_test h p dst kind m args ≡ true
    → (to : ℕ) → IsTarget h p kind m to → FitsCallee p dst args to
targets_fit h p dst Virtual m args e to is = fits_callee p dst args to (at_target (callee_fits p dst args) h p Virtual m is.0 to e is.1)
targets_fit h p dst (Special t) m args e to is = fits_callee p dst args to (at_target (callee_fits p dst args) h p (Special t) m is.0 to e is.1)
targets_fit h p dst Static m args e to is = fits_callee p dst args to (all_found (callee_fits p dst args) (static_target h m) to e is)

proper_call : (h : List ClassInfo) (p : RegProgram) (dst : Option Reg) (kind : CallKind) (m : ℕ) (args : List Reg)
    → (names_test h p kind m args && targets_test h p dst kind m args) ≡ true → IsProperCall h p dst kind m args
proper_call h p dst kind m args e =
    let parts = both_hold (names_test h p kind m args) (targets_test h p dst kind m args) e in
    record { names = names_method h p kind m args parts.0; targets = targets_fit h p dst kind m args parts.1 }

-- ---- initialisers

-- each initialiser of a class and of its superclasses meets a test
abbrev pub each_initialiser : (ℕ → Bool) → List ClassInfo → ℕ → Bool
each_initialiser test h k =
    list_all (λ c. option_map_or (λ (i : MethodInfo). test i.id.0) (declared_method h (codes "<clinit>") (codes "()V") c) true) (lineage_of h k)

pub at_initialiser : (test : ℕ → Bool) (h : List ClassInfo) (k m : ℕ) → each_initialiser test h k ≡ true → IsInitialiser h k m → test m ≡ true
at_initialiser test h k m e i =
    let at = at_member (λ c. option_map_or (λ (x : MethodInfo). test x.id.0) (declared_method h (codes "<clinit>") (codes "()V") c) true) (lineage_of h k) i.class e i.above in
    subst (λ (n : ℕ). test n ≡ true) i.number (all_found (λ (x : MethodInfo). test x.id.0) (declared_method h (codes "<clinit>") (codes "()V") i.class) i.info at i.declared)

-- ---- each statement

-- numbers that the small programs name
abbrev pub is_small : ℤ → Bool
is_small (pos n) = nat_lt n 100
is_small (negsuc n) = nat_lt n 100

pub small_int : (n : ℤ) → is_small n ≡ true → IsInt n
small_int (pos n) e = let few = ltb-true n 100 e in record { low = omega (arith, ints); high = omega (arith, ints) }
small_int (negsuc n) e = let few = ltb-true n 100 e in record { low = omega (arith, ints); high = omega (arith, ints) }

abbrev pub ref_test : RegProgram → Reg → Bool
ref_test p r = is_ref p r.0

abbrev pub int_test : RegProgram → Reg → Bool
int_test p r = not (is_ref p r.0)

int_reg : (p : RegProgram) (r : Reg) → int_test p r ≡ true → IsIntReg p r
int_reg p r e = not_true (is_ref p r.0) e

-- the conditions that the small programs ask
abbrev pub condition_test : RegProgram → Condition → Bool
condition_test p (Ints relation a None) = int_test p a
condition_test p (Ints relation a (Some b)) = int_test p a && int_test p b
condition_test p (SameRef a b) = ref_test p a && ref_test p b
condition_test p (OtherRef a b) = ref_test p a && ref_test p b
condition_test p (IsNull a) = ref_test p a
condition_test p (NotNull a) = ref_test p a
condition_test p (Key a n) = int_test p a && is_small n
condition_test p (NoKey a ns) = int_test p a && list_all is_small ns

proper_condition : (p : RegProgram) (c : Condition) → condition_test p c ≡ true → IsProperCondition p c
proper_condition p (Ints relation a None) e = int_reg p a e
proper_condition p (Ints relation a (Some b)) e = let parts = both_hold (int_test p a) (int_test p b) e in (int_reg p a parts.0, int_reg p b parts.1)
proper_condition p (SameRef a b) e = both_hold (ref_test p a) (ref_test p b) e
proper_condition p (OtherRef a b) e = both_hold (ref_test p a) (ref_test p b) e
proper_condition p (IsNull a) e = e
proper_condition p (NotNull a) e = e
proper_condition p (Key a n) e = let parts = both_hold (int_test p a) (is_small n) e in (int_reg p a parts.0, small_int n parts.1)
proper_condition p (NoKey a ns) e =
    let parts = both_hold (int_test p a) (list_all is_small ns) e in (int_reg p a parts.0, all_by IsInt is_small small_int ns parts.1)

-- no number stands twice
abbrev pub distinct_test : List ℕ → Bool
distinct_test [] = true
distinct_test (x ∷ xs) = not (has xs x) && distinct_test xs

pub are_distinct : (xs : List ℕ) → distinct_test xs ≡ true → AreDistinct xs
are_distinct [] e = tt
are_distinct (x ∷ xs) e = let parts = both_hold (not (has xs x)) (distinct_test xs) e in (not_true (has xs x) parts.0, are_distinct xs parts.1)

abbrev pub pair_test : RegProgram → Reg × Reg → Bool
pair_test p m = same_bool (is_ref p m.0.0) (is_ref p m.1.0)

abbrev pub field_test : List ClassInfo → RegProgram → FieldId → Reg → Bool
field_test h p f r = same_bool (is_ref p r.0) (is_ref_field h f.0)

-- the statements that the small programs have; the others fail
abbrev pub proper_test : List ClassInfo → RegProgram → Stmt → Bool
proper_test h p Nop = true
proper_test h p (Const dst n) = int_test p dst && is_small n
proper_test h p (Null dst) = ref_test p dst
proper_test h p (Str dst site) = ref_test p dst && is_string_site p site.0
proper_test h p (Copy pairs) = list_all (pair_test p) pairs && distinct_test (map (λ m. m.0.0) pairs)
proper_test h p (Assume condition) = condition_test p condition
proper_test h p (GetStatic dst f) = field_test h p f dst && is_static_field h f.0
proper_test h p (PutStatic f src) = field_test h p f src && is_static_field h f.0
proper_test h p (GetField dst base f) = field_test h p f dst && (ref_test p base && is_instance_field h f.0)
proper_test h p (PutField base f src) = field_test h p f src && (ref_test p base && is_instance_field h f.0)
proper_test h p (GetElem dst array kind) = same_bool (is_ref p dst.0) (is_ref_elem (Some kind)) && ref_test p array
proper_test h p (PutElem array src) = ref_test p array && ref_test p src
proper_test h p (New dst site) = ref_test p dst && option_map_or (λ (k : ℕ). true) (site_class h p site.0) false
proper_test h p (NewArray dst site count) = ref_test p dst && (is_array_site p site.0 && int_test p count)
proper_test h p (Call dst kind m args) = names_test h p kind m.0 args && targets_test h p dst kind m.0 args
proper_test h p (Init k) = option_map_or (λ (i : ClassInfo). true) (slice_get h k.0) false && each_initialiser (callee_test p) h k.0
proper_test h p (Return src) = true
proper_test h p (Pick dst k) = ref_test p dst && is_launchable h k.0
proper_test h p Halt = true
proper_test h p _ = false

pub proper : (h : List ClassInfo) (p : RegProgram) (stmt : Stmt) → proper_test h p stmt ≡ true → IsProper h p stmt
proper h p Nop e = tt
proper h p (Const dst n) e = let parts = both_hold (int_test p dst) (is_small n) e in (int_reg p dst parts.0, small_int n parts.1)
proper h p (Null dst) e = e
proper h p (Str dst site) e = both_hold (ref_test p dst) (is_string_site p site.0) e
proper h p (Copy pairs) e =
    let parts = both_hold (list_all (pair_test p) pairs) (distinct_test (map (λ m. m.0.0) pairs)) e in (
      all_by (λ m. is_ref p m.0.0 ≡ is_ref p m.1.0) (pair_test p) (λ m. same_bools (is_ref p m.0.0) (is_ref p m.1.0)) pairs parts.0,
      are_distinct (map (λ m. m.0.0) pairs) parts.1,
    )
proper h p (Assume condition) e = proper_condition p condition e
proper h p (GetStatic dst f) e =
    let parts = both_hold (field_test h p f dst) (is_static_field h f.0) e in (same_bools (is_ref p dst.0) (is_ref_field h f.0) parts.0, parts.1)
proper h p (PutStatic f src) e =
    let parts = both_hold (field_test h p f src) (is_static_field h f.0) e in (same_bools (is_ref p src.0) (is_ref_field h f.0) parts.0, parts.1)
proper h p (GetField dst base f) e =
    let parts = both_hold (field_test h p f dst) (ref_test p base && is_instance_field h f.0) e in
    let more = both_hold (ref_test p base) (is_instance_field h f.0) parts.1 in (same_bools (is_ref p dst.0) (is_ref_field h f.0) parts.0, more.0, more.1)
proper h p (PutField base f src) e =
    let parts = both_hold (field_test h p f src) (ref_test p base && is_instance_field h f.0) e in
    let more = both_hold (ref_test p base) (is_instance_field h f.0) parts.1 in (same_bools (is_ref p src.0) (is_ref_field h f.0) parts.0, more.0, more.1)
proper h p (GetElem dst array kind) e =
    let parts = both_hold (same_bool (is_ref p dst.0) (is_ref_elem (Some kind))) (ref_test p array) e in
    (same_bools (is_ref p dst.0) (is_ref_elem (Some kind)) parts.0, parts.1)
proper h p (PutElem array src) e = both_hold (ref_test p array) (ref_test p src) e
proper h p (New dst site) e =
    let parts = both_hold (ref_test p dst) (option_map_or (λ (k : ℕ). true) (site_class h p site.0) false) e in
    let found = found_by (λ (k : ℕ). true) (site_class h p site.0) parts.1 in (parts.0, (found.0, found.1))
proper h p (NewArray dst site count) e =
    let parts = both_hold (ref_test p dst) (is_array_site p site.0 && int_test p count) e in
    let more = both_hold (is_array_site p site.0) (int_test p count) parts.1 in (parts.0, more.0, int_reg p count more.1)
proper h p (Call dst kind m args) e = proper_call h p dst kind m.0 args e
proper h p (Init k) e =
    let parts = both_hold (option_map_or (λ (i : ClassInfo). true) (slice_get h k.0) false) (each_initialiser (callee_test p) h k.0) e in
    let found = found_by (λ (i : ClassInfo). true) (slice_get h k.0) parts.0 in
    ((found.0, found.1), λ m is. is_callee p m (at_initialiser (callee_test p) h k.0 m parts.1 is))
proper h p (Return src) e = tt
proper h p (Pick dst k) e = both_hold (ref_test p dst) (is_launchable h k.0) e
proper h p Halt e = tt
proper h p _ e = absurd cc

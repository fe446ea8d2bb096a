-- Control stays within the code of each class file.
use Rattle.std.proofs.Common.{◌≡◌, ℕ, zero, suc, ◌+◌, ◌*◌, ◌<◌, ◌≤◌, ◌==◌, ltb, ◌&&◌, ◌||◌, Bool, true, false, cond, List, [], ◌∷◌, ◌++◌, length, map, take, drop, get_or, Option, None, Some, Result, Ok, Err, Contains, refl, sym, ap, subst, ◌∙◌, arith}
use Rattle.std.specs.Prelude.{nat_lt, nat_le, if◌then◌else◌}
use Rattle.std.specs.List.{flat_map, list_all}
use Rattle.std.specs.Option.{option_and_then, option_map}
use Rattle.std.proofs.lemmas.List.{length-take}
use Rattle.std.proofs.lemmas.Bool.{and_parts, eqb-true, ltb-true, ltb-false}
use Rattle.th_base.specs.IdSet.{has}
use Rattle.th_base.proofs.Membership.{has-from_Contains}
use Rattle.th_syntax.specs.declared.cause.TheConstants as cause
use Rattle.th_syntax.specs.declared.limit.TheConstants.{MOST_CODE_BYTES}
use Rattle.th_syntax.specs.declared.class_file.ClassFile.{ClassFile}
use Rattle.th_syntax.specs.declared.class_file.Member.{Member}
use Rattle.th_syntax.specs.declared.class_file.Code.{Code}
use Rattle.th_syntax.specs.declared.instr.Instr.{Instr}
use Rattle.th_syntax.specs.declared.instr.Instr.TheVariants.{Return}
use Rattle.th_syntax.specs.Program.{empty_method, empty_constructor, empty_handler, built_in_classes}
use Rattle.th_base.specs.Handlers.{Handler, handlers, takes_bundle}
use Rattle.th_base.specs.declared.built_in.TheConstants.{CONSTRUCTOR}
use Rattle.th_base.specs.declared.handler.TheConstants.{TAKES_NOTHING}
use Rattle.th_syntax.specs.declared.refusal.Flaw.{Flaw}
use Rattle.th_syntax.specs.Flaws.{flaw_at, unless}
use Rattle.th_syntax.specs.Forms.{Placed, Found, Stands, read, whole}
use Rattle.th_syntax.specs.ClassBytes.{Pool, Attribute, RawMember, RawClass, RawCode, u2, u4, run, counted, attribute, code as code_form}
use Rattle.th_syntax.specs.CodeBytes.{instr, instruction}
use Rattle.th_syntax.specs.PoolChecks.{utf8_of, class_of}
use Rattle.th_syntax.specs.Decoding.{is_start, offset_behind, flows_well, flow_flaws_from, flow_flaws, or_else, flaws_in, code_flaws, instrs_in, AreSpelled, none, more}
use Rattle.th_syntax.specs.Checks.{native_flaws, interface_code_flaws, method_code_flaws, raw_code_flaws, again_flaws, method_flaws, constant_flaws, codes_of, whole_of, raw_code, fourth_pass}
use Rattle.th_syntax.specs.ClassGrammar.{all_there, code_value, code_among, member_with, named, method_value, super_value, interface_values, field_values, method_values, class_file_of, IsClassFile}
use Rattle.th_syntax.specs.Flow.{leads_to}
use Rattle.th_syntax.proofs.Reading.{stands_read}
use Rattle.th_syntax.proofs.ReadingParts.{read_split, whole_found}
use Rattle.th_syntax.proofs.Spelling.{instruction_ahead, flawless_spelled}
use Rattle.th_kinds.specs.Flowing.{line, jumps, FlowsWell}
use Rattle.th_kinds.proofs.Leading.{jump_leads}

-- ---- values that are there

and_then_some : {A B : Type 0} (f : A → Option B) (o : Option A) (v : B) → option_and_then f o ≡ Some v → (x : A) × (o ≡ Some x) × (f x ≡ Some v)
and_then_some f None v e = absurd cc
and_then_some f (Some x) v e = (x, refl, e)

map_some : {A B : Type 0} (f : A → B) (o : Option A) (v : B) → option_map f o ≡ Some v → (x : A) × (o ≡ Some x) × (f x ≡ v)
map_some f None v e = absurd cc
map_some f (Some x) v e = (x, refl, cc)

append_none : {A : Type 0} (xs ys : List A) → xs ++ ys ≡ [] → (xs ≡ []) × (ys ≡ [])
append_none [] ys e = (refl, e)
append_none (x ∷ xs) ys e = absurd cc

-- ---- offsets ascend

first_offset : (pool : Pool) (pc : ℕ) (bytes : List ℕ) (instrs : List (ℕ × Instr)) → AreSpelled pool pc bytes instrs → 0 < length bytes → (0 < length instrs) × ((line instrs 0).0 ≡ pc)
first_offset pool pc bytes instrs none some = absurd (omega arith)
first_offset pool pc bytes instrs (more {pc = at} {bytes = front} i behind others rest stands later) some = (omega arith, refl)

ahead : (pool : Pool) (at : ℕ) (front : List ℕ) (i : Instr) (behind : ℕ) (others : List ℕ) → Stands (instruction pool) at front (instr i) behind others → at + 1 ≤ behind
ahead pool at front i behind others stands = instruction_ahead pool at front (instr i, behind, others) (stands_read (instruction pool) at front (instr i) behind others stands)

from_offset : (pool : Pool) (pc : ℕ) (bytes : List ℕ) (instrs : List (ℕ × Instr)) → AreSpelled pool pc bytes instrs → (k : ℕ) → k < length instrs → pc ≤ (line instrs k).0
from_offset pool pc bytes instrs none k inside = absurd (omega arith)
from_offset pool pc bytes instrs (more {pc = at} {bytes = front} i behind others rest stands later) zero inside = omega arith
from_offset pool pc bytes instrs (more {pc = at} {bytes = front} i behind others rest stands later) (suc k) inside =
    let next = ahead pool at front i behind others stands in let beyond = from_offset pool behind others rest later k (omega arith) in omega arith

ascend : (pool : Pool) (pc : ℕ) (bytes : List ℕ) (instrs : List (ℕ × Instr)) → AreSpelled pool pc bytes instrs → (j k : ℕ) → j < k → k < length instrs → (line instrs j).0 < (line instrs k).0
ascend pool pc bytes instrs none j k below inside = absurd (omega arith)
ascend pool pc bytes instrs (more {pc = at} {bytes = front} i behind others rest stands later) j zero below inside = absurd (omega arith)
ascend pool pc bytes instrs (more {pc = at} {bytes = front} i behind others rest stands later) zero (suc k) below inside =
    let next = ahead pool at front i behind others stands in let beyond = from_offset pool behind others rest later k (omega arith) in omega arith
ascend pool pc bytes instrs (more {pc = at} {bytes = front} i behind others rest stands later) (suc j) (suc k) below inside = ascend pool behind others rest later j k (omega arith) (omega arith)

-- ---- jumps land on instructions

unless_none : (b : Bool) (flaw : Flaw) → unless b flaw ≡ [] → b ≡ true
unless_none true flaw e = refl
unless_none false flaw e = absurd cc

all_by : (p : ℕ → Bool) (x y : ℕ) (xs : List ℕ) (b : Bool) → (x == y) ≡ b → p x ≡ true → (has xs y ≡ true → p y ≡ true) → (b || has xs y) ≡ true → p y ≡ true
all_by p x y xs true is here rest e = ap p (sym (eqb-true x y is)) ∙ here
all_by p x y xs false is here rest e = rest e

all_has : (p : ℕ → Bool) (xs : List ℕ) (y : ℕ) → list_all p xs ≡ true → has xs y ≡ true → p y ≡ true
all_has p [] y all e = absurd cc
all_has p (x ∷ xs) y all e = let parts = and_parts (p x) (list_all p xs) all in all_by p x y xs (x == y) refl parts.0 (all_has p xs y parts.1) e

start_at : (instrs : List (ℕ × Instr)) (at : ℕ) (rest : List (ℕ × Instr)) → flow_flaws_from instrs at rest ≡ [] → (k to : ℕ) → k < length rest → Contains (jumps (line rest k).1) to → is_start instrs to ≡ true
start_at instrs at [] e k to inside jump = absurd (omega arith)
start_at instrs at (one ∷ later) e zero to inside jump =
    let parts = append_none (unless (flows_well instrs later one.1) (flaw_at cause.CODE_SHAPE (at + one.0))) (flow_flaws_from instrs at later) e in
    all_has (is_start instrs) (leads_to (offset_behind later ∷ []) one.1) to (unless_none (flows_well instrs later one.1) (flaw_at cause.CODE_SHAPE (at + one.0)) parts.0)
    (jump_leads (offset_behind later ∷ []) one.1 to (has-from_Contains (jumps one.1) to jump))
start_at instrs at (one ∷ later) e (suc k) to inside jump =
    start_at instrs at later (append_none (unless (flows_well instrs later one.1) (flaw_at cause.CODE_SHAPE (at + one.0))) (flow_flaws_from instrs at later) e).1 k to (omega arith) jump

starts_by : (i : ℕ × Instr) (instrs : List (ℕ × Instr)) (to : ℕ) (b : Bool) → (i.0 == to) ≡ b → (b || is_start instrs to) ≡ true
    → (is_start instrs to ≡ true → (j : ℕ) × (j < length instrs) × ((line instrs j).0 ≡ to)) → (j : ℕ) × (j < length (i ∷ instrs)) × ((line (i ∷ instrs) j).0 ≡ to)
starts_by i instrs to true is e later = (0, omega arith, eqb-true i.0 to is)
starts_by i instrs to false is e later = let there = later e in (suc there.0, (let inside = there.1 in omega arith), there.2)

starts : (instrs : List (ℕ × Instr)) (to : ℕ) → is_start instrs to ≡ true → (j : ℕ) × (j < length instrs) × ((line instrs j).0 ≡ to)
starts [] to e = absurd cc
starts (i ∷ instrs) to e = starts_by i instrs to (i.0 == to) refl e (starts instrs to)

-- ---- code without flaws

or_none : (flaws flow : List Flaw) → or_else flaws flow ≡ [] → flow ≡ []
or_none [] flow e = e
or_none (flaw ∷ flaws) flow e = absurd cc

flawless_flows : (pool : Pool) (max_locals at : ℕ) (bytes : List ℕ) → 0 < length bytes → flaws_in pool max_locals at bytes ≡ [] → FlowsWell (instrs_in pool bytes)
unfolding flaws_in flow_flaws instrs_in
flawless_flows pool max_locals at bytes some e =
    let spelled : AreSpelled pool 0 bytes (instrs_in pool bytes) = flawless_spelled pool max_locals at bytes e in
    let begin = first_offset pool 0 bytes (instrs_in pool bytes) spelled some in
    let flow : flow_flaws_from (instrs_in pool bytes) at (instrs_in pool bytes) ≡ [] = or_none _ (flow_flaws at (instrs_in pool bytes)) e in
    record {
      some = begin.0;
      first = begin.1;
      ascending = ascend pool 0 bytes (instrs_in pool bytes) spelled;
      jumps_in = λ k to inside jump. starts (instrs_in pool bytes) to (start_at (instrs_in pool bytes) at (instrs_in pool bytes) flow k to inside jump);
    }

-- ---- a code array is as long as it says

passed : {A : Type 0} (b : Bool) (flaw : Flaw) (x y : A) → cond b (Err flaw) (Ok x) ≡ (let r : Result A Flaw = Ok y in r) → (b ≡ false) × (x ≡ y)
passed true flaw x y e = absurd cc
passed false flaw x y e = (refl, cc)

run_long : (n at : ℕ) (bytes : List ℕ) (found : Found (Placed (List ℕ))) → read (run n) at bytes ≡ Ok found → length found.0.value ≡ n
unfolding read run
run_long n at bytes found e =
    let made : Found (Placed (List ℕ)) = (record { at = at; value = take n bytes }, at + n, drop n bytes) in
    let t = passed (ltb (length bytes) n) (flaw_at cause.TRUNCATED at) made found e in
    let long : n ≤ length bytes = ltb-false (length bytes) n t.0 in
    let len : length (take n bytes) ≡ n = omega (arith, length-take n bytes) in
    ap (λ (f : Found (Placed (List ℕ))). length f.0.value) (sym t.1) ∙ len

code_long : (at : ℕ) (bytes : List ℕ) (found : Found RawCode) → read code_form at bytes ≡ Ok found → length found.0.bytes.value ≡ found.0.length.value
unfolding code_form
code_long at bytes found e =
    let stack = read_split u2 _ at bytes found e in
    let locals = read_split u2 _ stack.0.1 stack.0.2 found stack.2 in
    let len = read_split u4 _ locals.0.1 locals.0.2 found locals.2 in
    let held = read_split (run len.0.0.value) _ len.0.1 len.0.2 found len.2 in
    let handlers = read_split u2 _ held.0.1 held.0.2 found held.2 in
    let table = read_split (run (8 * handlers.0.0.value)) _ handlers.0.1 handlers.0.2 found handlers.2 in
    let made : RawCode = record { max_stack = stack.0.0.value; max_locals = locals.0.0.value; length = len.0.0; bytes = held.0.0; handlers = handlers.0.0.value } in
    let attributes = read_split (counted attribute) (λ attributes. whole made) table.0.1 table.0.2 found table.2 in
    let w = whole_found made attributes.0.1 attributes.0.2 found attributes.2 in
    subst (λ (r : RawCode). length r.bytes.value ≡ r.length.value) (sym w.0) (run_long len.0.0.value len.0.1 len.0.2 held.0 held.1)

if_none : (b : Bool) (flaws : List Flaw) (flaw : Flaw) → cond b flaws (flaw ∷ []) ≡ [] → (b ≡ true) × (flaws ≡ [])
if_none true flaws flaw e = (refl, e)
if_none false flaws flaw e = absurd cc

whole_by : (found : Found RawCode) (raw : RawCode) (b : Bool) → (let o : Option RawCode = cond b (Some found.0) None in o) ≡ Some raw → found.0 ≡ raw
whole_by found raw true e = cc
whole_by found raw false e = absurd cc

whole_read : (r : Result (Found RawCode) Flaw) (raw : RawCode) → whole_of r ≡ Some raw → (found : Found RawCode) × (r ≡ Ok found) × (found.0 ≡ raw)
whole_read (Err flaw) raw e = absurd cc
whole_read (Ok found) raw e = (found, refl, whole_by found raw (length found.2 == 0) e)

raw_flows : (pool : Pool) (a : Attribute) (raw : RawCode) → raw_code a ≡ Some raw → code_flaws pool raw ≡ [] → FlowsWell (instrs_in pool raw.bytes.value)
unfolding raw_code code_flaws
raw_flows pool a raw is e =
    let parts = if_none (nat_lt 0 raw.length.value && nat_le raw.length.value MOST_CODE_BYTES) (flaws_in pool raw.max_locals raw.bytes.at raw.bytes.value) (flaw_at cause.CODE_SHAPE raw.length.at) e in
    let positive : 0 < raw.length.value = ltb-true 0 raw.length.value (and_parts (nat_lt 0 raw.length.value) (nat_le raw.length.value MOST_CODE_BYTES) parts.0).0 in
    let found = whole_read (read code_form a.content.at a.content.value) raw is in
    let long : length raw.bytes.value ≡ raw.length.value = subst (λ (r : RawCode). length r.bytes.value ≡ r.length.value) found.2 (code_long a.content.at a.content.value found.0 found.1) in
    flawless_flows pool raw.max_locals raw.bytes.at raw.bytes.value (omega arith) parts.1

-- ---- methods

abbrev pub MethodFlows : Member → Type 0
MethodFlows m = (code : Code) → m.code ≡ Some code → FlowsWell code.instrs

code_flows : (pool : Pool) (attributes : List Attribute) (code : Code) → method_code_flaws pool attributes ≡ [] → code_among pool attributes ≡ Some (Some code) → FlowsWell code.instrs
code_flows pool [] code e is = absurd cc
code_flows pool (first ∷ others) code e is =
    let raw = map_some (λ (r : RawCode). let o : Option Code = Some (code_value pool r) in o) (raw_code first) (Some code) is in
    let value : code_value pool raw.0 ≡ code = let same = raw.2 in cc in
    let flaws : code_flaws pool raw.0 ≡ [] = ap (raw_code_flaws pool first.name.at) (sym raw.1) ∙ (append_none (raw_code_flaws pool first.name.at (raw_code first)) (again_flaws others) e).0 in
    subst (λ (x : Code). FlowsWell x.instrs) value (raw_flows pool first raw.0 raw.1 flaws)

method_flows : (c : RawClass) (raw : RawMember) (m : Member) → method_flaws c raw ≡ [] → method_value c.pool raw ≡ Some m → MethodFlows m
method_flows c raw m e is code coded =
    let outer = and_then_some (λ (o : Option Code). named c.pool raw None o) (code_among c.pool (codes_of c.pool raw)) m is in
    let name = and_then_some (λ (name : List ℕ). option_map (λ (descriptor : List ℕ). member_with raw None outer.0 name descriptor) (utf8_of c.pool raw.descriptor.value)) (utf8_of c.pool raw.name.value) m outer.2 in
    let descriptor = map_some (λ (descriptor : List ℕ). member_with raw None outer.0 name.0 descriptor) (utf8_of c.pool raw.descriptor.value) m name.2 in
    let same : outer.0 ≡ m.code = ap (λ (x : Member). x.code) descriptor.2 in
    let rest = (append_none (native_flaws raw) (interface_code_flaws c raw ++ method_code_flaws c.pool (codes_of c.pool raw)) e).1 in
    code_flows c.pool (codes_of c.pool raw) code (append_none (interface_code_flaws c raw) (method_code_flaws c.pool (codes_of c.pool raw)) rest).1
    (outer.1 ∙ ap (λ (o : Option Code). let oo : Option (Option Code) = Some o in oo) (same ∙ coded))

abbrev pub AllFlow : List Member → Type 0
AllFlow [] = Unit {0}
AllFlow (m ∷ ms) = MethodFlows m × AllFlow ms

all_flow_by : (c : RawClass) (raw : RawMember) (raws : List RawMember) (ms : List Member) (o : Option Member) → method_value c.pool raw ≡ o → method_flaws c raw ≡ [] → all_there (o ∷ map (method_value c.pool) raws) ≡ Some ms
    → ((rest : List Member) → all_there (map (method_value c.pool) raws) ≡ Some rest → AllFlow rest) → AllFlow ms
all_flow_by c raw raws ms None is e there later = absurd cc
all_flow_by c raw raws ms (Some m) is e there later =
    let rest = map_some (λ (xs : List Member). m ∷ xs) (all_there (map (method_value c.pool) raws)) ms there in
    subst AllFlow rest.2 (method_flows c raw m e is, later rest.0 rest.1)

all_flow : (c : RawClass) (raws : List RawMember) (ms : List Member) → flat_map (method_flaws c) raws ≡ [] → all_there (map (method_value c.pool) raws) ≡ Some ms → AllFlow ms
all_flow c [] ms e there = let same : [] ≡ ms = cc in subst AllFlow same tt
all_flow c (raw ∷ raws) ms e there =
    let parts = append_none (method_flaws c raw) (flat_map (method_flaws c) raws) e in
    all_flow_by c raw raws ms (method_value c.pool raw) refl parts.0 there (λ rest. all_flow c raws rest parts.1)

class_methods : (c : RawClass) (value : ClassFile) → class_file_of c ≡ Some value → method_values c ≡ Some value.methods
unfolding class_file_of
class_methods c value e =
    let name = and_then_some _ (class_of c.pool c.this_class.value) value e in
    let super = and_then_some _ (super_value c) value name.2 in
    let interfaces = and_then_some _ (interface_values c) value super.2 in
    let fields = and_then_some _ (field_values c) value interfaces.2 in
    let methods = map_some _ (method_values c) value fields.2 in
    methods.1 ∙ ap (λ (v : ClassFile). let o : Option (List Member) = Some v.methods in o) methods.2

flow_there : (ms : List Member) → AllFlow ms → (i : ℕ) (d : Member) → i < length ms → MethodFlows (get_or ms i d)
flow_there [] all i d inside = absurd (omega arith)
flow_there (m ∷ ms) all zero d inside = all.0
flow_there (m ∷ ms) all (suc i) d inside = flow_there ms all.1 i d (omega arith)

pub flows_in : (ms : List Member) → AllFlow ms → (m : Member) → Contains ms m → MethodFlows m
flows_in ms all m there = subst MethodFlows there.2 (flow_there ms all there.0 m there.1)

pub class_flows : (bytes : List ℕ) (value : ClassFile) → IsClassFile bytes value → AllFlow value.methods
unfolding fourth_pass
class_flows bytes value is =
    all_flow is.class is.class.methods value.methods
    (append_none (flat_map (constant_flaws is.class.pool) is.class.fields) (flat_map (method_flaws is.class) is.class.methods) is.content).1
    (class_methods is.class value is.stands_for)

-- ---- built-in classes

no_jump : (k to : ℕ) → k < 1 → Contains (jumps (line ((0, Return) ∷ []) k).1) to → ⊥
no_jump zero to inside jump = let there : jump.0 < 0 = jump.1 in omega arith
no_jump (suc k) to inside jump = omega arith

return_flows : FlowsWell ((0, Return) ∷ [])
return_flows = record {
  some = omega arith;
  first = refl;
  ascending = λ j k below inside. absurd (omega arith);
  jumps_in = λ k to inside jump. absurd (no_jump k to inside jump);
}

empty_flows : (name descriptor : List ℕ) (locals : ℕ) → MethodFlows (empty_method name descriptor locals)
empty_flows name descriptor locals code e =
    let empty : Code = record { max_stack = 0; max_locals = locals; instrs = (0, Return) ∷ []; handlers = 0 } in
    let same : empty ≡ code = cc in subst (λ (x : Code). FlowsWell x.instrs) same return_flows

handlers_flow : (hs : List Handler) → AllFlow (map empty_handler hs)
handlers_flow [] = tt
handlers_flow (h ∷ hs) = (empty_flows h.name h.descriptor (if takes_bundle h then 2 else 1), handlers_flow hs)

AllClassesFlow : List ClassFile → Type 0
AllClassesFlow [] = Unit {0}
AllClassesFlow (c ∷ cs) = AllFlow c.methods × AllClassesFlow cs

classes_flow : (cs : List ClassFile) → AllClassesFlow cs → (i : ℕ) (d : ClassFile) → i < length cs → AllFlow (get_or cs i d).methods
unfolding AllClassesFlow
classes_flow [] all i d inside = absurd (omega arith)
classes_flow (c ∷ cs) all zero d inside = all.0
classes_flow (c ∷ cs) all (suc i) d inside = classes_flow cs all.1 i d (omega arith)

constructor_flows : AllFlow (empty_constructor ∷ [])
constructor_flows = (empty_flows CONSTRUCTOR.now TAKES_NOTHING.now 1, tt)

all_built_in : AllClassesFlow built_in_classes
unfolding AllClassesFlow
all_built_in = (
  constructor_flows,
  (
    constructor_flows,
    (
      constructor_flows,
      (
        constructor_flows,
        (
          constructor_flows,
          (
            constructor_flows,
            (
              tt,
              (
                tt,
                (
                  constructor_flows,
                  (
                    constructor_flows,
                    ((empty_flows CONSTRUCTOR.now TAKES_NOTHING.now 1, handlers_flow handlers), tt),
                  ),
                ),
              ),
            ),
          ),
        ),
      ),
    ),
  ),
)

pub built_in_flow : (c : ClassFile) → Contains built_in_classes c → AllFlow c.methods
built_in_flow c there = subst (λ (x : ClassFile). AllFlow x.methods) there.2 (classes_flow built_in_classes all_built_in there.0 c there.1)

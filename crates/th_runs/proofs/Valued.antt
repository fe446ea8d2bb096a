-- What class files of the grammar have: closed code whose instructions name members by descriptors of the
-- profile, constants of the types of their fields, and interfaces without code but `<clinit>`.
use Rattle.std.proofs.Common.{◌≡◌, ℕ, zero, suc, ◌+◌, ◌*◌, ◌<◌, ◌≤◌, ◌==◌, inl, inr, ◌&&◌, not, Bool, true, false, if◌then◌else◌, List, [], ◌∷◌, Option, None, Some, refl, sym, ap, subst, ◌∙◌, arith}
use Rattle.std.specs.Prelude.{ℤ, reverse, unwrap_or, slice_get, nat_le, nat_lt, length, map, take, drop, codes, Result, Ok, Err}
use Rattle.std.specs.List.{AllByRecursion, flat_map, filter_map}
use Rattle.std.specs.Option.{option_and_then, option_map, option_map_or}
use Rattle.std.specs.Str.{bytes_eq}
use Rattle.std.proofs.lemmas.Bool.{leb-true, ltb-true, ltb-false, lt-ltb}
use Rattle.std.proofs.lemmas.List.{length-take}
use Rattle.th_syntax.specs.declared.class_file.ClassFile.{ClassFile}
use Rattle.th_syntax.specs.declared.class_file.Code.{Code}
use Rattle.th_syntax.specs.declared.class_file.Constant.{Constant}
use Rattle.th_syntax.specs.declared.class_file.Constant.TheVariants as constant
use Rattle.th_syntax.specs.declared.class_file.Member.{Member}
use Rattle.th_syntax.specs.declared.cause.TheConstants as cause
use Rattle.th_syntax.specs.Flaws.{flaw_at}
use Rattle.th_syntax.specs.declared.flags.TheConstants.{ACC_STATIC, ACC_INTERFACE}
use Rattle.th_syntax.specs.declared.instr.TheConstants.{OUTSIDE}
use Rattle.th_syntax.specs.declared.limit.TheConstants.{MOST_CODE_BYTES}
use Rattle.th_syntax.specs.declared.instr.Instr.{Instr}
use Rattle.th_syntax.specs.declared.refusal.Flaw.{Flaw}
use Rattle.th_syntax.specs.Flags.{has_flag, is_interface}
use Rattle.th_syntax.specs.WellFormed.{is_class_initialiser}
use Rattle.th_syntax.specs.declared.kind.SlotKind.{SlotKind}
use Rattle.th_syntax.specs.declared.machine.Value.{Value}
use Rattle.th_syntax.specs.declared.machine.Value.TheVariants.{Null as NullValue, Address}
use Rattle.th_syntax.specs.KindRows.{int, long, ref}
use Rattle.th_syntax.specs.Slots.{pushed}
use Rattle.th_syntax.specs.Strings.{string_number_of}
use Rattle.th_syntax.specs.Forms.{whole, Placed, Found, number_of, read}
use Rattle.th_syntax.specs.ClassBytes.{Pool, Attribute, RawMember, RawClass, RawCode, run, u2, u4, counted, attribute, code}
use Rattle.th_syntax.specs.PoolChecks.{utf8_of, class_of, integer_of, long_of, string_of}
use Rattle.th_syntax.specs.Descriptors.{FieldType, byte_type, char_type, double_type, float_type, int_type, long_type, short_type, boolean_type, class_type, array_type, type_bytes, field_type_of}
use Rattle.th_syntax.specs.Decoding.{instrs_in, instr_flaw, decoded, flow_flaws, flow_flaws_from, or_else, flaws_in, code_flaws}
use Rattle.th_syntax.specs.Checks.{constant_values, codes_of, constant_in, type_of_field, constant_of, whole_of, raw_code, raw_code_flaws, method_code_flaws, native_flaws, is_class_initialiser_at, has_code, interface_code_flaws, method_flaws, constant_flaws, fourth_pass}
use Rattle.th_syntax.specs.ClassGrammar.{all_there, code_value, code_among, constant_among, constant_of_field, member_with, named, field_value, method_value, super_value, interface_values, field_values, method_values, class_file_of, IsClassFile}
use Rattle.th_syntax.specs.Initial.{constant_value}
use Rattle.th_syntax.proofs.Inverting.{some_is, and_then_some, map_some}
use Rattle.th_syntax.proofs.ReadingParts.{read_split, whole_found}
use Rattle.th_syntax.proofs.Spelling.{flawless_spelled}
use Rattle.th_runs.specs.Fitting.{AreOfKinds, type_slots, IsOfType}
use Rattle.th_runs.specs.Sound.{IsClosed}
use Rattle.th_runs.proofs.Above.{nil_left, nil_right, unless_nil, nil_at}
use Rattle.th_runs.proofs.Spelt.{ok_is, IsWellNamed, spelled_fine}
use Rattle.th_runs.proofs.Closing.{closed_code}

-- ---- members as they are read

there_at : {A : Type 0} (xs : List (Option A)) (ys : List A) (j : ℕ) (y : A) → all_there xs ≡ Some ys → slice_get ys j ≡ Some y → slice_get xs j ≡ Some (Some y)
there_at [] ys j y e at = absurd (let none : [] ≡ ys = some_is [] ys e in let h : slice_get [] j ≡ Some y = ap (λ zs. slice_get zs j) none ∙ at in cc)
there_at (None ∷ xs) ys j y e at = absurd cc
there_at (Some x ∷ xs) ys j y e at =
    let rest = map_some (λ zs. x ∷ zs) (all_there xs) ys e in
    there_by x xs rest.0 j y (ap (λ zs. slice_get zs j) rest.2 ∙ at) (λ k. there_at xs rest.0 k y rest.1)
  where
    there_by : {A : Type 0} (x : A) (xs : List (Option A)) (zs : List A) (j : ℕ) (y : A) → slice_get (x ∷ zs) j ≡ Some y → ((k : ℕ) → slice_get zs k ≡ Some y → slice_get xs k ≡ Some (Some y)) → slice_get (Some x ∷ xs) j ≡ Some (Some y)
    there_by x xs zs zero y at rest = ap (λ z. Some (Some z)) (some_is x y at)
    there_by x xs zs (suc j) y at rest = rest j at

mapped_from : {A B : Type 0} (f : A → B) (xs : List A) (j : ℕ) (y : B) → slice_get (map f xs) j ≡ Some y → (x : A) × (slice_get xs j ≡ Some x) × (f x ≡ y)
mapped_from f [] j y e = absurd cc
mapped_from f (x ∷ xs) zero y e = (x, refl, some_is (f x) y e)
mapped_from f (x ∷ xs) (suc j) y e = mapped_from f xs j y e

-- the raw members of a class file
record IsReadAs (raw : RawClass) (c : ClassFile) : Type 0 where
  fields : field_values raw ≡ Some c.fields
  methods : method_values raw ≡ Some c.methods
  access : raw.access.value ≡ c.access

read_as : (raw : RawClass) (c : ClassFile) → class_file_of raw ≡ Some c → IsReadAs raw c
unfolding class_file_of
read_as raw c e =
    let name = and_then_some _ (class_of raw.pool raw.this_class.value) c e in
    let super_name = and_then_some _ (super_value raw) c name.2 in
    let interfaces = and_then_some _ (interface_values raw) c super_name.2 in
    let fields = and_then_some _ (field_values raw) c interfaces.2 in
    let methods = map_some _ (method_values raw) c fields.2 in
    record {
      fields = fields.1 ∙ ap (λ (x : ClassFile). Some x.fields) methods.2;
      methods = methods.1 ∙ ap (λ (x : ClassFile). Some x.methods) methods.2;
      access = ap (λ (x : ClassFile). x.access) methods.2;
    }

-- a member under its names
record IsNamed (pool : Pool) (raw : RawMember) (k : Option Constant) (co : Option Code) (m : Member) : Type 0 where
  access : raw.access.value ≡ m.access
  name : utf8_of pool raw.name.value ≡ Some m.name
  descriptor : utf8_of pool raw.descriptor.value ≡ Some m.descriptor
  constant : k ≡ m.constant
  code : co ≡ m.code

named_as : (pool : Pool) (raw : RawMember) (k : Option Constant) (co : Option Code) (m : Member) → named pool raw k co ≡ Some m → IsNamed pool raw k co m
named_as pool raw k co m e =
    let name = and_then_some (λ (n : List ℕ). option_map (λ (d : List ℕ). member_with raw k co n d) (utf8_of pool raw.descriptor.value)) (utf8_of pool raw.name.value) m e in
    let descriptor = map_some (λ (d : List ℕ). member_with raw k co name.0 d) (utf8_of pool raw.descriptor.value) m name.2 in
    let same = descriptor.2 in
    record {
      access = ap (λ (x : Member). x.access) same;
      name = name.1 ∙ ap (λ (x : Member). Some x.name) same;
      descriptor = descriptor.1 ∙ ap (λ (x : Member). Some x.descriptor) same;
      constant = ap (λ (x : Member). x.constant) same;
      code = ap (λ (x : Member). x.code) same;
    }

-- ---- code

record IsCodeOf (pool : Pool) (k : Code) (raw : RawCode) (attributes : List Attribute) : Type 0 where
  first : Attribute
  others : List Attribute
  listed : attributes ≡ first ∷ others
  read_it : raw_code first ≡ Some raw
  is : code_value pool raw ≡ k

code_of_by : (pool : Pool) (attributes : List Attribute) (k : Code) → code_among pool attributes ≡ Some (Some k) → (raw : RawCode) × IsCodeOf pool k raw attributes
code_of_by pool [] k e = absurd cc
code_of_by pool (first ∷ others) k e =
    let raw = map_some (λ (r : RawCode). let o : Option Code = Some (code_value pool r) in o) (raw_code first) (Some k) e in
    (raw.0, record { first = first; others = others; listed = refl; read_it = raw.1; is = some_is _ k raw.2 })

take_size : {A : Type 0} (n : ℕ) (xs : List A) → n ≤ length xs → length (take n xs) ≡ n
take_size n xs less = omega (arith, length-take n xs)

-- as many bytes as it says
size_by : (n at : ℕ) (bytes : List ℕ) (found : Found (Placed (List ℕ))) (flaw : Flaw) (b : Bool) → nat_lt (length bytes) n ≡ b
    → (if b then Err flaw else (let r : Result (Found (Placed (List ℕ))) Flaw = Ok (record { at = at; value = take n bytes }, at + n, drop n bytes) in r)) ≡ Ok found → length found.0.value ≡ n
size_by n at bytes found flaw true is h = absurd cc
size_by n at bytes found flaw false is h =
    let made : Found (Placed (List ℕ)) = (record { at = at; value = take n bytes }, at + n, drop n bytes) in
    let same : made ≡ found = ok_is made found h in
    subst (λ (f : Found (Placed (List ℕ))). length f.0.value ≡ n) same (take_size n bytes (ltb-false (length bytes) n is))

run_size : (n at : ℕ) (bytes : List ℕ) (found : Found (Placed (List ℕ))) → read (run n) at bytes ≡ Ok found → length found.0.value ≡ n
unfolding run read
run_size n at bytes found e = size_by n at bytes found (flaw_at cause.TRUNCATED at) (nat_lt (length bytes) n) refl e

code_size : (at : ℕ) (bytes : List ℕ) (found : Found RawCode) → read code at bytes ≡ Ok found → length found.0.bytes.value ≡ found.0.length.value
unfolding code
code_size at bytes found e =
    let stack = read_split u2 _ at bytes found e in
    let locals = read_split u2 _ stack.0.1 stack.0.2 found stack.2 in
    let len = read_split u4 _ locals.0.1 locals.0.2 found locals.2 in
    let held = read_split (run len.0.0.value) _ len.0.1 len.0.2 found len.2 in
    let handlers = read_split u2 _ held.0.1 held.0.2 found held.2 in
    let table = read_split (run (8 * handlers.0.0.value)) _ handlers.0.1 handlers.0.2 found handlers.2 in
    let made : RawCode = record { max_stack = stack.0.0.value; max_locals = locals.0.0.value; length = len.0.0; bytes = held.0.0; handlers = handlers.0.0.value } in
    let attributes = read_split (counted attribute) (λ attributes. whole made) table.0.1 table.0.2 found table.2 in
    let w = whole_found made attributes.0.1 attributes.0.2 found attributes.2 in
    subst (λ (r : RawCode). length r.bytes.value ≡ r.length.value) (sym w.0) (run_size len.0.0.value len.0.1 len.0.2 held.0 held.1)

whole_by : (r : Result (Found RawCode) Flaw) (raw : RawCode) → whole_of r ≡ Some raw → (found : Found RawCode) × (r ≡ Ok found) × (found.0 ≡ raw)
whole_by (Err flaw) raw e = absurd cc
whole_by (Ok found) raw e = (found, refl, ended_by (length found.2 == 0) found raw e)
  where
    ended_by : (b : Bool) (found : Found RawCode) (raw : RawCode) → (if b then Some found.0 else None) ≡ Some raw → found.0 ≡ raw
    ended_by true found raw e = some_is found.0 raw e
    ended_by false found raw e = absurd cc

raw_size : (a : Attribute) (raw : RawCode) → raw_code a ≡ Some raw → length raw.bytes.value ≡ raw.length.value
unfolding raw_code
raw_size a raw e =
    let found = whole_by (read code a.content.at a.content.value) raw e in
    subst (λ (r : RawCode). length r.bytes.value ≡ r.length.value) found.2 (code_size a.content.at a.content.value found.0 found.1)

-- ---- code without flaws

second_nil : (flaws flow : List Flaw) → or_else flaws flow ≡ [] → flow ≡ []
second_nil [] flow e = e
second_nil (flaw ∷ flaws) flow e = absurd cc

flow_none : (pool : Pool) (max_locals start : ℕ) (bytes : List ℕ) → flaws_in pool max_locals start bytes ≡ [] → flow_flaws_from (instrs_in pool bytes) start (instrs_in pool bytes) ≡ []
unfolding flaws_in flow_flaws
flow_none pool max_locals start bytes e = second_nil (filter_map (instr_flaw max_locals start) (decoded pool 0 0 bytes)) (flow_flaws start (instrs_in pool bytes)) e

record IsFlawless (pool : Pool) (raw : RawCode) : Type 0 where
  some : 0 < raw.length.value
  few : raw.length.value ≤ MOST_CODE_BYTES
  none : flaws_in pool raw.max_locals raw.bytes.at raw.bytes.value ≡ []

flawless_by : (pool : Pool) (raw : RawCode) (a b : Bool) (flaws : List Flaw) (flaw : Flaw) → (if a && b then flaws else flaw ∷ []) ≡ [] → (a ≡ true) × (b ≡ true) × (flaws ≡ [])
flawless_by pool raw true true flaws flaw e = (refl, refl, e)
flawless_by pool raw true false flaws flaw e = absurd cc
flawless_by pool raw false b flaws flaw e = absurd cc

flawless : (pool : Pool) (raw : RawCode) → code_flaws pool raw ≡ [] → IsFlawless pool raw
unfolding code_flaws
flawless pool raw e =
    let parts = flawless_by pool raw (nat_lt 0 raw.length.value) (nat_le raw.length.value MOST_CODE_BYTES) (flaws_in pool raw.max_locals raw.bytes.at raw.bytes.value) _ e in
    record { some = ltb-true 0 raw.length.value parts.0; few = leb-true raw.length.value MOST_CODE_BYTES parts.1; none = parts.2 }

-- what the code of a method has
pub record IsGoodCode (k : Code) : Type 0 where
  pub closed : IsClosed k.instrs
  pub named_well : AllByRecursion (λ (i : ℕ × Instr). IsWellNamed i.1) k.instrs

good_by : (pool : Pool) (raw : RawCode) → IsFlawless pool raw → length raw.bytes.value ≡ raw.length.value → IsGoodCode (code_value pool raw)
good_by pool raw fine size =
    let bytes : List ℕ = raw.bytes.value in
    let spelled = flawless_spelled pool raw.max_locals raw.bytes.at bytes fine.none in
    let some : 0 < length bytes = subst (λ n. 0 < n) (sym size) fine.some in
    let few : length bytes < OUTSIDE = subst (λ n. n < OUTSIDE) (sym size) (let most = fine.few in omega arith) in
    record {
      closed = closed_code pool bytes raw.bytes.at (instrs_in pool bytes) spelled some few (flow_none pool raw.max_locals raw.bytes.at bytes fine.none);
      named_well = spelled_fine pool 0 bytes (instrs_in pool bytes) spelled;
    }

-- ---- methods

-- what a method of a class file has
pub record IsGoodMethod (c : ClassFile) (m : Member) : Type 0 where
  pub code_good : (k : Code) → m.code ≡ Some k → IsGoodCode k
  pub interface : (k : Code) → m.code ≡ Some k → is_interface c ≡ true → is_class_initialiser m.name ≡ true

no_flaws_in : (pool : Pool) (attributes : List Attribute) (k : Code) (raw : RawCode) (at : IsCodeOf pool k raw attributes) → method_code_flaws pool attributes ≡ [] → code_flaws pool raw ≡ []
no_flaws_in pool attributes k raw at e =
    let here : raw_code_flaws pool at.first.name.at (raw_code at.first) ≡ [] = nil_left (raw_code_flaws pool at.first.name.at (raw_code at.first)) _ (ap (method_code_flaws pool) (sym at.listed) ∙ e) in
    ap (raw_code_flaws pool at.first.name.at) (sym at.read_it) ∙ here

third_by : (a b d : Bool) → not (a && b && not d) ≡ true → a ≡ true → b ≡ true → d ≡ true
third_by true true true e one two = refl
third_by true true false e one two = absurd cc
third_by true false d e one two = absurd cc
third_by false b d e one two = absurd cc

some_attributes : (pool : Pool) (attributes : List Attribute) (k : Code) (raw : RawCode) → IsCodeOf pool k raw attributes → nat_lt 0 (length attributes) ≡ true
some_attributes pool attributes k raw at = ap (λ (xs : List Attribute). nat_lt 0 (length xs)) at.listed ∙ some_by (length at.others)
  where
    some_by : (n : ℕ) → nat_lt 0 (suc n) ≡ true
    some_by n = lt-ltb 0 (suc n) (omega arith)

pub method_read : (bytes : List ℕ) (c : ClassFile) (file : IsClassFile bytes c) (j : ℕ) (m : Member) → slice_get c.methods j ≡ Some m → IsGoodMethod c m
unfolding fourth_pass
method_read bytes c file j m at =
    let raw = file.class in
    let parts = read_as raw c file.stands_for in
    let one = mapped_from (method_value raw.pool) raw.methods j (Some m) (there_at (map (method_value raw.pool) raw.methods) c.methods j m parts.methods at) in
    let rm = one.0 in
    let found = and_then_some (λ (k : Option Code). named raw.pool rm None k) (code_among raw.pool (codes_of raw.pool rm)) m one.2 in
    let its = named_as raw.pool rm None found.0 m found.2 in
    let flaws : method_flaws raw rm ≡ [] = nil_at (method_flaws raw) raw.methods j rm (nil_right (flat_map (constant_flaws raw.pool) raw.fields) _ file.content) one.1 in
    let later = nil_right (native_flaws rm) _ flaws in
    let interface_none = nil_left (interface_code_flaws raw rm) _ later in
    let code_none = nil_right (interface_code_flaws raw rm) _ later in
    record {
      code_good = λ k e.
          let code_at = code_of_by raw.pool (codes_of raw.pool rm) k (found.1 ∙ ap (λ (o : Option Code). Some o) (its.code ∙ e)) in
          subst IsGoodCode code_at.1.is (good_by raw.pool code_at.0 (flawless raw.pool code_at.0 (no_flaws_in raw.pool (codes_of raw.pool rm) k code_at.0 code_at.1 code_none)) (raw_size code_at.1.first code_at.0 code_at.1.read_it));
      interface = λ k e is.
          let code_at = code_of_by raw.pool (codes_of raw.pool rm) k (found.1 ∙ ap (λ (o : Option Code). Some o) (its.code ∙ e)) in
          let flagged : has_flag raw.access.value ACC_INTERFACE ≡ true = ap (λ n. has_flag n ACC_INTERFACE) parts.access ∙ is in
          let coded = some_attributes raw.pool (codes_of raw.pool rm) k code_at.0 code_at.1 in
          ap (λ (o : Option (List ℕ)). option_map_or is_class_initialiser o false) (sym its.name)
          ∙ third_by (has_flag raw.access.value ACC_INTERFACE) (has_code raw.pool rm) (is_class_initialiser_at raw.pool rm.name.value) (unless_nil _ _ interface_none) flagged coded;
    }

-- ---- fields

number_typed : (d : List ℕ) (v : Value) (slots : List SlotKind) → type_slots d ≡ slots → AreOfKinds (reverse slots) (pushed v []) → IsOfType d v
number_typed d v slots e typed = subst (λ ks. AreOfKinds (reverse ks) (pushed v [])) (sym e) typed

text_typed : (o : Option ℕ) → AreOfKinds (reverse ref) (pushed (unwrap_or (option_map Address o) NullValue) [])
text_typed None = (inl refl, tt)
text_typed (Some a) = (inr (a, refl), tt)

int_constant : (files : List ClassFile) (d : List ℕ) (o : Option ℤ) (k : Constant) → type_slots d ≡ int → option_map constant.Int o ≡ Some k → IsOfType d (constant_value files k)
int_constant files d o k slots e =
    let n = map_some constant.Int o k e in subst (λ (c : Constant). IsOfType d (constant_value files c)) n.2 (number_typed d (constant_value files (constant.Int n.0)) int slots ((_, refl), tt))

text_by : (files : List ClassFile) (d : List ℕ) (o : Option (List ℕ)) (k : Constant) (b : Bool) → type_slots d ≡ ref → (if b then option_map constant.Str o else None) ≡ Some k → IsOfType d (constant_value files k)
text_by files d o k true slots e =
    let t = map_some constant.Str o k e in
    subst (λ (c : Constant). IsOfType d (constant_value files c)) t.2 (number_typed d (constant_value files (constant.Str t.0)) ref slots (text_typed (string_number_of files t.0)))
text_by files d o k false slots e = absurd cc

module _ (files : List ClassFile) (spelled : (d : List ℕ) (type : FieldType) → field_type_of d ≡ Some type → d ≡ type_bytes type) where
  constant_typed : (pool : Pool) (d : List ℕ) (index : ℕ) (k : Constant) (o : Option FieldType) → field_type_of d ≡ o → constant_in pool o index ≡ Some k → IsOfType d (constant_value files k)
  constant_typed pool d index k None type e = absurd cc
  constant_typed pool d index k (Some byte_type) type e = int_constant files d (integer_of pool index) k (ap type_slots (spelled d byte_type type)) e
  constant_typed pool d index k (Some char_type) type e = int_constant files d (integer_of pool index) k (ap type_slots (spelled d char_type type)) e
  constant_typed pool d index k (Some double_type) type e = absurd cc
  constant_typed pool d index k (Some float_type) type e = absurd cc
  constant_typed pool d index k (Some int_type) type e = int_constant files d (integer_of pool index) k (ap type_slots (spelled d int_type type)) e
  constant_typed pool d index k (Some long_type) type e =
      let n = map_some constant.Long (long_of pool index) k e in
      subst (λ (c : Constant). IsOfType d (constant_value files c)) n.2 (number_typed d (constant_value files (constant.Long n.0)) long (ap type_slots (spelled d long_type type)) (refl, ((_, refl), tt)))
  constant_typed pool d index k (Some short_type) type e = int_constant files d (integer_of pool index) k (ap type_slots (spelled d short_type type)) e
  constant_typed pool d index k (Some boolean_type) type e = int_constant files d (integer_of pool index) k (ap type_slots (spelled d boolean_type type)) e
  constant_typed pool d index k (Some (class_type name)) type e =
      text_by files d (string_of pool index) k (bytes_eq name (codes "java/lang/String")) (ap type_slots (spelled d (class_type name) type)) e
  constant_typed pool d index k (Some (array_type element)) type e = absurd cc

  sized_by : (pool : Pool) (rf : RawMember) (n : ℕ) (k : Constant) (b : Bool) → (if b then constant_in pool (type_of_field pool rf) n else None) ≡ Some k → constant_in pool (type_of_field pool rf) n ≡ Some k
  sized_by pool rf n k true e = e
  sized_by pool rf n k false e = absurd cc

  among_by : (pool : Pool) (rf : RawMember) (attributes : List Attribute) (k : Constant) → constant_among pool rf attributes ≡ Some (Some k) → (n : ℕ) × (constant_in pool (type_of_field pool rf) n ≡ Some k)
  among_by pool rf [] k e = absurd cc
  among_by pool rf (first ∷ others) k e =
      let c = map_some (λ (x : Constant). let o : Option Constant = Some x in o) (constant_of pool rf first) (Some k) e in
      let same : c.0 ≡ k = some_is c.0 k c.2 in
      let held : constant_of pool rf first ≡ Some k = c.1 ∙ ap (λ (x : Constant). Some x) same in
      (number_of first.content.value, sized_by pool rf (number_of first.content.value) k (length first.content.value == 2) held)

  static_by : (pool : Pool) (rf : RawMember) (k : Constant) (b : Bool) → (if b then constant_among pool rf (constant_values pool rf) else Some None) ≡ Some (Some k) → constant_among pool rf (constant_values pool rf) ≡ Some (Some k)
  static_by pool rf k true e = e
  static_by pool rf k false e = absurd cc

  pub field_read : (bytes : List ℕ) (c : ClassFile) (file : IsClassFile bytes c) (j : ℕ) (f : Member) → slice_get c.fields j ≡ Some f → (k : Constant) → f.constant ≡ Some k → IsOfType f.descriptor (constant_value files k)
  field_read bytes c file j f at k e =
      let raw = file.class in
      let parts = read_as raw c file.stands_for in
      let one = mapped_from (field_value raw.pool) raw.fields j (Some f) (there_at (map (field_value raw.pool) raw.fields) c.fields j f parts.fields at) in
      let rf = one.0 in
      let found = and_then_some (λ (x : Option Constant). named raw.pool rf x None) (constant_of_field raw.pool rf) f one.2 in
      let its = named_as raw.pool rf found.0 None f found.2 in
      let held : constant_of_field raw.pool rf ≡ Some (Some k) = found.1 ∙ ap (λ (o : Option Constant). Some o) (its.constant ∙ e) in
      let n = among_by raw.pool rf (constant_values raw.pool rf) k (static_by raw.pool rf k (has_flag rf.access.value ACC_STATIC) held) in
      constant_typed raw.pool f.descriptor n.0 k (type_of_field raw.pool rf) (sym (ap (option_and_then field_type_of) its.descriptor)) n.1

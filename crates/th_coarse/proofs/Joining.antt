-- What is joined in a reachable state is a coarse alarm.
use Rattle.std.proofs.Common.{◌≡◌, ℕ, inl, inr, Bool, true, false, List, [], ◌∷◌, Option, None, Some, map, refl, sym, ap, subst, ◌∙◌, if◌then◌else◌, arith}
use Rattle.std.specs.Prelude.{ℤ, slice_get, Contains}
use Rattle.std.specs.Option.{option_map, unwrap_or}
use Rattle.std.specs.Str.{bytes_eq}
use Rattle.th_base.specs.declared.built_in.TheConstants.{STRING_NUMBER}
use Rattle.th_base.specs.declared.lifecycle.Lifecycle.{Lifecycle}
use Rattle.th_base.specs.declared.number.ClassId.{ClassId}
use Rattle.th_base.specs.declared.number.FieldId.{FieldId}
use Rattle.th_base.specs.ValueKinds.{is_reference}
use Rattle.th_syntax.specs.declared.class_file.ClassFile.{ClassFile}
use Rattle.th_syntax.specs.declared.class_file.Constant.{Constant}
use Rattle.th_syntax.specs.declared.class_file.Constant.TheVariants.{Int, Long, Str}
use Rattle.th_syntax.specs.declared.machine.Value.{Value}
use Rattle.th_syntax.specs.declared.machine.Value.TheVariants.{Int as IntValue, Long as LongValue, Null as NullValue, Address}
use Rattle.th_syntax.specs.declared.machine.Object.{Object}
use Rattle.th_syntax.specs.declared.machine.Object.TheVariants.{Instance, Array}
use Rattle.th_syntax.specs.declared.machine.State.{State}
use Rattle.th_syntax.specs.Machine.{class_id, parts_of}
use Rattle.th_syntax.specs.Facts.{IsStoredInto, IsMade}
use Rattle.th_syntax.specs.Initial.{default_value, constant_value, instance_fields}
use Rattle.th_syntax.specs.Joined.{Leads, here, through, IsOfClass, IsJoined}
use Rattle.th_syntax.specs.Program.{Owned, hierarchy_of, is_activity}
use Rattle.th_syntax.specs.Run.{IsReachable}
use Rattle.th_syntax.specs.Strings.{string_constants, string_number_of}
use Rattle.th_syntax.proofs.Inverting.{some_is, all_at}
use Rattle.th_runs.specs.Always.{IsAlways}
use Rattle.th_runs.specs.Fitting.{IsShaped}
use Rattle.th_runs.specs.Verified.{IsVerified}
use Rattle.th_runs.proofs.Addressed.{at_position}
use Rattle.th_coarse.specs.Coarse.{IsCoarseAlarm, coarse_alarms}
use Rattle.th_coarse.specs.Safety.{AreAllJoined}

-- ---- values that lead nowhere

null_leads : {heap : List Object} {to : ℕ} {v : Value} → Leads heap to v → v ≡ NullValue → ⊥
null_leads here e = cc
null_leads (through o stands part leads) e = cc

int_leads : {heap : List Object} {to : ℕ} {v : Value} (n : ℤ) → Leads heap to v → v ≡ IntValue n → ⊥
int_leads n here e = cc
int_leads n (through o stands part leads) e = cc

long_leads : {heap : List Object} {to : ℕ} {v : Value} (n : ℤ) → Leads heap to v → v ≡ LongValue n → ⊥
long_leads n here e = cc
long_leads n (through o stands part leads) e = cc

address_is : (a b : ℕ) → Address a ≡ Address b → a ≡ b
address_is a b e = cc

no_parts : (o : Object) (class : ClassId) (v : Value) → o ≡ Instance class [] → Contains (parts_of o) v → ⊥
no_parts o class v e part = let none = subst (λ x. Contains (parts_of x) v) e part in omega (arith, none.1)

-- an object without fields leads to itself alone
bare_leads : (heap : List Object) (to : ℕ) (w : Value) (b : ℕ) (class : ClassId) → slice_get heap b ≡ Some (Instance class []) → Leads heap to w → w ≡ Address b → to ≡ b
bare_leads heap to _ b class stands here e = address_is to b e
bare_leads heap to _ b class stands (through {a} {v} o at part leads) e =
    let same : a ≡ b = address_is a b e in
    let bare : o ≡ Instance class [] = some_is o (Instance class []) (sym at ∙ ap (slice_get heap) same ∙ stands) in
    absurd (no_parts o class v bare part)

-- ---- String constants

strings_are_bare : (files : List ClassFile) → instance_fields (hierarchy_of files) STRING_NUMBER ≡ []
strings_are_bare files = refl

string_is_no_activity : (files : List ClassFile) → is_activity files STRING_NUMBER ≡ false
string_is_no_activity files = refl

nothing_mapped : (fields : List (FieldId × Value)) → map (λ (f : FieldId × Value). f.0) fields ≡ [] → fields ≡ []
nothing_mapped [] e = refl
nothing_mapped (f ∷ fields) e = absurd cc

not_of_string : (files : List ClassFile) (o : Object) (number : ℕ) → o ≡ Instance (class_id STRING_NUMBER) [] → IsOfClass o number → is_activity files number ≡ true → ⊥
not_of_string files o number e exactly activity =
    let one : STRING_NUMBER ≡ number = subst (λ x. IsOfClass x number) e exactly in
    let both : false ≡ true = sym (string_is_no_activity files) ∙ ap (is_activity files) one ∙ activity in
    cc

string_leads : (files : List ClassFile) (s : State) (text : List ℕ) (a to number : ℕ) (v : Value) (o : Object) → IsAlways files s → string_number_of files text ≡ Some a → v ≡ Address a
    → Leads s.heap to v → slice_get s.heap to ≡ Some o → IsOfClass o number → is_activity files number ≡ true → ⊥
string_leads files s text a to number v o always numbered is leads stands exactly activity =
    let found = at_position (bytes_eq text) 0 a (string_constants files) numbered in
    let same : found.0 ≡ a = let level = found.1 in omega (arith, level) in
    let string = always.kept.strings found.0 found.2 found.3 in
    let shaped = all_at (IsShaped files) s.heap found.0 (Instance (class_id STRING_NUMBER) string.fields) always.kinds.heap string.stands in
    let bare : string.fields ≡ [] = nothing_mapped string.fields (shaped.0 ∙ ap (map (λ f. f.id)) (strings_are_bare files)) in
    let there : slice_get s.heap a ≡ Some (Instance (class_id STRING_NUMBER) []) =
    ap (slice_get s.heap) (sym same) ∙ string.stands ∙ ap (λ fs. let x : Option Object = Some (Instance (class_id STRING_NUMBER) fs) in x) bare in
    let itself : to ≡ a = bare_leads s.heap to v a (class_id STRING_NUMBER) there leads is in
    not_of_string files o number (some_is o (Instance (class_id STRING_NUMBER) []) (sym stands ∙ ap (slice_get s.heap) itself ∙ there)) exactly activity

text_leads : (files : List ClassFile) (s : State) (text : List ℕ) (to number : ℕ) (v : Value) (o : Object) (found : Option ℕ) → IsAlways files s → string_number_of files text ≡ found
    → v ≡ unwrap_or (option_map Address found) NullValue → Leads s.heap to v → slice_get s.heap to ≡ Some o → IsOfClass o number → is_activity files number ≡ true → ⊥
text_leads files s text to number v o None always numbered is leads stands exactly activity = null_leads leads is
text_leads files s text to number v o (Some a) always numbered is leads stands exactly activity = string_leads files s text a to number v o always numbered is leads stands exactly activity

-- the value of a ConstantValue leads to no object of an Activity class
constant_leads : (files : List ClassFile) (s : State) (c : Constant) (to number : ℕ) (v : Value) (o : Object) → IsAlways files s → v ≡ constant_value files c
    → Leads s.heap to v → slice_get s.heap to ≡ Some o → IsOfClass o number → is_activity files number ≡ true → ⊥
constant_leads files s (Int n) to number v o always is leads stands exactly activity = int_leads _ leads is
constant_leads files s (Long n) to number v o always is leads stands exactly activity = long_leads _ leads is
constant_leads files s (Str text) to number v o always is leads stands exactly activity = text_leads files s text to number v o (string_number_of files text) always refl is leads stands exactly activity

-- ---- fields and classes that are joined

null_of : (reference long : Bool) (other : Value) → reference ≡ true → (if reference then NullValue else other) ≡ NullValue
null_of true long other e = refl
null_of false long other e = absurd cc

joined_field : (files : List ClassFile) (s : State) (field class : ℕ) → IsAlways files s → IsJoined files s field class → IsStoredInto files field
joined_field files s field class always joined =
    let holds = joined.holds in
    elim (always.kept.statics field holds.value holds.held) [
      | inl original ↦ (
          let same : original.declared ≡ holds.is_field.declared = some_is original.declared holds.is_field.declared (sym original.numbered ∙ holds.is_field.numbered) in
          absurd (elim original.value [
            | inl first ↦ null_leads holds.leads (first ∙ ap (λ (x : Owned). default_value x.member.descriptor) same ∙ null_of (is_reference holds.is_field.declared.member.descriptor) true _ holds.is_field.reference)
            | inr constant ↦ constant_leads files s constant.0 holds.address class holds.value holds.object always constant.2 holds.leads holds.stands holds.exactly joined.is_activity_class
          ]))
      | inr stored ↦ stored
    ]

of_class : (files : List ClassFile) (s : State) (a number : ℕ) (o : Object) → ((c : ClassId) (fields : List (FieldId × Value)) → slice_get s.heap a ≡ Some (Instance c fields) → is_activity files c.0 ≡ true → IsMade files c.0)
    → slice_get s.heap a ≡ Some o → IsOfClass o number → is_activity files number ≡ true → IsMade files number
of_class files s a number (Instance c fields) made at exactly activity = subst (IsMade files) exactly (made c fields at (ap (is_activity files) exactly ∙ activity))
of_class files s a number (Array descriptor elements) made at exactly activity = absurd exactly

pub joined_alarm : (files : List ClassFile) (s : State) (field class : ℕ) → IsAlways files s → IsJoined files s field class → IsCoarseAlarm files field class
joined_alarm files s field class always joined = record {
  is_field = joined.holds.is_field;
  stored = joined_field files s field class always joined;
  is_activity_class = joined.is_activity_class;
  made = of_class files s joined.holds.address class joined.holds.object (always.kept.activities joined.holds.address) joined.holds.stands joined.holds.exactly joined.is_activity_class;
}

-- ---- the facts on runs and lists that this rests on

abbrev pub Kept : Type 0
Kept = (lifecycle : Lifecycle) (files : List ClassFile) (s : State) → IsVerified files → IsReachable lifecycle files s → IsAlways files s

abbrev pub Listed : Type 0
Listed = (files : List ClassFile) (field class : ℕ) → IsCoarseAlarm files field class → Contains (coarse_alarms files) (field, class)

pub all_joined : Kept → Listed → (lifecycle : Lifecycle) (files : List ClassFile) → IsVerified files → AreAllJoined lifecycle files (coarse_alarms files)
all_joined kept listed lifecycle files verified s field class run joined =
    listed files field class (joined_alarm files s field class (kept lifecycle files s verified run) joined)

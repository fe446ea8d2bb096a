-- The value of a class from its parts, and the flaws of the fourth pass.
use Rattle.std.proofs.Common.{◌≡◌, ℕ, List, [], ◌++◌, Err, refl, sym, ap, ◌∙◌}
use Rattle.std.specs.Prelude.{Option, Some}
use Rattle.std.specs.List.{flat_map}
use Rattle.th_base.specs.declared.fail.Fail.{Fail}
use Rattle.th_base.specs.declared.fail.Fail.TheVariants.{Refused, NoMemory}
use Rattle.th_syntax.specs.declared.class_file.Member.{Member}
use Rattle.th_syntax.specs.declared.refusal.Flaw.{Flaw}
use Rattle.th_syntax.specs.declared.tag.TheConstants as tag
use Rattle.th_syntax.specs.ClassBytes.{RawClass}
use Rattle.th_syntax.specs.PoolChecks.{class_of, entry_flaws}
use Rattle.th_syntax.specs.Checks.{index_flaws, super_index_flaws, member_index_flaws, attribute_index_flaws, second_pass, constant_flaws, method_flaws, fourth_pass}
use Rattle.th_syntax.specs.ClassGrammar.{super_value, interface_values, field_values, method_values, class_file_of}
use Rattle.th_reader.specs.Passes.{Makes, front_flaw}
use Rattle.th_reader.proofs.Making.{none_both}
use Rattle.th_reader.proofs.Walking.{front_here}

-- each index of a class leads to an entry of the right tag
pub record Leads (c : RawClass) : Type 0 where
  pub entries : entry_flaws c.pool ≡ []
  pub this_class : index_flaws c.pool tag.CLASS c.this_class ≡ []
  pub super_class : super_index_flaws c ≡ []
  pub interfaces : flat_map (index_flaws c.pool tag.CLASS) c.interfaces ≡ []
  pub fields : flat_map (member_index_flaws c.pool) c.fields ≡ []
  pub methods : flat_map (member_index_flaws c.pool) c.methods ≡ []

pub leads : (c : RawClass) → second_pass c ≡ [] → Leads c
unfolding second_pass
leads c e =
    let attributes = flat_map (attribute_index_flaws c.pool) c.attributes in
    let methods : List Flaw = flat_map (member_index_flaws c.pool) c.methods ++ attributes in
    let fields : List Flaw = flat_map (member_index_flaws c.pool) c.fields ++ methods in
    let interfaces : List Flaw = flat_map (index_flaws c.pool tag.CLASS) c.interfaces ++ fields in
    let super_too : List Flaw = super_index_flaws c ++ interfaces in
    let a = none_both (entry_flaws c.pool) (index_flaws c.pool tag.CLASS c.this_class ++ super_too) e in
    let b = none_both (index_flaws c.pool tag.CLASS c.this_class) super_too a.1 in
    let d = none_both (super_index_flaws c) interfaces b.1 in
    let f = none_both (flat_map (index_flaws c.pool tag.CLASS) c.interfaces) fields d.1 in
    let g = none_both (flat_map (member_index_flaws c.pool) c.fields) methods f.1 in
    let h = none_both (flat_map (member_index_flaws c.pool) c.methods) attributes g.1 in
    record { entries = a.0; this_class = b.0; super_class = d.0; interfaces = f.0; fields = g.0; methods = h.0 }

-- the first of two lists of flaws stops, or the second where the first is empty
stop_first : {X Y : Type 0} (a b : List Flaw) (one : Option X) (all : Option Y) (fail : Fail Flaw) → Makes a one (Err fail) → Makes (a ++ b) all (Err fail)
stop_first a b one all (Refused flaw) e = sym (front_here a b flaw (sym e))
stop_first a b one all NoMemory e = tt

stop_second : {X Y : Type 0} (a b : List Flaw) (one : Option X) (all : Option Y) (fail : Fail Flaw) → a ≡ [] → Makes b one (Err fail) → Makes (a ++ b) all (Err fail)
stop_second a b one all (Refused flaw) none e = ap (λ (fs : List Flaw). front_flaw (fs ++ b)) none ∙ e
stop_second a b one all NoMemory none e = tt

pub fields_stop : {X : Type 0} (c : RawClass) (one : Option X) (fail : Fail Flaw) → Makes (flat_map (constant_flaws c.pool) c.fields) one (Err fail) → Makes (fourth_pass c) (class_file_of c) (Err fail)
unfolding fourth_pass
fields_stop c one fail e = stop_first (flat_map (constant_flaws c.pool) c.fields) (flat_map (method_flaws c) c.methods) one (class_file_of c) fail e

pub methods_stop : {X : Type 0} (c : RawClass) (one : Option X) (fail : Fail Flaw) → flat_map (constant_flaws c.pool) c.fields ≡ [] → Makes (flat_map (method_flaws c) c.methods) one (Err fail) → Makes (fourth_pass c) (class_file_of c) (Err fail)
unfolding fourth_pass
methods_stop c one fail none e = stop_second (flat_map (constant_flaws c.pool) c.fields) (flat_map (method_flaws c) c.methods) one (class_file_of c) fail none e

pub no_content_flaws : (c : RawClass) → flat_map (constant_flaws c.pool) c.fields ≡ [] → flat_map (method_flaws c) c.methods ≡ [] → fourth_pass c ≡ []
unfolding fourth_pass
no_content_flaws c a b = rw (a, b) refl

pub value_is : (c : RawClass) (name : List ℕ) (super_name : Option (List ℕ)) (interfaces : List (List ℕ)) (fields methods : List Member)
    → class_of c.pool c.this_class.value ≡ Some name → super_value c ≡ Some super_name → interface_values c ≡ Some interfaces → field_values c ≡ Some fields → method_values c ≡ Some methods
    → class_file_of c ≡ Some (record { major = c.major; access = c.access.value; name = name; super_name = super_name; interfaces = interfaces; fields = fields; methods = methods })
unfolding class_file_of
value_is c name super_name interfaces fields methods a b d e f = rw (a, b, d, e, f) refl

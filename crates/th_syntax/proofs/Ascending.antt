-- In each pass the flaws that are found stand in ascending order.
use Rattle.std.proofs.Common.{◌≡◌, ℕ, zero, suc, ◌+◌, ◌-◌, ◌<◌, ◌≤◌, Bool, true, false, cond, eqb, ◌&&◌, List, [], ◌∷◌, ◌++◌, map, length, Option, Some, None, Result, Ok, Err, refl, sym, ap, subst, ◌∙◌, arith, append_assoc, inl, inr}
use Rattle.std.specs.Prelude.{is_some, nat_le, nat_lt, not, ◌==◌}
use Rattle.std.specs.List.{AllByRecursion, flat_map, filter, filter_map, cons_option}
use Rattle.std.specs.Option.{option_map, option_map_or}
use Rattle.th_syntax.specs.declared.cause.TheConstants as cause
use Rattle.th_syntax.specs.declared.flags.TheConstants.{ACC_STATIC, ACC_NATIVE, ACC_INTERFACE}
use Rattle.th_syntax.specs.declared.limit.TheConstants.{MOST_CODE_BYTES}
use Rattle.th_syntax.specs.declared.tag.TheConstants as tag
use Rattle.th_syntax.specs.declared.instr.Instr.{Instr}
use Rattle.th_syntax.specs.declared.refusal.Flaw.{Flaw}
use Rattle.th_syntax.specs.Flags.{has_flag}
use Rattle.th_syntax.specs.Flaws.{flaw_at, Ascend, unless}
use Rattle.th_syntax.specs.Forms.{Placed, Stands, Found, read}
use Rattle.th_syntax.specs.ClassBytes.{Entry, Pool, Attribute, RawMember, RawClass, class_file, RawCode, code}
use Rattle.th_syntax.specs.WellFormed.{is_class_name, is_field_name, is_method_name}
use Rattle.th_syntax.specs.Descriptors.{FieldType, MethodType, is_floating, is_floating_method, field_type_of, method_type_of}
use Rattle.th_syntax.specs.PoolChecks.{has_tag, utf8_of, class_of, refers_well, entry_flaw, entry_flaws}
use Rattle.th_syntax.specs.CodeBytes.{Spelled, instr, flawed, type_numbers, method_type_numbers, instruction}
use Rattle.th_syntax.specs.Decoding.{spelled_by, decoded, spelled_instr, instr_of, instrs_in, failing, instr_flaw, flows_well, flow_flaws_from, flow_flaws, or_else, flaws_in, code_flaws}
use Rattle.th_syntax.specs.Checks.{index_flaws, super_index_flaws, attribute_index_flaws, member_index_flaws, second_pass, name_flaws, class_name_flaws, descriptor_flaws, field_name_flaws, method_name_flaws, third_pass, constant_values, codes_of, constant_of, again_flaws, constant_flaws_of, constant_flaws, whole_of, raw_code, raw_code_flaws, method_code_flaws, native_flaws, has_code, is_class_initialiser_at, interface_code_flaws, method_flaws, fourth_pass}
use Rattle.th_syntax.specs.ClassGrammar.{IsWhole}
use Rattle.th_syntax.proofs.Reading.{stands_read}
use Rattle.th_syntax.proofs.Within.{Within, none_within, one_within, unless_within, wider, both_within, Row, row_end, row_within, row_some, row_earlier, row_kept}
use Rattle.th_syntax.proofs.Places.{NumberAt, AttributeAt, MemberAt, SlotAt, ClassAt, CodeAt, class_at, code_at}

-- ---- orders

same : (n : ℕ) → n ≤ n
same n = omega arith

up_to : (a b c : ℕ) → a ≤ b → b ≤ c → a ≤ c
up_to a b c le less = omega arith

-- ---- indices

index_within : (p : Pool) (expected low high : ℕ) (i : Placed ℕ) → low ≤ i.at → i.at < high → Within low high (index_flaws p expected i)
index_within p expected low high i from below = unless_within low high (has_tag p i.value expected) (flaw_at cause.POOL i.at) from below

attribute_within : (p : Pool) (a : Attribute) (low high : ℕ) → AttributeAt a low high → Within low high (attribute_index_flaws p a)
attribute_within p a low high at =
    let between : a.name.at < a.content.at = at.between in
    let end : a.content.at + length a.content.value ≤ high = at.end in
    index_within p tag.UTF8 low high a.name at.begin (omega arith)

row_long : (P : Attribute → ℕ → ℕ → Type 0) (before low high : ℕ) (xs : List Attribute) → before < low → Row P low high xs → before < high
row_long P before low high xs lower row = let le : low ≤ high = row_end P low high xs row in omega arith

member_within : (p : Pool) (m : RawMember) (low high : ℕ) → MemberAt m low high → Within low high (member_index_flaws p m)
member_within p m low high at =
    let begin : low ≤ m.access.at = at.begin in
    let name : m.access.at < m.name.at = at.name in
    let descriptor : m.name.at < m.descriptor.at = at.descriptor in
    let others : m.descriptor.at < at.behind = at.others in
    let end : at.behind ≤ high = row_end AttributeAt at.behind high m.attributes at.attributes in
    both_within low (m.name.at + 1) high (index_flaws p tag.UTF8 m.name) (index_flaws p tag.UTF8 m.descriptor ++ flat_map (attribute_index_flaws p) m.attributes) (omega arith) (omega arith)
    (index_within p tag.UTF8 low (m.name.at + 1) m.name (omega arith) (omega arith))
    (both_within (m.name.at + 1) at.behind high (index_flaws p tag.UTF8 m.descriptor) (flat_map (attribute_index_flaws p) m.attributes) (omega arith) end
    (index_within p tag.UTF8 (m.name.at + 1) at.behind m.descriptor (omega arith) others)
    (row_within AttributeAt (attribute_index_flaws p) at.behind high m.attributes (attribute_within p) at.attributes))

entry_offset : (p : Pool) (o : Option (Placed Entry)) (low high : ℕ) (f : Flaw) → SlotAt o low high → entry_flaw p o ≡ Some f → (low ≤ f.offset) × (f.offset < high)
entry_offset p None low high f at e = absurd cc
entry_offset p (Some one) low high f at e = go (refers_well p one.value) e
  where
    go : (t : Bool) → cond t None (Some (flaw_at cause.POOL one.at)) ≡ Some f → (low ≤ f.offset) × (f.offset < high)
    go true e = absurd cc
    go false e = let same : flaw_at cause.POOL one.at ≡ f = cc in subst (λ (g : Flaw). (low ≤ g.offset) × (g.offset < high)) same at

super_within : (c : RawClass) (low high : ℕ) → low ≤ c.super_class.at → c.super_class.at < high → Within low high (super_index_flaws c)
super_within c low high from below = go (eqb c.super_class.value 0)
  where
    go : (t : Bool) → Within low high (cond t [] (index_flaws c.pool tag.CLASS c.super_class))
    go true = none_within low high
    go false = index_within c.pool tag.CLASS low high c.super_class from below

pub second_within : (c : RawClass) (low high : ℕ) → ClassAt c low high → Within low high (second_pass c)
unfolding second_pass entry_flaws
second_within c low high at =
    let this_one : at.pool_end ≤ c.this_class.at = at.this_class in
    let super_one : c.this_class.at < c.super_class.at = at.super_class in
    let interfaces : c.super_class.at < at.interfaces_begin = at.before_interfaces in
    let interfaces_long = row_end NumberAt at.interfaces_begin at.interfaces_end c.interfaces at.interfaces in
    let fields_long = row_end MemberAt at.fields_begin at.fields_end c.fields at.fields in
    let methods_long = row_end MemberAt at.methods_begin at.methods_end c.methods at.methods in
    let attributes_long = row_end AttributeAt at.attributes_begin high c.attributes at.attributes in
    let to_methods = both_within at.methods_begin at.attributes_begin high _ _ (up_to at.methods_begin at.methods_end at.attributes_begin methods_long at.before_attributes) attributes_long
    (wider at.methods_begin at.methods_begin at.methods_end at.attributes_begin _ (same at.methods_begin) at.before_attributes (row_within MemberAt (member_index_flaws c.pool) at.methods_begin at.methods_end c.methods (member_within c.pool) at.methods))
    (row_within AttributeAt (attribute_index_flaws c.pool) at.attributes_begin high c.attributes (attribute_within c.pool) at.attributes) in
    let methods_end = up_to at.methods_begin at.attributes_begin high (up_to at.methods_begin at.methods_end at.attributes_begin methods_long at.before_attributes) attributes_long in
    let to_fields = both_within at.fields_begin at.methods_begin high _ _ (up_to at.fields_begin at.fields_end at.methods_begin fields_long at.before_methods) methods_end
    (wider at.fields_begin at.fields_begin at.fields_end at.methods_begin _ (same at.fields_begin) at.before_methods (row_within MemberAt (member_index_flaws c.pool) at.fields_begin at.fields_end c.fields (member_within c.pool) at.fields))
    to_methods in
    let fields_end = up_to at.fields_begin at.methods_begin high (up_to at.fields_begin at.fields_end at.methods_begin fields_long at.before_methods) methods_end in
    let to_interfaces = both_within at.interfaces_begin at.fields_begin high _ _ (up_to at.interfaces_begin at.interfaces_end at.fields_begin interfaces_long at.before_fields) fields_end
    (wider at.interfaces_begin at.interfaces_begin at.interfaces_end at.fields_begin _ (same at.interfaces_begin) at.before_fields (row_within NumberAt (index_flaws c.pool tag.CLASS) at.interfaces_begin at.interfaces_end c.interfaces (λ i l h n. index_within c.pool tag.CLASS l h i n.0 n.1) at.interfaces))
    to_fields in
    let interfaces_end = up_to at.interfaces_begin at.fields_begin high (up_to at.interfaces_begin at.interfaces_end at.fields_begin interfaces_long at.before_fields) fields_end in
    let to_super = both_within c.super_class.at at.interfaces_begin high _ _ (omega arith) interfaces_end (super_within c c.super_class.at at.interfaces_begin (omega arith) interfaces) to_interfaces in
    let super_end : c.super_class.at ≤ high = omega arith in
    let to_this = both_within c.this_class.at c.super_class.at high _ _ (omega arith) super_end (index_within c.pool tag.CLASS c.this_class.at c.super_class.at c.this_class (omega arith) super_one) to_super in
    both_within low at.pool_end high _ _ (row_end SlotAt low at.pool_end c.pool at.entries) (omega arith)
    (row_some SlotAt (entry_flaw c.pool) low at.pool_end c.pool (λ o l h f. entry_offset c.pool o l h f) at.entries)
    (wider at.pool_end c.this_class.at high high _ this_one (same high) to_this)

-- ---- names

name_within : (low high : ℕ) (o : Option (List ℕ)) (test : List ℕ → Bool) (offset : ℕ) → low ≤ offset → offset < high → Within low high (name_flaws o test offset)
name_within low high None test offset from below = none_within low high
name_within low high (Some name) test offset from below = unless_within low high (test name) (flaw_at cause.NAME offset) from below

one_number : (low high : ℕ) (t : Bool) (number offset : ℕ) → low ≤ offset → offset < high → Within low high (map (λ n. flaw_at n offset) (unless t number))
one_number low high true number offset from below = none_within low high
one_number low high false number offset from below = one_within low high (flaw_at number offset) from below

type_within : (low high : ℕ) (o : Option FieldType) (offset : ℕ) → low ≤ offset → offset < high → Within low high (map (λ n. flaw_at n offset) (type_numbers o))
type_within low high None offset from below = one_within low high (flaw_at cause.NAME offset) from below
type_within low high (Some t) offset from below = one_number low high (not (is_floating t)) cause.FLOAT_TYPE offset from below

method_type_within : (low high : ℕ) (o : Option MethodType) (offset : ℕ) → low ≤ offset → offset < high → Within low high (map (λ n. flaw_at n offset) (method_type_numbers o))
method_type_within low high None offset from below = one_within low high (flaw_at cause.NAME offset) from below
method_type_within low high (Some m) offset from below = one_number low high (not (is_floating_method m)) cause.FLOAT_TYPE offset from below

descriptor_within : (low high : ℕ) (o : Option (List ℕ)) (numbers : List ℕ → List ℕ) (offset : ℕ) → ((d : List ℕ) → Within low high (map (λ n. flaw_at n offset) (numbers d))) → Within low high (descriptor_flaws o numbers offset)
descriptor_within low high None numbers offset each = none_within low high
descriptor_within low high (Some d) numbers offset each = each d

class_name_within : (p : Pool) (low high : ℕ) (i : Placed ℕ) → low ≤ i.at → i.at < high → Within low high (class_name_flaws p i)
class_name_within p low high i from below = name_within low high (class_of p i.value) is_class_name i.at from below

-- a member's name and its descriptor
two_within : (m : RawMember) (low high : ℕ) (names descriptors : List Flaw) → MemberAt m low high → Within m.name.at m.descriptor.at names → Within m.descriptor.at high descriptors → Within low high (names ++ descriptors)
two_within m low high names descriptors at v w =
    let begin : low ≤ m.access.at = at.begin in
    let name : m.access.at < m.name.at = at.name in
    let descriptor : m.name.at < m.descriptor.at = at.descriptor in
    let others : m.descriptor.at < at.behind = at.others in
    let end : at.behind ≤ high = row_end AttributeAt at.behind high m.attributes at.attributes in
    both_within low m.descriptor.at high names descriptors (omega arith) (omega arith) (wider low m.name.at m.descriptor.at m.descriptor.at names (omega arith) (omega arith) v) w

below_end : (m : RawMember) (low high : ℕ) → MemberAt m low high → m.descriptor.at < high
below_end m low high at =
    let others : m.descriptor.at < at.behind = at.others in
    let end : at.behind ≤ high = row_end AttributeAt at.behind high m.attributes at.attributes in
    omega arith

field_name_within : (p : Pool) (f : RawMember) (low high : ℕ) → MemberAt f low high → Within low high (field_name_flaws p f)
field_name_within p f low high at =
    two_within f low high _ _ at (name_within f.name.at f.descriptor.at (utf8_of p f.name.value) is_field_name f.name.at (same f.name.at) at.descriptor)
    (descriptor_within f.descriptor.at high (utf8_of p f.descriptor.value) (λ d. type_numbers (field_type_of d)) f.descriptor.at (λ d. type_within f.descriptor.at high (field_type_of d) f.descriptor.at (same f.descriptor.at) (below_end f low high at)))

method_name_within : (p : Pool) (m : RawMember) (low high : ℕ) → MemberAt m low high → Within low high (method_name_flaws p m)
method_name_within p m low high at =
    two_within m low high _ _ at (name_within m.name.at m.descriptor.at (utf8_of p m.name.value) is_method_name m.name.at (same m.name.at) at.descriptor)
    (descriptor_within m.descriptor.at high (utf8_of p m.descriptor.value) (λ d. method_type_numbers (method_type_of d)) m.descriptor.at (λ d. method_type_within m.descriptor.at high (method_type_of d) m.descriptor.at (same m.descriptor.at) (below_end m low high at)))

-- the flaws of the interfaces, the fields and the methods, and of this class and the superclass before them
parts_within : (c : RawClass) (low high : ℕ) (this_one super_one interfaces fields methods : List Flaw) → ClassAt c low high
    → Within c.this_class.at c.super_class.at this_one
    → ((l h : ℕ) → l ≤ c.super_class.at → c.super_class.at < h → Within l h super_one)
    → ((l h : ℕ) → Row NumberAt l h c.interfaces → Within l h interfaces)
    → ((l h : ℕ) → Row MemberAt l h c.fields → Within l h fields)
    → ((l h : ℕ) → Row MemberAt l h c.methods → Within l h methods)
    → Within low high (this_one ++ (super_one ++ (interfaces ++ (fields ++ methods))))
parts_within c low high this_list super_list interface_list field_list method_list at this_is super_is interfaces_are fields_are methods_are =
    let this_one : at.pool_end ≤ c.this_class.at = at.this_class in
    let super_one : c.this_class.at < c.super_class.at = at.super_class in
    let interfaces : c.super_class.at < at.interfaces_begin = at.before_interfaces in
    let entries_long = row_end SlotAt low at.pool_end c.pool at.entries in
    let interfaces_long = row_end NumberAt at.interfaces_begin at.interfaces_end c.interfaces at.interfaces in
    let fields_long = row_end MemberAt at.fields_begin at.fields_end c.fields at.fields in
    let methods_long = row_end MemberAt at.methods_begin at.methods_end c.methods at.methods in
    let attributes_long = row_end AttributeAt at.attributes_begin high c.attributes at.attributes in
    let methods_end = up_to at.methods_begin at.attributes_begin high (up_to at.methods_begin at.methods_end at.attributes_begin methods_long at.before_attributes) attributes_long in
    let to_methods = wider at.methods_begin at.methods_begin at.methods_end high method_list (same at.methods_begin) (up_to at.methods_end at.attributes_begin high at.before_attributes attributes_long) (methods_are at.methods_begin at.methods_end at.methods) in
    let to_fields = both_within at.fields_begin at.methods_begin high field_list method_list (up_to at.fields_begin at.fields_end at.methods_begin fields_long at.before_methods) methods_end
    (wider at.fields_begin at.fields_begin at.fields_end at.methods_begin field_list (same at.fields_begin) at.before_methods (fields_are at.fields_begin at.fields_end at.fields)) to_methods in
    let fields_end = up_to at.fields_begin at.methods_begin high (up_to at.fields_begin at.fields_end at.methods_begin fields_long at.before_methods) methods_end in
    let to_interfaces = both_within at.interfaces_begin at.fields_begin high interface_list (field_list ++ method_list) (up_to at.interfaces_begin at.interfaces_end at.fields_begin interfaces_long at.before_fields) fields_end
    (wider at.interfaces_begin at.interfaces_begin at.interfaces_end at.fields_begin interface_list (same at.interfaces_begin) at.before_fields (interfaces_are at.interfaces_begin at.interfaces_end at.interfaces)) to_fields in
    let interfaces_end = up_to at.interfaces_begin at.fields_begin high (up_to at.interfaces_begin at.interfaces_end at.fields_begin interfaces_long at.before_fields) fields_end in
    let to_super = both_within c.super_class.at at.interfaces_begin high super_list (interface_list ++ (field_list ++ method_list)) (omega arith) interfaces_end (super_is c.super_class.at at.interfaces_begin (same c.super_class.at) interfaces) to_interfaces in
    let super_end : c.super_class.at ≤ high = omega arith in
    wider low c.this_class.at high high _ (omega arith) (same high)
    (both_within c.this_class.at c.super_class.at high this_list (super_list ++ (interface_list ++ (field_list ++ method_list))) (omega arith) super_end this_is to_super)

pub third_within : (c : RawClass) (low high : ℕ) → ClassAt c low high → Within low high (third_pass c)
unfolding third_pass
third_within c low high at =
    parts_within c low high _ _ _ _ _ at
    (class_name_within c.pool c.this_class.at c.super_class.at c.this_class (same c.this_class.at) at.super_class)
    (λ l h from below. class_name_within c.pool l h c.super_class from below)
    (λ l h row. row_within NumberAt (class_name_flaws c.pool) l h c.interfaces (λ i k m n. class_name_within c.pool k m i n.0 n.1) row)
    (λ l h row. row_within MemberAt (field_name_flaws c.pool) l h c.fields (field_name_within c.pool) row)
    (λ l h row. row_within MemberAt (method_name_flaws c.pool) l h c.methods (method_name_within c.pool) row)

-- ---- code

-- where an instruction of a code array that begins at `start` stands
abbrev SpelledAt : {A : Type 0} → ℕ → (A → ℕ) → A → ℕ → ℕ → Type 0
SpelledAt start offset x low high = (low ≤ start + offset x) × (start + offset x < high)

spelled_down : {A : Type 0} (start : ℕ) (offset : A → ℕ) (x : A) (k l h : ℕ) → k ≤ l → SpelledAt start offset x l h → SpelledAt start offset x k h
spelled_down start offset x k l h le at = ((let b : l ≤ start + offset x = at.0 in omega arith), at.1)

abbrev place_of : Placed Spelled → ℕ
place_of one = one.at

abbrev offset_of : ℕ × Instr → ℕ
offset_of one = one.0

decoded_row : (p : Pool) (start k pc : ℕ) (bytes : List ℕ) → Row (SpelledAt start place_of) (start + pc) (start + (pc + length bytes)) (decoded p k pc bytes)
unfolding decoded
decoded_row p start k pc [] = omega arith
decoded_row p start zero pc (b ∷ bytes) =
    let end : start + ((pc + 1) + length bytes) ≡ start + (pc + length (b ∷ bytes)) = omega arith in
    let inside : ℕ = (spelled_by pc (read (instruction p) pc (b ∷ bytes))).1 - 1 in
    let later = subst (λ (h : ℕ). Row (SpelledAt start place_of) (start + (pc + 1)) h (decoded p inside (pc + 1) bytes)) end (decoded_row p start inside (pc + 1) bytes) in
    (start + (pc + 1), omega arith, (omega arith, omega arith), later)
decoded_row p start (suc k) pc (b ∷ bytes) =
    let end : start + ((pc + 1) + length bytes) ≡ start + (pc + length (b ∷ bytes)) = omega arith in
    row_earlier (SpelledAt start place_of) (start + pc) (start + (pc + 1)) (start + (pc + length (b ∷ bytes))) (decoded p k (pc + 1) bytes) (spelled_down start place_of) (omega arith)
    (subst (λ (h : ℕ). Row (SpelledAt start place_of) (start + (pc + 1)) h (decoded p k (pc + 1) bytes)) end (decoded_row p start k (pc + 1) bytes))

instr_offset : (max_locals start : ℕ) (one : Placed Spelled) (low high : ℕ) (f : Flaw) → SpelledAt start place_of one low high → instr_flaw max_locals start one ≡ Some f → (low ≤ f.offset) × (f.offset < high)
instr_offset max_locals start one low high f at e = go (failing max_locals one.value) e
  where
    go : (o : Option ℕ) → option_map (λ number. flaw_at number (start + one.at)) o ≡ Some f → (low ≤ f.offset) × (f.offset < high)
    go None e = absurd cc
    go (Some number) e = let same : flaw_at number (start + one.at) ≡ f = cc in subst (λ (g : Flaw). (low ≤ g.offset) × (g.offset < high)) same at

-- the instructions among what is spelled
instr_kept : (start low middle high : ℕ) (one : Placed Spelled) (s : Spelled) (rest : List (ℕ × Instr)) → low ≤ middle → SpelledAt start place_of one low middle → one.value ≡ s → Row (SpelledAt start offset_of) middle high rest
    → Row (SpelledAt start offset_of) low high (cons_option (spelled_instr one.at s) rest)
instr_kept start low middle high one (instr i) rest le at is row = (middle, le, at, row)
instr_kept start low middle high one (flawed number numbers) rest le at is row = row_earlier (SpelledAt start offset_of) low middle high rest (spelled_down start offset_of) le row

instrs_row : (start low high : ℕ) (spelled : List (Placed Spelled)) → Row (SpelledAt start place_of) low high spelled → Row (SpelledAt start offset_of) low high (filter_map instr_of spelled)
instrs_row start low high [] row = row
instrs_row start low high (one ∷ spelled) row = instr_kept start low row.0 high one one.value (filter_map instr_of spelled) row.1 row.2 refl (instrs_row start row.0 high spelled row.3)

flow_within : (instrs : List (ℕ × Instr)) (start low high : ℕ) (rest : List (ℕ × Instr)) → Row (SpelledAt start offset_of) low high rest → Within low high (flow_flaws_from instrs start rest)
flow_within instrs start low high [] row = none_within low high
flow_within instrs start low high (one ∷ more) row =
    both_within low row.0 high _ (flow_flaws_from instrs start more) row.1 (row_end (SpelledAt start offset_of) row.0 high more row.3)
    (unless_within low row.0 (flows_well instrs more one.1) (flaw_at cause.CODE_SHAPE (start + one.0)) row.2.0 row.2.1)
    (flow_within instrs start row.0 high more row.3)

either_within : (low high : ℕ) (flaws flow : List Flaw) → Within low high flaws → Within low high flow → Within low high (or_else flaws flow)
either_within low high [] flow v w = w
either_within low high (f ∷ flaws) flow v w = v

pub code_within : (p : Pool) (max_locals start : ℕ) (bytes : List ℕ) → Within start (start + length bytes) (flaws_in p max_locals start bytes)
unfolding flaws_in flow_flaws instrs_in
code_within p max_locals start bytes =
    let begin : start + 0 ≡ start = omega arith in
    let end : start + (0 + length bytes) ≡ start + length bytes = omega arith in
    let row : Row (SpelledAt start place_of) start (start + length bytes) (decoded p 0 0 bytes) =
    subst (λ (l : ℕ). Row (SpelledAt start place_of) l (start + length bytes) (decoded p 0 0 bytes)) begin
    (subst (λ (h : ℕ). Row (SpelledAt start place_of) (start + 0) h (decoded p 0 0 bytes)) end (decoded_row p start 0 0 bytes)) in
    either_within start (start + length bytes) _ _
    (row_some (SpelledAt start place_of) (instr_flaw max_locals start) start (start + length bytes) (decoded p 0 0 bytes) (λ one l h f. instr_offset max_locals start one l h f) row)
    (flow_within (filter_map instr_of (decoded p 0 0 bytes)) start start (start + length bytes) (filter_map instr_of (decoded p 0 0 bytes)) (instrs_row start start (start + length bytes) (decoded p 0 0 bytes) row))

-- ---- what members hold

again_within : (low high : ℕ) (xs : List Attribute) → Row AttributeAt low high xs → Within low high (again_flaws xs)
again_within low high [] row = none_within low high
again_within low high (a ∷ xs) row =
    let begin : low ≤ a.name.at = row.2.begin in
    let between : a.name.at < a.content.at = row.2.between in
    let end : a.content.at + length a.content.value ≤ row.0 = row.2.end in
    both_within low row.0 high (flaw_at cause.ATTRIBUTE a.name.at ∷ []) (again_flaws xs) row.1 (row_end AttributeAt row.0 high xs row.3)
    (one_within low row.0 (flaw_at cause.ATTRIBUTE a.name.at) begin (omega arith)) (again_within row.0 high xs row.3)

attribute_down : (a : Attribute) (k l h : ℕ) → k ≤ l → AttributeAt a l h → AttributeAt a k h
attribute_down a k l h le at = record { begin = (let b : l ≤ a.name.at = at.begin in omega arith); between = at.between; end = at.end }

constants_within : (p : Pool) (f : RawMember) (low high : ℕ) (values : List Attribute) → Row AttributeAt low high values → Within low high (constant_flaws_of p f values)
constants_within p f low high [] row = none_within low high
constants_within p f low high (a ∷ others) row =
    let begin : low ≤ a.name.at = row.2.begin in
    let between : a.name.at < a.content.at = row.2.between in
    let end : a.content.at + length a.content.value ≤ row.0 = row.2.end in
    both_within low row.0 high _ (again_flaws others) row.1 (row_end AttributeAt row.0 high others row.3)
    (unless_within low row.0 (is_some (constant_of p f a)) (flaw_at cause.ATTRIBUTE a.name.at) begin (omega arith)) (again_within row.0 high others row.3)

member_begin : (m : RawMember) (low high : ℕ) → MemberAt m low high → low ≤ m.access.at
member_begin m low high at = at.begin

before_attributes : (m : RawMember) (low high : ℕ) (at : MemberAt m low high) → m.access.at < at.behind
before_attributes m low high at =
    let name : m.access.at < m.name.at = at.name in
    let descriptor : m.name.at < m.descriptor.at = at.descriptor in
    let others : m.descriptor.at < at.behind = at.others in
    omega arith

constant_within : (p : Pool) (f : RawMember) (low high : ℕ) → MemberAt f low high → Within low high (constant_flaws p f)
constant_within p f low high at = go (has_flag f.access.value ACC_STATIC)
  where
    begin : low ≤ at.behind
    begin = let a : low ≤ f.access.at = at.begin in let b : f.access.at < at.behind = before_attributes f low high at in omega arith

    go : (t : Bool) → Within low high (cond t (constant_flaws_of p f (constant_values p f)) [])
    go true =
        wider low at.behind high high _ begin (same high)
        (constants_within p f at.behind high (constant_values p f) (row_kept AttributeAt _ at.behind high f.attributes attribute_down at.attributes))
    go false = none_within low high

-- the content of a Code attribute that was read
whole_code : (r : Result (Found RawCode) Flaw) (raw : RawCode) → whole_of r ≡ Some raw → (found : Found RawCode) × (r ≡ Ok found) × (found.0 ≡ raw)
whole_code (Err flaw) raw e = absurd cc
whole_code (Ok found) raw e = go (eqb (length found.2) 0) e
  where
    go : (t : Bool) → cond t (Some found.0) None ≡ Some raw → (other : Found RawCode) × ((let r : Result (Found RawCode) Flaw = Ok found in r) ≡ Ok other) × (other.0 ≡ raw)
    go false e = absurd cc
    go true e = (found, refl, cc)

content_within : (p : Pool) (raw : RawCode) (low high : ℕ) → CodeAt raw low high → Within low high (code_flaws p raw)
unfolding code_flaws
content_within p raw low high at = go (nat_lt 0 raw.length.value && nat_le raw.length.value MOST_CODE_BYTES)
  where
    begin : low ≤ raw.length.at
    begin = at.begin

    between : raw.length.at < raw.bytes.at
    between = at.between

    end : raw.bytes.at + length raw.bytes.value ≤ high
    end = at.end

    go : (t : Bool) → Within low high (cond t (flaws_in p raw.max_locals raw.bytes.at raw.bytes.value) (flaw_at cause.CODE_SHAPE raw.length.at ∷ []))
    go true = wider low raw.bytes.at (raw.bytes.at + length raw.bytes.value) high _ (omega (arith, begin, between)) end (code_within p raw.max_locals raw.bytes.at raw.bytes.value)
    go false = one_within low high (flaw_at cause.CODE_SHAPE raw.length.at) begin (omega (arith, between, end))

code_raw_within : (p : Pool) (a : Attribute) (raw : Option RawCode) (low high : ℕ) → raw_code a ≡ raw → AttributeAt a low high → Within low high (raw_code_flaws p a.name.at raw)
unfolding raw_code
code_raw_within p a None low high is at =
    let begin : low ≤ a.name.at = at.begin in
    let between : a.name.at < a.content.at = at.between in
    let end : a.content.at + length a.content.value ≤ high = at.end in
    one_within low high (flaw_at cause.ATTRIBUTE a.name.at) begin (omega arith)
code_raw_within p a (Some raw) low high is at =
    let begin : low ≤ a.name.at = at.begin in
    let between : a.name.at < a.content.at = at.between in
    let w = whole_code (read code a.content.at a.content.value) raw is in
    let places : CodeAt raw a.content.at (a.content.at + length a.content.value) = subst (λ (r : RawCode). CodeAt r a.content.at (a.content.at + length a.content.value)) w.2 (code_at a.content.at a.content.value w.0 w.1) in
    wider low a.content.at (a.content.at + length a.content.value) high _ (omega arith) at.end (content_within p raw a.content.at (a.content.at + length a.content.value) places)

method_code_within : (p : Pool) (low high : ℕ) (found : List Attribute) → Row AttributeAt low high found → Within low high (method_code_flaws p found)
method_code_within p low high [] row = none_within low high
method_code_within p low high (a ∷ others) row =
    both_within low row.0 high _ (again_flaws others) row.1 (row_end AttributeAt row.0 high others row.3) (code_raw_within p a (raw_code a) low row.0 refl row.2) (again_within row.0 high others row.3)

-- the two flaws of a method's flags
flags_within : (low high : ℕ) (native interface : Bool) (offset : ℕ) → low ≤ offset → offset < high → Within low high (unless native (flaw_at cause.NATIVE offset) ++ unless interface (flaw_at cause.INTERFACE_CODE offset))
flags_within low high true interface offset from below = unless_within low high interface (flaw_at cause.INTERFACE_CODE offset) from below
flags_within low high false true offset from below = one_within low high (flaw_at cause.NATIVE offset) from below
flags_within low high false false offset from below = record {
  order = ((inr (refl, omega arith), tt), (tt, tt));
  from = (from, (from, tt));
  below = (below, (below, tt));
}

method_within : (c : RawClass) (m : RawMember) (low high : ℕ) → MemberAt m low high → Within low high (method_flaws c m)
method_within c m low high at =
    let begin : low ≤ m.access.at = at.begin in
    let before : m.access.at < at.behind = before_attributes m low high at in
    let end : at.behind ≤ high = row_end AttributeAt at.behind high m.attributes at.attributes in
    let codes : List Flaw = method_code_flaws c.pool (codes_of c.pool m) in
    subst (Within low high) (append_assoc (native_flaws m) (interface_code_flaws c m) codes)
    (both_within low at.behind high (native_flaws m ++ interface_code_flaws c m) codes (omega arith) end
    (flags_within low at.behind _ _ m.access.at begin before)
    (method_code_within c.pool at.behind high (codes_of c.pool m) (row_kept AttributeAt _ at.behind high m.attributes attribute_down at.attributes)))

pub fourth_within : (c : RawClass) (low high : ℕ) → ClassAt c low high → Within low high (fourth_pass c)
unfolding fourth_pass
fourth_within c low high at =
    parts_within c low high [] [] [] _ _ at (none_within c.this_class.at c.super_class.at) (λ l h from below. none_within l h) (λ l h row. none_within l h)
    (λ l h row. row_within MemberAt (constant_flaws c.pool) l h c.fields (constant_within c.pool) row)
    (λ l h row. row_within MemberAt (method_flaws c) l h c.methods (method_within c) row)

-- ---- the passes of a class whose items are whole

whole_at : (bytes : List ℕ) (c : RawClass) (whole : IsWhole bytes c) → ClassAt c 4 whole.behind
whole_at bytes c whole = class_at 4 whole.others (c, whole.behind, []) (stands_read class_file 4 whole.others c whole.behind [] whole.items)

pub second_ascends : (bytes : List ℕ) (c : RawClass) → IsWhole bytes c → Ascend (second_pass c)
second_ascends bytes c whole = (second_within c 4 whole.behind (whole_at bytes c whole)).order

pub third_ascends : (bytes : List ℕ) (c : RawClass) → IsWhole bytes c → Ascend (third_pass c)
third_ascends bytes c whole = (third_within c 4 whole.behind (whole_at bytes c whole)).order

pub fourth_ascends : (bytes : List ℕ) (c : RawClass) → IsWhole bytes c → Ascend (fourth_pass c)
fourth_ascends bytes c whole = (fourth_within c 4 whole.behind (whole_at bytes c whole)).order

pub code_ascends : (p : Pool) (max_locals start : ℕ) (bytes : List ℕ) → Ascend (flaws_in p max_locals start bytes)
code_ascends p max_locals start bytes = (code_within p max_locals start bytes).order

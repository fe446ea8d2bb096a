-- Where the parts of a class that was read stand.
use Rattle.std.proofs.Common.{◌≡◌, ℕ, zero, suc, ◌+◌, ◌-◌, ◌*◌, ◌&&◌, ◌<◌, ◌≤◌, Bool, true, false, List, [], ◌∷◌, ◌++◌, length, Option, Some, None, Result, Ok, Err, refl, sym, ap, subst, ◌∙◌, arith}
use Rattle.std.specs.Prelude.{nat_lt, nat_le}
use Rattle.th_syntax.specs.declared.cause.TheConstants as cause
use Rattle.th_syntax.specs.declared.limit.TheConstants.{OLDEST_MAJOR, NEWEST_MAJOR}
use Rattle.th_syntax.specs.declared.refusal.Flaw.{Flaw}
use Rattle.th_syntax.specs.Forms.{Form, whole, ◌>>=◌, Placed, Stands, Found, read}
use Rattle.th_syntax.specs.ClassBytes.{u1, u2, u4, run, demand, counted, Entry, Pool, content, entry, slot, takes_two, slots, pool, Attribute, attribute, RawMember, member, RawClass, class_file, RawCode, code}
use Rattle.th_syntax.proofs.ReadingParts.{read_behind, read_split, read_length, number_place, run_place, whole_found, demand_found}
use Rattle.th_syntax.proofs.Within.{Row, row_end, row_earlier, counted_row}

-- ---- where each stands

-- a number of two bytes
abbrev pub NumberAt : Placed ℕ → ℕ → ℕ → Type 0
NumberAt i low high = (low ≤ i.at) × (i.at < high)

pub record AttributeAt (a : Attribute) (low high : ℕ) : Type 0 where
  pub begin : low ≤ a.name.at
  pub between : a.name.at < a.content.at
  pub end : a.content.at + length a.content.value ≤ high

pub record MemberAt (m : RawMember) (low high : ℕ) : Type 0 where
  pub behind : ℕ
  pub begin : low ≤ m.access.at
  pub name : m.access.at < m.name.at
  pub descriptor : m.name.at < m.descriptor.at
  pub others : m.descriptor.at < behind
  pub attributes : Row AttributeAt behind high m.attributes

-- what an index of the pool leads to
abbrev pub SlotAt : Option (Placed Entry) → ℕ → ℕ → Type 0
SlotAt None low high = Unit {0}
SlotAt (Some e) low high = (low ≤ e.at) × (e.at < high)

-- the parts of a class, one behind the other
pub record ClassAt (c : RawClass) (low high : ℕ) : Type 0 where
  pub pool_end : ℕ
  pub interfaces_begin : ℕ
  pub interfaces_end : ℕ
  pub fields_begin : ℕ
  pub fields_end : ℕ
  pub methods_begin : ℕ
  pub methods_end : ℕ
  pub attributes_begin : ℕ
  pub entries : Row SlotAt low pool_end c.pool
  pub this_class : pool_end ≤ c.this_class.at
  pub super_class : c.this_class.at < c.super_class.at
  pub before_interfaces : c.super_class.at < interfaces_begin
  pub interfaces : Row NumberAt interfaces_begin interfaces_end c.interfaces
  pub before_fields : interfaces_end ≤ fields_begin
  pub fields : Row MemberAt fields_begin fields_end c.fields
  pub before_methods : fields_end ≤ methods_begin
  pub methods : Row MemberAt methods_begin methods_end c.methods
  pub before_attributes : methods_end ≤ attributes_begin
  pub attributes : Row AttributeAt attributes_begin high c.attributes

-- the parts of a code attribute's content
pub record CodeAt (raw : RawCode) (low high : ℕ) : Type 0 where
  pub begin : low ≤ raw.length.at
  pub between : raw.length.at < raw.bytes.at
  pub end : raw.bytes.at + length raw.bytes.value ≤ high

-- ---- attributes and members

number_at : (at : ℕ) (bytes : List ℕ) (found : Found (Placed ℕ)) → read u2 at bytes ≡ Ok found → (at ≤ found.1) × NumberAt found.0 at found.1
number_at at bytes found e =
    let p = number_place 2 at bytes found e in
    let here : found.0.at ≡ at = p.0 in
    let end : found.1 ≡ at + 2 = p.1 in
    (omega arith, (omega arith, omega arith))

attribute_at : (at : ℕ) (bytes : List ℕ) (found : Found Attribute) → read attribute at bytes ≡ Ok found → (at ≤ found.1) × AttributeAt found.0 at found.1
unfolding attribute
attribute_at at bytes found e =
    let name = read_split u2 _ at bytes found e in
    let len = read_split u4 _ name.0.1 name.0.2 found name.2 in
    let held = read_split (run len.0.0.value) (λ held. whole (let a : Attribute = record { name = name.0.0; content = held } in a)) len.0.1 len.0.2 found len.2 in
    let made : Attribute = record { name = name.0.0; content = held.0.0 } in
    let w = whole_found made held.0.1 held.0.2 found held.2 in
    let n = number_place 2 at bytes name.0 name.1 in
    let l = number_place 4 name.0.1 name.0.2 len.0 len.1 in
    let c = run_place len.0.0.value len.0.1 len.0.2 held.0 held.1 in
    let n_at : name.0.0.at ≡ at = n.0 in
    let n_end : name.0.1 ≡ at + 2 = n.1 in
    let l_end : len.0.1 ≡ name.0.1 + 4 = l.1 in
    let c_at : held.0.0.at ≡ len.0.1 = c.0 in
    let c_end : len.0.1 + length held.0.0.value ≡ held.0.1 = c.1 in
    let end : found.1 ≡ held.0.1 = w.1 in
    let standing : AttributeAt made at found.1 = record { begin = omega arith; between = omega arith; end = omega arith } in
    (omega arith, subst (λ (a : Attribute). AttributeAt a at found.1) (sym w.0) standing)

pub attributes_at : (at : ℕ) (bytes : List ℕ) (found : Found (List Attribute)) → read (counted attribute) at bytes ≡ Ok found → Row AttributeAt (at + 2) found.1 found.0
attributes_at at bytes found e = counted_row AttributeAt attribute at bytes found attribute_at e

member_at : (at : ℕ) (bytes : List ℕ) (found : Found RawMember) → read member at bytes ≡ Ok found → (at ≤ found.1) × MemberAt found.0 at found.1
unfolding member
member_at at bytes found e =
    let access = read_split u2 _ at bytes found e in
    let name = read_split u2 _ access.0.1 access.0.2 found access.2 in
    let descriptor = read_split u2 _ name.0.1 name.0.2 found name.2 in
    let attributes = read_split (counted attribute) (λ held. whole (let m : RawMember = record { access = access.0.0; name = name.0.0; descriptor = descriptor.0.0; attributes = held } in m)) descriptor.0.1 descriptor.0.2 found descriptor.2 in
    let made : RawMember = record { access = access.0.0; name = name.0.0; descriptor = descriptor.0.0; attributes = attributes.0.0 } in
    let w = whole_found made attributes.0.1 attributes.0.2 found attributes.2 in
    let a = number_place 2 at bytes access.0 access.1 in
    let n = number_place 2 access.0.1 access.0.2 name.0 name.1 in
    let d = number_place 2 name.0.1 name.0.2 descriptor.0 descriptor.1 in
    let a_at : access.0.0.at ≡ at = a.0 in
    let a_end : access.0.1 ≡ at + 2 = a.1 in
    let n_at : name.0.0.at ≡ access.0.1 = n.0 in
    let n_end : name.0.1 ≡ access.0.1 + 2 = n.1 in
    let d_at : descriptor.0.0.at ≡ name.0.1 = d.0 in
    let d_end : descriptor.0.1 ≡ name.0.1 + 2 = d.1 in
    let row = attributes_at descriptor.0.1 descriptor.0.2 attributes.0 attributes.1 in
    let long : descriptor.0.1 + 2 ≤ attributes.0.1 = row_end AttributeAt (descriptor.0.1 + 2) attributes.0.1 attributes.0.0 row in
    let end : attributes.0.1 ≡ found.1 = sym w.1 in
    let standing : MemberAt made at found.1 = record {
      behind = descriptor.0.1 + 2;
      begin = omega arith;
      name = omega arith;
      descriptor = omega arith;
      others = omega arith;
      attributes = subst (λ (k : ℕ). Row AttributeAt (descriptor.0.1 + 2) k attributes.0.0) end row;
    } in
    (omega arith, subst (λ (m : RawMember). MemberAt m at found.1) (sym w.0) standing)

members_at : (at : ℕ) (bytes : List ℕ) (found : Found (List RawMember)) → read (counted member) at bytes ≡ Ok found → Row MemberAt (at + 2) found.1 found.0
members_at at bytes found e = counted_row MemberAt member at bytes found member_at e

-- ---- the pool

entry_at : (left at : ℕ) (bytes : List ℕ) (found : Found (Placed Entry)) → read (entry left) at bytes ≡ Ok found → (found.0.at ≡ at) × (at < found.1)
unfolding entry
entry_at left at bytes found e =
    let one = read_split u1 _ at bytes found e in
    let tag = number_place 1 at bytes one.0 one.1 in
    let rest = demand_found _ one.0.0.at cause.POOL _ one.0.1 one.0.2 found one.2 in
    let two = read_split (content one.0.0.value) (λ value. whole (let p : Placed Entry = record { at = one.0.0.at; value = value } in p)) one.0.1 one.0.2 found rest in
    let far = read_behind (content one.0.0.value) one.0.1 one.0.2 two.0 two.1 in
    let made : Placed Entry = record { at = one.0.0.at; value = two.0.0 } in
    let last = whole_found made two.0.1 two.0.2 found two.2 in
    let from : found.0.at ≡ one.0.0.at = ap (λ (p : Placed Entry). p.at) last.0 in
    let low : one.0.1 ≤ two.0.1 = far.0 in
    let end : found.1 ≡ two.0.1 = last.1 in
    let begin : one.0.1 ≡ at + 1 = tag.1 in
    (from ∙ tag.0, omega arith)

slot_at : (second : Bool) (left at : ℕ) (bytes : List ℕ) (found : Found (Option (Placed Entry))) → read (slot second left) at bytes ≡ Ok found → (at ≤ found.1) × SlotAt found.0 at found.1
unfolding slot
slot_at true left at bytes found e =
    let w = whole_found None at bytes found e in
    let end : found.1 ≡ at = w.1 in
    (omega arith, subst (λ (o : Option (Placed Entry)). SlotAt o at found.1) (sym w.0) tt)
slot_at false left at bytes found e =
    let one = read_split (entry left) (λ x. whole (Some x)) at bytes found e in
    let place = entry_at left at bytes one.0 one.1 in
    let w = whole_found (Some one.0.0) one.0.1 one.0.2 found one.2 in
    let here : one.0.0.at ≡ at = place.0 in
    let far : at < one.0.1 = place.1 in
    let end : found.1 ≡ one.0.1 = w.1 in
    let standing : SlotAt (Some one.0.0) at found.1 = (omega arith, omega arith) in
    (omega arith, subst (λ (o : Option (Placed Entry)). SlotAt o at found.1) (sym w.0) standing)

slots_at : (second : Bool) (left at : ℕ) (bytes : List ℕ) (found : Found Pool) → read (slots second left) at bytes ≡ Ok found → Row SlotAt at found.1 found.0
unfolding slots
slots_at second zero at bytes found e = let w = whole_found [] at bytes found e in rw w.0 (let end : found.1 ≡ at = w.1 in omega arith)
slots_at second (suc left) at bytes found e =
    let one = read_split (slot second left) _ at bytes found e in
    let here = slot_at second left at bytes one.0 one.1 in
    let two = read_split (slots (takes_two one.0.0) left) (λ others. whole (one.0.0 ∷ others)) one.0.1 one.0.2 found one.2 in
    let rest = slots_at (takes_two one.0.0) left one.0.1 one.0.2 two.0 two.1 in
    let w = whole_found (one.0.0 ∷ two.0.0) two.0.1 two.0.2 found two.2 in
    let behind : Row SlotAt one.0.1 found.1 two.0.0 = subst (λ (k : ℕ). Row SlotAt one.0.1 k two.0.0) (sym w.1) rest in
    subst (λ (p : Pool). Row SlotAt at found.1 p) (sym w.0) (one.0.1, here.0, here.1, behind)

slot_down : (o : Option (Placed Entry)) (k l h : ℕ) → k ≤ l → SlotAt o l h → SlotAt o k h
slot_down None k l h le at = tt
slot_down (Some e) k l h le at = ((let b : l ≤ e.at = at.0 in omega arith), at.1)

pool_at : (at : ℕ) (bytes : List ℕ) (found : Found Pool) → read pool at bytes ≡ Ok found → (at ≤ found.1) × Row SlotAt at found.1 found.0
unfolding pool
pool_at at bytes found e =
    let one = read_split u2 _ at bytes found e in
    let rest = demand_found (nat_lt 0 one.0.0.value) one.0.0.at cause.POOL _ one.0.1 one.0.2 found one.2 in
    let two = read_split (slots false (one.0.0.value - 1)) (λ others. whole (None ∷ others)) one.0.1 one.0.2 found rest in
    let row = slots_at false (one.0.0.value - 1) one.0.1 one.0.2 two.0 two.1 in
    let w = whole_found (None ∷ two.0.0) two.0.1 two.0.2 found two.2 in
    let begin : one.0.1 ≡ at + 2 = (number_place 2 at bytes one.0 one.1).1 in
    let far : one.0.1 ≤ two.0.1 = row_end SlotAt one.0.1 two.0.1 two.0.0 row in
    let end : found.1 ≡ two.0.1 = w.1 in
    let behind : Row SlotAt one.0.1 found.1 two.0.0 = subst (λ (k : ℕ). Row SlotAt one.0.1 k two.0.0) (sym w.1) row in
    let le : at ≤ one.0.1 = omega arith in
    (omega arith, subst (λ (p : Pool). Row SlotAt at found.1 p) (sym w.0) (one.0.1, le, tt, behind))

-- ---- the class

-- the last parts of a class, and where they stand
abbrev attributes_form : (List Attribute → RawClass) → Form RawClass
attributes_form make = counted attribute >>= λ held. whole (make held)

record AttributesRead (make : List Attribute → RawClass) (at : ℕ) (found : Found RawClass) : Type 0 where
  held : List Attribute
  made : found.0 ≡ make held
  row : Row AttributeAt (at + 2) found.1 held

attributes_read : (make : List Attribute → RawClass) (at : ℕ) (bytes : List ℕ) (found : Found RawClass) → read (attributes_form make) at bytes ≡ Ok found → AttributesRead make at found
attributes_read make at bytes found e =
    let one = read_split (counted attribute) (λ held. whole (make held)) at bytes found e in
    let w = whole_found (make one.0.0) one.0.1 one.0.2 found one.2 in
    record { held = one.0.0; made = w.0; row = subst (λ (k : ℕ). Row AttributeAt (at + 2) k one.0.0) (sym w.1) (attributes_at at bytes one.0 one.1) }

abbrev methods_form : (List RawMember → List Attribute → RawClass) → Form RawClass
methods_form make = counted member >>= λ methods. attributes_form (make methods)

record MethodsRead (make : List RawMember → List Attribute → RawClass) (at : ℕ) (found : Found RawClass) : Type 0 where
  methods : List RawMember
  end : ℕ
  row : Row MemberAt (at + 2) end methods
  behind : AttributesRead (make methods) end found

methods_read : (make : List RawMember → List Attribute → RawClass) (at : ℕ) (bytes : List ℕ) (found : Found RawClass) → read (methods_form make) at bytes ≡ Ok found → MethodsRead make at found
methods_read make at bytes found e =
    let one = read_split (counted member) (λ methods. attributes_form (make methods)) at bytes found e in
    record { methods = one.0.0; end = one.0.1; row = members_at at bytes one.0 one.1; behind = attributes_read (make one.0.0) one.0.1 one.0.2 found one.2 }

abbrev fields_form : (List RawMember → List RawMember → List Attribute → RawClass) → Form RawClass
fields_form make = counted member >>= λ fields. methods_form (make fields)

record FieldsRead (make : List RawMember → List RawMember → List Attribute → RawClass) (at : ℕ) (found : Found RawClass) : Type 0 where
  fields : List RawMember
  end : ℕ
  row : Row MemberAt (at + 2) end fields
  behind : MethodsRead (make fields) end found

fields_read : (make : List RawMember → List RawMember → List Attribute → RawClass) (at : ℕ) (bytes : List ℕ) (found : Found RawClass) → read (fields_form make) at bytes ≡ Ok found → FieldsRead make at found
fields_read make at bytes found e =
    let one = read_split (counted member) (λ fields. methods_form (make fields)) at bytes found e in
    record { fields = one.0.0; end = one.0.1; row = members_at at bytes one.0 one.1; behind = methods_read (make one.0.0) one.0.1 one.0.2 found one.2 }

-- the parts behind the pool
abbrev class_with : ℕ → Pool → Placed ℕ → Placed ℕ → Placed ℕ → List (Placed ℕ) → List RawMember → List RawMember → List Attribute → RawClass
class_with major entries access this_class super_class interfaces fields methods attributes =
    record { major = major; pool = entries; access = access; this_class = this_class; super_class = super_class; interfaces = interfaces; fields = fields; methods = methods; attributes = attributes }

abbrev behind_super : ℕ → Pool → Placed ℕ → Placed ℕ → Placed ℕ → Form RawClass
behind_super major entries access this_class super_class = counted u2 >>= λ interfaces. fields_form (class_with major entries access this_class super_class interfaces)

abbrev behind_this : ℕ → Pool → Placed ℕ → Placed ℕ → Form RawClass
behind_this major entries access this_class = u2 >>= λ super_class. behind_super major entries access this_class super_class

abbrev behind_access : ℕ → Pool → Placed ℕ → Form RawClass
behind_access major entries access = u2 >>= λ this_class. behind_this major entries access this_class

abbrev behind_pool : ℕ → Pool → Form RawClass
behind_pool major entries = u2 >>= λ access. behind_access major entries access

abbrev behind_version : ℕ → Form RawClass
behind_version major = pool >>= λ entries. behind_pool major entries

-- a number of two bytes stands below what follows it
below_next : (n from behind : ℕ) → n ≡ from → behind ≡ from + 2 → n < behind
below_next n from behind at end = omega arith

from_on : (low n from : ℕ) → n ≡ from → low ≤ from → low ≤ n
from_on low n from at le = omega arith

two_apart : (at one two : ℕ) → one ≡ at + 2 → two ≡ one + 2 → at ≤ two
two_apart at one two first second = omega arith

next_is : (low behind : ℕ) → behind ≡ low + 2 → low ≤ behind
next_is low behind end = omega arith

two_more : (n : ℕ) → n ≤ n + 2
two_more n = omega arith

through_two : (a b : ℕ) → a < b → a < b + 2
through_two a b lower = omega arith

record InterfacesRead (major : ℕ) (entries : Pool) (access this_class super_class : Placed ℕ) (at : ℕ) (found : Found RawClass) : Type 0 where
  interfaces : List (Placed ℕ)
  end : ℕ
  row : Row NumberAt (at + 2) end interfaces
  behind : FieldsRead (class_with major entries access this_class super_class interfaces) end found

interfaces_read : (major : ℕ) (entries : Pool) (access this_class super_class : Placed ℕ) (at : ℕ) (bytes : List ℕ) (found : Found RawClass) → read (behind_super major entries access this_class super_class) at bytes ≡ Ok found → InterfacesRead major entries access this_class super_class at found
interfaces_read major entries access this_class super_class at bytes found e =
    let one = read_split (counted u2) (λ interfaces. fields_form (class_with major entries access this_class super_class interfaces)) at bytes found e in
    record { interfaces = one.0.0; end = one.0.1; row = counted_row NumberAt u2 at bytes one.0 number_at one.1; behind = fields_read (class_with major entries access this_class super_class one.0.0) one.0.1 one.0.2 found one.2 }

-- the class behind its pool
class_behind : (major low : ℕ) (entries : Pool) (at : ℕ) (bytes : List ℕ) (found : Found RawClass) → Row SlotAt low at entries → read (behind_pool major entries) at bytes ≡ Ok found → ClassAt found.0 low found.1
class_behind major low entries at bytes found row e =
    let access = read_split u2 (λ access. behind_access major entries access) at bytes found e in
    let this_class = read_split u2 (λ this_class. behind_this major entries access.0.0 this_class) access.0.1 access.0.2 found access.2 in
    let super_class = read_split u2 (λ super_class. behind_super major entries access.0.0 this_class.0.0 super_class) this_class.0.1 this_class.0.2 found this_class.2 in
    let i = interfaces_read major entries access.0.0 this_class.0.0 super_class.0.0 super_class.0.1 super_class.0.2 found super_class.2 in
    let f = i.behind in
    let m = f.behind in
    let a = number_place 2 at bytes access.0 access.1 in
    let t = number_place 2 access.0.1 access.0.2 this_class.0 this_class.1 in
    let s = number_place 2 this_class.0.1 this_class.0.2 super_class.0 super_class.1 in
    let made : RawClass = class_with major entries access.0.0 this_class.0.0 super_class.0.0 i.interfaces f.fields m.methods m.behind.held in
    let standing : ClassAt made low found.1 = record {
      pool_end = at;
      interfaces_begin = super_class.0.1 + 2;
      interfaces_end = i.end;
      fields_begin = i.end + 2;
      fields_end = f.end;
      methods_begin = f.end + 2;
      methods_end = m.end;
      attributes_begin = m.end + 2;
      entries = row;
      this_class = from_on at this_class.0.0.at access.0.1 t.0 (next_is at access.0.1 a.1);
      super_class = subst (λ (k : ℕ). this_class.0.0.at < k) (sym s.0) (below_next this_class.0.0.at access.0.1 this_class.0.1 t.0 t.1);
      before_interfaces = through_two super_class.0.0.at super_class.0.1 (below_next super_class.0.0.at this_class.0.1 super_class.0.1 s.0 s.1);
      interfaces = i.row;
      before_fields = two_more i.end;
      fields = f.row;
      before_methods = two_more f.end;
      methods = m.row;
      before_attributes = two_more m.end;
      attributes = m.behind.row;
    } in
    subst (λ (c : RawClass). ClassAt c low found.1) (sym m.behind.made) standing

pub class_at : (at : ℕ) (bytes : List ℕ) (found : Found RawClass) → read class_file at bytes ≡ Ok found → ClassAt found.0 at found.1
unfolding class_file
class_at at bytes found e =
    let minor = read_split u2 _ at bytes found e in
    let major = read_split u2 _ minor.0.1 minor.0.2 found minor.2 in
    let known = demand_found (nat_le OLDEST_MAJOR major.0.0.value && nat_le major.0.0.value NEWEST_MAJOR) major.0.0.at cause.VERSION (λ known. behind_version major.0.0.value) major.0.1 major.0.2 found major.2 in
    let entries = read_split pool (λ entries. behind_pool major.0.0.value entries) major.0.1 major.0.2 found known in
    let b = number_place 2 at bytes minor.0 minor.1 in
    let m = number_place 2 minor.0.1 minor.0.2 major.0 major.1 in
    let p = pool_at major.0.1 major.0.2 entries.0 entries.1 in
    class_behind major.0.0.value at entries.0.0 entries.0.1 entries.0.2 found
    (row_earlier SlotAt at major.0.1 entries.0.1 entries.0.0 slot_down (two_apart at minor.0.1 major.0.1 b.1 m.1) p.1) entries.2

-- ---- the content of a Code attribute

pub code_at : (at : ℕ) (bytes : List ℕ) (found : Found RawCode) → read code at bytes ≡ Ok found → CodeAt found.0 at (at + length bytes)
unfolding code
code_at at bytes found e =
    let stack = read_split u2 _ at bytes found e in
    let locals = read_split u2 _ stack.0.1 stack.0.2 found stack.2 in
    let len = read_split u4 _ locals.0.1 locals.0.2 found locals.2 in
    let held = read_split (run len.0.0.value) _ len.0.1 len.0.2 found len.2 in
    let handlers = read_split u2 _ held.0.1 held.0.2 found held.2 in
    let table = read_split (run (8 * handlers.0.0.value)) _ handlers.0.1 handlers.0.2 found handlers.2 in
    let made : RawCode = record { max_stack = stack.0.0.value; max_locals = locals.0.0.value; length = len.0.0; bytes = held.0.0; handlers = handlers.0.0.value } in
    let attributes = read_split (counted attribute) (λ attributes. whole made) table.0.1 table.0.2 found table.2 in
    let w = whole_found made attributes.0.1 attributes.0.2 found attributes.2 in
    let s = number_place 2 at bytes stack.0 stack.1 in
    let l = number_place 2 stack.0.1 stack.0.2 locals.0 locals.1 in
    let n = number_place 4 locals.0.1 locals.0.2 len.0 len.1 in
    let c = run_place len.0.0.value len.0.1 len.0.2 held.0 held.1 in
    let rest = read_length (run len.0.0.value) len.0.1 len.0.2 held.0 held.1 in
    let before = read_length u4 locals.0.1 locals.0.2 len.0 len.1 in
    let more = read_length u2 stack.0.1 stack.0.2 locals.0 locals.1 in
    let all = read_length u2 at bytes stack.0 stack.1 in
    let s_end : stack.0.1 ≡ at + 2 = s.1 in
    let l_end : locals.0.1 ≡ stack.0.1 + 2 = l.1 in
    let n_at : len.0.0.at ≡ locals.0.1 = n.0 in
    let n_end : len.0.1 ≡ locals.0.1 + 4 = n.1 in
    let c_at : held.0.0.at ≡ len.0.1 = c.0 in
    let c_end : len.0.1 + length held.0.0.value ≡ held.0.1 = c.1 in
    let standing : CodeAt made at (at + length bytes) = record { begin = omega arith; between = omega arith; end = omega arith } in
    subst (λ (r : RawCode). CodeAt r at (at + length bytes)) (sym w.0) standing

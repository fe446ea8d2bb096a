-- Class files of the grammar that are linked and have kinds are a sound program.
use Rattle.std.proofs.Common.{◌≡◌, ℕ, zero, suc, ◌==◌, ◌⊎◌, inl, inr, ◌&&◌, ◌||◌, not, Bool, true, false, cond, if◌then◌else◌, List, [], ◌∷◌, ◌++◌, Option, None, Some, refl, sym, ap, subst, ◌∙◌, arith}
use Rattle.std.specs.Prelude.{slice_get, length, map, nat_lt, Contains}
use Rattle.std.specs.List.{AllByRecursion, list_all, slice_split, onto_first}
use Rattle.std.specs.Option.{option_and_then, option_map, option_map_or}
use Rattle.std.specs.Str.{byte}
use Rattle.std.proofs.lemmas.Bool.{eqb-true, ne_eqb}
use Rattle.th_base.specs.Handlers.{Handler, handlers, takes_bundle}
use Rattle.th_base.specs.Subtype.{JavaType, ClassType, named_type}
use Rattle.th_syntax.specs.declared.class_file.ClassFile.{ClassFile}
use Rattle.th_syntax.specs.declared.class_file.Code.{Code}
use Rattle.th_syntax.specs.declared.class_file.Constant.{Constant}
use Rattle.th_syntax.specs.declared.class_file.Member.{Member}
use Rattle.th_syntax.specs.declared.instr.Instr.{Instr}
use Rattle.th_syntax.specs.declared.instr.Instr.TheVariants.{Str, Return, GetStatic, PutStatic, GetField, PutField, InvokeVirtual, InvokeSpecial, InvokeInterface, InvokeStatic, New}
use Rattle.th_syntax.specs.Changes.{FallsThrough}
use Rattle.th_syntax.specs.Descriptors.{FieldType, byte_type, char_type, double_type, float_type, int_type, long_type, short_type, boolean_type, class_type, array_type, MethodType, type_bytes, is_floating, is_floating_method, only_if, field_type_of, method_type_of, method_at, types_at, type_at, element_at, name_before, base_type, result_at}
use Rattle.th_syntax.specs.CodeBytes.{type_numbers, method_type_numbers, class_name_numbers}
use Rattle.th_syntax.specs.Facts.{IsReachedInstr}
use Rattle.th_syntax.specs.Flags.{is_static, is_interface}
use Rattle.th_syntax.specs.Flow.{IsReached, instr_in, successors_of}
use Rattle.th_syntax.specs.Initial.{constant_value}
use Rattle.th_syntax.specs.Kinds.{KindsAt, NoKinds}
use Rattle.th_syntax.specs.KindRows.{slots_of_type}
use Rattle.th_syntax.specs.KindTable.{entry_kinds, IsHeld, IsClosedTable, is_conflict, is_short_of_locals, conflicts_at, HasKinds}
use Rattle.th_syntax.specs.LinkChecks.{use_of, class_in_type}
use Rattle.th_syntax.specs.Strings.{string_number_of}
use Rattle.th_syntax.specs.Linking.{Stands}
use Rattle.th_syntax.specs.Program.{built_in_classes, all_classes, empty_constructor, empty_handler, Owned, fields_of, methods_of, number_named}
use Rattle.th_syntax.specs.WellFormed.{is_name_byte, is_field_name, is_class_name}
use Rattle.th_syntax.proofs.Inverting.{some_is, and_then_some, both}
use Rattle.th_syntax.proofs.MergingKinds.{at_self}
use Rattle.th_syntax.proofs.Visiting.{placed_of}
use Rattle.th_runs.specs.Entered.{InterfacesRunNoInstance}
use Rattle.th_runs.specs.Fitting.{type_slots, IsOfType}
use Rattle.th_runs.specs.Sound.{IsClosed, IsDescribed, IsSound}
use Rattle.th_runs.specs.Verified.{IsRead, HasItsKinds, IsVerified}
use Rattle.th_runs.proofs.Above.{unless_nil}
use Rattle.th_runs.proofs.Declaring.{found_at}
use Rattle.th_runs.proofs.Shaping.{IsIn}
use Rattle.th_runs.proofs.Spelt.{IsWellNamed}
use Rattle.th_runs.proofs.Valued.{IsGoodCode, IsGoodMethod, method_read, field_read}
use Rattle.th_runs.proofs.Members.{at_append, IsOwned, owned_in, all_in, initialiser_static, initialisers_are, launches_are, OnlyReturns, EachMethod, built_in_return}
use Rattle.th_runs.proofs.Texts.{text_there}

-- ---- code of one `return`

abbrev one_return : List (ℕ × Instr)
one_return = (0, Return) ∷ []

only_return : (offset : ℕ) (i : Instr) (b : Bool) → option_map (λ (x : ℕ × Instr). x.1) (cond b (Some (0, Return)) None) ≡ Some i → i ≡ Return
only_return offset i true e = sym (some_is Return i e)
only_return offset i false e = absurd cc

return_in : (offset : ℕ) (i : Instr) → instr_in one_return offset ≡ Some i → i ≡ Return
return_in offset i e = only_return offset i (0 == offset) e

leads_nowhere : (offset to : ℕ) → Contains (successors_of one_return (offset, Return)) to → ⊥
leads_nowhere offset to leads = let less = leads.1 in absurd (omega arith)

not_falling : FallsThrough Return → ⊥
not_falling falls = let e : [] ≡ falls.0 ++ 0 ∷ [] = falls.1 (0 ∷ []) in never falls.0 e
  where
    never : (front : List ℕ) → [] ≡ front ++ 0 ∷ [] → ⊥
    never [] e = cc
    never (x ∷ front) e = cc

pub return_closed : IsClosed one_return
return_closed = record {
  begins = (Return, refl);
  leads = λ offset to i at leads. absurd (leads_nowhere offset to (subst (λ (j : Instr). Contains (successors_of one_return (offset, j)) to) (return_in offset i at) leads));
  goes_on = λ offset i at falls. absurd (not_falling (subst FallsThrough (return_in offset i at) falls));
}

-- ---- the kinds of the methods of built-in classes

abbrev empty_code : ℕ → Code
empty_code locals = record { max_stack = 0; max_locals = locals; instrs = (0, Return) ∷ []; handlers = 0 }

abbrev empty_table : Member → ℕ → ℕ → KindsAt
empty_table m locals offset = if offset == 0 then entry_kinds m (empty_code locals) else NoKinds

below_by : (m : Member) (locals : ℕ) (u : ℕ → KindsAt) (offset : ℕ) (b : Bool) → (offset == 0) ≡ b → IsClosedTable m (empty_code locals) u → IsHeld (if b then entry_kinds m (empty_code locals) else NoKinds) (u offset)
below_by m locals u offset true is closed = subst (λ n. IsHeld (entry_kinds m (empty_code locals)) (u n)) (sym (eqb-true offset 0 is)) closed.entry
below_by m locals u offset false is closed = refl

fits_by : (m : Member) (locals : ℕ) (offset : ℕ) → conflicts_at m (empty_code locals) (empty_table m locals) 0 ≡ false → conflicts_at m (empty_code locals) (empty_table m locals) offset ≡ false
fits_by m locals zero fits = fits
fits_by m locals (suc n) fits =
    let one : (suc n == 0) ≡ false = ne_eqb (suc n) 0 (λ e. omega arith) in
    let two : (0 == suc n) ≡ false = ne_eqb 0 (suc n) (λ e. omega arith) in
    let rest : Option (ℕ × Instr) → Bool = λ o. option_map_or (λ (i : Instr). is_conflict m (empty_code locals) i (empty_table m locals (suc n))) (option_map (λ (x : ℕ × Instr). x.1) o) false in
    ap (λ b. (b && is_short_of_locals m (empty_code locals)) || rest (cond (0 == suc n) (Some (0, Return)) None)) one ∙ ap (λ b. rest (cond b (Some (0, Return)) None)) two

empty_kinds : (m : Member) (locals : ℕ) → conflicts_at m (empty_code locals) (empty_table m locals) 0 ≡ false → HasKinds m (empty_code locals) (empty_table m locals)
empty_kinds m locals fits = record {
  least = record {
    closed = record {
      entry = at_self (entry_kinds m (empty_code locals));
      flow = λ offset to i at leads. absurd (leads_nowhere offset to (subst (λ (j : Instr). Contains (successors_of one_return (offset, j)) to) (return_in offset i at) leads));
    };
    below = λ u closed offset. below_by m locals u offset (offset == 0) refl closed;
  };
  fitting = λ offset. fits_by m locals offset fits;
}

has_kinds : (m : Member) (locals : ℕ) → m.code ≡ Some (empty_code locals) → conflicts_at m (empty_code locals) (empty_table m locals) 0 ≡ false → HasItsKinds m
has_kinds m locals is fits code e =
    subst (λ (k : Code). (t : ℕ → KindsAt) × HasKinds m k t) (some_is (empty_code locals) code (sym is ∙ e)) (empty_table m locals, empty_kinds m locals fits)

constructor_kinds : HasItsKinds empty_constructor
unfolding method_type_of method_at types_at type_at element_at name_before base_type result_at field_type_of
constructor_kinds = has_kinds empty_constructor 1 refl refl

abbrev locals_for : Handler → ℕ
locals_for h = if takes_bundle h then 2 else 1

handler_fits : AllByRecursion (λ (h : Handler). conflicts_at (empty_handler h) (empty_code (locals_for h)) (empty_table (empty_handler h) (locals_for h)) 0 ≡ false) handlers
unfolding method_type_of method_at types_at type_at element_at name_before base_type result_at field_type_of
handler_fits = (refl, (refl, (refl, (refl, (refl, (refl, (refl, (refl, tt))))))))

handlers_kinds : (hs : List Handler) → AllByRecursion (λ (h : Handler). conflicts_at (empty_handler h) (empty_code (locals_for h)) (empty_table (empty_handler h) (locals_for h)) 0 ≡ false) hs → AllByRecursion HasItsKinds (map empty_handler hs)
handlers_kinds [] all = tt
handlers_kinds (h ∷ hs) all = (has_kinds (empty_handler h) (locals_for h) refl all.0, handlers_kinds hs all.1)

built_in_kinds : EachMethod HasItsKinds built_in_classes
built_in_kinds = (
  (constructor_kinds, tt),
  (
    (constructor_kinds, tt),
    (
      (constructor_kinds, tt),
      (
        (constructor_kinds, tt),
        (
          (constructor_kinds, tt),
          (
            (constructor_kinds, tt),
            (tt, (tt, ((constructor_kinds, tt), ((constructor_kinds, tt), ((constructor_kinds, handlers_kinds handlers handler_fits), tt))))),
          ),
        ),
      ),
    ),
  ),
)

-- ---- descriptors

plain_of : (b : Bool) → not b ≡ true → b ≡ false
plain_of true e = absurd cc
plain_of false e = refl

module _ (spelled : (d : List ℕ) (type : FieldType) → field_type_of d ≡ Some type → d ≡ type_bytes type) where
  type_described : (type : FieldType) → is_floating type ≡ false → slots_of_type type ≡ type_slots (type_bytes type)
  type_described byte_type e = refl
  type_described char_type e = refl
  type_described double_type e = absurd cc
  type_described float_type e = absurd cc
  type_described int_type e = refl
  type_described long_type e = refl
  type_described short_type e = refl
  type_described boolean_type e = refl
  type_described (class_type name) e = refl
  type_described (array_type element) e = refl

  plain_slots : (type : FieldType) (b : Bool) → is_floating type ≡ b → b ≡ false → option_map_or slots_of_type (if not b then Some type else None) [] ≡ slots_of_type type
  plain_slots type true is e = absurd cc
  plain_slots type false is e = refl

  field_described : (d : List ℕ) (o : Option FieldType) → field_type_of d ≡ o → type_numbers o ≡ [] → option_map_or slots_of_type (only_if (λ type. not (is_floating type)) o) [] ≡ type_slots d
  field_described d None is e = absurd cc
  field_described d (Some type) is e =
      let plain = plain_of (is_floating type) (unless_nil (not (is_floating type)) _ e) in
      plain_slots type (is_floating type) refl plain ∙ type_described type plain ∙ ap type_slots (sym (spelled d type is))

  method_described : (o : Option MethodType) → method_type_numbers o ≡ [] → (m : MethodType) × (o ≡ Some m) × (is_floating_method m ≡ false)
  method_described None e = absurd cc
  method_described (Some m) e = (m, refl, plain_of (is_floating_method m) (unless_nil (not (is_floating_method m)) _ e))

  described_of : (i : Instr) → IsWellNamed i → IsDescribed (use_of i)
  described_of (GetStatic r) e = field_described r.descriptor (field_type_of r.descriptor) refl e
  described_of (PutStatic r) e = field_described r.descriptor (field_type_of r.descriptor) refl e
  described_of (GetField r) e = field_described r.descriptor (field_type_of r.descriptor) refl e
  described_of (PutField r) e = field_described r.descriptor (field_type_of r.descriptor) refl e
  described_of (InvokeVirtual r) e = method_described (method_type_of r.descriptor) e
  described_of (InvokeSpecial r) e = method_described (method_type_of r.descriptor) e
  described_of (InvokeInterface r) e = method_described (method_type_of r.descriptor) e
  described_of (InvokeStatic r) e = method_described (method_type_of r.descriptor) e
  described_of other e = tt

-- ---- names of classes

first_part : (x : ℕ) (parts : List (List ℕ)) → list_all is_field_name (onto_first x parts) ≡ true → is_name_byte x ≡ true
first_part x [] e = (both (is_name_byte x) true (both (nat_lt 0 1) _ (both (is_field_name (x ∷ [])) true e).0).1).0
first_part x (part ∷ parts) e = (both (is_name_byte x) (list_all is_name_byte part) (both (nat_lt 0 (length (x ∷ part))) _ (both (is_field_name (x ∷ part)) (list_all is_field_name parts) e).0).1).0

split_by : (x : ℕ) (xs : List ℕ) (b : Bool) → list_all is_field_name (cond b ([] ∷ slice_split (λ y. y == byte "/") xs) (onto_first x (slice_split (λ y. y == byte "/") xs))) ≡ true → b ≡ false → is_name_byte x ≡ true
split_by x xs true e is = absurd cc
split_by x xs false e is = first_part x (slice_split (λ y. y == byte "/") xs) e

not_array : (x : ℕ) (xs : List ℕ) (b : Bool) → (x == 91) ≡ b → is_class_name (x ∷ xs) ≡ true → b ≡ false
not_array x xs false is e = refl
not_array x xs true is e =
    absurd (let same = eqb-true x 91 is in
    let named : is_class_name (91 ∷ xs) ≡ true = ap (λ n. is_class_name (n ∷ xs)) (sym same) ∙ e in
    let h : is_name_byte 91 ≡ true = first_part 91 (slice_split (λ y. y == byte "/") xs) named in cc)

class_by : (x : ℕ) (xs : List ℕ) (b : Bool) (other : JavaType) → b ≡ false → (if b then other else ClassType (x ∷ xs)) ≡ ClassType (x ∷ xs)
class_by x xs true other e = absurd cc
class_by x xs false other e = refl

named_class : (name : List ℕ) → class_name_numbers name ≡ [] → named_type name ≡ ClassType name
named_class [] e = refl
named_class (x ∷ xs) e = class_by x xs (x == 91) _ (not_array x xs (x == 91) refl (unless_nil (is_class_name (x ∷ xs)) _ e))

-- ---- where members come from

record IsFrom (members : ClassFile → List Member) (files : List ClassFile) (o : Owned) : Type 0 where
  class : ClassFile
  listed : IsIn built_in_classes class ⊎ ((n : ℕ) × (slice_get files n ≡ Some class))
  declared_in : IsIn (members class) o.member
  stands : slice_get (all_classes files) o.owner ≡ Some class

from_class : (members : ClassFile → List Member) (files : List ClassFile) (k : ℕ) (o : Owned) → IsOwned members 0 (all_classes files) o → IsFrom members files o
from_class members files k o owned =
    let level : o.owner ≡ owned.place = let same = owned.owner in omega (arith, same) in
    record {
      class = owned.class;
      listed = at_append built_in_classes files owned.place owned.class owned.stands;
      declared_in = owned.declared_in;
      stands = ap (slice_get (all_classes files)) level ∙ owned.stands;
    }

abbrev HasNoFields : ClassFile → Type 0
HasNoFields c = c.fields ≡ []

no_fields : AllByRecursion HasNoFields built_in_classes
no_fields = (refl, (refl, (refl, (refl, (refl, (refl, (refl, (refl, (refl, (refl, (refl, tt)))))))))))

abbrev RunsNothing : ClassFile → Type 0
RunsNothing c = is_interface c ≡ true → c.methods ≡ []

interfaces_run_nothing : AllByRecursion RunsNothing built_in_classes
interfaces_run_nothing = (
  (λ e. absurd (let h : false ≡ true = e in cc)),
  (
    (λ e. absurd (let h : false ≡ true = e in cc)),
    (
      (λ e. absurd (let h : false ≡ true = e in cc)),
      (
        (λ e. absurd (let h : false ≡ true = e in cc)),
        (
          (λ e. absurd (let h : false ≡ true = e in cc)),
          (
            (λ e. absurd (let h : false ≡ true = e in cc)),
            (
              (λ e. refl),
              (
                (λ e. refl),
                (
                  (λ e. absurd (let h : false ≡ true = e in cc)),
                  (
                    (λ e. absurd (let h : false ≡ true = e in cc)),
                    ((λ e. absurd (let h : false ≡ true = e in cc)), tt),
                  ),
                ),
              ),
            ),
          ),
        ),
      ),
    ),
  ),
)

none_in : {A : Type 0} (x : A) → IsIn [] x → ⊥
none_in x (j, e) = cc

in_files : (files : List ClassFile) (n : ℕ) (c : ClassFile) → slice_get files n ≡ Some c → IsIn files c
in_files files n c e = (n, e)

module _ (files : List ClassFile) (verified : IsVerified files) (named : (i : Instr) → IsReachedInstr files i → Stands files (use_of i)) (spelled : (d : List ℕ) (type : FieldType) → field_type_of d ≡ Some type → d ≡ type_bytes type) where
  method_from : (method : ℕ) (o : Owned) → slice_get (methods_of files) method ≡ Some o → IsFrom (λ c. c.methods) files o
  method_from method o at = from_class (λ c. c.methods) files method o (owned_in (λ c. c.methods) 0 (all_classes files) method o at)

  file_method : (n : ℕ) (c : ClassFile) (m : Member) → slice_get files n ≡ Some c → IsIn c.methods m → IsGoodMethod c m
  file_method n c m at is =
      let file = all_in IsRead files c verified.read (n, at) in method_read file.0 c file.1 is.0 m is.1

  only_returns : (c : ClassFile) (m : Member) → IsIn built_in_classes c → IsIn c.methods m → OnlyReturns m
  only_returns c m built is = all_in OnlyReturns c.methods m (all_in (λ (d : ClassFile). AllByRecursion OnlyReturns d.methods) built_in_classes c built_in_return built) is

  good_code : (method : ℕ) (o : Owned) (code : Code) → slice_get (methods_of files) method ≡ Some o → o.member.code ≡ Some code → IsGoodCode code
  good_code method o code at is =
      let from = method_from method o at in
      elim from.listed [
        | inl built ↦
            let instrs = only_returns from.class o.member built from.declared_in code is in
            record {
              closed = subst IsClosed (sym instrs) return_closed;
              named_well = subst (AllByRecursion (λ (i : ℕ × Instr). IsWellNamed i.1)) (sym instrs) (tt, tt);
            }
        | inr file ↦ (file_method file.0 from.class o.member file.1 from.declared_in).code_good code is
      ]

  all_kinds : (method : ℕ) (o : Owned) → slice_get (methods_of files) method ≡ Some o → HasItsKinds o.member
  all_kinds method o at =
      let from = method_from method o at in
      elim from.listed [
        | inl built ↦ all_in HasItsKinds from.class.methods o.member (all_in (λ (d : ClassFile). AllByRecursion HasItsKinds d.methods) built_in_classes from.class built_in_kinds built) from.declared_in
        | inr file ↦ all_in HasItsKinds from.class.methods o.member (all_in (λ (d : ClassFile). AllByRecursion HasItsKinds d.methods) files from.class verified.kinds file) from.declared_in
      ]

  -- a reached instruction stands in a method's code
  record StandsIn (i : Instr) : Type 0 where
    method : ℕ
    o : Owned
    numbered : slice_get (methods_of files) method ≡ Some o
    code : Code
    has_code : o.member.code ≡ Some code
    offset : ℕ
    at : instr_in code.instrs offset ≡ Some i
    reached : IsReached code.instrs offset

  stands_in : (i : Instr) → IsReachedInstr files i → StandsIn i
  stands_in i r =
      let path = r.reached in
      let o = and_then_some (λ (x : Owned). x.member.code) (slice_get (methods_of files) r.method) path.code path.is_code in
      let at : instr_in path.code.instrs r.offset ≡ Some i = ap (λ (k : Option Code). option_and_then (λ (c : Code). instr_in c.instrs r.offset) k) (sym path.is_code) ∙ r.stands in
      record { method = r.method; o = o.0; numbered = o.1; code = path.code; has_code = o.2; offset = r.offset; at = at; reached = path.reached }

  well_named : (i : Instr) → IsReachedInstr files i → IsWellNamed i
  well_named i r =
      let s = stands_in i r in
      let there = found_at (λ (x : ℕ × Instr). x.0 == s.offset) s.code.instrs (s.offset, i) (placed_of s.code.instrs s.offset i s.at) in
      all_in (λ (x : ℕ × Instr). IsWellNamed x.1) s.code.instrs (s.offset, i) (good_code s.method s.o s.code s.numbered s.has_code).named_well (there.0, there.1)

  text_of : (text : List ℕ) → IsReachedInstr files (Str text) → (a : ℕ) × (string_number_of files text ≡ Some a)
  text_of text r =
      let s = stands_in (Str text) r in
      let from = method_from s.method s.o s.numbered in
      elim from.listed [
        | inl built ↦
            let instrs = only_returns from.class s.o.member built from.declared_in s.code s.has_code in
            let same : Str text ≡ Return = return_in s.offset (Str text) (ap (λ (xs : List (ℕ × Instr)). instr_in xs s.offset) (sym instrs) ∙ s.at) in
            absurd cc
        | inr file ↦ text_there files from.class s.o.member s.code s.offset text file from.declared_in s.has_code s.at s.reached
      ]

  class_of_new : (name : List ℕ) → IsReachedInstr files (New name) → (c : ℕ) × (number_named files name ≡ Some c)
  class_of_new name r =
      let there = named (New name) r name (ap class_in_type (named_class name (well_named (New name) r))) in
      (there.number, there.named)

  constants_fit : (field : ℕ) (f : Owned) (k : Constant) → slice_get (fields_of files) field ≡ Some f → is_static f.member ≡ true → f.member.constant ≡ Some k → IsOfType f.member.descriptor (constant_value files k)
  constants_fit field f k at static_one is =
      let from = from_class (λ c. c.fields) files field f (owned_in (λ c. c.fields) 0 (all_classes files) field f at) in
      elim from.listed [
        | inl built ↦ absurd (none_in f.member (subst (λ xs. IsIn xs f.member) (all_in HasNoFields built_in_classes from.class no_fields built) from.declared_in))
        | inr file ↦
            let read = all_in IsRead files from.class verified.read file in
            field_read files spelled read.0 from.class read.1 from.declared_in.0 f.member from.declared_in.1 k is
      ]

  pub interfaces_are_plain : InterfacesRunNoInstance files
  interfaces_are_plain method o class code at stands is has_code =
      let from = method_from method o at in
      let same : from.class ≡ class = some_is from.class class (sym from.stands ∙ stands) in
      let interface : is_interface from.class ≡ true = ap is_interface same ∙ is in
      elim from.listed [
        | inl built ↦ absurd (none_in o.member (subst (λ xs. IsIn xs o.member) (all_in RunsNothing built_in_classes from.class interfaces_run_nothing built interface) from.declared_in))
        | inr file ↦
            initialiser_static files file.0 from.class o.member verified.linked.members file.1 from.declared_in
            ((file_method file.0 from.class o.member file.1 from.declared_in).interface code has_code interface)
      ]

  pub sound_of : IsSound files
  sound_of = record {
    linked = verified.linked;
    kinds = λ method o code at is. all_kinds method o at code is;
    closed = λ method code is.
        let o = and_then_some (λ (x : Owned). x.member.code) (slice_get (methods_of files) method) code is in
        (good_code method o.0 code o.1 o.2).closed;
    described = λ i r. described_of spelled i (well_named i r);
    constants = constants_fit;
    strings = text_of;
    news = class_of_new;
    launches = λ c e. let l = launches_are files c verified.linked.members e in (l.method, l.code, l.found, l.has_code, l.instance);
    initialisers = λ c m e. initialisers_are files c m verified.linked.members e;
  }

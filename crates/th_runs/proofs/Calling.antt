-- The slots of a call: its arguments lie on top, in order, and what is left of the stack under them.
use Rattle.std.proofs.Common.{◌≡◌, ℕ, zero, suc, ◌+◌, inl, inr, not, Bool, true, false, if◌then◌else◌, List, [], ◌∷◌, ◌++◌, length, Option, None, Some, refl, sym, ap, subst, ◌∙◌, arith, length-append}
use Rattle.std.specs.Prelude.{slice_get, take, drop, reverse, sum_by, fold}
use Rattle.std.specs.List.{flat_map}
use Rattle.std.specs.Option.{option_and_then, option_map_or}
use Rattle.std.proofs.lemmas.List.{length-reverse, reverse-reverse}
use Rattle.th_base.specs.declared.class.MethodInfo.{MethodInfo}
use Rattle.th_syntax.specs.declared.class_file.ClassFile.{ClassFile}
use Rattle.th_syntax.specs.declared.class_file.Code.{Code}
use Rattle.th_syntax.specs.declared.kind.SlotKind.{SlotKind}
use Rattle.th_syntax.specs.declared.kind.SlotKind.TheVariants as kind
use Rattle.th_syntax.specs.declared.machine.Value.{Value}
use Rattle.th_syntax.specs.declared.machine.Value.TheVariants.{Null as NullValue, Address}
use Rattle.th_syntax.specs.declared.machine.Slot.{Slot}
use Rattle.th_syntax.specs.Descriptors.{FieldType, byte_type, char_type, double_type, float_type, int_type, long_type, short_type, boolean_type, class_type, array_type, MethodType, is_floating_method, method_type_of, only_if, size_of}
use Rattle.th_syntax.specs.Flags.{is_static}
use Rattle.th_syntax.specs.KindRows.{ref, slots_of_type, parameter_slots, result_slots}
use Rattle.th_syntax.specs.KindTable.{argument_slots}
use Rattle.th_syntax.specs.Calls as calls
use Rattle.th_syntax.specs.Slots.{value_in}
use Rattle.th_syntax.specs.Program.{Owned, methods_of, code_of}
use Rattle.th_syntax.proofs.Inverting.{some_is, map_some}
use Rattle.th_runs.specs.Fitting.{IsOfKind, AreOfKinds}
use Rattle.th_runs.proofs.Declaring.{IsMethodHere}
use Rattle.th_runs.proofs.Fits.{fits_take, fits_drop, fits_reverse, taken_last}

-- ---- parts of a stack

front_take : {A : Type 0} (xs ys : List A) (n : ℕ) → n ≡ length xs → take n (xs ++ ys) ≡ xs
front_take [] ys zero e = refl
front_take [] ys (suc n) e = absurd (omega arith)
front_take (x ∷ xs) ys zero e = absurd (omega arith)
front_take (x ∷ xs) ys (suc n) e = ap (λ zs. x ∷ zs) (front_take xs ys n (omega arith))

front_drop : {A : Type 0} (xs ys : List A) (n : ℕ) → n ≡ length xs → drop n (xs ++ ys) ≡ ys
front_drop [] ys zero e = refl
front_drop [] ys (suc n) e = absurd (omega arith)
front_drop (x ∷ xs) ys zero e = absurd (omega arith)
front_drop (x ∷ xs) ys (suc n) e = front_drop xs ys n (omega arith)

pub arguments_fit : (takes rest : List SlotKind) (stack : List Slot) (slots : ℕ) → slots ≡ length takes → AreOfKinds (reverse takes ++ rest) stack → AreOfKinds takes (reverse (take slots stack)) × AreOfKinds rest (drop slots stack)
arguments_fit takes rest stack slots e fit =
    let level : slots ≡ length (reverse takes) = e ∙ sym (length-reverse takes) in
    let taken : AreOfKinds (reverse takes) (take slots stack) = subst (λ ks. AreOfKinds ks (take slots stack)) (front_take (reverse takes) rest slots level) (fits_take slots (reverse takes ++ rest) stack fit) in (
      subst (λ ks. AreOfKinds ks (reverse (take slots stack))) (reverse-reverse takes) (fits_reverse (reverse takes) (take slots stack) taken),
      subst (λ ks. AreOfKinds ks (drop slots stack)) (front_drop (reverse takes) rest slots level) (fits_drop slots (reverse takes ++ rest) stack fit),
    )

fits_at : (k : SlotKind) (front rest : List SlotKind) (stack : List Slot) (n : ℕ) → n ≡ length front → AreOfKinds (front ++ k ∷ rest) stack → (s : Slot) × (slice_get stack n ≡ Some s) × IsOfKind k s
fits_at k [] rest [] n e fit = absurd fit
fits_at k [] rest (s ∷ stack) zero e fit = (s, refl, fit.0)
fits_at k [] rest (s ∷ stack) (suc n) e fit = absurd (omega arith)
fits_at k (b ∷ front) rest [] n e fit = absurd fit
fits_at k (b ∷ front) rest (s ∷ stack) zero e fit = absurd (omega arith)
fits_at k (b ∷ front) rest (s ∷ stack) (suc n) e fit = fits_at k front rest stack n (omega arith) fit.1

value_by : (s : Slot) → IsOfKind kind.Ref s → (v : Value) × (value_in s ≡ Some v)
value_by s (inl e) = (NullValue, ap value_in e)
value_by s (inr at) = (Address at.0, ap value_in at.1)

-- the receiver lies under the parameters
pub receiver_there : (params rest : List SlotKind) (stack : List Slot) (slots : ℕ) → slots ≡ length params → AreOfKinds (reverse (kind.Ref ∷ params) ++ rest) stack → (v : Value) × (option_and_then value_in (slice_get stack slots) ≡ Some v)
receiver_there params rest stack slots e fit =
    let moved : AreOfKinds (reverse params ++ kind.Ref ∷ rest) stack = subst (λ ks. AreOfKinds ks stack) (taken_last kind.Ref params rest) fit in
    let s = fits_at kind.Ref (reverse params) rest stack slots (e ∙ sym (length-reverse params)) moved in
    let v = value_by s.0 s.2 in
    (v.0, ap (option_and_then value_in) s.1 ∙ v.1)

-- ---- descriptors

type_size : (type : FieldType) → length (slots_of_type type) ≡ size_of type
type_size byte_type = refl
type_size char_type = refl
type_size double_type = refl
type_size float_type = refl
type_size int_type = refl
type_size long_type = refl
type_size short_type = refl
type_size boolean_type = refl
type_size (class_type name) = refl
type_size (array_type element) = refl

by_parts : (n a b c d : ℕ) → c ≡ a → d ≡ c + b → (n + a) + b ≡ n + d
by_parts n a b c d e f = omega arith

zero_left : (n : ℕ) → 0 + n ≡ n
zero_left n = omega arith

sizes_from : (n : ℕ) (types : List FieldType) → fold (λ (sum : ℕ) (type : FieldType). sum + size_of type) n types ≡ n + length (flat_map slots_of_type types)
sizes_from n [] = let e : n ≡ n + 0 = omega arith in e
sizes_from n (type ∷ types) =
    let rest = sizes_from (n + size_of type) types in
    let whole = length-append (slots_of_type type) (flat_map slots_of_type types) in
    let size = type_size type in
    rest ∙ by_parts n (size_of type) (length (flat_map slots_of_type types)) (length (slots_of_type type)) (length (slots_of_type type ++ flat_map slots_of_type types)) size whole

sizes : (types : List FieldType) → length (flat_map slots_of_type types) ≡ sum_by size_of types
sizes types = let e = sizes_from 0 types in sym (e ∙ zero_left (length (flat_map slots_of_type types)))

parameters_by : (o : Option MethodType) (m : MethodType) (b : Bool) → o ≡ Some m → is_floating_method m ≡ false
    → option_map_or (λ (x : MethodType). flat_map slots_of_type x.params) (only_if (λ x. not (is_floating_method x)) o) [] ≡ flat_map slots_of_type m.params
parameters_by None m b e plain = absurd cc
parameters_by (Some x) m b e plain =
    let same : x ≡ m = some_is x m e in
    let tested : not (is_floating_method x) ≡ true = ap (λ (y : MethodType). not (is_floating_method y)) same ∙ ap not plain in
    ap (λ (y : Bool). option_map_or (λ (z : MethodType). flat_map slots_of_type z.params) (if y then Some x else None) []) tested ∙ ap (λ (y : MethodType). flat_map slots_of_type y.params) same

-- the slots that a call counts are those of its parameters
pub slots_counted : (descriptor : List ℕ) (m : MethodType) (slots : ℕ) → method_type_of descriptor ≡ Some m → is_floating_method m ≡ false → calls.argument_slots descriptor ≡ Some slots → slots ≡ length (parameter_slots descriptor)
slots_counted descriptor m slots e plain counted =
    let n = map_some (λ (x : MethodType). sum_by size_of x.params) (method_type_of descriptor) slots counted in
    let same : n.0 ≡ m = some_is n.0 m (sym n.1 ∙ e) in
    sym n.2 ∙ ap (λ (x : MethodType). sum_by size_of x.params) same ∙ sym (sizes m.params) ∙ ap length (sym (parameters_by (method_type_of descriptor) m true e plain))

-- ---- the method that begins

arguments_by : (b c : Bool) (params : List SlotKind) → b ≡ c → (if b then [] else ref) ++ params ≡ (if c then [] else ref) ++ params
arguments_by b c params e = ap (λ (x : Bool). (if x then [] else ref) ++ params) e

-- a method that is called with arguments that fit it
pub record IsCalled (files : List ClassFile) (method : ℕ) (code : Code) (static_one : Bool) (descriptor : List ℕ) : Type 0 where
  pub owned : Owned
  pub numbered : slice_get (methods_of files) method ≡ Some owned
  pub has_code : owned.member.code ≡ Some code
  pub takes : argument_slots owned.member ≡ (if static_one then [] else ref) ++ parameter_slots descriptor
  pub gives : result_slots owned.member.descriptor ≡ result_slots descriptor

pub called : (files : List ClassFile) (method : ℕ) (code : Code) (owner : ℕ) (info : MethodInfo) (static_one : Bool) (descriptor : List ℕ) → IsMethodHere files owner info → info.id.0 ≡ method → info.descriptor ≡ descriptor → info.is_static ≡ static_one
    → code_of files method ≡ Some code → IsCalled files method code static_one descriptor
called files method code owner info static_one descriptor here number descriptor_is static_is has_code =
    let o : Owned = record { owner = owner; member = here.member } in
    let at : slice_get (methods_of files) method ≡ Some o = ap (slice_get (methods_of files)) (sym number) ∙ here.numbered in
    let same : here.member.descriptor ≡ descriptor = ap (λ (m : MethodInfo). m.descriptor) here.same ∙ descriptor_is in
    let fixed : is_static here.member ≡ static_one = ap (λ (m : MethodInfo). m.is_static) here.same ∙ static_is in
    record {
      owned = o;
      numbered = at;
      has_code = ap (option_and_then (λ (x : Owned). x.member.code)) (sym at) ∙ has_code;
      takes = arguments_by (is_static here.member) static_one (parameter_slots here.member.descriptor) fixed ∙ ap (λ d. (if static_one then [] else ref) ++ parameter_slots d) same;
      gives = ap result_slots same;
    }

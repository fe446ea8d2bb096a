-- How types are read from the front of a descriptor.
use Rattle.std.proofs.Common.{◌≡◌, ◌≢◌, ℕ, zero, suc, ◌+◌, ◌<◌, Bool, true, false, cond, ◌&&◌, List, [], ◌∷◌, ◌++◌, length, get_or, take, drop, refl, sym, ap, ◌∙◌, append_assoc, arith}
use Rattle.std.specs.Prelude.{Option, Some, None, ◌==◌, nat_le}
use Rattle.std.specs.Option.{option_map}
use Rattle.std.proofs.lemmas.Bool.{ne_eqb}
use Rattle.std.proofs.lemmas.List.{append-nil}
use Rattle.std.proofs.Math.Seq.{drop-cons, take-suc}
use Rattle.std.specs.Str.{byte}
use Rattle.th_syntax.specs.declared.limit.TheConstants.{MOST_DIMENSIONS}
use Rattle.th_syntax.specs.WellFormed.{is_class_name}
use Rattle.th_syntax.specs.Descriptors.{FieldType, class_type, array_type, dimensions, is_named_well, is_type, is_floating, base_type, name_before, element_at, type_at}
use Rattle.th_pool.specs.declared.descriptor.ParsedType.{ParsedType}
use Rattle.th_pool.specs.declared.shape.Slot.TheVariants.{Ref}
use Rattle.th_pool.specs.Shapes.{slot_of}
use Rattle.th_pool.specs.Types.{type_seen, summed, arrayed, arrays, with_dimensions, front_of}

-- ---- a name up to a semicolon

-- the bytes passed so far in front of a name
abbrev pub passed : ℕ → List ℕ → Option (List ℕ × List ℕ) → Option (List ℕ × List ℕ)
passed i bytes found = option_map (λ x. (take i bytes ++ x.0, x.1)) found

name_goes_on : (b : ℕ) (bytes : List ℕ) → b ≢ byte ";" → name_before (b ∷ bytes) ≡ option_map (λ x. (b ∷ x.0, x.1)) (name_before bytes)
unfolding name_before
name_goes_on b bytes other = rw (ne_eqb b (byte ";") other) refl

name_ends : (b : ℕ) (bytes : List ℕ) → b ≡ byte ";" → name_before (b ∷ bytes) ≡ Some ([], bytes)
unfolding name_before
name_ends b bytes is = rw is refl

regroup : (i b : ℕ) (bytes : List ℕ) (o : Option (List ℕ × List ℕ)) → take (suc i) bytes ≡ take i bytes ++ b ∷ [] → passed (suc i) bytes o ≡ passed i bytes (option_map (λ x. (b ∷ x.0, x.1)) o)
regroup i b bytes None e = refl
regroup i b bytes (Some x) e = ap (λ (front : List ℕ). (let o : Option (List ℕ × List ℕ) = Some (front, x.1) in o)) (rw e (append_assoc (take i bytes) (b ∷ []) x.0))

pub name_next : (i : ℕ) (bytes : List ℕ) → i < length bytes → get_or bytes i 0 ≢ byte ";" → passed (suc i) bytes (name_before (drop (suc i) bytes)) ≡ passed i bytes (name_before (drop i bytes))
name_next i bytes lt other =
    let here : drop i bytes ≡ get_or bytes i 0 ∷ drop (suc i) bytes = drop-cons bytes i 0 lt in
    regroup i (get_or bytes i 0) bytes (name_before (drop (suc i) bytes)) (take-suc bytes i 0 lt) ∙ ap (passed i bytes) (sym (ap name_before here ∙ name_goes_on (get_or bytes i 0) (drop (suc i) bytes) other))

pub name_found : (i : ℕ) (bytes : List ℕ) → i < length bytes → get_or bytes i 0 ≡ byte ";" → passed i bytes (name_before (drop i bytes)) ≡ Some (take i bytes, drop (suc i) bytes)
name_found i bytes lt is =
    let here : drop i bytes ≡ get_or bytes i 0 ∷ drop (suc i) bytes = drop-cons bytes i 0 lt in
    ap (passed i bytes) (ap name_before here ∙ name_ends (get_or bytes i 0) (drop (suc i) bytes) is) ∙ ap (λ (front : List ℕ). (let o : Option (List ℕ × List ℕ) = Some (front, drop (suc i) bytes) in o)) (append-nil (take i bytes))

pub name_missing : (bytes : List ℕ) → passed (length bytes) bytes (name_before []) ≡ None
unfolding name_before
name_missing bytes = refl

-- ---- an element type

true_too : (b : Bool) → (b && true) ≡ b
true_too true = refl
true_too false = refl

-- the bytes have this first byte, or none
front_is : (all : List ℕ) (b : ℕ) (bytes : List ℕ) → Some (b, bytes) ≡ front_of all → all ≡ b ∷ bytes
front_is [] b bytes e = absurd cc
front_is (a ∷ rest) b bytes e =
    let pair : (let p : ℕ × List ℕ = (b, bytes) in p) ≡ (a, rest) = cc in
    ap (λ (p : ℕ × List ℕ). p.0 ∷ p.1) (sym pair)

no_front : (all : List ℕ) → None ≡ front_of all → all ≡ []
no_front [] e = refl
no_front (a ∷ rest) e = absurd cc

pub nothing_seen : (all : List ℕ) → None ≡ front_of all → option_map summed (element_at all) ≡ None
unfolding element_at
nothing_seen all e = rw (no_front all e) refl

pub class_some : (all : List ℕ) (b : ℕ) (bytes name rest : List ℕ) (named : Bool) → Some (b, bytes) ≡ front_of all → b ≡ byte "L" → Some (name, rest) ≡ name_before bytes → named ≡ is_class_name name → option_map summed (element_at all) ≡ Some (record { slot = Ref; floating = false; well_formed = named }, rest)
unfolding element_at
class_some all b bytes name rest named front letter e is = rw (front_is all b bytes front, letter, sym e, is, true_too (is_class_name name)) refl

pub class_none : (all : List ℕ) (b : ℕ) (bytes : List ℕ) → Some (b, bytes) ≡ front_of all → b ≡ byte "L" → None ≡ name_before bytes → option_map summed (element_at all) ≡ None
unfolding element_at
class_none all b bytes front letter e = rw (front_is all b bytes front, letter, sym e) refl

letter_is : (b : ℕ) (bytes : List ℕ) → b ≢ byte "L" → element_at (b ∷ bytes) ≡ option_map (λ type. (type, bytes)) (base_type b)
unfolding element_at
letter_is b bytes other = rw (ne_eqb b (byte "L") other) refl

seen_with : (bytes : List ℕ) (o : Option FieldType) → option_map summed (option_map (λ type. (type, bytes)) o) ≡ option_map (λ seen. (seen, bytes)) (option_map type_seen o)
seen_with bytes None = refl
seen_with bytes (Some x) = refl

pub letter_some : (all : List ℕ) (b : ℕ) (bytes : List ℕ) (seen : ParsedType) → Some (b, bytes) ≡ front_of all → b ≢ byte "L" → Some seen ≡ option_map type_seen (base_type b) → option_map summed (element_at all) ≡ Some (seen, bytes)
letter_some all b bytes seen front other e = rw (front_is all b bytes front, letter_is b bytes other, seen_with bytes (base_type b), sym e) refl

pub letter_none : (all : List ℕ) (b : ℕ) (bytes : List ℕ) → Some (b, bytes) ≡ front_of all → b ≢ byte "L" → None ≡ option_map type_seen (base_type b) → option_map summed (element_at all) ≡ None
letter_none all b bytes front other e = rw (front_is all b bytes front, letter_is b bytes other, seen_with bytes (base_type b), sym e) refl

pub ruleset elements = (nothing_seen, class_some, class_none, letter_some, letter_none)

-- ---- arrays

one_more : (n : ℕ) (o : Option (FieldType × List ℕ)) → with_dimensions (suc n) o ≡ with_dimensions n (option_map (λ x. (array_type x.0, x.1)) o)
one_more n None = refl
one_more n (Some x) = refl

pub array_next : (n : ℕ) (bytes : List ℕ) → n < length bytes → get_or bytes n 0 ≡ byte "[" → with_dimensions (suc n) (type_at (drop (suc n) bytes)) ≡ with_dimensions n (type_at (drop n bytes))
unfolding type_at
array_next n bytes lt is = one_more n (type_at (drop (suc n) bytes)) ∙ ap (with_dimensions n) (sym (ap type_at (drop-cons bytes n 0 lt) ∙ rw is refl))

element_next : (b : ℕ) (bytes : List ℕ) → b ≢ byte "[" → type_at (b ∷ bytes) ≡ element_at (b ∷ bytes)
unfolding type_at
element_next b bytes other = rw (ne_eqb b (byte "[") other) refl

pub element_here : (n : ℕ) (bytes : List ℕ) → n < length bytes → get_or bytes n 0 ≢ byte "[" → type_at (drop n bytes) ≡ element_at (drop n bytes)
element_here n bytes lt other =
    let here : drop n bytes ≡ get_or bytes n 0 ∷ drop (suc n) bytes = drop-cons bytes n 0 lt in
    ap type_at here ∙ element_next (get_or bytes n 0) (drop (suc n) bytes) other ∙ sym (ap element_at here)

pub nothing_here : (bytes : List ℕ) → bytes ≡ [] → type_at bytes ≡ element_at bytes
unfolding type_at element_at
nothing_here bytes none = rw none refl

-- ---- what is seen of an array type

arrays_dimensions : (n : ℕ) (type : FieldType) → dimensions (arrays n type) ≡ n + dimensions type
arrays_dimensions zero type = omega arith
arrays_dimensions (suc n) type = arrays_dimensions n (array_type type) ∙ omega arith

arrays_named : (n : ℕ) (type : FieldType) → is_named_well (arrays n type) ≡ is_named_well type
arrays_named zero type = refl
arrays_named (suc n) type = arrays_named n (array_type type)

arrays_floating : (n : ℕ) (type : FieldType) → is_floating (arrays n type) ≡ is_floating type
arrays_floating zero type = refl
arrays_floating (suc n) type = arrays_floating n (array_type type)

arrays_slot : (n : ℕ) (element : FieldType) → slot_of (arrays n (array_type element)) ≡ Ref
arrays_slot zero element = refl
arrays_slot (suc n) element = arrays_slot n (array_type element)

-- an element type isn't an array
pub arrays_seen : (n : ℕ) (type : FieldType) → dimensions type ≡ 0 → type_seen (arrays n type) ≡ arrayed (type_seen type) n
arrays_seen zero type flat =
    let named : (is_type type && nat_le 0 MOST_DIMENSIONS) ≡ is_type type = true_too (is_type type) in
    rw named refl
arrays_seen (suc n) type flat =
    let dims : dimensions (arrays n (array_type type)) ≡ suc n = arrays_dimensions n (array_type type) ∙ omega arith in
    let named : is_named_well (arrays n (array_type type)) ≡ is_named_well type = arrays_named n (array_type type) in
    let floats : is_floating (arrays n (array_type type)) ≡ is_floating type = arrays_floating n (array_type type) in
    let plain : (is_named_well type && nat_le 0 MOST_DIMENSIONS) ≡ is_named_well type = true_too (is_named_well type) in
    let some : (suc n == 0) ≡ false = ne_eqb _ _ (omega arith) in
    rw (dims, named, floats, arrays_slot n type, flat, plain, some) refl

-- the types at the front that aren't arrays
flat_name : (o : Option (List ℕ × List ℕ)) (x : FieldType × List ℕ) → option_map (λ n. (let t : FieldType × List ℕ = (class_type n.0, n.1) in t)) o ≡ Some x → dimensions x.0 ≡ 0
flat_name None x e = absurd cc
flat_name (Some n) x e = let same : (let t : FieldType × List ℕ = (class_type n.0, n.1) in t) ≡ x = cc in ap (λ (t : FieldType × List ℕ). dimensions t.0) (sym same)

-- a letter's type has no dimensions
abbrev IsFlat : Option FieldType → Type 0
IsFlat None = Unit {0}
IsFlat (Some type) = dimensions type ≡ 0

either_flat : (b : Bool) (o p : Option FieldType) → IsFlat o → IsFlat p → IsFlat (cond b o p)
either_flat true o p first second = first
either_flat false o p first second = second

base_flat : (b : ℕ) → IsFlat (base_type b)
unfolding base_type
base_flat b =
    either_flat (b == 66) _ _ refl (either_flat (b == 67) _ _ refl (either_flat (b == 68) _ _ refl (either_flat (b == 70) _ _ refl
    (either_flat (b == 73) _ _ refl (either_flat (b == 74) _ _ refl (either_flat (b == 83) _ _ refl (either_flat (b == 90) _ _ refl tt)))))))

flat_letter : (o : Option FieldType) (bytes : List ℕ) (x : FieldType × List ℕ) → IsFlat o → option_map (λ type. (let t : FieldType × List ℕ = (type, bytes) in t)) o ≡ Some x → dimensions x.0 ≡ 0
flat_letter None bytes x flat e = absurd cc
flat_letter (Some type) bytes x flat e = let same : (let t : FieldType × List ℕ = (type, bytes) in t) ≡ x = cc in ap (λ (t : FieldType × List ℕ). dimensions t.0) (sym same) ∙ flat

element_flat : (bytes : List ℕ) (x : FieldType × List ℕ) → element_at bytes ≡ Some x → dimensions x.0 ≡ 0
unfolding element_at
element_flat [] x e = absurd cc
element_flat (b ∷ bytes) x e = go (b == byte "L") e
  where
    go : (t : Bool) → cond t (option_map (λ n. (class_type n.0, n.1)) (name_before bytes)) (option_map (λ type. (type, bytes)) (base_type b)) ≡ Some x → dimensions x.0 ≡ 0
    go true is = flat_name (name_before bytes) x is
    go false is = flat_letter (base_type b) bytes x (base_flat b) is

-- what is seen of the whole type
whole_some : (n : ℕ) (o : Option (FieldType × List ℕ)) (element : ParsedType) (others : List ℕ) → ((x : FieldType × List ℕ) → o ≡ Some x → dimensions x.0 ≡ 0) → Some (element, others) ≡ option_map summed o → option_map summed (with_dimensions n o) ≡ Some (arrayed element n, others)
whole_some n None element others flat e = absurd cc
whole_some n (Some x) element others flat e =
    let pair : (let p : ParsedType × List ℕ = (element, others) in p) ≡ (type_seen x.0, x.1) = cc in
    let made : (let p : ParsedType × List ℕ = (arrayed (type_seen x.0) n, x.1) in p) ≡ (arrayed element n, others) = ap (λ (p : ParsedType × List ℕ). (let q : ParsedType × List ℕ = (arrayed p.0 n, p.1) in q)) (sym pair) in
    rw (arrays_seen n x.0 (flat x refl)) (ap (λ (p : ParsedType × List ℕ). (let o : Option (ParsedType × List ℕ) = Some p in o)) made)

whole_none : (n : ℕ) (o : Option (FieldType × List ℕ)) → None ≡ option_map summed o → option_map summed (with_dimensions n o) ≡ None
whole_none n None e = refl
whole_none n (Some x) e = absurd cc

pub type_some : (n : ℕ) (bytes rest : List ℕ) (element : ParsedType) (others : List ℕ) → with_dimensions n (element_at rest) ≡ type_at bytes → Some (element, others) ≡ option_map summed (element_at rest) → option_map summed (type_at bytes) ≡ Some (arrayed element n, others)
type_some n bytes rest element others is e = rw (sym is) (whole_some n (element_at rest) element others (element_flat rest) e)

pub type_none : (n : ℕ) (bytes rest : List ℕ) → with_dimensions n (element_at rest) ≡ type_at bytes → None ≡ option_map summed (element_at rest) → option_map summed (type_at bytes) ≡ None
type_none n bytes rest is e = rw (sym is) (whole_none n (element_at rest) e)

pub ruleset arrays_read = (type_some, type_none)

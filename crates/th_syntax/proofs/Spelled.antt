-- Reading a descriptor gives the one type that it spells.
use Rattle.std.proofs.Common.{◌≡◌, ℕ, zero, suc, ◌<◌, ◌≤◌, Bool, true, false, not, cond, ◌&&◌, List, [], ◌∷◌, ◌++◌, length, refl, sym, ap, subst, ◌∙◌, append_assoc, arith}
use Rattle.std.specs.Prelude.{Option, Some, None, ◌==◌, codes, nat_le, nat_lt}
use Rattle.std.specs.List.{flat_map, list_all, slice_split, onto_first}
use Rattle.std.specs.Option.{option_map, option_and_then}
use Rattle.std.proofs.lemmas.Bool.{eqb-true}
use Rattle.std.proofs.lemmas.List.{append-nil, nil_from_length, length-append}
use Rattle.std.proofs.lemmas.List.Concat.{flat_map-cons}
use Rattle.th_syntax.specs.WellFormed.{is_name_byte, is_field_name}
use Rattle.th_syntax.specs.Descriptors.{FieldType, byte_type, char_type, double_type, float_type, int_type, long_type, short_type, boolean_type, class_type, array_type, type_bytes, dimensions, is_named_well, is_type, IsFieldDescriptor, MethodType, result_bytes, method_bytes, is_result, is_method_type, IsMethodDescriptor, base_type, name_before, element_at, type_at, alone, only_if, field_type_of, types_at, result_at, method_at, method_type_of}
use Rattle.th_syntax.proofs.Inverting.{and_then_some, map_some, some_is, both}

-- ---- options and tests

alone_some : {A : Type 0} (o : Option (A × List ℕ)) (x : A) → alone o ≡ Some x → o ≡ Some (x, [])
alone_some None x e = absurd cc
alone_some {A = A} (Some y) x e = go (length y.1 == 0) refl e
  where
    go : (b : Bool) → (length y.1 == 0) ≡ b → cond b (Some y.0) None ≡ Some x → (let o : Option (A × List ℕ) = Some y in o) ≡ Some (x, [])
    go true is here =
        let none : y.1 ≡ [] = nil_from_length y.1 (eqb-true _ _ is) in
        let value : y.0 ≡ x = some_is y.0 x here in
        let made : (let p : A × List ℕ = (y.0, y.1) in p) ≡ (x, []) = rw (none, value) refl in
        ap (λ (p : A × List ℕ). (let o : Option (A × List ℕ) = Some p in o)) made
    go false is here = absurd cc

only_some : {A : Type 0} (test : A → Bool) (o : Option A) (x : A) → only_if test o ≡ Some x → (o ≡ Some x) × (test x ≡ true)
only_some test None x e = absurd cc
only_some {A = A} test (Some y) x e = go (test y) refl e
  where
    go : (b : Bool) → test y ≡ b → cond b (Some y) None ≡ Some x → ((let o : Option A = Some y in o) ≡ Some x) × (test x ≡ true)
    go true is here = (here, ap test (sym (some_is y x here)) ∙ is)
    go false is here = absurd cc

-- ---- what is read is spelled so

name_step : (b : ℕ) (bytes : List ℕ) (x : List ℕ × List ℕ) (t : Bool) → (b == 59) ≡ t → ((y : List ℕ × List ℕ) → name_before bytes ≡ Some y → bytes ≡ y.0 ++ (59 ∷ y.1))
    → cond t (Some ([], bytes)) (option_map (λ y. (b ∷ y.0, y.1)) (name_before bytes)) ≡ Some x → b ∷ bytes ≡ x.0 ++ (59 ∷ x.1)
name_step b bytes x true is later e =
    let same : (let p : List ℕ × List ℕ = ([], bytes) in p) ≡ x = some_is ([], bytes) x e in
    subst (λ (y : List ℕ × List ℕ). b ∷ bytes ≡ y.0 ++ (59 ∷ y.1)) same (ap (λ (k : ℕ). k ∷ bytes) (eqb-true b 59 is))
name_step b bytes x false is later e =
    let m = map_some (λ (y : List ℕ × List ℕ). (let p : List ℕ × List ℕ = (b ∷ y.0, y.1) in p)) (name_before bytes) x e in
    subst (λ (y : List ℕ × List ℕ). b ∷ bytes ≡ y.0 ++ (59 ∷ y.1)) m.2 (ap (λ (rest : List ℕ). b ∷ rest) (later m.0 m.1))

name_spelled : (bytes : List ℕ) (x : List ℕ × List ℕ) → name_before bytes ≡ Some x → bytes ≡ x.0 ++ (59 ∷ x.1)
unfolding name_before
name_spelled [] x e = absurd cc
name_spelled (b ∷ bytes) x e = name_step b bytes x (b == 59) refl (λ y is. name_spelled bytes y is) e

-- a letter stands for one type
IsLetter : ℕ → Option FieldType → Type 0
IsLetter b None = Unit {0}
IsLetter b (Some type) = b ∷ [] ≡ type_bytes type

letter_or : (b k : ℕ) (type : FieldType) (o : Option FieldType) → k ∷ [] ≡ type_bytes type → IsLetter b o → (t : Bool) → (b == k) ≡ t → IsLetter b (cond t (Some type) o)
unfolding IsLetter
letter_or b k type o here later true is = ap (λ (n : ℕ). n ∷ []) (eqb-true b k is) ∙ here
letter_or b k type o here later false is = later

base_letter : (b : ℕ) → IsLetter b (base_type b)
unfolding base_type IsLetter
base_letter b =
    letter_or b 66 byte_type _ refl (letter_or b 67 char_type _ refl (letter_or b 68 double_type _ refl (letter_or b 70 float_type _ refl
    (letter_or b 73 int_type _ refl (letter_or b 74 long_type _ refl (letter_or b 83 short_type _ refl (letter_or b 90 boolean_type None refl tt (b == 90) refl)
    (b == 83) refl) (b == 74) refl) (b == 73) refl) (b == 70) refl) (b == 68) refl) (b == 67) refl) (b == 66) refl

base_spelled : (b : ℕ) (type : FieldType) → base_type b ≡ Some type → b ∷ [] ≡ type_bytes type
unfolding IsLetter
base_spelled b type e = subst (IsLetter b) e (base_letter b)

element_step : (b : ℕ) (bytes : List ℕ) (x : FieldType × List ℕ) (t : Bool) → (b == 76) ≡ t → cond t (option_map (λ y. (class_type y.0, y.1)) (name_before bytes)) (option_map (λ type. (type, bytes)) (base_type b)) ≡ Some x → b ∷ bytes ≡ type_bytes x.0 ++ x.1
element_step b bytes x true is e =
    let m = map_some (λ (y : List ℕ × List ℕ). (let p : FieldType × List ℕ = (class_type y.0, y.1) in p)) (name_before bytes) x e in
    let rest : bytes ≡ (m.0.0 ++ codes ";") ++ m.0.1 = name_spelled bytes m.0 m.1 ∙ sym (append_assoc m.0.0 (codes ";") m.0.1) in
    let whole : b ∷ bytes ≡ 76 ∷ ((m.0.0 ++ codes ";") ++ m.0.1) = rw (eqb-true b 76 is) (ap (λ (r : List ℕ). 76 ∷ r) rest) in
    subst (λ (y : FieldType × List ℕ). b ∷ bytes ≡ type_bytes y.0 ++ y.1) m.2 whole
element_step b bytes x false is e =
    let m = map_some (λ (type : FieldType). (let p : FieldType × List ℕ = (type, bytes) in p)) (base_type b) x e in
    subst (λ (y : FieldType × List ℕ). b ∷ bytes ≡ type_bytes y.0 ++ y.1) m.2 (ap (λ (r : List ℕ). r ++ bytes) (base_spelled b m.0 m.1))

type_step : (b : ℕ) (bytes : List ℕ) (x : FieldType × List ℕ) (t : Bool) → (b == 91) ≡ t → ((y : FieldType × List ℕ) → type_at bytes ≡ Some y → bytes ≡ type_bytes y.0 ++ y.1)
    → cond t (option_map (λ y. (array_type y.0, y.1)) (type_at bytes)) (element_at (b ∷ bytes)) ≡ Some x → b ∷ bytes ≡ type_bytes x.0 ++ x.1
unfolding element_at
type_step b bytes x true is later e =
    let m = map_some (λ (y : FieldType × List ℕ). (let p : FieldType × List ℕ = (array_type y.0, y.1) in p)) (type_at bytes) x e in
    let whole : b ∷ bytes ≡ 91 ∷ (type_bytes m.0.0 ++ m.0.1) = rw (eqb-true b 91 is) (ap (λ (r : List ℕ). 91 ∷ r) (later m.0 m.1)) in
    subst (λ (y : FieldType × List ℕ). b ∷ bytes ≡ type_bytes y.0 ++ y.1) m.2 whole
type_step b bytes x false is later e = element_step b bytes x (b == 76) refl e

pub type_spelled : (bytes : List ℕ) (x : FieldType × List ℕ) → type_at bytes ≡ Some x → bytes ≡ type_bytes x.0 ++ x.1
unfolding type_at
type_spelled [] x e = absurd cc
type_spelled (b ∷ bytes) x e = type_step b bytes x (b == 91) refl (λ y is. type_spelled bytes y is) e

-- ---- what is spelled so is read

-- no semicolon stands in a class's name: the bytes of its parts are bytes of names
parts_are : (parts : List (List ℕ)) → list_all is_field_name parts ≡ true → list_all (list_all is_name_byte) parts ≡ true
parts_are [] e = refl
parts_are (part ∷ parts) e =
    let two = both (is_field_name part) (list_all is_field_name parts) e in
    let bytes = both (nat_lt 0 (length part)) (list_all is_name_byte part) two.0 in
    rw (bytes.1, parts_are parts two.1) refl

no_end : (b : ℕ) → is_name_byte b ≡ true → (b == 59) ≡ false
no_end b e = by_test (b == 59) refl
  where
    by_test : (t : Bool) → (b == 59) ≡ t → (b == 59) ≡ false
    by_test false is = is
    by_test true is = absurd (let k : b ≡ 59 = eqb-true b 59 is in let f : is_name_byte 59 ≡ true = subst (λ (n : ℕ). is_name_byte n ≡ true) k e in cc)

slash_ends_none : (b : ℕ) → (b == 47) ≡ true → (b == 59) ≡ false
slash_ends_none b is = ap (λ (n : ℕ). n == 59) (eqb-true b 47 is)

-- the first byte of parts, and the others
first_byte : (b : ℕ) (parts : List (List ℕ)) → list_all (list_all is_name_byte) (onto_first b parts) ≡ true → (is_name_byte b ≡ true) × (list_all (list_all is_name_byte) parts ≡ true)
first_byte b [] e =
    let two = both (is_name_byte b) true (both (is_name_byte b && true) true e).0 in (two.0, refl)
first_byte b (part ∷ parts) e =
    let two = both (is_name_byte b && list_all is_name_byte part) (list_all (list_all is_name_byte) parts) e in
    let front = both (is_name_byte b) (list_all is_name_byte part) two.0 in
    (front.0, rw (front.1, two.1) refl)

split_step : (b : ℕ) (t : Bool) (parts : List (List ℕ)) → (b == 47) ≡ t → list_all (list_all is_name_byte) (cond t ([] ∷ parts) (onto_first b parts)) ≡ true → ((b == 59) ≡ false) × (list_all (list_all is_name_byte) parts ≡ true)
split_step b true parts is e = (slash_ends_none b is, e)
split_step b false parts is e = let two = first_byte b parts e in (no_end b two.0, two.1)

name_again : (name rest : List ℕ) → list_all (list_all is_name_byte) (slice_split (λ b. b == 47) name) ≡ true → name_before (name ++ (59 ∷ rest)) ≡ Some (name, rest)
unfolding name_before
name_again [] rest e = refl
name_again (b ∷ name) rest e =
    let two = split_step b (b == 47) (slice_split (λ c. c == 47) name) refl e in
    rw (two.0, name_again name rest two.1) refl

pub type_again : (type : FieldType) (rest : List ℕ) → is_named_well type ≡ true → type_at (type_bytes type ++ rest) ≡ Some (type, rest)
unfolding type_at element_at base_type
type_again byte_type rest e = refl
type_again char_type rest e = refl
type_again double_type rest e = refl
type_again float_type rest e = refl
type_again int_type rest e = refl
type_again long_type rest e = refl
type_again short_type rest e = refl
type_again boolean_type rest e = refl
type_again (array_type element) rest e = rw (type_again element rest e) refl
type_again (class_type name) rest e =
    let regrouped : (name ++ codes ";") ++ rest ≡ name ++ (59 ∷ rest) = append_assoc name (codes ";") rest in
    rw (regrouped, name_again name rest (parts_are (slice_split (λ b. b == 47) name) e)) refl

-- ---- the descriptor of a field

pub field_spelled : (bytes : List ℕ) (type : FieldType) → field_type_of bytes ≡ Some type → IsFieldDescriptor bytes type
unfolding field_type_of
field_spelled bytes type e =
    let only = only_some is_type (alone (type_at bytes)) type e in
    let read : type_at bytes ≡ Some (type, []) = alone_some (type_at bytes) type only.0 in
    (type_spelled bytes (type, []) read ∙ append-nil (type_bytes type), only.1)

pub field_again : (bytes : List ℕ) (type : FieldType) → IsFieldDescriptor bytes type → field_type_of bytes ≡ Some type
unfolding field_type_of
field_again bytes type is =
    let named = both (is_named_well type) (nat_le (dimensions type) 255) is.1 in
    let read : type_at bytes ≡ Some (type, []) = ap type_at (is.0 ∙ sym (append-nil (type_bytes type))) ∙ type_again type [] named.0 in
    let alone_it : alone (type_at bytes) ≡ Some type = rw read refl in
    rw (alone_it, is.1) refl

-- ---- the descriptor of a method

-- a type and the types behind it
abbrev more_types : ℕ → FieldType × List ℕ → Option (List FieldType × List ℕ)
more_types room first = option_map (λ more. (first.0 ∷ more.0, more.1)) (types_at room first.1)

types_step : (room b : ℕ) (bytes : List ℕ) (x : List FieldType × List ℕ) (t : Bool) → (b == 41) ≡ t → ((rest : List ℕ) (y : List FieldType × List ℕ) → types_at room rest ≡ Some y → rest ≡ flat_map type_bytes y.0 ++ (41 ∷ y.1))
    → cond t (Some ([], bytes)) (option_and_then (more_types room) (type_at (b ∷ bytes))) ≡ Some x → b ∷ bytes ≡ flat_map type_bytes x.0 ++ (41 ∷ x.1)
types_step room b bytes x true is later e =
    let same : (let p : List FieldType × List ℕ = ([], bytes) in p) ≡ x = some_is ([], bytes) x e in
    subst (λ (y : List FieldType × List ℕ). b ∷ bytes ≡ flat_map type_bytes y.0 ++ (41 ∷ y.1)) same (ap (λ (k : ℕ). k ∷ bytes) (eqb-true b 41 is))
types_step room b bytes x false is later e =
    let first = and_then_some (more_types room) (type_at (b ∷ bytes)) x e in
    let more = map_some (λ (y : List FieldType × List ℕ). (let p : List FieldType × List ℕ = (first.0.0 ∷ y.0, y.1) in p)) (types_at room first.0.1) x first.2 in
    let here : b ∷ bytes ≡ type_bytes first.0.0 ++ first.0.1 = type_spelled (b ∷ bytes) first.0 first.1 in
    let rest : first.0.1 ≡ flat_map type_bytes more.0.0 ++ (41 ∷ more.0.1) = later first.0.1 more.0 more.1 in
    let joined : flat_map type_bytes (first.0.0 ∷ more.0.0) ++ (41 ∷ more.0.1) ≡ type_bytes first.0.0 ++ (flat_map type_bytes more.0.0 ++ (41 ∷ more.0.1)) =
    ap (λ (r : List ℕ). r ++ (41 ∷ more.0.1)) (flat_map-cons type_bytes first.0.0 more.0.0) ∙ append_assoc (type_bytes first.0.0) (flat_map type_bytes more.0.0) (41 ∷ more.0.1) in
    subst (λ (y : List FieldType × List ℕ). b ∷ bytes ≡ flat_map type_bytes y.0 ++ (41 ∷ y.1)) more.2 (here ∙ ap (λ (r : List ℕ). type_bytes first.0.0 ++ r) rest ∙ sym joined)

types_spelled : (room : ℕ) (bytes : List ℕ) (x : List FieldType × List ℕ) → types_at room bytes ≡ Some x → bytes ≡ flat_map type_bytes x.0 ++ (41 ∷ x.1)
unfolding types_at
types_spelled zero bytes x e = absurd cc
types_spelled (suc room) [] x e = absurd cc
types_spelled (suc room) (b ∷ bytes) x e = types_step room b bytes x (b == 41) refl (λ rest y is. types_spelled room rest y is) e

-- a type begins with no closing parenthesis and with no V
type_first : (room : ℕ) (type : FieldType) (rest : List ℕ) → types_at (suc room) (type_bytes type ++ rest) ≡ option_and_then (more_types room) (type_at (type_bytes type ++ rest))
unfolding types_at
type_first room byte_type rest = refl
type_first room char_type rest = refl
type_first room double_type rest = refl
type_first room float_type rest = refl
type_first room int_type rest = refl
type_first room long_type rest = refl
type_first room short_type rest = refl
type_first room boolean_type rest = refl
type_first room (class_type name) rest = refl
type_first room (array_type element) rest = refl

type_long : (type : FieldType) → 1 ≤ length (type_bytes type)
type_long byte_type = omega arith
type_long char_type = omega arith
type_long double_type = omega arith
type_long float_type = omega arith
type_long int_type = omega arith
type_long long_type = omega arith
type_long short_type = omega arith
type_long boolean_type = omega arith
type_long (class_type name) = omega arith
type_long (array_type element) = omega arith

types_again : (types : List FieldType) (rest : List ℕ) (room : ℕ) → list_all is_type types ≡ true → length types < room → types_at room (flat_map type_bytes types ++ (41 ∷ rest)) ≡ Some (types, rest)
unfolding types_at
types_again [] rest zero all lt = absurd (let h : ⊥ = omega arith in h)
types_again [] rest (suc room) all lt = refl
types_again (type ∷ types) rest zero all lt = absurd (let h : ⊥ = omega arith in h)
types_again (type ∷ types) rest (suc room) all lt =
    let two = both (is_type type) (list_all is_type types) all in
    let named = both (is_named_well type) (nat_le (dimensions type) 255) two.0 in
    let later : length types < room = omega arith in
    let behind : List ℕ = flat_map type_bytes types ++ (41 ∷ rest) in
    let regrouped : flat_map type_bytes (type ∷ types) ++ (41 ∷ rest) ≡ type_bytes type ++ behind =
    ap (λ (r : List ℕ). r ++ (41 ∷ rest)) (flat_map-cons type_bytes type types) ∙ append_assoc (type_bytes type) (flat_map type_bytes types) (41 ∷ rest) in
    ap (types_at (suc room)) regrouped ∙ type_first room type behind ∙ rw (type_again type behind named.0, types_again types rest room two.1 later) refl

types_long : (types : List FieldType) → length types ≤ length (flat_map type_bytes types)
types_long [] = omega arith
types_long (type ∷ types) =
    let more = types_long types in
    let one = type_long type in
    rw flat_map-cons (omega (arith, length-append (type_bytes type) (flat_map type_bytes types)))

-- ---- the result

result_spelled : (bytes : List ℕ) (o : Option FieldType) → result_at bytes ≡ Some o → bytes ≡ result_bytes o
unfolding result_at
result_spelled [] o e = absurd cc
result_spelled (b ∷ bytes) o e = go (b == 86 && length bytes == 0) refl e
  where
    go : (t : Bool) → (b == 86 && length bytes == 0) ≡ t → cond t (Some None) (option_map (λ type. (let q : Option FieldType = Some type in q)) (alone (type_at (b ∷ bytes)))) ≡ Some o → b ∷ bytes ≡ result_bytes o
    go true is here =
        let two = both (b == 86) (length bytes == 0) is in
        let same : (let q : Option FieldType = None in q) ≡ o = some_is None o here in
        let none : bytes ≡ [] = nil_from_length bytes (eqb-true _ _ two.1) in
        subst (λ (q : Option FieldType). b ∷ bytes ≡ result_bytes q) same (rw (eqb-true b 86 two.0, none) refl)
    go false is here =
        let m = map_some (λ (type : FieldType). (let q : Option FieldType = Some type in q)) (alone (type_at (b ∷ bytes))) o here in
        let read : type_at (b ∷ bytes) ≡ Some (m.0, []) = alone_some (type_at (b ∷ bytes)) m.0 m.1 in
        subst (λ (q : Option FieldType). b ∷ bytes ≡ result_bytes q) m.2 (type_spelled (b ∷ bytes) (m.0, []) read ∙ append-nil (type_bytes m.0))

result_first : (type : FieldType) → result_at (type_bytes type) ≡ option_map (λ found. (let q : Option FieldType = Some found in q)) (alone (type_at (type_bytes type)))
unfolding result_at
result_first byte_type = refl
result_first char_type = refl
result_first double_type = refl
result_first float_type = refl
result_first int_type = refl
result_first long_type = refl
result_first short_type = refl
result_first boolean_type = refl
result_first (class_type name) = refl
result_first (array_type element) = refl

result_again : (o : Option FieldType) → is_result o ≡ true → result_at (result_bytes o) ≡ Some o
unfolding result_at
result_again None good = refl
result_again (Some type) good =
    let named = both (is_named_well type) (nat_le (dimensions type) 255) good in
    let read : type_at (type_bytes type) ≡ Some (type, []) = ap type_at (sym (append-nil (type_bytes type))) ∙ type_again type [] named.0 in
    result_first type ∙ rw read refl

-- ---- the whole

abbrev with_result : List FieldType × List ℕ → Option MethodType
with_result params = option_map (λ result_type. (let m : MethodType = record { params = params.0; result_type = result_type } in m)) (result_at params.1)

method_read : (bytes : List ℕ) (m : MethodType) → method_at bytes ≡ Some m → bytes ≡ method_bytes m
unfolding method_at
method_read [] m e = absurd cc
method_read (b ∷ bytes) m e = go (b == 40) refl e
  where
    go : (t : Bool) → (b == 40) ≡ t → cond t (option_and_then with_result (types_at (length bytes) bytes)) None ≡ Some m → b ∷ bytes ≡ method_bytes m
    go false is here = absurd cc
    go true is here =
        let params = and_then_some with_result (types_at (length bytes) bytes) m here in
        let found = map_some (λ (o : Option FieldType). (let n : MethodType = record { params = params.0.0; result_type = o } in n)) (result_at params.0.1) m params.2 in
        let front : bytes ≡ flat_map type_bytes params.0.0 ++ (41 ∷ params.0.1) = types_spelled (length bytes) bytes params.0 params.1 in
        let back : params.0.1 ≡ result_bytes found.0 = result_spelled params.0.1 found.0 found.1 in
        let whole : b ∷ bytes ≡ 40 ∷ (flat_map type_bytes params.0.0 ++ (41 ∷ result_bytes found.0)) = rw (eqb-true b 40 is) (ap (λ (r : List ℕ). 40 ∷ r) (front ∙ ap (λ (r : List ℕ). flat_map type_bytes params.0.0 ++ (41 ∷ r)) back)) in
        subst (λ (n : MethodType). b ∷ bytes ≡ method_bytes n) found.2 whole

pub method_spelled : (bytes : List ℕ) (m : MethodType) → method_type_of bytes ≡ Some m → IsMethodDescriptor bytes m
unfolding method_type_of
method_spelled bytes m e = let only = only_some is_method_type (method_at bytes) m e in (method_read bytes m only.0, only.1)

method_made : (m : MethodType) → is_method_type m ≡ true → method_at (method_bytes m) ≡ Some m
unfolding method_at
method_made m good =
    let parts = both (list_all is_type m.params && is_result m.result_type) _ good in
    let two = both (list_all is_type m.params) (is_result m.result_type) parts.0 in
    let behind : List ℕ = flat_map type_bytes m.params ++ (41 ∷ result_bytes m.result_type) in
    let room : length m.params < length behind = omega (arith, types_long m.params, length-append (flat_map type_bytes m.params) (41 ∷ result_bytes m.result_type)) in
    let read : types_at (length behind) behind ≡ Some (m.params, result_bytes m.result_type) = types_again m.params (result_bytes m.result_type) (length behind) two.0 room in
    rw (read, result_again m.result_type two.1) refl

pub method_again : (bytes : List ℕ) (m : MethodType) → IsMethodDescriptor bytes m → method_type_of bytes ≡ Some m
unfolding method_type_of
method_again bytes m is =
    let read : method_at bytes ≡ Some m = ap method_at is.0 ∙ method_made m is.1 in
    rw (read, is.1) refl

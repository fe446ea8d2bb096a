-- How the descriptors of fields and methods are read as a whole.
use Rattle.std.proofs.Common.{◌≡◌, ◌≢◌, ℕ, suc, ◌+◌, Bool, true, false, cond, ◌&&◌, ◌||◌, List, [], ◌∷◌, length, map, Ok, Err, refl, sym, ap, ◌∙◌, append_assoc}
use Rattle.std.specs.Prelude.{Option, Some, None, ◌==◌, sum_by}
use Rattle.std.specs.List.{list_any, list_all}
use Rattle.std.specs.Option.{option_map, option_and_then}
use Rattle.std.proofs.lemmas.Bool.{ne_eqb}
use Rattle.std.proofs.lemmas.List.Sums.{sum_by-cons}
use Rattle.th_syntax.specs.Descriptors.{FieldType, double_type, long_type, class_type, array_type, MethodType, size_of, is_type, is_result, is_method_type, is_floating, is_floating_result, is_floating_method, only_if, alone, type_at, field_type_of, types_at, result_at, method_at, method_type_of}
use Rattle.th_pool.specs.declared.descriptor.ParsedType.{ParsedType}
use Rattle.th_pool.specs.declared.parse.Params.{Params}
use Rattle.th_pool.specs.declared.shape.DescriptorFault.TheVariants.{Form, FloatType}
use Rattle.std.proofs.lemmas.List.{append-nil}
use Rattle.std.specs.Str.{byte}
use Rattle.th_pool.specs.Shapes.{slot_of, slot_size, field_shape, shape_of, method_shape}
use Rattle.th_pool.specs.Types.{type_seen, summed, front_of}
use Rattle.th_pool.specs.Params.{field_answer, params_of, pushed, joined, params_found, method_seen, method_answer, returns_well, returns_floating}

-- ---- fields

shape_if : (b : Bool) (type : FieldType) → field_shape (cond b (Some type) None) ≡ field_answer (Some (record { slot = slot_of type; floating = is_floating type; well_formed = b }))
shape_if true type = refl
shape_if false type = refl

shape_by : (o : Option FieldType) → field_shape (only_if is_type o) ≡ field_answer (option_map type_seen o)
shape_by None = refl
shape_by (Some type) = shape_if (is_type type) type

pub field_is : (bytes : List ℕ) → field_shape (field_type_of bytes) ≡ field_answer (option_map type_seen (alone (type_at bytes)))
unfolding field_type_of
field_is bytes = shape_by (alone (type_at bytes))

-- ---- parameters

-- parameters that were read before, and those that are read
abbrev pub with_params : Params → Option (List FieldType × List ℕ) → Option (Params × List ℕ)
with_params p found = option_map (λ x. (joined p (params_of x.0), x.1)) found

pub after_none : (o : Option (List FieldType × List ℕ)) → with_params (record { slots = []; floating = false; well_formed = true }) o ≡ params_found o
after_none None = refl
after_none (Some x) = refl

or_assoc : (a b c : Bool) → ((a || b) || c) ≡ (a || (b || c))
or_assoc true b c = refl
or_assoc false b c = refl

and_assoc : (a b c : Bool) → ((a && b) && c) ≡ (a && (b && c))
and_assoc true b c = refl
and_assoc false b c = refl

one_joined : (p : Params) (type : FieldType) (types : List FieldType) → joined p (params_of (type ∷ types)) ≡ joined (pushed p (type_seen type)) (params_of types)
one_joined p type types =
    let slots = append_assoc p.slots (slot_of type ∷ []) (map slot_of types) in
    let floating = or_assoc p.floating (is_floating type) (list_any is_floating types) in
    let formed = and_assoc p.well_formed (is_type type) (list_all is_type types) in
    rw (slots, floating, formed) refl

joined_next : (p : Params) (type : FieldType) (o : Option (List FieldType × List ℕ)) → with_params p (option_map (λ more. (type ∷ more.0, more.1)) o) ≡ with_params (pushed p (type_seen type)) o
joined_next p type None = refl
joined_next p type (Some x) = ap (λ (q : Params). (let o : Option (Params × List ℕ) = Some (q, x.1) in o)) (one_joined p type x.0)

front_is : (all : List ℕ) (b : ℕ) (bytes : List ℕ) → Some (b, bytes) ≡ front_of all → all ≡ b ∷ bytes
front_is [] b bytes e = absurd cc
front_is (a ∷ rest) b bytes e =
    let pair : (let p : ℕ × List ℕ = (b, bytes) in p) ≡ (a, rest) = cc in
    ap (λ (p : ℕ × List ℕ). p.0 ∷ p.1) (sym pair)

no_front : (all : List ℕ) → None ≡ front_of all → all ≡ []
no_front [] e = refl
no_front (a ∷ rest) e = absurd cc

or_false : (b : Bool) → (b || false) ≡ b
or_false true = refl
or_false false = refl

and_true : (b : Bool) → (b && true) ≡ b
and_true true = refl
and_true false = refl

none_more : (p : Params) → joined p (params_of []) ≡ p
none_more p = rw (append-nil p.slots, or_false p.floating, and_true p.well_formed) refl

pub params_end : (room : ℕ) (all : List ℕ) (b : ℕ) (bytes : List ℕ) (p : Params) (total : Option (Params × List ℕ)) → Some (b, bytes) ≡ front_of all → b ≡ byte ")" → with_params p (types_at (suc room) all) ≡ total → Some (p, bytes) ≡ total
unfolding types_at
params_end room all b bytes p total front close so_far = sym (rw (front_is all b bytes front, close) (ap (λ (q : Params). (let o : Option (Params × List ℕ) = Some (q, bytes) in o)) (none_more p))) ∙ so_far

pub params_missing : (room : ℕ) (all : List ℕ) (p : Params) (total : Option (Params × List ℕ)) → None ≡ front_of all → with_params p (types_at (suc room) all) ≡ total → None ≡ total
unfolding types_at
params_missing room all p total front so_far = sym (rw (no_front all front) refl) ∙ so_far

types_next : (room b : ℕ) (bytes : List ℕ) → b ≢ byte ")" → types_at (suc room) (b ∷ bytes) ≡ option_and_then (λ first. option_map (λ more. (first.0 ∷ more.0, more.1)) (types_at room first.1)) (type_at (b ∷ bytes))
unfolding types_at
types_next room b bytes other = rw (ne_eqb b (byte ")") other) refl

params_bad_at : (p : Params) (room : ℕ) (o : Option (FieldType × List ℕ)) → None ≡ option_map summed o → with_params p (option_and_then (λ first. option_map (λ more. (first.0 ∷ more.0, more.1)) (types_at room first.1)) o) ≡ None
params_bad_at p room None e = refl
params_bad_at p room (Some x) e = absurd cc

pub params_bad : (room : ℕ) (all : List ℕ) (b : ℕ) (bytes : List ℕ) (p : Params) (total : Option (Params × List ℕ)) → Some (b, bytes) ≡ front_of all → b ≢ byte ")" → None ≡ option_map summed (type_at all) → with_params p (types_at (suc room) all) ≡ total → None ≡ total
params_bad room all b bytes p total front other bad so_far =
    let here = front_is all b bytes front in
    sym (ap (λ (bs : List ℕ). with_params p (types_at (suc room) bs)) here ∙ ap (with_params p) (types_next room b bytes other) ∙ params_bad_at p room (type_at (b ∷ bytes)) (bad ∙ ap (λ (bs : List ℕ). option_map summed (type_at bs)) here)) ∙ so_far

params_on_at : (p : Params) (room : ℕ) (o : Option (FieldType × List ℕ)) (seen : ParsedType) (others : List ℕ) → Some (seen, others) ≡ option_map summed o
    → with_params p (option_and_then (λ first. option_map (λ more. (first.0 ∷ more.0, more.1)) (types_at room first.1)) o) ≡ with_params (pushed p seen) (types_at room others)
params_on_at p room None seen others e = absurd cc
params_on_at p room (Some x) seen others e =
    let pair : (let q : ParsedType × List ℕ = (seen, others) in q) ≡ (type_seen x.0, x.1) = cc in
    joined_next p x.0 (types_at room x.1) ∙ ap (λ (q : ParsedType × List ℕ). with_params (pushed p q.0) (types_at room q.1)) (sym pair)

pub params_on : (room : ℕ) (all : List ℕ) (b : ℕ) (bytes : List ℕ) (p : Params) (seen : ParsedType) (others : List ℕ) (total : Option (Params × List ℕ)) → Some (b, bytes) ≡ front_of all → b ≢ byte ")" → Some (seen, others) ≡ option_map summed (type_at all) → with_params p (types_at (suc room) all) ≡ total → with_params (pushed p seen) (types_at room others) ≡ total
params_on room all b bytes p seen others total front other found so_far =
    let here = front_is all b bytes front in
    sym (ap (λ (bs : List ℕ). with_params p (types_at (suc room) bs)) here ∙ ap (with_params p) (types_next room b bytes other) ∙ params_on_at p room (type_at (b ∷ bytes)) seen others (found ∙ ap (λ (bs : List ℕ). option_map summed (type_at bs)) here)) ∙ so_far

pub params_none : (all : List ℕ) (p : Params) (total : Option (Params × List ℕ)) → with_params p (types_at 0 all) ≡ total → None ≡ total
unfolding types_at
params_none all p total so_far = so_far

-- ---- the result

pub result_void : (all : List ℕ) (b : ℕ) (bytes : List ℕ) → Some (b, bytes) ≡ front_of all → (b == byte "V" && length bytes == 0) ≡ true → option_map (option_map type_seen) (result_at all) ≡ Some None
unfolding result_at
result_void all b bytes front void = rw (front_is all b bytes front, void) refl

pub result_missing : (all : List ℕ) → None ≡ front_of all → option_map (option_map type_seen) (result_at all) ≡ None
unfolding result_at
result_missing all front = rw (no_front all front) refl

some_seen : (o : Option FieldType) → option_map (option_map type_seen) (option_map (λ type. (let t : Option FieldType = Some type in t)) o) ≡ option_map (λ seen. (let t : Option ParsedType = Some seen in t)) (option_map type_seen o)
some_seen None = refl
some_seen (Some x) = refl

pub result_type_is : (all : List ℕ) (b : ℕ) (bytes : List ℕ) → Some (b, bytes) ≡ front_of all → (b == byte "V" && length bytes == 0) ≡ false → option_map (option_map type_seen) (result_at all) ≡ option_map (λ seen. (let t : Option ParsedType = Some seen in t)) (option_map type_seen (alone (type_at all)))
unfolding result_at
result_type_is all b bytes front other =
    let here = front_is all b bytes front in
    ap (λ (bs : List ℕ). option_map (option_map type_seen) (result_at bs)) here ∙ rw other (some_seen (alone (type_at (b ∷ bytes)))) ∙ sym (ap (λ (bs : List ℕ). option_map (λ seen. (let t : Option ParsedType = Some seen in t)) (option_map type_seen (alone (type_at bs)))) here)

pub result_some : (all : List ℕ) (b : ℕ) (bytes : List ℕ) (found : ParsedType) → Some (b, bytes) ≡ front_of all → (b == byte "V" && length bytes == 0) ≡ false → Some found ≡ option_map type_seen (alone (type_at all)) → option_map (option_map type_seen) (result_at all) ≡ Some (Some found)
result_some all b bytes found front other e = result_type_is all b bytes front other ∙ ap (λ (o : Option ParsedType). option_map (λ seen. (let t : Option ParsedType = Some seen in t)) o) (sym e)

pub result_none : (all : List ℕ) (b : ℕ) (bytes : List ℕ) → Some (b, bytes) ≡ front_of all → (b == byte "V" && length bytes == 0) ≡ false → None ≡ option_map type_seen (alone (type_at all)) → option_map (option_map type_seen) (result_at all) ≡ None
result_none all b bytes front other e = result_type_is all b bytes front other ∙ ap (λ (o : Option ParsedType). option_map (λ seen. (let t : Option ParsedType = Some seen in t)) o) (sym e)

pub ruleset results = (result_void, result_missing, result_some, result_none)

-- ---- the whole descriptor

pub method_missing : (all : List ℕ) → None ≡ front_of all → option_map method_seen (method_at all) ≡ None
unfolding method_at
method_missing all front = rw (no_front all front) refl

pub method_closed : (all : List ℕ) (b : ℕ) (bytes : List ℕ) → Some (b, bytes) ≡ front_of all → b ≢ byte "(" → option_map method_seen (method_at all) ≡ None
unfolding method_at
method_closed all b bytes front other = rw (front_is all b bytes front, ne_eqb b (byte "(") other) refl

method_open : (b : ℕ) (bytes : List ℕ) → b ≡ byte "(" → method_at (b ∷ bytes) ≡ option_and_then (λ params. option_map (λ result_type. (let m : MethodType = record { params = params.0; result_type = result_type } in m)) (result_at params.1)) (types_at (length bytes) bytes)
unfolding method_at
method_open b bytes open_it = rw open_it refl

no_params_at : (o : Option (List FieldType × List ℕ)) → None ≡ params_found o → option_map method_seen (option_and_then (λ params. option_map (λ result_type. (let m : MethodType = record { params = params.0; result_type = result_type } in m)) (result_at params.1)) o) ≡ None
no_params_at None e = refl
no_params_at (Some x) e = absurd cc

pub method_no_params : (all : List ℕ) (b : ℕ) (bytes : List ℕ) → Some (b, bytes) ≡ front_of all → b ≡ byte "(" → None ≡ params_found (types_at (length bytes) bytes) → option_map method_seen (method_at all) ≡ None
method_no_params all b bytes front open_it e =
    ap (λ (bs : List ℕ). option_map method_seen (method_at bs)) (front_is all b bytes front) ∙ ap (option_map method_seen) (method_open b bytes open_it) ∙ no_params_at (types_at (length bytes) bytes) e

result_to : (types : List FieldType) (o : Option (Option FieldType)) → option_map method_seen (option_map (λ result_type. (let m : MethodType = record { params = types; result_type = result_type } in m)) o) ≡ option_map (λ seen. (let p : Params × Option ParsedType = (params_of types, seen) in p)) (option_map (option_map type_seen) o)
result_to types None = refl
result_to types (Some x) = refl

with_params_at : (o : Option (List FieldType × List ℕ)) (p : Params) (rest : List ℕ) → Some (p, rest) ≡ params_found o → option_map method_seen (option_and_then (λ params. option_map (λ result_type. (let m : MethodType = record { params = params.0; result_type = result_type } in m)) (result_at params.1)) o)
    ≡ option_map (λ seen. (let q : Params × Option ParsedType = (p, seen) in q)) (option_map (option_map type_seen) (result_at rest))
with_params_at None p rest e = absurd cc
with_params_at (Some x) p rest e =
    let pair : (let q : Params × List ℕ = (p, rest) in q) ≡ (params_of x.0, x.1) = cc in
    result_to x.0 (result_at x.1) ∙ ap (λ (q : Params × List ℕ). option_map (λ seen. (let r : Params × Option ParsedType = (q.0, seen) in r)) (option_map (option_map type_seen) (result_at q.1))) (sym pair)

method_by : (all : List ℕ) (b : ℕ) (bytes : List ℕ) (p : Params) (rest : List ℕ) → Some (b, bytes) ≡ front_of all → b ≡ byte "(" → Some (p, rest) ≡ params_found (types_at (length bytes) bytes) → option_map method_seen (method_at all) ≡ option_map (λ seen. (let q : Params × Option ParsedType = (p, seen) in q)) (option_map (option_map type_seen) (result_at rest))
method_by all b bytes p rest front open_it e =
    ap (λ (bs : List ℕ). option_map method_seen (method_at bs)) (front_is all b bytes front) ∙ ap (option_map method_seen) (method_open b bytes open_it) ∙ with_params_at (types_at (length bytes) bytes) p rest e

pub method_no_result : (all : List ℕ) (b : ℕ) (bytes : List ℕ) (p : Params) (rest : List ℕ) → Some (b, bytes) ≡ front_of all → b ≡ byte "(" → Some (p, rest) ≡ params_found (types_at (length bytes) bytes) → None ≡ option_map (option_map type_seen) (result_at rest) → option_map method_seen (method_at all) ≡ None
method_no_result all b bytes p rest front open_it e none =
    method_by all b bytes p rest front open_it e ∙ ap (λ (o : Option (Option ParsedType)). option_map (λ seen. (let q : Params × Option ParsedType = (p, seen) in q)) o) (sym none)

pub method_whole : (all : List ℕ) (b : ℕ) (bytes : List ℕ) (p : Params) (rest : List ℕ) (returned : Option ParsedType) → Some (b, bytes) ≡ front_of all → b ≡ byte "(" → Some (p, rest) ≡ params_found (types_at (length bytes) bytes) → Some returned ≡ option_map (option_map type_seen) (result_at rest) → option_map method_seen (method_at all) ≡ Some (p, returned)
method_whole all b bytes p rest returned front open_it e found =
    method_by all b bytes p rest front open_it e ∙ ap (λ (o : Option (Option ParsedType)). option_map (λ seen. (let q : Params × Option ParsedType = (p, seen) in q)) o) (sym found)

pub ruleset parts = (method_missing, method_closed, method_no_params, method_no_result, method_whole)

-- ---- the answer for a method

size_is : (type : FieldType) → slot_size (slot_of type) ≡ size_of type
size_is long_type = refl
size_is double_type = refl
size_is (class_type name) = refl
size_is (array_type element) = refl
size_is other = refl

sizes_are : (types : List FieldType) → sum_by slot_size (map slot_of types) ≡ sum_by size_of types
sizes_are [] = refl
sizes_are (type ∷ types) =
    sum_by-cons slot_size (slot_of type) (map slot_of types) ∙ ap (λ (k : ℕ). k + sum_by slot_size (map slot_of types)) (size_is type) ∙ ap (λ (k : ℕ). size_of type + k) (sizes_are types) ∙ sym (sum_by-cons size_of type types)

result_well : (o : Option FieldType) → returns_well (option_map type_seen o) ≡ is_result o
result_well None = refl
result_well (Some x) = refl

result_floating : (o : Option FieldType) → returns_floating (option_map type_seen o) ≡ is_floating_result o
result_floating None = refl
result_floating (Some x) = refl

result_slot : (o : Option FieldType) → option_map (λ (seen : ParsedType). seen.slot) (option_map type_seen o) ≡ option_map slot_of o
result_slot None = refl
result_slot (Some x) = refl

shape_answer : (good : Bool) (m : MethodType) → method_shape (cond good (Some m) None) ≡ cond good (cond (is_floating_method m) (Err FloatType) (Ok (shape_of m))) (Err Form)
shape_answer true m = refl
shape_answer false m = refl

answer_is : (m : MethodType) → method_shape (only_if is_method_type (Some m)) ≡ method_answer (params_of m.params) (option_map type_seen m.result_type)
answer_is m =
    shape_answer (is_method_type m) m ∙ rw (result_well m.result_type, sizes_are m.params, result_floating m.result_type, result_slot m.result_type) refl

pub method_answered : (bytes : List ℕ) (p : Params) (returned : Option ParsedType) → Some (p, returned) ≡ option_map method_seen (method_at bytes) → method_shape (method_type_of bytes) ≡ method_answer p returned
unfolding method_type_of
method_answered bytes p returned e = go (method_at bytes) e
  where
    go : (o : Option MethodType) → Some (p, returned) ≡ option_map method_seen o → method_shape (only_if is_method_type o) ≡ method_answer p returned
    go None is = absurd cc
    go (Some m) is =
        let pair : (let q : Params × Option ParsedType = (p, returned) in q) ≡ method_seen m = cc in
        answer_is m ∙ ap (λ (q : Params × Option ParsedType). method_answer q.0 q.1) (sym pair)

pub method_refused : (bytes : List ℕ) → None ≡ option_map method_seen (method_at bytes) → method_shape (method_type_of bytes) ≡ Err Form
unfolding method_type_of
method_refused bytes e = go (method_at bytes) e
  where
    go : (o : Option MethodType) → None ≡ option_map method_seen o → method_shape (only_if is_method_type o) ≡ Err Form
    go None is = refl
    go (Some m) is = absurd cc

pub ruleset methods = (method_answered, method_refused)

pub ruleset fields = (field_is)

-- What is decided of a script, from what was found of it.
use Rattle.std.proofs.Common.{◌≡◌, ◌≤◌, ◌+◌, ℕ, List, [], ◌∷◌, length, Option, None, Some, Result, Ok, Err, subst, arith, filter_map}
use Rattle.std.specs.List.{cons_option}
use Rattle.std.specs.Prelude.{◌==◌}
use Rattle.std.specs.Option.{option_map_or}
use Rattle.std.proofs.lemmas.List.Splits.{length-slice_split}
use Rattle.std.proofs.lemmas.List.Sums.{count_by-le-length}
use Rattle.th_base.specs.declared.fail.Fail.{Fail}
use Rattle.th_base.specs.declared.fail.Fail.TheVariants.{Refused}
use Rattle.th_syntax.specs.declared.class_file.ClassFile.{ClassFile}
use Rattle.th_syntax.specs.declared.event.Event.{Event}
use Rattle.th_harness.specs.Script.{Answers, event_of, events_of, first_bad_event, first_bad_line, lines_of, order_in, orders_of, script_of}
use Rattle.th_harness.specs.declared.script_error.ScriptError.TheVariants.{Line, Event as BadEvent}
use Rattle.th_machine.specs.Script.{Answered}

-- ---- a script has no more events than lines, and no more lines than bytes

behind_error : {A V R : Type 0} (f : A → R) (o : Option A) (r : Result V R) (value : V) → option_map_or (λ a. Err (f a)) o r ≡ Ok value → r ≡ Ok value
behind_error f None r value is = is
behind_error f (Some a) r value is = absurd (let h : ⊥ = cc is in h)

one_more : {Y : Type 0} (o : Option Y) (ys : List Y) (n : ℕ) → length ys ≤ n → length (cons_option o ys) ≤ n + 1
one_more None ys n within = omega (arith, within)
one_more (Some y) ys n within = omega (arith, within)

no_more_found : {X Y : Type 0} (f : X → Option Y) (xs : List X) → length (filter_map f xs) ≤ length xs
no_more_found f [] = omega arith
no_more_found f (x ∷ xs) = let h = one_more (f x) (filter_map f xs) (length xs) (no_more_found f xs) in omega (arith, h)

pub few_events : (files : List ClassFile) (script : List ℕ) (events : List Event) → script_of files script ≡ Ok events → length events ≤ length script + 1
few_events files script events is =
    let orders = orders_of script in
    let of : events_of files orders ≡ Ok events = behind_error (λ (place : ℕ). Line (place + 1)) (first_bad_line script) (events_of files orders) events is in
    let found : Ok (filter_map (event_of files) orders) ≡ Ok events = behind_error (λ (place : ℕ). BadEvent (place + 1)) (first_bad_event files orders) _ events of in
    let same : filter_map (event_of files) orders ≡ events = cc found in
    let of_orders = no_more_found (event_of files) orders in
    let of_lines = no_more_found order_in (lines_of script) in
    let lines = length-slice_split (λ (b : ℕ). b == 10) script in
    let bytes = count_by-le-length (λ (b : ℕ). b == 10) script in
    subst (λ (es : List Event). length es ≤ length script + 1) same (omega (arith, of_orders, of_lines, lines, bytes))

-- ---- what a call answered

pub value_found : {V R : Type 0} (wanted : Result V R) (r : Result V (Fail R)) (value : V) → r ≡ Ok value → Answers r wanted → wanted ≡ Ok value
value_found {V = V} {R = R} wanted r value is answers = subst (λ (x : Result V (Fail R)). Answers x wanted) is answers

pub error_found : {V R : Type 0} (wanted : Result V R) (r : Result V (Fail R)) (reason : R) → r ≡ Err (Refused reason) → Answers r wanted → wanted ≡ Err reason
error_found {V = V} {R = R} wanted r reason is answers = subst (λ (x : Result V (Fail R)). Answers x wanted) is answers

pub value_answered : {V R : Type 0} (IsSo : Result V R → Type 0) (r : Result V (Fail R)) (value : V) → r ≡ Ok value → Answered IsSo r → IsSo (Ok value)
value_answered {V = V} {R = R} IsSo r value is answered = subst (λ (x : Result V (Fail R)). Answered IsSo x) is answered

pub error_answered : {V R : Type 0} (IsSo : Result V R → Type 0) (r : Result V (Fail R)) (reason : R) → r ≡ Err (Refused reason) → Answered IsSo r → IsSo (Err reason)
error_answered {V = V} {R = R} IsSo r reason is answered = subst (λ (x : Result V (Fail R)). Answered IsSo x) is answered

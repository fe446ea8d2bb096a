-- The classes of the objects that a value leads to.
use Rattle.std.proofs.Common.{◌≡◌, ℕ, zero, suc, ◌+◌, ◌==◌, inl, inr, true, List, [], ◌∷◌, ◌++◌, get_or, take, Option, None, Some, refl, sym, ap, subst, ◌∙◌}
use Rattle.std.specs.Prelude.{slice_get, option_to_list, filter_map}
use Rattle.std.specs.List.{cons_option}
use Rattle.std.specs.Option.{option_and_then}
use Rattle.std.proofs.lemmas.Bool.{eqb-true, eq-eqb, or_cases, or_left, or_right}
use Rattle.std.proofs.lemmas.List.{take_more}
use Rattle.std.proofs.lemmas.List.Elements.{filter_map-append}
use Rattle.std.proofs.lemmas.Option.{slice_get_within}
use Rattle.th_syntax.specs.declared.machine.Object.{Object}
use Rattle.th_syntax.specs.declared.machine.Object.TheVariants.{Instance, Array}
use Rattle.th_syntax.specs.declared.machine.Value.{Value}
use Rattle.th_syntax.specs.Joined.{IsOfClass}
use Rattle.th_syntax.specs.Machine.{class_of}
use Rattle.th_syntax.proofs.Inverting.{and_then_some, some_is}
use Rattle.th_machine.specs.Leading.{AreClassesLed, AreLed, Joins, LeadsToClass, class_in, is_among}
use Rattle.th_machine.proofs.Leadings.{joins_then}

alone : (o : Option ℕ) → cons_option o [] ≡ option_to_list o
alone None = refl
alone (Some n) = refl

got : (xs : List ℕ) (k x d : ℕ) → slice_get xs k ≡ Some x → get_or xs k d ≡ x
got [] k x d e = absurd cc
got (y ∷ ys) zero x d e = some_is y x e
got (y ∷ ys) (suc k) x d e = got ys k x d e

-- the class at one more address is added
pub joins_class : (heap : List Object) (old new found : List ℕ) (at address : ℕ) → slice_get found at ≡ Some address → Joins [] old (filter_map (class_in heap) (take at found))
    → Joins old new (option_to_list (class_in heap address)) → Joins [] new (filter_map (class_in heap) (take (at + 1) found))
joins_class heap old new found at address is one two =
    let more : take (at + 1) found ≡ take at found ++ address ∷ [] =
    take_more found at address (slice_get_within found at address is) ∙ ap (λ x. take at found ++ x ∷ []) (got found at address address is) in
    subst (Joins [] new) (sym (ap (filter_map (class_in heap)) more ∙ filter_map-append (class_in heap) (take at found) (address ∷ [])))
    (joins_then [] old new (filter_map (class_in heap) (take at found)) (filter_map (class_in heap) (address ∷ [])) one
    (subst (Joins old new) (sym (alone (class_in heap address))) two))

-- ---- what is among those that a function finds

found_by : (f : ℕ → Option ℕ) (y c : ℕ) (ys : List ℕ) (o : Option ℕ) → f y ≡ o → is_among (cons_option o (filter_map f ys)) c ≡ true
    → (is_among (filter_map f ys) c ≡ true → (x : ℕ) × (is_among ys x ≡ true) × (f x ≡ Some c)) → (x : ℕ) × (is_among (y ∷ ys) x ≡ true) × (f x ≡ Some c)
found_by f y c ys None is e rest = let more = rest e in (more.0, or_right (more.0 == y) (is_among ys more.0) more.1, more.2)
found_by f y c ys (Some z) is e rest = elim (or_cases (c == z) (is_among (filter_map f ys) c) e) [
  | inl same ↦ (y, or_left (y == y) (is_among ys y) (eq-eqb y y refl), is ∙ ap (λ n. let p : Option ℕ = Some n in p) (sym (eqb-true c z same)))
  | inr later ↦ (let more = rest later in (more.0, or_right (more.0 == y) (is_among ys more.0) more.1, more.2))
]

found_from : (f : ℕ → Option ℕ) (xs : List ℕ) (c : ℕ) → is_among (filter_map f xs) c ≡ true → (x : ℕ) × (is_among xs x ≡ true) × (f x ≡ Some c)
found_from f [] c e = absurd cc
found_from f (y ∷ ys) c e = found_by f y c ys (f y) refl e (found_from f ys c)

among_first : (o : Option ℕ) (c : ℕ) (ys : List ℕ) → o ≡ Some c → is_among (cons_option o ys) c ≡ true
among_first None c ys e = absurd cc
among_first (Some z) c ys e = or_left (c == z) (is_among ys c) (eq-eqb c z (sym (some_is z c e)))

among_later : (o : Option ℕ) (c : ℕ) (ys : List ℕ) → is_among ys c ≡ true → is_among (cons_option o ys) c ≡ true
among_later None c ys e = e
among_later (Some z) c ys e = or_right (c == z) (is_among ys c) e

is_found : (f : ℕ → Option ℕ) (xs : List ℕ) (x c : ℕ) → is_among xs x ≡ true → f x ≡ Some c → is_among (filter_map f xs) c ≡ true
is_found f [] x c e is = absurd cc
is_found f (y ∷ ys) x c e is = elim (or_cases (x == y) (is_among ys x) e) [
  | inl same ↦ among_first (f y) c (filter_map f ys) (ap f (sym (eqb-true x y same)) ∙ is)
  | inr later ↦ among_later (f y) c (filter_map f ys) (is_found f ys x c later is)
]

-- ---- the classes

of_class : (o : Object) (c : ℕ) → class_of o ≡ Some c → IsOfClass o c
of_class (Instance class fields) c e = some_is class.0 c e
of_class (Array descriptor elements) c e = absurd cc

class_is : (o : Object) (c : ℕ) → IsOfClass o c → class_of o ≡ Some c
class_is (Instance class fields) c exactly = ap (λ n. let p : Option ℕ = Some n in p) exactly
class_is (Array descriptor elements) c exactly = absurd exactly

-- the classes at the addresses that are led to
pub led_classes : (heap : List Object) (value : Value) (found classes : List ℕ) → AreLed heap value found → Joins [] classes (filter_map (class_in heap) found)
    → AreClassesLed heap value classes
led_classes heap value found classes led joined c = (leads_to, is_there)
  where
    leads_to : is_among classes c ≡ true → LeadsToClass heap value c
    leads_to e =
        let at = found_from (class_in heap) found c (sym (joined.members c) ∙ e) in
        let object = and_then_some class_of (slice_get heap at.0) c at.2 in
        record { address = at.0; leads = (led at.0).0 at.1; object = object.0; stands = object.1; exactly = of_class object.0 c object.2 }

    is_there : LeadsToClass heap value c → is_among classes c ≡ true
    is_there to =
        joined.members c ∙ is_found (class_in heap) found to.address c ((led to.address).1 to.leads) (ap (option_and_then class_of) to.stands ∙ class_is to.object c to.exactly)

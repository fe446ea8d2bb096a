-- Values that are made of the items of a list, each checked as it is met.
use Rattle.std.proofs.Common.{◌≡◌, ℕ, suc, ◌+◌, ◌≤◌, ◌<◌, Bool, true, false, List, [], ◌∷◌, ◌++◌, length, map, drop, get_or, Err, refl, sym, ap, ◌∙◌, append_assoc, add-one}
use Rattle.std.specs.Prelude.{Option, Some, None, is_some}
use Rattle.std.specs.Borrow.{Bor}
use Rattle.std.specs.List.{flat_map}
use Rattle.std.specs.Option.{option_map, option_copied}
use Rattle.std.proofs.Math.Seq.{drop-cons}
use Rattle.std.proofs.lemmas.List.{append-nil}
use Rattle.th_base.specs.declared.fail.Fail.{Fail}
use Rattle.th_base.specs.declared.fail.Fail.TheVariants.{Refused, NoMemory}
use Rattle.th_syntax.specs.declared.refusal.Flaw.{Flaw}
use Rattle.th_syntax.specs.declared.cause.TheConstants as cause
use Rattle.th_syntax.specs.declared.tag.TheConstants as tag
use Rattle.th_syntax.specs.Flaws.{unless, flaw_at}
use Rattle.th_syntax.specs.Forms.{Placed}
use Rattle.th_syntax.specs.ClassBytes.{Pool}
use Rattle.th_syntax.specs.PoolChecks.{has_tag, utf8_of, class_of, entry_flaws}
use Rattle.th_syntax.specs.Checks.{index_flaws}
use Rattle.th_syntax.specs.ClassGrammar.{all_there}
use Rattle.th_syntax.proofs.Referring.{utf8_there, class_there}
use Rattle.th_pool.proofs.Sound.{is_some-copied}
use Rattle.th_reader.specs.Passes.{Makes, front_flaw}
use Rattle.th_reader.proofs.Walking.{flat_at, none_left, front_here}

-- ---- texts that are there

unless_none : (test : Bool) (x : Flaw) → unless test x ≡ [] → test ≡ true
unless_none true x e = refl
unless_none false x e = absurd cc

pub text_there : (pool : Pool) (index : Placed ℕ) (o : Option (Bor (List ℕ))) → option_copied o ≡ utf8_of pool index.value → index_flaws pool tag.UTF8 index ≡ [] → is_some o ≡ true
text_there pool index o is e = is_some-copied o ∙ ap is_some is ∙ utf8_there pool index.value ∙ unless_none (has_tag pool index.value tag.UTF8) (flaw_at cause.POOL index.at) e

pub class_there_too : (pool : Pool) (index : Placed ℕ) (o : Option (Bor (List ℕ))) → option_copied o ≡ class_of pool index.value → entry_flaws pool ≡ [] → index_flaws pool tag.CLASS index ≡ [] → is_some o ≡ true
class_there_too pool index o is entries e = is_some-copied o ∙ ap is_some is ∙ class_there pool index.value entries ∙ unless_none (has_tag pool index.value tag.CLASS) (flaw_at cause.POOL index.at) e

-- ---- two lists without flaws

pub none_both : {A : Type 0} (a b : List A) → a ++ b ≡ [] → (a ≡ []) × (b ≡ [])
none_both [] b e = (refl, e)
none_both (x ∷ a) b e = absurd cc

-- ---- how far a list was walked

-- `read` are the values of the items before the index `i`, which have no flaws
pub record Progress {A B C : Type 0} (flaws indices : B → List Flaw) (value : B → Option C) (view : A → B) (xs : List A) (i : ℕ) (read : List C) : Type 0 where
  pub flawless : flat_map flaws (map view xs) ≡ flat_map flaws (map view (drop i xs))
  pub values : all_there (map value (map view xs)) ≡ option_map (λ more. read ++ more) (all_there (map value (map view (drop i xs))))
  pub lead : flat_map indices (map view (drop i xs)) ≡ []

nothing_read : {C : Type 0} (o : Option (List C)) → o ≡ option_map (λ more. [] ++ more) o
nothing_read None = refl
nothing_read (Some x) = refl

pub begin : {A B C : Type 0} (flaws indices : B → List Flaw) (value : B → Option C) (view : A → B) (xs : List A) → flat_map indices (map view xs) ≡ [] → Progress flaws indices value view xs 0 []
begin flaws indices value view xs e = record { flawless = refl; values = nothing_read (all_there (map value (map view xs))); lead = e }

lead_at : {A B : Type 0} (indices : B → List Flaw) (view : A → B) (xs : List A) (i : ℕ) (x : A) → i < length xs → x ≡ get_or xs i x → flat_map indices (map view (drop i xs)) ≡ [] → (indices (view x) ≡ []) × (flat_map indices (map view (drop (i + 1) xs)) ≡ [])
lead_at {A = A} indices view xs i x lt is e =
    let two = none_both (indices (view (get_or xs i x))) (flat_map indices (map view (drop (i + 1) xs))) (sym (flat_at indices view xs i x lt) ∙ e) in
    (ap (λ (y : A). indices (view y)) is ∙ two.0, two.1)

-- the indices of the item at the index lead on
pub here : {A B C : Type 0} (flaws indices : B → List Flaw) (value : B → Option C) (view : A → B) (xs : List A) (i : ℕ) (read : List C) (x : A) → i < length xs → x ≡ get_or xs i x → Progress flaws indices value view xs i read → indices (view x) ≡ []
here flaws indices value view xs i read x lt is p = (lead_at indices view xs i x lt is p.lead).0

value_at : {A B C : Type 0} (value : B → Option C) (view : A → B) (xs : List A) (i : ℕ) (d : A) → i < length xs → all_there (map value (map view (drop i xs))) ≡ all_there (value (view (get_or xs i d)) ∷ map value (map view (drop (i + 1) xs)))
value_at value view xs i d lt = rw (add-one, drop-cons xs i d lt) refl

one_read : {C : Type 0} (read : List C) (y : C) (o : Option (List C)) → option_map (λ more. read ++ more) (option_map (λ ys. y ∷ ys) o) ≡ option_map (λ more. (read ++ y ∷ []) ++ more) o
one_read read y None = refl
one_read {C = C} read y (Some more) = ap (λ (ys : List C). let o : Option (List C) = Some ys in o) (sym (append_assoc read (y ∷ []) more))

pub on : {A B C : Type 0} (flaws indices : B → List Flaw) (value : B → Option C) (view : A → B) (xs : List A) (i : ℕ) (read : List C) (x : A) (y : C) → i < length xs → x ≡ get_or xs i x → flaws (view x) ≡ [] → value (view x) ≡ Some y
    → Progress flaws indices value view xs i read → Progress flaws indices value view xs (i + 1) (read ++ y ∷ [])
on {A = A} {C = C} flaws indices value view xs i read x y lt is none some p =
    let rest = flat_map flaws (map view (drop (i + 1) xs)) in
    let others = map value (map view (drop (i + 1) xs)) in
    let first : flaws (view (get_or xs i x)) ≡ [] = ap (λ (z : A). flaws (view z)) (sym is) ∙ none in
    let made : value (view (get_or xs i x)) ≡ Some y = ap (λ (z : A). value (view z)) (sym is) ∙ some in
    record {
      flawless = p.flawless ∙ flat_at flaws view xs i x lt ∙ ap (λ (fs : List Flaw). fs ++ rest) first;
      values = p.values ∙ ap (λ (o : Option (List C)). option_map (λ more. read ++ more) o) (value_at value view xs i x lt ∙ ap (λ (o : Option C). all_there (o ∷ others)) made) ∙ one_read read y (all_there others);
      lead = (lead_at indices view xs i x lt is p.lead).1;
    }

front_at : (a b : List Flaw) (flaw : Flaw) → front_flaw a ≡ Some flaw → front_flaw (a ++ b) ≡ Some flaw
front_at a b flaw e = sym (front_here a b flaw (sym e))

pub stop : {A B C D : Type 0} (flaws indices : B → List Flaw) (value : B → Option C) (view : A → B) (xs : List A) (i : ℕ) (read : List C) (x : A) (one : Option C) (all : Option D) (fail : Fail Flaw) → i < length xs → x ≡ get_or xs i x → Makes (flaws (view x)) one (Err fail)
    → Progress flaws indices value view xs i read → Makes (flat_map flaws (map view xs)) all (Err fail)
stop {A = A} flaws indices value view xs i read x one all (Refused flaw) lt is e p =
    ap front_flaw (p.flawless ∙ flat_at flaws view xs i x lt) ∙ front_at (flaws (view (get_or xs i x))) (flat_map flaws (map view (drop (i + 1) xs))) flaw (ap (λ (z : A). front_flaw (flaws (view z))) (sym is) ∙ e)
stop flaws indices value view xs i read x one all NoMemory lt is e p = tt

pub done : {A B C : Type 0} (flaws indices : B → List Flaw) (value : B → Option C) (view : A → B) (xs : List A) (i : ℕ) (read : List C) → length xs ≤ i → Progress flaws indices value view xs i read
    → (flat_map flaws (map view xs) ≡ []) × (all_there (map value (map view xs)) ≡ Some read)
done {A = A} {C = C} flaws indices value view xs i read le p =
    let none = none_left xs i le in (
      p.flawless ∙ ap (λ (ys : List A). flat_map flaws (map view ys)) none,
      p.values ∙ ap (λ (ys : List A). option_map (λ more. read ++ more) (all_there (map value (map view ys)))) none ∙ ap (λ (ys : List C). let o : Option (List C) = Some ys in o) (append-nil read),
    )

-- the item that is read at an index is one whatever stands for a missing one
pub same_item : {A : Type 0} (xs : List A) (i : ℕ) (d e : A) → i < length xs → get_or xs i d ≡ get_or xs i e
same_item {A = A} xs i d e lt = let both : (let l : List A = get_or xs i d ∷ drop (suc i) xs in l) ≡ get_or xs i e ∷ drop (suc i) xs = sym (drop-cons xs i d lt) ∙ drop-cons xs i e lt in cc

-- Rows by a key, and the Activity classes with their sites.
use Rattle.std.proofs.Common.{◌≡◌, ◌⊎◌, inl, inr, ℕ, zero, suc, ◌+◌, ◌<◌, ◌==◌, Bool, true, false, List, [], ◌∷◌, ◌++◌, length, map, Option, None, Some, Result, Ok, Err, slice_get, get_or, refl, sym, ap, subst, arith, ◌∙◌, if◌then◌else◌}
use Rattle.std.specs.Prelude.{◌↔◌, replicate}
use Rattle.std.specs.Prelude.{OnOk}
use Rattle.std.specs.List.{AllByRecursion}
use Rattle.std.specs.Option.{option_and_then}
use Rattle.std.proofs.lemmas.Bool.{cases_lt, eqb-true, eq-eqb, or_left, or_right}
use Rattle.std.proofs.lemmas.List.{length-append, append-nil}
use Rattle.std.proofs.lemmas.Option.{slice_get_within}
use Rattle.th_base.specs.declared.class.ClassInfo.{ClassInfo}
use Rattle.th_base.specs.IdSet.{has, IsAscending}
use Rattle.th_base.specs.Launchable.{is_activity}
use Rattle.th_base.specs.Subtype.{class_named}
use Rattle.th_base.proofs.Looked.{class_named_inside}
use Rattle.th_ir.specs.declared.program.RegProgram.{RegProgram}
use Rattle.th_ir.specs.declared.program.Site.{Site}
use Rattle.th_ir.specs.Program.{site_at}
use Rattle.th_ir.specs.Sites.{is_array_text, site_class}
use Rattle.th_ir.proofs.Plain.{some_is}
use Rattle.th_base.proofs.Membership.{has_append_left, has_push_cases, has_push}
use Rattle.th_flow.proofs.Rows.{place_passes, passing, places_ascend}
use Rattle.th_graph.specs.Searching.{is_key, row_at, row_of, class_of_site, AreTargetsBelow}
use Rattle.th_graph.specs.declared.targets.Targets.{Targets}

-- ---- keys

is_key_of : (r : ℕ) (o : Option ℕ) → is_key r o ≡ true → o ≡ Some r
is_key_of r None e = absurd cc
is_key_of r (Some k) e = ap Some (eqb-true k r e)

key_is : (r : ℕ) (o : Option ℕ) → o ≡ Some r → is_key r o ≡ true
key_is r o e = ap (is_key r) e ∙ eq-eqb r r refl

record IsFrom {A : Type 0} (f : A → Option ℕ) (xs : List A) (at : ℕ) (key : Option ℕ) : Type 0 where
  item : A
  stands : slice_get xs at ≡ Some item
  is : f item ≡ key

mapped_from : {A : Type 0} (f : A → Option ℕ) (xs : List A) (at : ℕ) (key : Option ℕ) → slice_get (map f xs) at ≡ Some key → IsFrom f xs at key
mapped_from f [] at key e = absurd cc
mapped_from f (x ∷ xs) zero key e = record { item = x; stands = refl; is = some_is (f x) key e }
mapped_from f (x ∷ xs) (suc at) key e = let m = mapped_from f xs at key e in record { item = m.item; stands = m.stands; is = m.is }

mapped_to : {A : Type 0} (f : A → Option ℕ) (xs : List A) (at : ℕ) (x : A) → slice_get xs at ≡ Some x → slice_get (map f xs) at ≡ Some (f x)
mapped_to f [] at x e = absurd cc
mapped_to f (y ∷ xs) zero x e = ap (λ z. Some (f z)) (some_is y x e)
mapped_to f (y ∷ xs) (suc at) x e = mapped_to f xs at x e

-- an item whose key is this one
pub record HasKey {A : Type 0} (f : A → Option ℕ) (xs : List A) (r n : ℕ) : Type 0 where
  pub item : A
  pub stands : slice_get xs n ≡ Some item
  pub key : f item ≡ Some r

pub in_row : {A : Type 0} (f : A → Option ℕ) (xs : List A) (r n : ℕ) → has (row_of r (map f xs)) n ≡ true → HasKey f xs r n
in_row f xs r n e =
    let q = place_passes (is_key r) 0 (map f xs) n e in
    let m = mapped_from f xs q.at q.item q.stands in
    let number = q.number in
    let at : q.at ≡ n = omega (arith, number) in
    record { item = m.item; stands = subst (λ k. slice_get xs k ≡ Some m.item) at m.stands; key = m.is ∙ is_key_of r q.item q.passes }

pub row_in : {A : Type 0} (f : A → Option ℕ) (xs : List A) (r n : ℕ) (x : A) → slice_get xs n ≡ Some x → f x ≡ Some r → has (row_of r (map f xs)) n ≡ true
row_in f xs r n x stands key = passing (is_key r) (map f xs) n (f x) (mapped_to f xs n x stands) (key_is r (f x) key)

pub row_ascends : (r : ℕ) (keys : List (Option ℕ)) → IsAscending (row_of r keys)
row_ascends r keys = places_ascend (is_key r) 0 keys

-- ---- sites by class

pub site_row : (h : List ClassInfo) (p : RegProgram) (c s : ℕ) → (has (row_of c (map (class_of_site h) p.sites)) s ≡ true) ↔ (site_class h p s ≡ Some c)
site_row h p c s = (
  λ e. let k = in_row (class_of_site h) p.sites c s e in ap (λ o. option_and_then (class_of_site h) o) k.stands ∙ k.key,
  λ e. by_site (site_at p s) refl e,
)
  where
    by_site : (o : Option Site) → site_at p s ≡ o → option_and_then (class_of_site h) o ≡ Some c → has (row_of c (map (class_of_site h) p.sites)) s ≡ true
    by_site None is e = absurd cc
    by_site (Some site) is e = row_in (class_of_site h) p.sites c s site is e

named_inside : (h : List ClassInfo) (name : List ℕ) (c : ℕ) (b : Bool) → (if b then None else class_named h name) ≡ Some c → c < length h
named_inside h name c true e = absurd cc
named_inside h name c false e = class_named_inside h name c e

class_inside : (h : List ClassInfo) (c : ℕ) (o : Option Site) → option_and_then (class_of_site h) o ≡ Some c → c < length h
class_inside h c None e = absurd cc
class_inside h c (Some site) e = named_inside h site.class c (is_array_text site.class) e

-- the class of a site is one of the hierarchy
pub site_class_inside : (h : List ClassInfo) (p : RegProgram) (s c : ℕ) → site_class h p s ≡ Some c → c < length h
site_class_inside h p s c e = class_inside h c (site_at p s) e

-- ---- targets

all_push : (m n : ℕ) (xs : List ℕ) → AllByRecursion (λ y. m < y) xs → m < n → AllByRecursion (λ y. m < y) (xs ++ n ∷ [])
all_push m n [] all less = (less, tt)
all_push m n (x ∷ xs) all less = (all.0, all_push m n xs all.1 less)

ascend_push : (xs : List ℕ) (n : ℕ) → IsAscending xs → AllByRecursion (λ y. y < n) xs → IsAscending (xs ++ n ∷ [])
ascend_push [] n ascend below = (tt, tt)
ascend_push (x ∷ xs) n ascend below = (all_push x n xs ascend.0 below.0, ascend_push xs n ascend.1 below.1)

all_by_has : (n : ℕ) (xs : List ℕ) → ((x : ℕ) → has xs x ≡ true → x < n) → AllByRecursion (λ y. y < n) xs
all_by_has n [] each = tt
all_by_has n (x ∷ xs) each = (each x (or_left (x == x) (has xs x) (eq-eqb x x refl)), all_by_has n xs (λ y e. each y (or_right (x == y) (has xs y) e)))

pub get_push : {A : Type 0} (xs : List A) (x : A) (i : ℕ) (y : A) → slice_get (xs ++ x ∷ []) i ≡ Some y → (slice_get xs i ≡ Some y) ⊎ ((i ≡ length xs) × (x ≡ y))
get_push [] x zero y e = inr (refl, some_is x y e)
get_push [] x (suc i) y e = absurd cc
get_push (z ∷ xs) x zero y e = inl e
get_push (z ∷ xs) x (suc i) y e = elim (get_push xs x i y e) [ inl old ↦ inl old | inr new ↦ inr (ap suc new.0, new.1) ]

pub targets_none : (h : List ClassInfo) (p : RegProgram) (t : Targets) → t.classes.items ≡ [] → t.goals.items ≡ [] → AreTargetsBelow h p t 0
targets_none h p t classes goals = record {
  count = ap (λ (l : List (List ℕ)). length l) goals ∙ ap (λ (l : List ℕ). length l) (sym classes);
  ascend = subst IsAscending (sym classes) tt;
  classes = λ c. (λ e. absurd (let none : false ≡ true = ap (λ (l : List ℕ). has l c) (sym classes) ∙ e in cc), λ both. absurd (omega (arith, both.1)));
  sites = λ i c goal e. absurd (let none : (let o : Option ℕ = None in o) ≡ Some c = ap (λ (l : List ℕ). slice_get l i) (sym classes) ∙ e in cc);
}

below_other : (c n : ℕ) → c < n + 1 → (c ≡ n → ⊥) → c < n
below_other c n less other = elim (cases_lt c n) [ inl below ↦ below | inr above ↦ (let same : c ≡ n = omega arith in absurd (other same)) ]

-- a class that is an Activity
pub target_more : (h : List ClassInfo) (p : RegProgram) (old new : Targets) (n : ℕ) (goal : List ℕ) → AreTargetsBelow h p old n → is_activity h n ≡ true → goal ≡ row_of n (map (class_of_site h) p.sites)
    → new.classes.items ≡ old.classes.items ++ n ∷ [] → new.goals.items ≡ old.goals.items ++ goal ∷ [] → AreTargetsBelow h p new (n + 1)
target_more h p old new n goal below is goal_is classes goals =
    let cs : List ℕ = old.classes.items in
    let gs : List (List ℕ) = old.goals.items in
    let count = below.count in
    let long_classes = ap (λ (l : List ℕ). length l) classes ∙ length-append cs (n ∷ []) in
    let long_goals = ap (λ (l : List (List ℕ)). length l) goals ∙ length-append gs (goal ∷ []) in
    record {
      count = omega (arith, long_classes, long_goals, count);
      ascend = subst IsAscending (sym classes) (ascend_push cs n below.ascend (all_by_has n cs (λ c e. ((below.classes c).0 e).1)));
      classes = λ c. subst (λ (l : List ℕ). (has l c ≡ true) ↔ ((is_activity h c ≡ true) × (c < n + 1))) (sym classes) (
        λ e. elim (has_push_cases cs n c e) [
          | inl found ↦ (let old = (below.classes c).0 found in (old.0, let less = old.1 in omega (arith, less)))
          | inr same ↦ (subst (λ k. is_activity h k ≡ true) same is, omega (arith, same))
        ],
        λ both. by_place c (c == n) refl both,
      );
      sites = λ i c g in_classes in_goals s.
          by_row i c g s (get_push cs n i c (ap (λ (l : List ℕ). slice_get l i) (sym classes) ∙ in_classes)) (get_push gs goal i g (ap (λ (l : List (List ℕ)). slice_get l i) (sym goals) ∙ in_goals));
    }
  where
    by_place : (c : ℕ) (b : Bool) → (c == n) ≡ b → (is_activity h c ≡ true) × (c < n + 1) → has (old.classes.items ++ n ∷ []) c ≡ true
    by_place c true e both = subst (λ k. has (old.classes.items ++ n ∷ []) k ≡ true) (sym (eqb-true c n e)) (has_push old.classes.items n)
    by_place c false e both =
        let less = both.1 in
        has_append_left old.classes.items (n ∷ []) c ((below.classes c).1 (both.0, below_other c n less (λ same. absurd (let yes : (c == n) ≡ true = eq-eqb c n same in cc))))

    by_row : (i c : ℕ) (g : List ℕ) (s : ℕ) → (slice_get old.classes.items i ≡ Some c) ⊎ ((i ≡ length old.classes.items) × (n ≡ c))
        → (slice_get old.goals.items i ≡ Some g) ⊎ ((i ≡ length old.goals.items) × (goal ≡ g)) → (has g s ≡ true) ↔ (site_class h p s ≡ Some c)
    by_row i c g s (inl one) (inl two) = below.sites i c g one two s
    by_row i c g s (inl one) (inr two) =
        let inside = slice_get_within old.classes.items i c one in
        let count = below.count in
        let at = two.0 in
        absurd (omega (arith, inside, count, at))
    by_row i c g s (inr one) (inl two) =
        let inside = slice_get_within old.goals.items i g two in
        let count = below.count in
        let at = one.0 in
        absurd (omega (arith, inside, count, at))
    by_row i c g s (inr one) (inr two) =
        subst (λ k. (has g s ≡ true) ↔ (site_class h p s ≡ Some k)) one.1 (subst (λ (l : List ℕ). (has l s ≡ true) ↔ (site_class h p s ≡ Some n)) (sym goal_is ∙ two.1) (site_row h p n s))

-- a class that isn't
pub target_past : (h : List ClassInfo) (p : RegProgram) (t : Targets) (n : ℕ) → AreTargetsBelow h p t n → is_activity h n ≡ false → AreTargetsBelow h p t (n + 1)
target_past h p t n below isnt = record {
  count = below.count;
  ascend = below.ascend;
  classes = λ c. (
    λ e. (let old = (below.classes c).0 e in (old.0, let less = old.1 in omega (arith, less))),
    λ both. by_place c (c == n) refl both,
  );
  sites = below.sites;
}
  where
    by_place : (c : ℕ) (b : Bool) → (c == n) ≡ b → (is_activity h c ≡ true) × (c < n + 1) → has t.classes.items c ≡ true
    by_place c true e both = absurd (let yes : is_activity h n ≡ true = ap (is_activity h) (sym (eqb-true c n e)) ∙ both.0 in cc)
    by_place c false e both =
        let less = both.1 in
        (below.classes c).1 (both.0, below_other c n less (λ same. absurd (let yes : (c == n) ≡ true = eq-eqb c n same in cc)))

-- ---- rows

-- a place put into a row
pub row_added : (old new : List (List ℕ)) (row place r : ℕ) → (row < length old → row_at new row ≡ row_at old row ++ place ∷ []) → ((k : ℕ) → (k ≡ row → ⊥) → row_at new k ≡ row_at old k) → r < length old
    → row_at new r ≡ row_at old r ++ (if row == r then place ∷ [] else [])
row_added old new row place r here others less = by_row (row == r) refl
  where
    by_row : (b : Bool) → (row == r) ≡ b → row_at new r ≡ row_at old r ++ (if b then place ∷ [] else [])
    by_row true e =
        let same : row ≡ r = eqb-true row r e in
        subst (λ k. row_at new k ≡ row_at old k ++ place ∷ []) same (here (omega arith))
    by_row false e = others r (λ same. absurd (let yes : (row == r) ≡ true = eq-eqb row r (sym same) in cc)) ∙ sym (append-nil (row_at old r))

-- rows that are empty
pub row_of_none : (n r : ℕ) → row_at (replicate n []) r ≡ []
row_of_none zero r = refl
row_of_none (suc n) zero = refl
row_of_none (suc n) (suc r) = row_of_none n r

-- what two clauses of a call that may fail give
pub on_both : {T E : Type 0} (r : Result T E) (P Q R : Type 0) → (P → Q → R) → OnOk r P → OnOk r Q → OnOk r R
on_both (Ok x) P Q R more p q = more p q
on_both (Err e) P Q R more p q = p

-- a row that is read, whatever stands for a row that isn't there
pub same_default : {A : Type 0} (xs : List A) (k : ℕ) (d e : A) → k < length xs → get_or xs k d ≡ get_or xs k e
same_default [] k d e less = absurd (omega arith)
same_default (x ∷ xs) zero d e less = refl
same_default (x ∷ xs) (suc k) d e less = same_default xs k d e (omega arith)

-- no key, no row
pub no_key : (r place : ℕ) (row : List ℕ) → row ≡ row ++ (if is_key r None then place ∷ [] else [])
no_key r place row = sym (append-nil row)

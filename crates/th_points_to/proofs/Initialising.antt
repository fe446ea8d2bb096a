-- Walks up superclasses to the initialisers that they declare.
use Rattle.std.proofs.Common.{◌≡◌, ◌⊎◌, inl, inr, ℕ, ◌<◌, ◌==◌, suc, true, List, [], ◌∷◌, ◌++◌, length, codes, Option, None, Some, refl, sym, ap, subst, arith, ◌∙◌}
use Rattle.std.specs.Prelude.{⊤}
use Rattle.std.specs.List.{AllByRecursion, Contains}
use Rattle.std.specs.Option.{option_map, option_map_or}
use Rattle.std.proofs.lemmas.Bool.{or_cases, or_right, eqb-true}
use Rattle.th_base.specs.declared.class.ClassInfo.{ClassInfo}
use Rattle.th_base.specs.declared.number.ClassId.{ClassId}
use Rattle.th_base.specs.Hierarchy.{superclass_of, declared_method, lineage_of, IsAcyclic}
use Rattle.th_base.specs.IdSet.{has}
use Rattle.th_base.proofs.Ascending.{has_first}
use Rattle.th_base.proofs.Enough.{lineage_of_is}
use Rattle.th_base.proofs.Upward.{superclass_inside}
use Rattle.th_incl.specs.View.{SolverView}
use Rattle.th_ir.specs.FactSets.{FactSets}
use Rattle.th_ir.specs.Rules.{ReachesInitialisers}
use Rattle.th_ir.specs.declared.program.RegProgram.{RegProgram}
use Rattle.th_points_to.specs.declared.found.Found.{Found}
use Rattle.th_points_to.specs.declared.place.Layout.{Layout}
use Rattle.th_points_to.specs.Found.{Adds}
use Rattle.th_points_to.specs.Initialisers.{ReachesOwn, InitsGo, IsWalk}
use Rattle.th_points_to.proofs.RoundLemmas.{holds_back}

-- what a walk may go on to asks
abbrev pub ReachesFrom : List ClassInfo → FactSets → Option ℕ → Type 0
ReachesFrom h t None = ⊤
ReachesFrom h t (Some c) = ReachesInitialisers h t c

-- ---- a class's own initialiser, and those of its superclass

pub own_of : (h : List ClassInfo) (t : FactSets) (c : ℕ) → IsAcyclic h → c < length h → ReachesInitialisers h t c → ReachesOwn h t c
own_of h t c acyclic inside is info e = is info.id.0 record {
  class = c;
  info = info;
  above = ap (λ l. has l c) (lineage_of_is h c acyclic inside) ∙ has_first c (option_map_or (lineage_of h) (superclass_of h c) []);
  declared = e;
  number = refl;
}

pub super_of : (h : List ClassInfo) (t : FactSets) (c : ℕ) (o : Option ℕ) → IsAcyclic h → c < length h → superclass_of h c ≡ o → ReachesInitialisers h t c → ReachesFrom h t o
super_of h t c None acyclic inside e is = tt
super_of h t c (Some s) acyclic inside e is = λ m init. is m record {
  class = init.class;
  info = init.info;
  above =
      ap (λ l. has l init.class) (lineage_of_is h c acyclic inside)
      ∙ ap (λ o. has (c ∷ option_map_or (lineage_of h) o []) init.class) e
      ∙ or_right (c == init.class) (has (lineage_of h s) init.class) init.above;
  declared = init.declared;
  number = init.number;
}

pub both_of : (h : List ClassInfo) (t : FactSets) (c : ℕ) (o : Option ℕ) → IsAcyclic h → c < length h → superclass_of h c ≡ o → ReachesOwn h t c → ReachesFrom h t o → ReachesInitialisers h t c
both_of h t c o acyclic inside e own above m init =
    elim (or_cases (c == init.class) (has (option_map_or (lineage_of h) o []) init.class)
    (sym (ap (λ l. has l init.class) (lineage_of_is h c acyclic inside) ∙ ap (λ q. has (c ∷ option_map_or (lineage_of h) q []) init.class) e) ∙ init.above)) [
      | inl same ↦
          subst (λ (k : ℕ). t.reached k ≡ true) init.number
          (own init.info (subst (λ (k : ℕ). declared_method h (codes "<clinit>") (codes "()V") k ≡ Some init.info) (sym (eqb-true c init.class same)) init.declared))
      | inr more ↦ by_super o above more
    ]
  where
    by_super : (q : Option ℕ) → ReachesFrom h t q → has (option_map_or (lineage_of h) q []) init.class ≡ true → t.reached m ≡ true
    by_super None from there = absurd cc
    by_super (Some s) from there = from m record { class = init.class; info = init.info; above = there; declared = init.declared; number = init.number }

-- ---- a walk so far

-- the classes walked, and the one to go on with
pub record HasWalked (h : List ClassInfo) (met : List ℕ) (c : ℕ) (next : Option ℕ) (walked : List ℕ) : Type 0 where
  pub inside : AllByRecursion (λ k. k < length h) walked
  pub on : (k : ℕ) → next ≡ Some k → k < length h
  pub down : (t : FactSets) → ReachesInitialisers h t c → AllByRecursion (ReachesOwn h t) walked × ReachesFrom h t next
  pub up : (t : FactSets) → ((k : ℕ) → Contains met k → ReachesInitialisers h t k) → ReachesFrom h t next → AllByRecursion (ReachesOwn h t) walked
      → AllByRecursion (ReachesInitialisers h t) walked × ReachesInitialisers h t c

pub not_walked : (h : List ClassInfo) (met : List ℕ) (c : ℕ) → c < length h → HasWalked h met c (Some c) []
not_walked h met c inside = record {
  inside = tt;
  on = λ k e. subst (λ (n : ℕ). n < length h) (same c k e) inside;
  down = λ t is. (tt, is);
  up = λ t marked is own. (tt, is);
}
  where
    same : (x y : ℕ) → (let o : Option ℕ = Some x in o) ≡ Some y → x ≡ y
    same x y e = cc

all_push : (P : ℕ → Type 0) (xs : List ℕ) (x : ℕ) → AllByRecursion P xs → P x → AllByRecursion P (xs ++ x ∷ [])
all_push P [] x all one = (one, tt)
all_push P (y ∷ xs) x all one = (all.0, all_push P xs x all.1 one)

all_pushed : (P : ℕ → Type 0) (xs : List ℕ) (x : ℕ) → AllByRecursion P (xs ++ x ∷ []) → AllByRecursion P xs × P x
all_pushed P [] x all = (tt, all.0)
all_pushed P (y ∷ xs) x all = let rest = all_pushed P xs x all.1 in ((all.0, rest.0), rest.1)

pub walked_on : (h : List ClassInfo) (met : List ℕ) (c k : ℕ) (next : Option ℕ) (walked : List ℕ) → IsAcyclic h → superclass_of h k ≡ next → HasWalked h met c (Some k) walked
    → HasWalked h met c next (walked ++ k ∷ [])
walked_on h met c k next walked acyclic e has_walked =
    let inside : k < length h = has_walked.on k refl in
    record {
      inside = all_push (λ (n : ℕ). n < length h) walked k has_walked.inside inside;
      on = λ s is. superclass_inside h k s acyclic (e ∙ is);
      down = λ t is.
          (let before = has_walked.down t is in
          (all_push (ReachesOwn h t) walked k before.0 (own_of h t k acyclic inside before.1), super_of h t k next acyclic inside e before.1));
      up = λ t marked from all.
          (let parts = all_pushed (ReachesOwn h t) walked k all in
          let here : ReachesInitialisers h t k = both_of h t k next acyclic inside e parts.1 from in
          let before = has_walked.up t marked here parts.0 in
          (all_push (ReachesInitialisers h t) walked k before.0 here, before.1));
    }

pub walked_up : (h : List ClassInfo) (met : List ℕ) (c : ℕ) (walked : List ℕ) → HasWalked h met c None walked → IsWalk h met c walked
walked_up h met c walked is = record { inside = is.inside; down = λ t all. (is.down t all).0; up = λ t marked own. is.up t marked tt own }

pub walked_to : (h : List ClassInfo) (met : List ℕ) (c k : ℕ) (walked : List ℕ) → Contains met k → HasWalked h met c (Some k) walked → IsWalk h met c walked
walked_to h met c k walked one is = record { inside = is.inside; down = λ t all. (is.down t all).0; up = λ t marked own. is.up t marked (marked k one) own }

-- the lineage of the superclass is shorter
pub walk_falls : (h : List ClassInfo) (c : ℕ) (next : Option ClassId) → IsAcyclic h → c < length h → superclass_of h c ≡ option_map (λ k. k.0) next
    → option_map_or (λ k. length (lineage_of h k.0)) next 0 < length (lineage_of h c)
walk_falls h c None acyclic inside e = let len = ap length (lineage_of_is h c acyclic inside) in omega (arith, len)
walk_falls h c (Some k) acyclic inside e =
    let len : length (lineage_of h c) ≡ suc (length (lineage_of h k.0)) = ap length (lineage_of_is h c acyclic inside ∙ ap (λ (o : Option ℕ). c ∷ option_map_or (lineage_of h) o []) e) in
    omega (arith, len)

-- ---- what was asked stays so

pub inits_kept : (h : List ClassInfo) (l : Layout) (p : RegProgram) (g g' : Found) (P : FactSets → Type 0) (met : List ℕ) → Adds l p g g' P → InitsGo h l g met → InitsGo h l g' met
inits_kept h l p g g' P met adds inits t range holds c one = inits t range (adds.complete t range holds).0 c one

pub inits_more : (h : List ClassInfo) (l : Layout) (p : RegProgram) (g g' : Found) (met met' walked : List ℕ) (c : ℕ) → IsWalk h met c walked
    → Adds l p g g' (λ t. AllByRecursion (ReachesOwn h t) walked) → ((k : ℕ) → Contains met' k → Contains met k ⊎ (has walked k ≡ true)) → InitsGo h l g met → InitsGo h l g' met'
inits_more h l p g g' met met' walked c walk adds only inits t range holds k one =
    let before = adds.complete t range holds in
    elim (only k one) [
      | inl old ↦ inits t range before.0 k old
      | inr new ↦ has_one walked (walk.up t (λ n there. inits t range before.0 n there) before.1).0 new
    ]
  where
    has_one : (xs : List ℕ) → AllByRecursion (ReachesInitialisers h t) xs → has xs k ≡ true → ReachesInitialisers h t k
    has_one [] all e = absurd cc
    has_one (x ∷ xs) all e = elim (or_cases (x == k) (has xs k) e) [
      | inl same ↦ subst (λ (n : ℕ). ReachesInitialisers h t n) (eqb-true x k same) all.0
      | inr later ↦ has_one xs all.1 later
    ]

pub inits_over : (h : List ClassInfo) (l : Layout) (g : Found) (s : SolverView) (met : List ℕ) → s.constraints ≡ g.solver.constraints → InitsGo h l g met → InitsGo h l record g { solver = s } met
inits_over h l g s met e inits t range holds c one = inits t range (holds_back l g s t e holds) c one

-- Listed facts say no more than others where these have each fact that is listed.
use Rattle.std.proofs.Common.{◌≡◌, ℕ, ◌+◌, ◌==◌, Bool, true, false, List, [], ◌∷◌, refl, sym, ap, subst, ◌∙◌}
use Rattle.std.specs.Prelude.{◌&&◌, ◌||◌, not}
use Rattle.std.specs.List.{AllByRecursion, list_all}
use Rattle.std.proofs.lemmas.Bool.{eqb-true}
use Rattle.th_base.specs.declared.number.FieldId.{FieldId}
use Rattle.th_base.specs.declared.number.MethodId.{MethodId}
use Rattle.th_base.specs.declared.number.NodeId.{NodeId}
use Rattle.th_base.specs.declared.number.SiteId.{SiteId}
use Rattle.th_ir.specs.declared.facts.Facts.{Facts}
use Rattle.th_ir.specs.FactSets.{FactSets, SaysWithin, sets_of}
use Rattle.th_ir.proofs.TestedStatements.{all_from, at_member}
use Rattle.th_ir.proofs.TestedFacts.{is_cell, cell_test, elem_test, call_test, in_cells, in_elems, in_calls, listed_within}

-- conditions on the sets of a list by their places
abbrev pub AllFrom : (ℕ → ℕ → Bool) → ℕ → List (List ℕ) → Type 0
AllFrom test k [] = Unit {0}
AllFrom test k (xs ∷ sets) = AllByRecursion (λ x. test k x ≡ true) xs × AllFrom test (k + 1) sets

and_of : (a b : Bool) → a ≡ true → b ≡ true → (a && b) ≡ true
and_of true b one other = other
and_of false b one other = absurd cc

or_of : (a b : Bool) → (a ≡ true → b ≡ true) → (not a || b) ≡ true
or_of true b more = more refl
or_of false b more = refl

all_true : {X : Type 0} (test : X → Bool) (xs : List X) → AllByRecursion (λ x. test x ≡ true) xs → list_all test xs ≡ true
all_true test [] all = refl
all_true test (x ∷ xs) all = and_of (test x) (list_all test xs) all.0 (all_true test xs all.1)

all_of : {X : Type 0} (P : X → Type 0) (test : X → Bool) → ((x : X) → P x → test x ≡ true) → (xs : List X) → AllByRecursion P xs → list_all test xs ≡ true
all_of P test sound [] all = refl
all_of P test sound (x ∷ xs) all = and_of (test x) (list_all test xs) (sound x all.0) (all_of P test sound xs all.1)

sets_true : (test : ℕ → ℕ → Bool) (k : ℕ) (sets : List (List ℕ)) → AllFrom test k sets → all_from (λ n xs. list_all (test n) xs) k sets ≡ true
sets_true test k [] all = refl
sets_true test k (xs ∷ sets) all =
    and_of (list_all (test k) xs) (all_from (λ n xs. list_all (test n) xs) (k + 1) sets) (all_true (test k) xs all.0) (sets_true test (k + 1) sets all.1)

cell_true : (u : FactSets) (s f : ℕ) (c : SiteId × FieldId × List ℕ) → AllByRecursion (λ x. u.cell c.0.0 c.1.0 x ≡ true) c.2 → cell_test (u.cell s f) s f c ≡ true
cell_true u s f c all = by_test (c.0.0 == s) (c.1.0 == f) refl refl
  where
    by_test : (a b : Bool) → (c.0.0 == s) ≡ a → (c.1.0 == f) ≡ b → (not (a && b) || list_all (u.cell s f) c.2) ≡ true
    by_test true true one other =
        subst (λ (n : ℕ). list_all (u.cell n f) c.2 ≡ true) (eqb-true c.0.0 s one)
        (subst (λ (n : ℕ). list_all (u.cell c.0.0 n) c.2 ≡ true) (eqb-true c.1.0 f other) (all_true (u.cell c.0.0 c.1.0) c.2 all))
    by_test true false one other = refl
    by_test false b one other = refl

elem_true : (u : FactSets) (s : ℕ) (c : SiteId × List ℕ) → AllByRecursion (λ x. u.elem c.0.0 x ≡ true) c.1 → elem_test (u.elem s) s c ≡ true
elem_true u s c all =
    or_of (c.0.0 == s) (list_all (u.elem s) c.1) (λ is. subst (λ (n : ℕ). list_all (u.elem n) c.1 ≡ true) (eqb-true c.0.0 s is) (all_true (u.elem c.0.0) c.1 all))

call_true : (u : FactSets) (n : ℕ) (c : NodeId × MethodId) → u.call c.0.0 c.1.0 ≡ true → call_test (u.call n) n c ≡ true
call_true u n c is = or_of (c.0.0 == n) (u.call n c.1.0) (λ same. subst (λ (k : ℕ). u.call k c.1.0 ≡ true) (eqb-true c.0.0 n same) is)

-- each fact that is listed
pub record HasListed (facts : Facts) (u : FactSets) : Type 0 where
  pub regs : AllFrom u.reg 0 facts.regs
  pub statics : AllFrom u.static 0 facts.statics
  pub cells : AllByRecursion (λ c. AllByRecursion (λ x. u.cell c.0.0 c.1.0 x ≡ true) c.2) facts.cells
  pub elems : AllByRecursion (λ e. AllByRecursion (λ x. u.elem e.0.0 x ≡ true) e.1) facts.elems
  pub calls : AllByRecursion (λ c. u.call c.0.0 c.1.0 ≡ true) facts.calls
  pub reached : AllByRecursion (λ m. u.reached m ≡ true) facts.reached

pub says_within : (facts : Facts) (u : FactSets) → HasListed facts u → SaysWithin (sets_of facts) u
says_within facts u has = record {
  reg = λ r x e. listed_within u.reg facts.regs (sets_true u.reg 0 facts.regs has.regs) r x e;
  static = λ f x e. listed_within u.static facts.statics (sets_true u.static 0 facts.statics has.statics) f x e;
  cell = λ s f x e.
      in_cells (u.cell s f) s f x facts.cells
      (all_of (λ c. AllByRecursion (λ x. u.cell c.0.0 c.1.0 x ≡ true) c.2) (cell_test (u.cell s f) s f) (cell_true u s f) facts.cells has.cells) e;
  elem = λ s x e.
      in_elems (u.elem s) s x facts.elems
      (all_of (λ c. AllByRecursion (λ x. u.elem c.0.0 x ≡ true) c.1) (elem_test (u.elem s) s) (elem_true u s) facts.elems has.elems) e;
  call = λ n m e.
      in_calls (u.call n) n m facts.calls (all_of (λ c. u.call c.0.0 c.1.0 ≡ true) (call_test (u.call n) n) (call_true u n) facts.calls has.calls) e;
  reached = λ m e. at_member u.reached facts.reached m (all_true u.reached facts.reached has.reached) e;
}

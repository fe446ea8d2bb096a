-- Least sets are the same in whatever order base pairs and inclusions come.
use Rattle.std.proofs.Common.{ℕ, ◌+◌, List, [], length}
use Rattle.std.specs.List.Sorted.{IsPermutation}
use Rattle.std.proofs.lemmas.List.Sorted.{Contains-permutation, IsPermutation-refl, IsPermutation-sym}
use Rattle.th_base.specs.declared.class.ClassInfo.{ClassInfo}
use Rattle.th_base.specs.Hierarchy.{IsAcyclic}
use Rattle.th_incl.specs.declared.constraints.Inclusion.{Inclusion}
use Rattle.th_incl.specs.Least.{Reaches, given, passed, IsLeast, IsInRange}
use Rattle.th_ir.specs.declared.facts.Facts.{Facts}
use Rattle.th_ir.specs.declared.program.Method.{Method}
use Rattle.th_ir.specs.declared.program.RegProgram.{RegProgram}
use Rattle.th_mod.specs.declared.effect.Part.{Part}
use Rattle.th_mod.specs.Systems.{base_pairs, copies_of}
use Rattle.th_mod.specs.Told.{system_of, AreTold}
use Rattle.th_mod.proofs.Parts.{AreOf, in_range_at, told_at}

reaches_as : (sets : ℕ) (base base' : List (ℕ × ℕ)) (copies copies' : List Inclusion) (passing : List ℕ) → IsPermutation base base' → IsPermutation copies copies'
    → (i x : ℕ) → Reaches (system_of sets base copies passing) i x → Reaches (system_of sets base' copies' passing) i x
reaches_as sets base base' copies copies' passing bs cs _ _ (given i x one) = given i x (Contains-permutation base base' (i, x) bs one)
reaches_as sets base base' copies copies' passing bs cs _ _ (passed j x one before pass) =
    passed j x (Contains-permutation copies copies' j cs one) (reaches_as sets base base' copies copies' passing bs cs j.from x before) pass

pub least_as : (sets : ℕ) (base base' : List (ℕ × ℕ)) (copies copies' : List Inclusion) (passing : List ℕ) (told : List (List ℕ)) → IsPermutation base base'
    → IsPermutation copies copies' → IsLeast (system_of sets base' copies' passing) told → IsLeast (system_of sets base copies passing) told
least_as sets base base' copies copies' passing told bs cs least = record {
  count = least.count;
  ascending = least.ascending;
  exact = λ i x. (
    λ e. reaches_as sets base' base copies' copies passing (IsPermutation-sym base base' bs) (IsPermutation-sym copies copies' cs) i x ((least.exact i x).0 e),
    λ r. (least.exact i x).1 (reaches_as sets base base' copies copies' passing bs cs i x r),
  );
}

pub range_as : (sets : ℕ) (base base' : List (ℕ × ℕ)) (copies copies' : List Inclusion) (passing passing' : List ℕ) → IsPermutation base base' → IsPermutation copies copies'
    → IsInRange (system_of sets base copies passing) → IsInRange (system_of sets base' copies' passing')
range_as sets base base' copies copies' passing passing' bs cs range = record {
  base = λ i x one. range.base i x (Contains-permutation base' base (i, x) (IsPermutation-sym base base' bs) one);
  copies = λ j one. range.copies j (Contains-permutation copies' copies j (IsPermutation-sym copies copies' cs) one);
}

-- what is asked of the inclusions in another order is that what they are has
pub routes_in_range : (h : List ClassInfo) (p : RegProgram) (facts : Facts) (part : Part) (classes : List ClassInfo) (methods : List Method) (sets : ℕ)
    (base : List (ℕ × ℕ)) (copies routes : List Inclusion) → IsAcyclic h → AreOf h p facts part classes methods sets base copies → IsPermutation copies routes
    → IsInRange (system_of sets base routes [])
routes_in_range h p facts part classes methods sets base copies routes acyclic are same =
    range_as sets base base copies routes [] [] (IsPermutation-refl base) same (in_range_at h p facts part classes methods sets base copies acyclic are)

-- what is told by the inclusions in another order is told by them
pub routes_told : (h : List ClassInfo) (p : RegProgram) (facts : Facts) (part : Part) (classes : List ClassInfo) (methods : List Method) (sets : ℕ)
    (base : List (ℕ × ℕ)) (copies routes : List Inclusion) (told : List (List ℕ)) → AreOf h p facts part classes methods sets base copies → IsPermutation copies routes
    → AreTold sets base routes told → AreTold (length h + length p.methods) (base_pairs (length h) p part p.nodes) (copies_of h p facts) told
routes_told h p facts part classes methods sets base copies routes told are same is = told_at h p facts part classes methods sets base copies told are record {
  passing = is.passing;
  passes = is.passes;
  least = least_as sets base base copies routes is.passing told (IsPermutation-refl base) same is.least;
}

use Rattle.std.proofs.Common.{ℕ, List, [], sym, ◌∙◌, subst}
use Rattle.std.specs.List.{Contains}
use Rattle.std.specs.List.Sorted.{IsPermutation}
use Rattle.std.proofs.lemmas.List.Sorted.{IsPermutation-refl}
use Rattle.th_incl.specs.declared.constraints.Inclusion.{Inclusion}
use Rattle.th_incl.specs.Least.{IsLeast, IsInRange}
use Rattle.th_mod.specs.Told.{system_of}
use Rattle.th_mod.proofs.Parts.{ok_more, number_in}
use Rattle.th_mod.proofs.Permuted.{least_as, range_as}
use Rattle.th_mod.proofs.routes.told.Goals as goal

pub least_sets-requires : goal.least_sets-requires
least_sets-requires c =
    let copies : List Inclusion = c.args.routes.now.copies.items in
    let pairs : List (ℕ × ℕ) = c.sort_pairs.new.pairs.items in
    let passing = c.in_ok-passing.passing in
    let same : IsPermutation c.args.base pairs = subst (λ (l : List (ℕ × ℕ)). IsPermutation l pairs) c.into_vec-pairs.ensures c.sort_pairs.ensures in
    subst (λ (l : List (ℕ × ℕ)). IsInRange (system_of c.args.sets l c.as_slice-4.result.now passing)) (sym c.as_slice-3.ensures.value)
    (subst (λ (l : List Inclusion). IsInRange (system_of c.args.sets pairs l passing)) (sym c.as_slice-4.ensures.value)
    (range_as c.args.sets c.args.base pairs copies copies [] passing same (IsPermutation-refl copies) c.requires))

pub returns : goal.returns
returns c =
    let copies : List Inclusion = c.args.routes.now.copies.items in
    let pairs : List (ℕ × ℕ) = c.sort_pairs.new.pairs.items in
    let passing = c.in_ok-passing.passing in
    let same : IsPermutation c.args.base pairs = subst (λ (l : List (ℕ × ℕ)). IsPermutation l pairs) c.into_vec-pairs.ensures c.sort_pairs.ensures in
    ok_more c.least_sets.result _ _
    (λ told least. record {
      passing = passing;
      passes = λ i x one. c.in_ok-passing.ensures x ∙ number_in c.as_slice.result.now i x (subst (λ (l : List (ℕ × ℕ)). Contains l (i, x)) (sym c.as_slice.ensures) one);
      least = least_as c.args.sets c.args.base pairs copies copies passing told.items same (IsPermutation-refl copies)
          (subst (λ (l : List Inclusion). IsLeast (system_of c.args.sets pairs l passing) told.items) c.as_slice-4.ensures.value
          (subst (λ (l : List (ℕ × ℕ)). IsLeast (system_of c.args.sets l c.as_slice-4.result.now passing) told.items) c.as_slice-3.ensures.value least));
    }) c.least_sets.ensures

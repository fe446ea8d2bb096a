use Rattle.std.proofs.Common.{[], ◌∷◌, ◌++◌, take, refl, inr, arith}
use Rattle.std.specs.List.{Contains}
use Rattle.th_base.specs.Hierarchy.{directly, higher, direct_supertypes}
use Rattle.th_base.specs.Cycles.{IsFirstCycle}
use Rattle.th_syntax.specs.Linking.{AreOrdered, by_name, by_supertype, by_cycle, by_member, by_use}
use Rattle.th_syntax.specs.Program.{hierarchy_of}
use Rattle.th_syntax.specs.WorkedLinking.{faulty_files}
use Rattle.th_syntax.proofs.Ranked.{built_in_ranks, falling_below, ranked}
use Rattle.th_syntax.proofs.laws.linking.passes_come_in_order.Goals as goal

two_ordered : AreOrdered (take 2 faulty_files)
two_ordered = record { names = refl; supertypes = refl; acyclic = ranked (hierarchy_of (take 2 faulty_files)) (built_in_ranks ++ 1 ∷ 1 ∷ []) refl refl }

one_ordered : AreOrdered (take 1 faulty_files)
one_ordered = record { names = refl; supertypes = refl; acyclic = ranked (hierarchy_of (take 1 faulty_files)) (built_in_ranks ++ 1 ∷ []) refl refl }

-- the classes 14 and 15 stand above each other, and 13 below them
there : Contains (direct_supertypes (hierarchy_of (take 5 faulty_files)) 14) 15
there = (1, omega arith, refl)

back : Contains (direct_supertypes (hierarchy_of (take 5 faulty_files)) 15) 14
back = (0, omega arith, refl)

first_cycle : IsFirstCycle (hierarchy_of (take 5 faulty_files)) 14 15
first_cycle = record {
  on_cycle = higher there (directly back);
  first = falling_below (hierarchy_of (take 5 faulty_files)) (built_in_ranks ++ 1 ∷ 1 ∷ 4 ∷ 3 ∷ 3 ∷ []) 14 refl refl;
  supertype = record {
    place = 0;
    inside = omega arith;
    stands = refl;
    back = inr (directly back);
    before = λ k below above. absurd (omega arith);
  };
}

pub returns : goal.returns
returns c = record {
  name = by_name refl;
  supertype = by_supertype refl refl;
  cycle = by_cycle refl refl 14 15 first_cycle refl;
  member = by_member two_ordered refl;
  uses = by_use one_ordered refl refl;
}

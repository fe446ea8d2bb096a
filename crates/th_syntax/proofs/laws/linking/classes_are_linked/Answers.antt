use Rattle.std.proofs.Common.{[], ◌∷◌, ◌++◌, refl}
use Rattle.th_syntax.specs.Program.{hierarchy_of}
use Rattle.th_syntax.specs.WorkedLinking.{linked_files}
use Rattle.th_syntax.proofs.Ranked.{built_in_ranks, ranked}
use Rattle.th_syntax.proofs.laws.linking.classes_are_linked.Goals as goal

pub returns : goal.returns
returns c = record {
  ordered = record { names = refl; supertypes = refl; acyclic = ranked (hierarchy_of linked_files) (built_in_ranks ++ 4 ∷ 3 ∷ 2 ∷ 1 ∷ []) refl refl };
  members = refl;
  uses = refl;
  few = refl;
}

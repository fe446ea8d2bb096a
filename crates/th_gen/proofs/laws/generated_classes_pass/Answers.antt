use Rattle.th_gen.proofs.ClassNames.{named, name_length}
use Rattle.th_gen.proofs.GeneratedPasses.{vec_passes, vec_fits, numbered_passes, numbered_fits}
use Rattle.th_gen.proofs.laws.generated_classes_pass.Goals as goal

pub returns : goal.returns
returns c = record { vector = vec_passes; vector_fits = vec_fits; activities = λ k lt. numbered_passes k (named k lt) (name_length k lt); activities_fit = λ k lt. numbered_fits k (named k lt) (name_length k lt) }

use Rattle.th_gen.proofs.Generating.{AreMade}
use Rattle.th_gen.proofs.generator.generate.Given as goal

-- the files of the vector and of the classes before this one are made
abbrev pub invariant-loop-number : goal.invariant-loop-number
invariant-loop-number l = AreMade (λ file. file.0) (λ file. file.1.items) l.files.items l.number

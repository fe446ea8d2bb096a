use Rattle.std.proofs.Common.{sym, ap, subst, ◌∙◌}
use Rattle.std.specs.Prelude.{IfOk}
use Rattle.th_gen.specs.declared.draft.ClassWriter.{ClassWriter}
use Rattle.th_gen.specs.ClassText.{fits}
use Rattle.th_gen.specs.Passing.{Passes}
use Rattle.th_gen.specs.Program.{IsFileOf}
use Rattle.th_gen.proofs.generator.vec_file.Goals as goal

pub file_of-requires-clause-fits : goal.file_of-requires-clause-fits
file_of-requires-clause-fits c = ap fits c.in_ok-class.ensures ∙ c.generated_classes_pass.ensures.vector_fits

pub file_of-requires-clause-passes : goal.file_of-requires-clause-passes
file_of-requires-clause-passes c = subst Passes (sym c.in_ok-class.ensures) c.generated_classes_pass.ensures.vector

pub returns : goal.returns
returns c = subst (λ (w : ClassWriter). IfOk c.file_of.result (λ file. IsFileOf file.0 file.1.items w)) c.in_ok-class.ensures c.file_of.ensures

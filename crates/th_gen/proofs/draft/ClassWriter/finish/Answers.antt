use Rattle.std.proofs.Common.{List, ℕ, sym, ap, subst, ◌∙◌}
use Rattle.th_syntax.specs.ClassGrammar.{IsClassFile, are_bytes}
use Rattle.th_gen.specs.ClassValue.{class_of}
use Rattle.th_gen.specs.Passing.{Passes}
use Rattle.th_gen.proofs.ClassSpelled.{class_spelled}
use Rattle.th_gen.proofs.draft.ClassWriter.finish.Goals as goal

pub returns-clause-stands : goal.returns-clause-stands
returns-clause-stands c = λ (passes : Passes c.args.self).
    let written = c.in_ok-bytes.ensures.written in
    subst (λ (bytes : List ℕ). IsClassFile bytes (class_of c.args.self)) (sym written)
    (class_spelled c.args.self c.in_ok-bytes.ensures.fits passes (ap are_bytes (sym written ∙ sym c.as_slice.ensures.value) ∙ c.hold_bytes.ensures))

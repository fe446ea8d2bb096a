use Rattle.std.proofs.Common.{◌≡◌, ◌∷◌, [], true, false, refl}
use Rattle.th_syntax.specs.declared.instr.Instr.TheVariants.{Return}
use Rattle.th_syntax.specs.Program.{empty_constructor}
use Rattle.th_runs.specs.Worked.{class_with, returning}
use Rattle.th_runs.proofs.laws.worked.entered_classes_are_looked_at.Goals as goal

pub returns-clause-untouched : goal.returns-clause-untouched
returns-clause-untouched c = λ locals stack entered. entered (record { owner = 0; member = empty_constructor }) refl refl

pub returns-clause-interface : goal.returns-clause-interface
returns-clause-interface c = λ plain.
    let no : false ≡ true =
    plain 17 (record { owner = 11; member = returning }) (class_with 1537 [] (returning ∷ [])) (record { max_stack = 0; max_locals = 1; instrs = (0, Return) ∷ []; handlers = 0 }) refl refl refl refl in
    cc

use Rattle.std.proofs.Common.{◌++◌, ℕ, List, length, ap, ◌∙◌}
use Rattle.std.specs.Prelude.{replicate}
use Rattle.th_base.specs.declared.built_in.TheConstants.{STRING_NUMBER}
use Rattle.th_syntax.specs.declared.class_file.ClassFile.{ClassFile}
use Rattle.th_syntax.specs.declared.machine.Mark.{Mark}
use Rattle.th_syntax.specs.declared.machine.Mark.TheVariants.{Done, Untouched}
use Rattle.th_syntax.specs.Initial.{new_object}
use Rattle.th_syntax.specs.Strings.{string_constants}
use Rattle.th_machine.specs.Beginning.{first_statics}
use Rattle.th_machine.proofs.Begun.{begins}
use Rattle.th_machine.proofs.beginning.initial.Goals as goal

pub returns : goal.returns
returns c =
    let files = c.args.resolved.now in
    begins files c.from_vec.result c.from_vec-2.result c.from_vec-3.result c.new.result c.new-2.result c.new.ensures c.new-2.ensures
    (c.from_vec.ensures ∙ c.in_ok-heap.ensures
    ∙ ap (λ (ts : List (List ℕ)). replicate (length ts) (new_object c.program-program.result.now STRING_NUMBER)) (c.texts.ensures ∙ c.strings.ensures)
    ∙ ap (λ (fs : List ClassFile). replicate (length (string_constants files)) (new_object fs STRING_NUMBER)) c.program-program.ensures)
    (c.from_vec-2.ensures ∙ c.in_ok-statics.ensures ∙ ap first_statics (c.files.ensures ∙ c.program-program.ensures))
    (c.from_vec-3.ensures ∙ c.in_ok-add_marks-2.ensures
    ∙ ap (λ (ms : List Mark). ms ++ replicate (length c.files-2.result.now) Untouched)
    (c.in_ok-add_marks.ensures ∙ ap (λ (ms : List Mark). ms ++ replicate 11 Done) c.new-marks.ensures.items)
    ∙ ap (λ (fs : List ClassFile). replicate 11 Done ++ replicate (length fs) Untouched) (c.files-2.ensures ∙ c.program-program.ensures))

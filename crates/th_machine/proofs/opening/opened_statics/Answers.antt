use Rattle.std.proofs.Common.{◌≡◌, ◌+◌, ◌-◌, ◌≤◌, ℕ, List, length, arith, sym, ap, ◌∙◌}
use Rattle.std.specs.Prelude.{slice_get}
use Rattle.std.specs.Option.{option_copied}
use Rattle.th_syntax.specs.declared.class_file.ClassFile.{ClassFile}
use Rattle.th_syntax.specs.declared.class_file.Member.{Member}
use Rattle.th_machine.specs.Opening.{fields_set, first_field}
use Rattle.th_machine.proofs.Arguments.{not_there}
use Rattle.th_machine.proofs.Opened.{built_in_same, absent_same, no_fields_same, fields_same}
use Rattle.th_machine.proofs.opening.opened_statics.Goals as goal

pub returns-then-class-lt-BUILT_IN_COUNT : goal.returns-then-class-lt-BUILT_IN_COUNT
returns-then-class-lt-BUILT_IN_COUNT c = built_in_same c.args.resolved.now c.args.class.0 c.args.statics c.if-class-lt-BUILT_IN_COUNT.true c.requires

pub returns-in-None : goal.returns-in-None
returns-in-None c =
    let at : ℕ = c.args.class.0 - 11 in
    let same : c.files.result.now ≡ c.args.resolved.now = c.files.ensures ∙ c.program-program.ensures in
    let past : length c.args.resolved.now ≤ at =
    not_there c.args.resolved.now at (ap (λ (fs : List ClassFile). slice_get fs at) (sym same) ∙ sym c.file_at.ensures ∙ ap option_copied c.in-None.is) in
    let less : 11 + length c.args.resolved.now ≤ c.args.class.0 = omega arith in
    absent_same c.args.resolved.now c.args.class.0 c.args.statics less c.requires

pub returns-in-None-first_field : goal.returns-in-None-first_field
returns-in-None-first_field c =
    let at : ℕ = c.args.class.0 - 11 in
    let same : c.files.result.now ≡ c.args.resolved.now = c.files.ensures ∙ c.program-program.ensures in
    let number : c.args.class.0 ≡ 11 + at = omega arith in
    no_fields_same c.args.resolved.now c.args.class.0 at c.in-Some.file.now c.args.statics number
    (ap (λ (fs : List ClassFile). slice_get fs at) (sym same) ∙ sym c.file_at.ensures ∙ ap option_copied c.in-Some.is)
    (sym c.in-None-first_field.is ∙ c.first_field.ensures ∙ ap (λ (fs : List ClassFile). first_field fs c.args.class.0) c.program-program.ensures) c.requires

pub returns-in-Some-first_field : goal.returns-in-Some-first_field
returns-in-Some-first_field c =
    let at : ℕ = c.args.class.0 - 11 in
    let same : c.files.result.now ≡ c.args.resolved.now = c.files.ensures ∙ c.program-program.ensures in
    let number : c.args.class.0 ≡ 11 + at = omega arith in
    c.with_fields_set.ensures ∙ ap (λ (ms : List Member). fields_set c.args.resolved.now c.in-Some-first_field.first ms c.args.statics) c.as_slice.ensures
    ∙ fields_same c.args.resolved.now c.args.class.0 at c.in-Some-first_field.first c.in-Some.file.now c.args.statics number
    (ap (λ (fs : List ClassFile). slice_get fs at) (sym same) ∙ sym c.file_at.ensures ∙ ap option_copied c.in-Some.is)
    (sym c.in-Some-first_field.is ∙ c.first_field.ensures ∙ ap (λ (fs : List ClassFile). first_field fs c.args.class.0) c.program-program.ensures) c.requires

use Rattle.std.proofs.Common.{ap, arith, refl, rules, ◌∙◌}
use Rattle.std.specs.Prelude.{◌==◌}
use Rattle.th_input.specs.Input.{at_list, behind_list, list_bad}
use Rattle.th_input.specs.declared.unread.Unread.TheVariants.{BadLine}
use Rattle.th_input.proofs.Lines.{lines_take_bytes}
use Rattle.th_input.proofs.Reading.{stopped_then}
use Rattle.th_input.proofs.class_files.read_listed.Goals as goal

pub names_on-requires : goal.names_on-requires
names_on-requires g c =
    let taken = lines_take_bytes (λ b. b == 10) c.args.bytes.now in
    rw (c.as_slice.ensures.value, c.in_ok-lines.ensures) (omega (arith, taken, c.requires.short))

pub returns-in-Ok-clause-unread : goal.returns-in-Ok-clause-unread
returns-in-Ok-clause-unread g c = stopped_then c.read_named.result c.read_named.ensures.unread (λ u ends. behind_list _ (search rules) ends)

pub returns-in-Err-Refused-clause-unread : goal.returns-in-Err-Refused-clause-unread
returns-in-Err-Refused-clause-unread g c =
    let bad = rw c.in-Err-Refused.field-0-is at c.in-Err-Refused.ensures.bad in
    at_list _ refl (list_bad c.args.bytes.now c.requires.held c.requires.short c.in-Err-Refused.offset (rw (c.as_slice.ensures.value, c.in_ok-lines.ensures) at bad)
    (ap (λ n. BadLine n c.in-Err-Refused.offset) c.in_ok-from_str-in-Err-Refused.ensures))

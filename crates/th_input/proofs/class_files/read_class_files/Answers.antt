use Rattle.std.proofs.Common.{ap, refl, rules, ◌∙◌}
use Rattle.th_input.specs.Input.{at_list, behind_list, list_unread}
use Rattle.th_input.proofs.Reading.{stopped_then, handed_on}
use Rattle.th_input.proofs.class_files.read_class_files.Goals as goal

pub returns-in_err-bytes-in-Some-clause-unread : goal.returns-in_err-bytes-in-Some-clause-unread
returns-in_err-bytes-in-Some-clause-unread g c =
    let i = c.in-Some.is in
    handed_on c.fetch.result c.from_residual.result c.in_err-bytes-in-Some.field-0.0 c.in_err-bytes-in-Some.was (search rules) c.fetch.ensures.unread
    (λ u is. at_list c.in-Some.list i (list_unread (rw c.as_str.ensures at is)))

pub returns-in-None-clause-unread : goal.returns-in-None-clause-unread
returns-in-None-clause-unread g c = stopped_then c.read_named.result c.read_named.ensures.unread (λ u ends. behind_list _ (search rules) ends)

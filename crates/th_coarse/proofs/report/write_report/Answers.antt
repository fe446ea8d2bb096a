use Rattle.std.proofs.Common.{ap, ◌∙◌, ◌++◌, length}
use Rattle.std.specs.Prelude.{codes}
use Rattle.th_coarse.specs.Report.{alarm_lines, count_line, filtered_count, handlers_of, surviving_count}
use Rattle.th_coarse.proofs.Judging.{six_parts}
use Rattle.th_coarse.proofs.report.write_report.Goals as goal

pub returns : goal.returns
returns c =
    let files = c.args.program.now in
    let alarms = c.args.alarms.now in
    let t = c.write_count.new.text.items in
    let u = c.write_count-2.new.text.items in
    let v = c.write_count-3.new.text.items in
    let w = c.write_alarms.new.text.items in
    let x = c.write_count-4.new.text.items in
    six_parts (count_line (codes "classes ") (length files)) (count_line (codes "handlers not followed ") (handlers_of files)) (count_line (codes "alarms ") (length alarms))
    (alarm_lines files 1 alarms) (count_line (codes "filtered ") (filtered_count alarms)) (count_line (codes "surviving ") (surviving_count alarms))
    t u v w x c.write_count-5.new.text.items
    (c.in_ok-write_count.ensures ∙ ap (λ front. front ++ count_line (codes "classes ") (length c.files-2.result.now)) c.new-text.ensures.items
    ∙ ap (λ fs. count_line (codes "classes ") (length fs)) c.files-2.ensures)
    (c.in_ok-write_count-2.ensures ∙ ap (λ n. t ++ count_line (codes "handlers not followed ") n) (c.in_ok-handlers.ensures ∙ ap handlers_of c.files.ensures))
    c.in_ok-write_count-3.ensures
    c.in_ok-write_alarms.ensures
    (c.in_ok-write_count-4.ensures ∙ ap (λ n. w ++ count_line (codes "filtered ") n) c.filtered_count.ensures)
    (c.in_ok-write_count-5.ensures ∙ ap (λ n. x ++ count_line (codes "surviving ") n) c.surviving_count.ensures.value)

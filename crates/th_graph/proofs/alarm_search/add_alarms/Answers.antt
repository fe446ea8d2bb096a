use Rattle.std.proofs.Common.{◌≡◌, ◌∷◌, [], List, true, sym, ◌∙◌}
use Rattle.std.proofs.lemmas.List.{append-nil}
use Rattle.th_ir.specs.declared.graph.Alarm.{Alarm}
use Rattle.th_ir.specs.Fields.{is_file_static}
use Rattle.th_ir.specs.WellFormed.{AreNumbered}
use Rattle.th_paths.proofs.Places.{on_ok}
use Rattle.th_graph.specs.Searching.{Adds, IsSearched, AreAlarmsOf}
use Rattle.th_graph.proofs.Alarming.{PathsLead, searched_alarms, no_root, no_reference}
use Rattle.th_graph.proofs.alarm_search.add_alarms.Goals as goal
use Rattle.th_graph.proofs.alarm_search.add_alarms.Goals.{else-contains-via-then-contains+else-is_ref_field, else-contains-via-else-contains}

pub returns-then-is_ref_field : goal.returns-then-is_ref_field
returns-then-is_ref_field c =
    let h = c.args.hierarchy.now in
    let p = c.args._program.now in
    let edges = c.args.index.now in
    let f = c.args.field in
    let targets = c.args.targets.now in
    let old : List Alarm = c.args.alarms.now.items in
    let new : List Alarm = c.add_found.new.alarms.items in
    let lead : PathsLead edges = record { path = λ g x leads. c.paths_lead.ensures.path edges g x leads; leads = λ g x path is. c.paths_lead.ensures.leads edges g x path is } in
    on_ok c.add_found.result (Adds old new (IsSearched edges f targets))
    (Adds old new (λ more. AreNumbered h → is_file_static h f.0 ≡ true → AreAlarmsOf h p edges (f.0 ∷ []) more))
    (λ a. record {
      more = a.more;
      is = a.is;
      of_more = λ numbered static. searched_alarms h p edges f targets a.more lead c.requires.targets a.of_more static (sym (c.is_ref_field.ensures numbered) ∙ c.if-is_ref_field.true);
    })
    c.add_found.ensures

pub returns : goal.returns
returns c =
    let h = c.args.hierarchy.now in
    let p = c.args._program.now in
    let edges = c.args.index.now in
    let f = c.args.field in
    let old : List Alarm = c.args.alarms.now.items in
    record {
      more = [];
      is = sym (append-nil old);
      of_more = λ numbered static. elim c.else-contains.branch [
        | else-contains-via-then-contains+else-is_ref_field w ↦ no_reference h p edges f (sym (w.is_ref_field.ensures numbered) ∙ w.if-is_ref_field.false)
        | else-contains-via-else-contains w ↦ no_root h p edges f (sym (c.requires.roots f.0) ∙ sym c.contains.ensures ∙ w.if-contains.false)
      ];
    }

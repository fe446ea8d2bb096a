use Rattle.std.proofs.Common.{◌≡◌, ◌++◌, ◌∷◌, [], ℕ, List, Option, take, get_or, sym, ap, append_assoc, ◌∙◌, if◌then◌else◌}
use Rattle.std.specs.Prelude.{is_some}
use Rattle.std.proofs.lemmas.List.{append-nil}
use Rattle.th_base.specs.declared.number.EdgeId.{EdgeId}
use Rattle.th_ir.specs.declared.graph.Alarm.{Alarm}
use Rattle.th_graph.specs.Searching.{alarm_of, hits}
use Rattle.th_graph.proofs.Alarming.{hits_more}
use Rattle.th_graph.proofs.alarm_search.add_hits.Goals as goal
use Rattle.th_graph.proofs.alarm_search.add_hits.Goals.{then-is_some+in_ok-push, else-is_some}

pub loop-place-preserved : goal.loop-place-preserved
loop-place-preserved c =
    let f = c.args.field in
    let classes : List ℕ = c.args.classes.now in
    let found : List (Option (List EdgeId)) = c.args.found.now in
    let n = c.loop-place.place in
    let item : Option (List EdgeId) = c.index-found-place.result in
    let old : List Alarm = c.args.alarms.now.items in
    let so_far : List Alarm = hits f (take n classes) (take n found) in
    let alarm : Alarm = alarm_of f (get_or classes n 0) in
    let more = hits_more f classes found n item c.loop-place-test.true c.requires in
    let some : is_some (get_or found n item) ≡ c.is_some.result = ap (λ (o : Option (List EdgeId)). is_some o) (sym c.index-found-place.is) ∙ sym c.is_some.ensures in
    elim c.if-is_some.branch [
      | then-is_some+in_ok-push w ↦
          ap (λ v. v.items) w.alarms-is ∙ w.in_ok-push.ensures.items ∙ ap (λ (l : List Alarm). l ++ alarm ∷ []) c.loop-place.invariant ∙ append_assoc old so_far (alarm ∷ [])
          ∙ ap (λ b. old ++ (so_far ++ (if b then alarm ∷ [] else []))) (sym (some ∙ w.if-is_some.true)) ∙ ap (λ (l : List Alarm). old ++ l) (sym more)
      | else-is_some w ↦
          ap (λ v. v.items) w.alarms-is ∙ c.loop-place.invariant ∙ ap (λ (l : List Alarm). old ++ l) (sym (append-nil so_far))
          ∙ ap (λ b. old ++ (so_far ++ (if b then alarm ∷ [] else []))) (sym (some ∙ w.if-is_some.false)) ∙ ap (λ (l : List Alarm). old ++ l) (sym more)
    ]

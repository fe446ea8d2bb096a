-- The heap graphs and the alarms of the small programs.
use Rattle.std.proofs.Common.{◌≡◌, ℕ, zero, suc, [], ◌∷◌, Some, slice_get, refl, subst}
use Rattle.th_ir.specs.declared.graph.Alarm.{Alarm}
use Rattle.th_ir.specs.FactSets.{sets_of}
use Rattle.th_ir.specs.Graph.{IsGraph, begins, by_field, by_element, IsAlarm, AreAlarms}
use Rattle.th_ir.specs.WorkedGraph.{storing_edges, storing_alarms, vector_edges, vector_alarms, alarm_at}
use Rattle.th_ir.specs.WorkedStoring.{storing_classes, storing_program, storing_facts}
use Rattle.th_ir.specs.WorkedVector.{vector_classes, vector_program, vector_facts}
use Rattle.th_ir.proofs.Plain.{some_is}
use Rattle.th_ir.proofs.TestedAlarms.{are_alarms}
use Rattle.th_ir.proofs.TestedGraph.{is_graph}

pub storing_graph : IsGraph storing_classes (sets_of storing_facts) storing_edges
storing_graph = is_graph storing_classes storing_facts storing_edges refl refl refl

pub vector_graph : IsGraph vector_classes (sets_of vector_facts) vector_edges
vector_graph = is_graph vector_classes vector_facts vector_edges refl refl refl

-- ---- alarms

storing_alarm_is : (a : Alarm) (k : ℕ) → slice_get storing_alarms k ≡ Some a → IsAlarm storing_classes storing_program storing_edges a
storing_alarm_is a zero is =
    subst (IsAlarm storing_classes storing_program storing_edges) (some_is (alarm_at 0 11) a is)
    record { static = refl; reference = refl; activity = refl; site = record { 0 = 0 }; leads = begins (0, refl); class = refl }
storing_alarm_is a (suc k) is = absurd cc

pub storing_alarms_are : AreAlarms storing_classes storing_program storing_edges storing_alarms
storing_alarms_are = are_alarms storing_classes storing_program storing_edges storing_alarms ((0, 0) ∷ []) refl refl storing_alarm_is refl

alarm_by_element : IsAlarm vector_classes vector_program vector_edges (alarm_at 0 12)
alarm_by_element = record {
  static = refl;
  reference = refl;
  activity = refl;
  site = record { 0 = 0 };
  leads = by_element {x = record { 0 = 2 }} (begins (0, refl)) (4, refl);
  class = refl;
}

alarm_by_field : IsAlarm vector_classes vector_program vector_edges (alarm_at 4 12)
alarm_by_field = record {
  static = refl;
  reference = refl;
  activity = refl;
  site = record { 0 = 0 };
  leads = by_element {x = record { 0 = 2 }} (by_field {x = record { 0 = 3 }} record { 0 = 3 } (begins (1, refl)) (2, refl)) (4, refl);
  class = refl;
}

vector_alarm_is : (a : Alarm) (k : ℕ) → slice_get vector_alarms k ≡ Some a → IsAlarm vector_classes vector_program vector_edges a
vector_alarm_is a zero is = subst (IsAlarm vector_classes vector_program vector_edges) (some_is (alarm_at 0 12) a is) alarm_by_element
vector_alarm_is a (suc zero) is = subst (IsAlarm vector_classes vector_program vector_edges) (some_is (alarm_at 4 12) a is) alarm_by_field
vector_alarm_is a (suc (suc k)) is = absurd cc

pub vector_alarms_are : AreAlarms vector_classes vector_program vector_edges vector_alarms
vector_alarms_are =
    are_alarms vector_classes vector_program vector_edges vector_alarms ((0, 2) ∷ (0, 0) ∷ (4, 3) ∷ (4, 2) ∷ (4, 0) ∷ []) refl refl vector_alarm_is refl

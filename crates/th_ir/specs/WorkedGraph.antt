-- Heap graphs, alarms and producers of the small programs, by hand.
use Rattle.std.specs.Prelude.{ℕ, List, [], ◌∷◌}
use Rattle.th_ir.specs.declared.graph.Alarm.{Alarm}
use Rattle.th_ir.specs.declared.graph.Edge.{Edge}
use Rattle.th_ir.specs.declared.graph.Edge.TheVariants.{Static, Field, Element}
use Rattle.th_ir.specs.declared.graph.Producer.{Producer}
use Rattle.th_ir.specs.declared.graph.Producer.TheVariants.{Node as StoreAt, Constant}

abbrev pub static_edge : ℕ → ℕ → Edge
static_edge f s = Static record { 0 = f } record { 0 = s }

abbrev pub alarm_at : ℕ → ℕ → Alarm
alarm_at f c = record { field = record { 0 = f }; class = record { 0 = c } }

abbrev pub store_at : ℕ → Producer
store_at n = StoreAt record { 0 = n }

-- the Activity that stores itself
abbrev pub storing_edges : List Edge
storing_edges = static_edge 0 0 ∷ []

abbrev pub storing_alarms : List Alarm
storing_alarms = alarm_at 0 11 ∷ []

-- growing arrays: two static fields, one field of the objects of two sites, and the array that is shared
abbrev pub vector_edges : List Edge
vector_edges =
    static_edge 0 2
    ∷ static_edge 4 3
    ∷ Field record { 0 = 3 } record { 0 = 3 } record { 0 = 2 }
    ∷ Field record { 0 = 4 } record { 0 = 3 } record { 0 = 2 }
    ∷ Element record { 0 = 2 } record { 0 = 0 }
    ∷ []

-- each leads to the launched Activity, and to no other
abbrev pub vector_alarms : List Alarm
vector_alarms = alarm_at 0 12 ∷ alarm_at 4 12 ∷ []

-- the constant itself, and the store of the same String
abbrev pub naming_producers : List Producer
naming_producers = Constant record { 0 = 0 } ∷ store_at 21 ∷ []

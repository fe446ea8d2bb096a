-- Private to the crate: what the search for alarms keeps.
use Rattle.std.specs.Prelude.{ℕ, ◌≡◌, ◌==◌, ◌↔◌, ◌<◌, ◌⊎◌, nat_lt, Bool, true, false, List, [], ◌∷◌, ◌++◌, length, Option, None, Some, slice_get, is_some, if◌then◌else◌}
use Rattle.std.specs.List.{slice_index_or}
use Rattle.std.specs.Option.{option_map_or}
use Rattle.th_base.specs.declared.class.ClassInfo.{ClassInfo}
use Rattle.th_base.specs.declared.number.ClassId.{ClassId}
use Rattle.th_base.specs.declared.number.EdgeId.{EdgeId}
use Rattle.th_base.specs.declared.number.FieldId.{FieldId}
use Rattle.th_base.specs.IdSet.{has, IsAscending}
use Rattle.th_base.specs.Launchable.{is_activity}
use Rattle.th_base.specs.Subtype.{class_named}
use Rattle.th_ir.specs.declared.graph.Alarm.{Alarm}
use Rattle.th_ir.specs.declared.graph.Edge.{Edge}
use Rattle.th_ir.specs.declared.graph.Edge.TheVariants.{Static, Field, Element}
use Rattle.th_ir.specs.declared.program.RegProgram.{RegProgram}
use Rattle.th_ir.specs.declared.program.Site.{Site}
use Rattle.th_ir.specs.FactSets.{AscendBy}
use Rattle.th_ir.specs.Graph.{alarm_key, IsAlarm, AreAlarms}
use Rattle.th_ir.specs.Program.{Among}
use Rattle.th_ir.specs.Sites.{is_array_text, site_class}
use Rattle.th_ir.specs.WellFormed.{places_from}
use Rattle.th_paths.specs.Paths.{TellEachLeast}
use Rattle.th_graph.specs.declared.targets.Targets.{Targets}

-- ---- rows: for each number the places of the keys that are it

abbrev pub is_key : ℕ → Option ℕ → Bool
is_key r key = option_map_or (λ k. k == r) key false

abbrev pub row_at : List (List ℕ) → ℕ → List ℕ
row_at rows r = slice_index_or rows r []

abbrev pub row_of : ℕ → List (Option ℕ) → List ℕ
row_of r keys = places_from (is_key r) 0 keys

-- ---- targets: the Activity classes, each with its sites

-- the class of the objects of a site; none for arrays
abbrev pub class_of_site : List ClassInfo → Site → Option ℕ
class_of_site h site = if is_array_text site.class then None else class_named h site.class

-- the Activity classes below a number, each with the sites of its objects
pub record AreTargetsBelow (h : List ClassInfo) (p : RegProgram) (targets : Targets) (n : ℕ) : Type 0 where
  pub count : length targets.goals.items ≡ length targets.classes.items
  pub ascend : IsAscending targets.classes.items
  pub classes : (c : ℕ) → (has targets.classes.items c ≡ true) ↔ ((is_activity h c ≡ true) × (c < n))
  pub sites : (i c : ℕ) (goal : List ℕ) → slice_get targets.classes.items i ≡ Some c → slice_get targets.goals.items i ≡ Some goal
      → (s : ℕ) → (has goal s ≡ true) ↔ (site_class h p s ≡ Some c)

-- ---- the alarms of a static field

abbrev pub class_id : ℕ → ClassId
class_id c = record { 0 = c }

abbrev pub alarm_of : FieldId → ℕ → Alarm
alarm_of f c = record { field = f; class = class_id c }

-- an alarm for each class to which a path was found
abbrev pub hits : FieldId → List ℕ → List (Option (List EdgeId)) → List Alarm
hits f [] found = []
hits f (c ∷ classes) [] = []
hits f (c ∷ classes) (path ∷ found) = if is_some path then alarm_of f c ∷ hits f classes found else hits f classes found

-- the edge is one of this static field
abbrev pub is_root : ℕ → Edge → Bool
is_root f (Static g x) = g.0 == f
is_root f (Field x g y) = false
is_root f (Element x y) = false

-- a count is past a limit, where there is one
abbrev pub is_past : Option ℕ → ℕ → Bool
is_past None n = false
is_past (Some most) n = nat_lt most n

-- the second list is the first with more behind it
pub record Adds {X : Type 0} (old new : List X) (holds : List X → Type 0) : Type 0 where
  pub more : List X
  pub is : new ≡ old ++ more
  pub of_more : holds more

-- the alarms that one search gives
pub record IsSearched (edges : List Edge) (f : FieldId) (targets : Targets) (new : List Alarm) : Type 0 where
  pub found : List (Option (List EdgeId))
  pub tells : TellEachLeast edges f targets.goals.items [] found
  pub new_are : new ≡ hits f targets.classes.items found

-- ---- the alarms of static fields

-- exactly the alarms of these static fields, in order
pub record AreAlarmsOf (h : List ClassInfo) (p : RegProgram) (edges : List Edge) (fields : List ℕ) (alarms : List Alarm) : Type 0 where
  pub alarms_are : (a : Alarm) → Among alarms a ↔ (IsAlarm h p edges a × (has fields a.field.0 ≡ true))
  pub ascend : AscendBy alarm_key alarms

-- all alarms; or more alarms than a limit, where there is one
pub record PassLimit (h : List ClassInfo) (p : RegProgram) (edges : List Edge) (most : Option ℕ) (alarms : List Alarm) : Type 0 where
  pub limit : ℕ
  pub given : most ≡ Some limit
  pub past : limit < length alarms
  pub fields : List ℕ
  pub of_fields : AreAlarmsOf h p edges fields alarms

abbrev pub AreAllOrPass : List ClassInfo → RegProgram → List Edge → Option ℕ → List Alarm → Type 0
AreAllOrPass h p edges most alarms = AreAlarms h p edges alarms ⊎ PassLimit h p edges most alarms

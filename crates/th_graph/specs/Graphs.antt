-- What the heap graph and the alarms ask of a hierarchy.
use Rattle.std.specs.Prelude.{ℕ, ◌≡◌, List, Some}
use Rattle.th_base.specs.declared.class.ClassInfo.{ClassInfo}
use Rattle.th_base.specs.declared.class.FieldInfo.{FieldInfo}
use Rattle.th_ir.specs.Fields.{field_at}

-- the fields of the classes are numbered in order, as in every well-formed program
abbrev pub AreFieldsNumbered : List ClassInfo → Type 0
AreFieldsNumbered h = (f : ℕ) (d : ℕ × FieldInfo) → field_at h f ≡ Some d → d.1.id.0 ≡ f

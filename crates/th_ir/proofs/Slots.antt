-- Objects of a class that has a field are of sites that have it.
use Rattle.std.proofs.Common.{◌≡◌, ℕ, ◌==◌, ◌≤◌, Bool, true, false, List, length, Option, None, Some, slice_get, refl, sym, ap, subst, arith, ◌∙◌, if◌then◌else◌}
use Rattle.std.specs.Option.{option_map_or}
use Rattle.std.proofs.lemmas.Bool.{eqb-true}
use Rattle.std.proofs.lemmas.Option.{slice_get_past}
use Rattle.th_base.specs.declared.class.ClassInfo.{ClassInfo}
use Rattle.th_base.specs.declared.class.FieldInfo.{FieldInfo}
use Rattle.th_ir.specs.declared.program.RegProgram.{RegProgram}
use Rattle.th_ir.specs.Fields.{length_field, stage_field, owned_fields, field_at, class_has, has_field}
use Rattle.th_ir.specs.Sites.{site_class, is_array_site}
use Rattle.th_ir.specs.WellFormed.{AreNumbered}
use Rattle.th_ir.proofs.Plain.{not_both}

-- no class declares the length
length_not_declared : (h : List ClassInfo) → AreNumbered h → field_at h length_field ≡ None
length_not_declared h numbered =
    let few = numbered.few_fields in
    let past : length (owned_fields h) ≤ length_field = omega arith in slice_get_past (owned_fields h) length_field past

no_length : (h : List ClassInfo) (c : ℕ) → AreNumbered h → class_has h c length_field ≡ false
no_length h c numbered = rw (length_not_declared h numbered) refl

slot_by : (h : List ClassInfo) (p : RegProgram) (s c f : ℕ) (b : Bool) → AreNumbered h → site_class h p s ≡ Some c → class_has h c f ≡ true → (f == length_field) ≡ b
    → (if b then is_array_site p s else option_map_or (λ c. class_has h c f) (site_class h p s) false) ≡ true
slot_by h p s c f true numbered class has_it is =
    absurd (not_both (class_has h c length_field) (ap (class_has h c) (sym (eqb-true f length_field is)) ∙ has_it) (no_length h c numbered))
slot_by h p s c f false numbered class has_it is = ap (λ (o : Option ℕ). option_map_or (λ k. class_has h k f) o false) class ∙ has_it

pub has_slot : (h : List ClassInfo) (p : RegProgram) (s f : ℕ) → AreNumbered h → (c : ℕ) × (site_class h p s ≡ Some c) × (class_has h c f ≡ true) → has_field h p s f ≡ true
has_slot h p s f numbered is = slot_by h p s is.0 f (f == length_field) numbered is.1 is.2 refl

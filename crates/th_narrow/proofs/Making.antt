-- What a site makes decides which slots its objects have.
use Rattle.std.proofs.Common.{◌≡◌, ◌∙◌, ℕ, eqb, ◌<◌, not, Bool, true, false, List, [], ◌∷◌, length, drop, Option, None, Some, option_map, refl, sym, ap}
use Rattle.std.specs.Prelude.{◌&&◌, ◌||◌, if◌then◌else◌}
use Rattle.std.specs.Option.{option_and_then, option_map_or}
use Rattle.std.specs.Str.{byte}
use Rattle.std.proofs.lemmas.Option.{slice_get-map}
use Rattle.th_base.specs.declared.class.ClassInfo.{ClassInfo}
use Rattle.th_base.specs.declared.operation.Elem.TheVariants.{Int, Ref, Byte, Char, Short}
use Rattle.th_base.specs.Subtype.{class_named}
use Rattle.th_base.specs.ValueKinds.{is_reference}
use Rattle.th_base.proofs.Looked.{class_named_inside}
use Rattle.th_ir.specs.declared.plan.Plan.{Plan}
use Rattle.th_ir.specs.declared.program.Site.{Site}
use Rattle.th_ir.specs.Fields.{class_has, has_field, length_field}
use Rattle.th_ir.specs.Program.{site_at}
use Rattle.th_ir.specs.Sites.{is_array_text, component_kind, is_ref_elem, is_ref_array}
use Rattle.th_narrow.specs.declared.table.Made.{Made}
use Rattle.th_narrow.specs.declared.table.Made.TheVariants.{Object, References, Numbers, Nothing}
use Rattle.th_narrow.specs.declared.table.SiteTable.{SiteTable}
use Rattle.th_narrow.specs.Made.{IsTableOf, array_told, is_ref_array_text, made_in, made_of, object_of}

made_there : (h : List ClassInfo) (o : Option Site) → option_map_or (λ (m : Made). m) (option_map (made_of h) o) Nothing ≡ option_map_or (made_of h) o Nothing
made_there h None = refl
made_there h (Some site) = refl

-- what the table says of a site
pub told : (plan : Plan) (table : SiteTable) (s : ℕ) → IsTableOf plan table → made_in table.made.items s ≡ option_map_or (made_of plan.hierarchy) (site_at plan.program s) Nothing
told plan table s is =
    ap (λ ms. made_in ms s) is.made ∙ ap (λ o. option_map_or (λ (m : Made). m) o Nothing) (slice_get-map (made_of plan.hierarchy) plan.program.sites s)
    ∙ made_there plan.hierarchy (site_at plan.program s)

-- ---- fields

abbrev pub field_by : List ClassInfo → ℕ → Bool → Made → Bool
field_by h f is_length (Object c) = not is_length && class_has h c.0 f
field_by h f is_length References = is_length
field_by h f is_length Numbers = is_length
field_by h f is_length Nothing = false

by_parts : (h : List ClassInfo) (f : ℕ) (is_length is_array is_refs : Bool) (n : Option ℕ)
    → (if is_length then is_array else option_map_or (λ c. class_has h c f) (if is_array then None else n) false)
    ≡ field_by h f is_length (if is_array then (if is_refs then References else Numbers) else object_of n)
by_parts h f true true true n = refl
by_parts h f true true false n = refl
by_parts h f true false r None = refl
by_parts h f true false r (Some c) = refl
by_parts h f false true true n = refl
by_parts h f false true false n = refl
by_parts h f false false r None = refl
by_parts h f false false r (Some c) = refl

field_of : (h : List ClassInfo) (f : ℕ) (is_length : Bool) (o : Option Site)
    → (if is_length then option_map_or (λ (site : Site). is_array_text site.class) o false
    else option_map_or (λ c. class_has h c f) (option_and_then (λ (site : Site). if is_array_text site.class then None else class_named h site.class) o) false)
    ≡ field_by h f is_length (option_map_or (made_of h) o Nothing)
field_of h f true None = refl
field_of h f false None = refl
field_of h f b (Some site) = by_parts h f b (is_array_text site.class) (is_ref_array_text site.class) (class_named h site.class)

pub has_field_by : (plan : Plan) (table : SiteTable) (s f : ℕ) (m : Made) → IsTableOf plan table → m ≡ made_in table.made.items s
    → has_field plan.hierarchy plan.program s f ≡ field_by plan.hierarchy f (eqb f length_field) m
has_field_by plan table s f m is e =
    field_of plan.hierarchy f (eqb f length_field) (site_at plan.program s) ∙ ap (field_by plan.hierarchy f (eqb f length_field)) (sym (e ∙ told plan table s is))

-- ---- elements

abbrev pub is_references : Made → Bool
is_references (Object c) = false
is_references References = true
is_references Numbers = false
is_references Nothing = false

refs_by_parts : (a b : Bool) (n : Option ℕ) → is_references (if a then (if b then References else Numbers) else object_of n) ≡ (a && b)
refs_by_parts true true n = refl
refs_by_parts true false n = refl
refs_by_parts false b None = refl
refs_by_parts false b (Some c) = refl

other_kinds : (i b z c s : Bool) → is_ref_elem (if i then Some Int else if b || z then Some Byte else if c then Some Char else if s then Some Short else None) ≡ false
other_kinds true b z c s = refl
other_kinds false true z c s = refl
other_kinds false false true c s = refl
other_kinds false false false true s = refl
other_kinds false false false false true = refl
other_kinds false false false false false = refl

ref_component : (xs : List ℕ) → is_ref_elem (component_kind xs) ≡ is_reference xs
ref_component [] = refl
ref_component (x ∷ xs) = go (is_reference (x ∷ xs))
  where
    go : (r : Bool) → is_ref_elem (if r then Some Ref else if eqb x (byte "I") then Some Int else if eqb x (byte "B") || eqb x (byte "Z") then Some Byte
        else if eqb x (byte "C") then Some Char else if eqb x (byte "S") then Some Short else None) ≡ r
    go true = refl
    go false = other_kinds (eqb x (byte "I")) (eqb x (byte "B")) (eqb x (byte "Z")) (eqb x (byte "C")) (eqb x (byte "S"))

ref_text : (text : List ℕ) (n : Option ℕ)
    → is_ref_elem (if is_array_text text then component_kind (drop 1 text) else None) ≡ is_references (if is_array_text text then array_told text else object_of n)
ref_text [] None = refl
ref_text [] (Some c) = refl
ref_text (x ∷ xs) n = go (eqb x (byte "["))
  where
    go : (a : Bool) → is_ref_elem (if a then component_kind xs else None) ≡ is_references (if a then (if (a && is_reference xs) then References else Numbers) else object_of n)
    go true = ref_component xs ∙ sym (refs_by_parts true (is_reference xs) n)
    go false = sym (refs_by_parts false false n)

refs_of : (h : List ClassInfo) (o : Option Site)
    → is_ref_elem (option_and_then (λ (site : Site). if is_array_text site.class then component_kind (drop 1 site.class) else None) o) ≡ is_references (option_map_or (made_of h) o Nothing)
refs_of h None = refl
refs_of h (Some site) = ref_text site.class (class_named h site.class)

pub is_ref_array_by : (plan : Plan) (table : SiteTable) (s : ℕ) (m : Made) → IsTableOf plan table → m ≡ made_in table.made.items s → is_ref_array plan.program s ≡ is_references m
is_ref_array_by plan table s m is e = refs_of plan.hierarchy (site_at plan.program s) ∙ ap is_references (sym (e ∙ told plan table s is))

-- ---- classes

abbrev class_in : Made → ℕ
class_in (Object c) = c.0
class_in References = 0
class_in Numbers = 0
class_in Nothing = 0

class_inside : (h : List ClassInfo) (a r : Bool) (name : List ℕ) (n : Option ℕ) (c : ℕ) → class_named h name ≡ n → (if a then (if r then References else Numbers) else object_of n) ≡ Object (record { 0 = c }) → c < length h
class_inside h true true name n c e k = absurd (cc)
class_inside h true false name n c e k = absurd (cc)
class_inside h false r name None c e k = absurd (cc)
class_inside h false r name (Some d) c e k = class_named_inside h name c (e ∙ ap (λ m. Some (class_in m)) k)

-- a class that the table has is one of the hierarchy's
pub object_inside : (plan : Plan) (table : SiteTable) (s c : ℕ) → IsTableOf plan table → made_in table.made.items s ≡ Object (record { 0 = c }) → c < length plan.hierarchy
object_inside plan table s c is e = go (site_at plan.program s) (sym (told plan table s is) ∙ e)
  where
    go : (o : Option Site) → option_map_or (made_of plan.hierarchy) o Nothing ≡ Object (record { 0 = c }) → c < length plan.hierarchy
    go None k = absurd (cc)
    go (Some site) k = class_inside plan.hierarchy (is_array_text site.class) (is_ref_array_text site.class) site.class (class_named plan.hierarchy site.class) c refl k

-- What each site makes, as a table.
use Rattle.std.specs.Prelude.{ℕ, ◌≡◌, ◌==◌, ◌&&◌, Bool, false, List, [], ◌∷◌, map, Option, None, Some, slice_get, if◌then◌else◌}
use Rattle.std.specs.Option.{option_map_or}
use Rattle.std.specs.Str.{byte}
use Rattle.th_base.specs.declared.class.ClassInfo.{ClassInfo}
use Rattle.th_base.specs.Subtype.{class_named}
use Rattle.th_base.specs.ValueKinds.{is_reference}
use Rattle.th_ir.specs.declared.plan.Plan.{Plan}
use Rattle.th_ir.specs.declared.program.Site.{Site}
use Rattle.th_ir.specs.Sites.{is_array_text}
use Rattle.th_narrow.specs.declared.table.Made.{Made}
use Rattle.th_narrow.specs.declared.table.Made.TheVariants.{Object, References, Numbers, Nothing}
use Rattle.th_narrow.specs.declared.table.SiteTable.{SiteTable}

-- the text is the descriptor of an array of references (Java specification 4.3.2)
abbrev pub is_ref_array_text : List ℕ → Bool
is_ref_array_text [] = false
is_ref_array_text (x ∷ xs) = x == byte "[" && is_reference xs

abbrev pub array_told : List ℕ → Made
array_told descriptor = if is_ref_array_text descriptor then References else Numbers

abbrev pub object_of : Option ℕ → Made
object_of None = Nothing
object_of (Some c) = Object (record { 0 = c })

-- what a site makes: arrays, or objects of the first class of the name
abbrev pub made_of : List ClassInfo → Site → Made
made_of h site = if is_array_text site.class then array_told site.class else object_of (class_named h site.class)

-- what the table says of a site; nothing past its end
abbrev pub made_in : List Made → ℕ → Made
made_in table s = option_map_or (λ m. m) (slice_get table s) Nothing

-- the table says of each site of the plan what it makes
pub record IsTableOf (plan : Plan) (table : SiteTable) : Type 0 where
  pub made : table.made.items ≡ map (made_of plan.hierarchy) plan.program.sites

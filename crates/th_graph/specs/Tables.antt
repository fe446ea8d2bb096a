-- Private to the crate: what its functions make, as lists.
use Rattle.std.specs.Prelude.{ℕ, ◌+◌, ◌-◌, nat_le, List, [], ◌∷◌, ◌++◌, map, filter, flat_map, Option, None, Some, slice_get, if◌then◌else◌}
use Rattle.std.specs.Option.{option_map_or}
use Rattle.th_base.specs.declared.built_in.TheConstants.{BUILT_IN_COUNT}
use Rattle.th_base.specs.declared.class.ClassInfo.{ClassInfo}
use Rattle.th_base.specs.declared.class.FieldInfo.{FieldInfo}
use Rattle.th_base.specs.declared.number.FieldId.{FieldId}
use Rattle.th_base.specs.declared.number.SiteId.{SiteId}
use Rattle.th_ir.specs.declared.facts.Facts.{Facts}
use Rattle.th_ir.specs.declared.graph.Edge.{Edge}
use Rattle.th_ir.specs.declared.graph.Edge.TheVariants.{Static, Field, Element}

-- ---- static fields of the classes of files

-- the static fields among these
abbrev pub declared_statics : List FieldInfo → List FieldId
declared_statics fields = map (λ f. f.id) (filter (λ f. f.is_static) fields)

-- those of the class with this number, if it is of a file
abbrev pub own_statics : ℕ → ClassInfo → List FieldId
own_statics c k = if nat_le BUILT_IN_COUNT c then declared_statics k.fields else []

-- those of classes, numbered from here on
abbrev pub file_statics_from : ℕ → List ClassInfo → List FieldId
file_statics_from c [] = []
file_statics_from c (k ∷ ks) = own_statics c k ++ file_statics_from (c + 1) ks

-- ---- edges

abbrev pub site_id : ℕ → SiteId
site_id n = record { 0 = n }

-- the edges of a static field
abbrev pub edges_of_static : FieldId → List ℕ → List Edge
edges_of_static f sites = map (λ x. Static f (site_id x)) sites

abbrev pub edges_of_cell : SiteId × FieldId × List ℕ → List Edge
edges_of_cell c = map (λ y. Field c.0 c.1 (site_id y)) c.2

abbrev pub edges_of_elem : SiteId × List ℕ → List Edge
edges_of_elem e = map (λ y. Element e.0 (site_id y)) e.1

-- the set of a static field, where there is one
abbrev pub static_edges_at : List (List ℕ) → FieldId → List Edge
static_edges_at statics f = option_map_or (edges_of_static f) (slice_get statics f.0) []

abbrev pub static_edges : List (List ℕ) → List FieldId → List Edge
static_edges statics fields = flat_map (static_edges_at statics) fields

-- all edges of facts
abbrev pub edges_of : List ClassInfo → Facts → List Edge
edges_of h facts =
    static_edges facts.statics (file_statics_from 0 h) ++ (flat_map edges_of_cell facts.cells ++ flat_map edges_of_elem facts.elems)

-- what is left of a number when another is taken away; none once it is too small
abbrev pub left_after : Option ℕ → ℕ → Option ℕ
left_after None n = None
left_after (Some l) n = if nat_le n l then Some (l - n) else None

-- The order of the rows of facts.
use Rattle.std.specs.Prelude.{ℕ, ◌==◌, ◌&&◌, ◌||◌, nat_lt, Bool, List}
use Rattle.th_base.specs.declared.number.FieldId.{FieldId}
use Rattle.th_base.specs.declared.number.SiteId.{SiteId}

-- the cell stands before those of the site and field
abbrev pub cell_before : ℕ → ℕ → SiteId × FieldId × List ℕ → Bool
cell_before s f c = nat_lt c.0.0 s || (c.0.0 == s && nat_lt c.1.0 f)

-- the elements stand before those of the site
abbrev pub elem_before : ℕ → SiteId × List ℕ → Bool
elem_before s e = nat_lt e.0.0 s

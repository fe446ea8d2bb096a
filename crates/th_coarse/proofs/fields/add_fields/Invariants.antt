use Rattle.std.proofs.Common.{◌≡◌, ◌&&◌, ◌++◌, take, map}
use Rattle.std.specs.BTreeSet.{contains}
use Rattle.std.specs.Ordering.{nat_cmp}
use Rattle.std.specs.Prelude.{filter}
use Rattle.th_coarse.specs.Coarse.{is_static_reference}
use Rattle.th_coarse.proofs.fields.add_fields.Given as goal

-- those of the fields so far that pass are added
abbrev pub invariant-loop-field : goal.invariant-loop-field
invariant-loop-field l =
    map (λ f. f.0) l.found.items
    ≡ map (λ f. f.0) l.initial.found.items ++ map (λ f. f.id.0) (filter (λ f. is_static_reference f && contains nat_cmp l.stored f.id.0) (take l.field-index l.fields))

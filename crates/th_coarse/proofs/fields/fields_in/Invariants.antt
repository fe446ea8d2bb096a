use Rattle.std.proofs.Common.{◌≡◌, ◌&&◌, take, map}
use Rattle.std.specs.BTreeSet.{contains}
use Rattle.std.specs.Ordering.{nat_cmp}
use Rattle.std.specs.Prelude.{filter, flat_map}
use Rattle.th_coarse.specs.Coarse.{is_static_reference}
use Rattle.th_coarse.proofs.fields.fields_in.Given as goal

-- those fields of the classes so far that pass are found
abbrev pub invariant-loop-class : goal.invariant-loop-class
invariant-loop-class l =
    map (λ f. f.0) l.found.items
    ≡ flat_map (λ k. map (λ f. f.id.0) (filter (λ f. is_static_reference f && contains nat_cmp l.stored f.id.0) k.fields)) (take l.class-index l.classes)

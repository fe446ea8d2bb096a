use Rattle.std.proofs.Common.{◌≡◌, map, take}
use Rattle.std.specs.Prelude.{filter, flat_map}
use Rattle.th_machine.specs.Reaching.{is_static_reference}
use Rattle.th_machine.proofs.reached.references_in.Given as goal

-- those fields of the classes so far that pass are found
abbrev pub invariant-loop-class : goal.invariant-loop-class
invariant-loop-class l =
    map (λ f. f.0) l.found.items ≡ flat_map (λ k. map (λ f. f.id.0) (filter is_static_reference k.fields)) (take l.class-index l.classes)

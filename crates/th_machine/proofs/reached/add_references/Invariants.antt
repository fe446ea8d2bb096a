use Rattle.std.proofs.Common.{◌≡◌, ◌++◌, map, take}
use Rattle.std.specs.Prelude.{filter}
use Rattle.th_machine.specs.Reaching.{is_static_reference}
use Rattle.th_machine.proofs.reached.add_references.Given as goal

-- those of the fields so far that pass are added
abbrev pub invariant-loop-field : goal.invariant-loop-field
invariant-loop-field l =
    map (λ f. f.0) l.found.items ≡ map (λ f. f.0) l.initial.found.items ++ map (λ f. f.id.0) (filter is_static_reference (take l.field-index l.fields))

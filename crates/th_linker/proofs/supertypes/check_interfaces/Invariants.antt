use Rattle.std.proofs.Common.{◌≡◌, [], take}
use Rattle.std.specs.List.{flat_map}
use Rattle.th_syntax.specs.Flags.{is_interface}
use Rattle.th_syntax.specs.LinkChecks.{supertype_name_refusals}
use Rattle.th_linker.proofs.supertypes.check_interfaces.Given as goal

-- the superinterfaces so far are there
abbrev pub invariant-loop-name : goal.invariant-loop-name
invariant-loop-name l = flat_map (supertype_name_refusals l.classes l.class is_interface) (take l.name-index l.name-items) ≡ []

use Rattle.std.proofs.Common.{◌≡◌, [], take}
use Rattle.std.specs.List.{flat_map}
use Rattle.th_syntax.specs.LinkChecks.{code_refusals}
use Rattle.th_linker.proofs.uses.check_class_uses.Given as goal

abbrev pub invariant-loop-method : goal.invariant-loop-method
invariant-loop-method l = flat_map (code_refusals l.program l.class) (take l.method-index l.method-items) ≡ []

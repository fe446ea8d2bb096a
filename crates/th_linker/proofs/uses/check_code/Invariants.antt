use Rattle.std.proofs.Common.{◌≡◌, [], take}
use Rattle.std.specs.List.{flat_map}
use Rattle.th_linker.proofs.Reachable.{reached_refusals}
use Rattle.th_linker.proofs.uses.check_code.Given as goal

-- what the instructions so far name is there, where they are reached
abbrev pub invariant-loop-offset : goal.invariant-loop-offset
invariant-loop-offset l = flat_map (reached_refusals l.program l.class l.fn.instrs) (take l.offset-index l.instrs) ≡ []

use Rattle.std.proofs.Common.{◌≡◌, [], take}
use Rattle.th_syntax.specs.LinkChecks.{found_along, method_refusals}
use Rattle.th_linker.proofs.members.check_methods.Given as goal

-- the methods so far are in order
abbrev pub invariant-loop-at : goal.invariant-loop-at
invariant-loop-at l = found_along (method_refusals l.class) [] (take l.at l.method-items) ≡ []

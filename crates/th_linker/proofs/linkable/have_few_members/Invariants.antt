use Rattle.std.proofs.Common.{take}
use Rattle.std.specs.List.{All}
use Rattle.th_linker.specs.Linkable.{HasFewMembers}
use Rattle.th_linker.proofs.linkable.have_few_members.Given as goal

abbrev pub invariant-loop-class : goal.invariant-loop-class
invariant-loop-class l = All HasFewMembers (take l.class-index l.files)

use Rattle.std.proofs.Common.{◌≡◌, take, map}
use Rattle.th_coarse.specs.Coarse.{reached_instrs}
use Rattle.th_coarse.proofs.reached.reached_instrs.Given as goal

-- the reached instructions of the files so far are found
abbrev pub invariant-loop-file : goal.invariant-loop-file
invariant-loop-file l = map (λ i. i.now) l.instrs.items ≡ reached_instrs (take l.file-index l.files)

use Rattle.std.proofs.Common.{take}
use Rattle.std.specs.List.{All}
use Rattle.th_accept.specs.Answers.{IsShort}
use Rattle.th_accept.proofs.program.are_short.Given as goal

-- the files so far are short
abbrev pub invariant-loop-file : goal.invariant-loop-file
invariant-loop-file l = All IsShort (take l.file-index l.files)

use Rattle.std.proofs.Common.{◌≡◌, take}
use Rattle.th_coarse.specs.Report.{handlers_of}
use Rattle.th_coarse.proofs.report.handlers_of.Given as goal

-- the entries of the files so far are counted
abbrev pub invariant-loop-file : goal.invariant-loop-file
invariant-loop-file l = l.count ≡ handlers_of (take l.file-index l.files)

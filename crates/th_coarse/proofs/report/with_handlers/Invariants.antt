use Rattle.std.proofs.Common.{◌≡◌, ◌+◌, take}
use Rattle.std.specs.Prelude.{sum_by}
use Rattle.th_coarse.specs.Report.{handlers_in}
use Rattle.th_coarse.proofs.report.with_handlers.Given as goal

-- the entries of the methods so far are added
abbrev pub invariant-loop-method : goal.invariant-loop-method
invariant-loop-method l = l.more ≡ l.count + sum_by handlers_in (take l.method-index l.methods)

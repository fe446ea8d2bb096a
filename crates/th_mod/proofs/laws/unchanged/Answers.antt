use Rattle.th_ir.specs.FactSets.{sets_of}
use Rattle.th_ir.specs.Summaries.{sums_of}
use Rattle.th_ir.proofs.WholeCalls.{whole_call}
use Rattle.th_mod.proofs.Standing.{kept_stands}
use Rattle.th_mod.proofs.laws.unchanged.Goals as goal

pub returns : goal.returns
returns c = λ h p facts mods since first earlier lower m wf least sums kept.
    let call = kept_stands h p since first earlier lower m kept in
    record { stands = call.1; unchanged = whole_call h p (sets_of facts) (sums_of mods) m since first earlier lower wf least.least.holds sums.least.holds call.0 }

use Rattle.th_ir.proofs.WorkedChartedForm.{well_formed as charted_formed}
use Rattle.th_ir.proofs.WorkedInitialisingForm.{well_formed as initialising_formed}
use Rattle.th_ir.proofs.WorkedNamingForm.{well_formed as naming_formed}
use Rattle.th_ir.proofs.WorkedReceiversForm.{well_formed as receivers_formed}
use Rattle.th_ir.proofs.WorkedStoringForm.{well_formed as storing_formed}
use Rattle.th_ir.proofs.WorkedVectorForm.{well_formed as vector_formed}
use Rattle.th_ir.proofs.laws.worked.small_programs_are_formed.Goals as goal

pub returns : goal.returns
returns c = record {
  storing = storing_formed;
  charted = charted_formed;
  vector = vector_formed;
  initialising = initialising_formed;
  receivers = receivers_formed;
  naming = naming_formed;
}

use Rattle.th_linear.proofs.Totals.{renaming_composes, same_names_stay}
use Rattle.th_linear.proofs.laws.renaming_composes.Goals as goal

pub returns-clause-composed : goal.returns-clause-composed
returns-clause-composed c = renaming_composes

pub returns-clause-same : goal.returns-clause-same
returns-clause-same c = same_names_stay

use Rattle.th_syntax.proofs.WorkedKinds.{fit_constants, fit_arrays, fit_moves, fit_arithmetic, fit_branches, fit_members, are_stored}
use Rattle.th_syntax.proofs.laws.kinds.instructions_fit.Goals as goal

pub returns : goal.returns
returns c = record { constants = fit_constants; arrays = fit_arrays; moves = fit_moves; arithmetic = fit_arithmetic; branches = fit_branches; members = fit_members; stored = are_stored }

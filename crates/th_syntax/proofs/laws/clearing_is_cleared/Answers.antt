use Rattle.th_syntax.proofs.Worked.{kept, joined_before, cleared, apart_after}
use Rattle.th_syntax.proofs.laws.clearing_is_cleared.Goals as goal

pub returns : goal.returns
returns c = record { kept = kept; joined = joined_before; cleared = cleared; apart = apart_after }

use Rattle.th_base.proofs.Climbing.{one_class, one_supertype}
use Rattle.th_base.proofs.laws.resolution.first_cycle_is_one.Goals as goal

pub returns : goal.returns
returns c = record { class = one_class; supertype = λ classes k s t f g. one_supertype classes k s t f.supertype g.supertype }

use Rattle.th_incl.proofs.Families.{least_is_closed, within_closed}
use Rattle.th_incl.proofs.laws.least_is_closed.Goals as goal

pub returns : goal.returns
returns c = record {
  closed = least_is_closed;
  within = λ c sets family l h i x e. within_closed c family h i x ((l.exact i x).0 e);
}

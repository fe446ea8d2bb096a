use Rattle.th_incl.specs.Least.{given, passed}
use Rattle.th_incl.proofs.Families.{within_closed}
use Rattle.th_incl.proofs.laws.reached_is_least.Goals as goal

pub returns : goal.returns
returns c = record {
  base = λ c i x one. given i x one;
  copies = λ c j x one r p. passed j x one r p;
  within = within_closed;
}

use Rattle.std.proofs.Common.{refl}
use Rattle.th_syntax.proofs.laws.linking.checks_refuse.Goals as goal

pub returns : goal.returns
returns c = record { names = refl; supertypes = refl; members = refl; uses = refl; places = refl }

use Rattle.std.proofs.Common.{sym, ◌∙◌}
use Rattle.std.specs.Prelude.{nat_eq}
use Rattle.std.proofs.lemmas.Bool.{eqb-true}
use Rattle.indexmap.proofs.CallerLemmas.{Contains-list_any}
use Rattle.th_points_to.proofs.initialisers.was_met.Goals as goal

pub returns : goal.returns
returns c = λ e. Contains-list_any nat_eq (λ x y e. eqb-true x y e) c.args.met.now.keys c.args.class (sym c.contains.ensures ∙ e)

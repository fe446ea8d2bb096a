use Rattle.std.proofs.Common.{[], Option, refl, sym, subst}
use Rattle.th_syntax.specs.declared.class_file.Code.{Code}
use Rattle.th_kinds.specs.Listed.{listed}
use Rattle.th_kinds.specs.Inferred.{AreKindsOf}
use Rattle.th_kinds.proofs.inference.infer.Goals as goal

pub returns-in-None-clause-kinds : goal.returns-in-None-clause-kinds
unfolding listed
returns-in-None-clause-kinds c = subst (λ (o : Option Code). AreKindsOf c.args.method.now o []) (sym c.in-None.is) refl

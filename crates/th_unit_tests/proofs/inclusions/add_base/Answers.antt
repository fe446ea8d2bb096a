use Rattle.std.proofs.Common.{sym, subst}
use Rattle.th_incl.specs.Least.{IsInRange}
use Rattle.th_incl.proofs.Added.{base_range}
use Rattle.th_unit_tests.proofs.inclusions.add_base.Goals as goal

pub returns-clause-range : goal.returns-clause-range
returns-clause-range c =
    let d = c.args.c.now in
    subst (λ b. IsInRange record d { base = b }) (sym c.in_ok-push.ensures.ok) (base_range d c.args.set c.args.id c.if-set-c.false c.requires.range)

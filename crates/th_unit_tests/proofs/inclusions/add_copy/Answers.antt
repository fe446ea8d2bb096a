use Rattle.std.proofs.Common.{sym, subst, rules, arith}
use Rattle.th_incl.specs.Least.{IsInRange}
use Rattle.th_incl.proofs.Added.{copy_range}
use Rattle.th_unit_tests.proofs.inclusions.add_copy.Goals as goal

pub returns-clause-range : goal.returns-clause-range
returns-clause-range c =
    let d = c.args.c.now in
    subst (λ b. IsInRange record d { copies = b }) (sym c.in_ok-push.ensures.ok)
    (copy_range d c.args.j c.if-j-c.false c.if-j-c-2.false (omega (arith, c.len.ensures, c.if-j-len.false)) c.requires.range)

use Rattle.std.proofs.Common.{length, ◌≡◌, ◌<◌, ◌∙◌, sym, subst, arith}
use Rattle.th_unify.specs.Classes.{IsTable, total, joined}
use Rattle.th_unify.proofs.Tables.{joined_table, joined_less, least_of_table}
use Rattle.th_unify.proofs.classes.join_all.Goals as goal

pub returns : goal.returns
returns c = least_of_table c.args.query.now c.loop-s.names (c.loop-s.auto.names ∙ c.requires.count) c.loop-s.invariant c.in_default.ensures

pub loop-s-smaller : goal.loop-s-smaller
loop-s-smaller c =
    let u = c.in-Some.ensures in
    let long : length c.loop-s.names ≡ length c.args.names.now = c.loop-s.auto.names in
    let less : total (joined c.loop-s.names c.in-Some.s c.in-Some.t) < total c.loop-s.names =
    joined_less c.loop-s.names c.in-Some.s c.in-Some.t (omega (arith, long, c.requires.named c.in-Some.s u.first)) (omega (arith, long, c.requires.named c.in-Some.t u.second)) u.unequal in
    subst (λ xs. total xs < total c.loop-s.names) (sym c.join.ensures) less

pub loop-s-preserved : goal.loop-s-preserved
loop-s-preserved c =
    let u = c.in-Some.ensures in
    subst (IsTable c.args.query.now) (sym c.join.ensures) (joined_table c.args.query.now c.loop-s.names c.in-Some.s c.in-Some.t c.loop-s.invariant u.one)

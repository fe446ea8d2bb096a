use Rattle.std.proofs.Common.{false, sym, subst, arith, inl, inr}
use Rattle.std.proofs.lemmas.Bool.{cases_Bool}
use Rattle.th_incl.specs.Least.{TellsWithin, HasMoreThan}
use Rattle.th_incl.specs.Kept.{constraints_of}
use Rattle.th_incl.proofs.Counts.{over}
use Rattle.th_incl.proofs.Families.{tells_yes, tells_no}
use Rattle.th_incl.proofs.solver.Solver.run_within.Goals as goal

pub returns-then-self-limit-clause-within : goal.returns-then-self-limit-clause-within
returns-then-self-limit-clause-within c =
    let s = c.self.inside.system in
    let w = c.self.inside.work in
    let ok = (c.self.invariant c.if-not-self.false).consistent in
    subst (λ v. TellsWithin v.constraints c.args.limit false) c.self.view_is
    (tells_no (constraints_of s) c.args.limit (over (constraints_of s) w.sets.items w.news.items c.args.limit ok.inv (omega (arith, ok.pairs, c.if-self-limit.true))))

pub returns-clause-within : goal.returns-clause-within
returns-clause-within c =
    let s = c.self.inside.system in
    let w = c.rounds.new.work in
    let e = c.in_ok-within.ensures in
    subst (λ v. TellsWithin v.constraints c.args.limit c.in_ok-within.within) c.self.view_is (elim (cases_Bool c.in_ok-within.within) [
      | inl t ↦ subst (λ b. TellsWithin (constraints_of s) c.args.limit b) (sym t)
          (tells_yes (constraints_of s) w.sets.items c.args.limit (e.least t) (omega (arith, e.within, e.kept.consistent.pairs)))
      | inr f ↦ subst (λ b. TellsWithin (constraints_of s) c.args.limit b) (sym f) (tells_no (constraints_of s) c.args.limit (e.over f))
    ])

pub returns-then-self-limit-clause-more : goal.returns-then-self-limit-clause-more
returns-then-self-limit-clause-more c = λ e.
    let s = c.self.inside.system in
    let w = c.self.inside.work in
    let ok = (c.self.invariant c.if-not-self.false).consistent in
    subst (λ v. HasMoreThan v.constraints c.args.limit) c.self.view_is
    (over (constraints_of s) w.sets.items w.news.items c.args.limit ok.inv (omega (arith, ok.pairs, c.if-self-limit.true)))

pub returns-clause-more : goal.returns-clause-more
returns-clause-more c = λ f. subst (λ v. HasMoreThan v.constraints c.args.limit) c.self.view_is (c.in_ok-within.ensures.over f)

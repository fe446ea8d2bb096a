use Rattle.std.proofs.Common.{◌≡◌, ◌∙◌, ap}
use Rattle.th_ir.specs.WellFormed.{AreNumbered}
use Rattle.th_pure.proofs.Relations.{each_ok}
use Rattle.th_query.specs.Canonical.{IsCanonicalOf}
use Rattle.th_query.specs.Numbered.{numbered}
use Rattle.th_query.specs.Settled.{settled, limited}
use Rattle.th_canonical.proofs.Knowing.{last_known, last_few}
use Rattle.th_canonical.proofs.forming.canonical.Goals as goal

pub number-requires-clause-few : goal.number-requires-clause-few
number-requires-clause-few c =
    let is = c.in_ok-limited.ensures ∙ ap limited (c.in_ok-settled.ensures ∙ ap settled c.prune.ensures) in
    last_few c.args.query c.in_ok-unified.unified c.in_ok-narrowed.narrowed c.in_ok-limited.limited c.in_ok-unified.ensures c.in_ok-narrowed.ensures.rest is c.requires.few

pub number-requires-clause-named : goal.number-requires-clause-named
number-requires-clause-named c =
    let is = c.in_ok-limited.ensures ∙ ap limited (c.in_ok-settled.ensures ∙ ap settled c.prune.ensures) in
    last_known c.args.query c.in_ok-unified.unified c.in_ok-narrowed.narrowed c.in_ok-limited.limited c.in_ok-unified.ensures c.in_ok-narrowed.ensures.rest is c.requires.known

pub returns : goal.returns
returns c =
    let plan = c.args.plan.now in
    let is = c.in_ok-limited.ensures ∙ ap limited (c.in_ok-settled.ensures ∙ ap settled c.prune.ensures) in
    each_ok (λ made. made ≡ numbered c.in_ok-limited.limited) (λ made. AreNumbered plan.hierarchy → IsCanonicalOf plan c.args.query made) c.number.result
    (λ made e numbers. record {
      unified = c.in_ok-unified.unified;
      narrowed = c.in_ok-narrowed.narrowed;
      first = c.in_ok-unified.ensures;
      second = c.in_ok-narrowed.ensures.narrowed numbers;
      is = e ∙ ap numbered is;
    })
    c.number.ensures

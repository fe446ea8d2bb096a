use Rattle.std.proofs.Common.{rules, tests, ◌∙◌, Bor, List, ℕ}
use Rattle.std.specs.Str.{bytes_eq}
use Rattle.std.proofs.lemmas.Iterator.{YieldsList-from_slice}
use Rattle.std.proofs.lemmas.Iterator.Adapters.{position_from-zero}
use Rattle.std.proofs.lemmas.Iterator.Search.{position_from_yields_List}
use Rattle.th_harness.proofs.Lines.{below_where_some}
use Rattle.th_harness.proofs.line.place_named.Goals as goal

pub returns-clause-value : goal.returns-clause-value
returns-clause-value c =
    position_from_yields_List (λ h. bytes_eq h.0.now c.args.name.now) _ _ _ c.position.ensures.ran (YieldsList-from_slice c.args.handlers.now c.iter.ensures.rest) (λ x b q k. search (rules, tests))
    ∙ position_from-zero {B = Bor (List ℕ) × Bor (List ℕ)} (λ h. bytes_eq h.0.now c.args.name.now) c.args.handlers.now

pub returns-clause-within : goal.returns-clause-within
returns-clause-within c =
    below_where_some {X = Bor (List ℕ) × Bor (List ℕ)} c.position.result (λ h. bytes_eq h.0.now c.args.name.now) c.args.handlers.now
    (position_from_yields_List (λ h. bytes_eq h.0.now c.args.name.now) _ _ _ c.position.ensures.ran (YieldsList-from_slice c.args.handlers.now c.iter.ensures.rest) (λ x b q k. search (rules, tests))
    ∙ position_from-zero {B = Bor (List ℕ) × Bor (List ℕ)} (λ h. bytes_eq h.0.now c.args.name.now) c.args.handlers.now)

use Rattle.std.proofs.Common.{rules, tests, Bor, List, ℕ, ◌&&◌}
use Rattle.std.specs.Str.{bytes_eq}
use Rattle.th_base.specs.declared.handler.TheConstants.{TAKES_BUNDLE}
use Rattle.std.proofs.lemmas.Iterator.{YieldsList-from_slice}
use Rattle.std.proofs.lemmas.Iterator.Search.{any_from_yields_List}
use Rattle.th_harness.proofs.line.takes_bundle.Goals as goal

pub returns : goal.returns
returns c =
    any_from_yields_List {B = Bor (List ℕ) × Bor (List ℕ)} (λ h. bytes_eq h.0.now c.args.name.now && bytes_eq h.1.now TAKES_BUNDLE.now) _ _ _ c.any.ensures.ran (YieldsList-from_slice _ c.iter.ensures.rest) (λ x b q k. search (rules, tests))

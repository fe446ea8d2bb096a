use Rattle.std.proofs.Common.{rules, tests, ◌∙◌}
use Rattle.std.specs.Prelude.{◌==◌}
use Rattle.std.proofs.lemmas.Iterator.Adapters.{position_from-zero}
use Rattle.std.proofs.lemmas.Iterator.Search.{position_from_yields_List}
use Rattle.std.proofs.lemmas.Iterator.Splits.{YieldsList-from_slice_split}
use Rattle.th_harness.specs.Script.{is_bad_line, lines_of}
use Rattle.th_harness.proofs.script.first_bad_line.Goals as goal

pub returns : goal.returns
returns c =
    position_from_yields_List is_bad_line _ _ _ c.position.ensures.ran
    (YieldsList-from_slice_split _ (λ b. b == 10) c.args.bytes.now c.split.ensures.rest c.split.ensures.done c.split.ensures.closure (λ x b q k. search (rules, tests)))
    (λ x b q k. search (rules, tests))
    ∙ position_from-zero is_bad_line (lines_of c.args.bytes.now)

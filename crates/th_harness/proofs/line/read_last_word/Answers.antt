use Rattle.std.proofs.Common.{sym, ◌∙◌, ap, []}
use Rattle.std.specs.Prelude.{◌∷◌}
use Rattle.std.specs.Option.{option_map_or}
use Rattle.th_harness.specs.Script.{bundle_in, words_of}
use Rattle.th_harness.proofs.Cuts.{too_many_for_bundle}
use Rattle.th_harness.proofs.line.read_last_word.Goals as goal

pub returns-in-Some : goal.returns-in-Some
returns-in-Some c =
    sym (ap bundle_in (c.cut-last.ensures ∙ ap (λ o. c.cut-last.result.word.now ∷ option_map_or (λ rest. words_of rest.now) o []) c.in-Some.is)
    ∙ too_many_for_bundle c.cut-last.result.word.now c.in-Some.field-0.now)

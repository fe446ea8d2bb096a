use Rattle.std.proofs.Common.{ap, ◌∙◌, map, string_bytes, unwrap_or, []}
use Rattle.std.proofs.lemmas.Result.{IfErr-weaker, IfOk-weaker}
use Rattle.clap.specs.Words.{found_of, is_simple, matches_of, takes, all_of, first_of}
use Rattle.clap.proofs.WalkLemmas.{first_value-rows, raw_values-rows}
use Rattle.th_words.specs.Told.{operands_name}
use Rattle.th_words.specs.Pieces.{pieces_of}
use Rattle.th_words.proofs.Arguments.{simple}
use Rattle.th_words.proofs.WalkedWords.{given_pieces, takes_words, values_matched, operands_matched}
use Rattle.th_words.proofs.given.parsed.Goals as goal

pub returns-clause-read : goal.returns-clause-read
returns-clause-read c = λ some.
    let names = map (λ n. n.now) c.args.names.now in
    let words = map string_bytes c.args.words.now in
    let cut = given_pieces (pieces_of names words) some in
    let told = c.in_ok-told.ensures in
    IfOk-weaker c.try_get_matches_from.result _ _ (λ m h.
    let rows = (h (ap is_simple told ∙ simple names)).0 ∙ ap (λ a. matches_of a words) told in
    record {
      pieces = cut.0;
      cut = cut.1;
      values = λ name l. first_value-rows (found_of m) name ∙ ap (first_of name) rows ∙ values_matched names c.requires words cut.0 cut.1 name l;
      operands = ap (λ o. unwrap_or o []) (raw_values-rows (found_of m) operands_name ∙ ap (all_of operands_name) rows) ∙ operands_matched names c.requires words cut.0 cut.1;
    }) c.try_get_matches_from.ensures.matches

pub returns-clause-no_memory : goal.returns-clause-no_memory
returns-clause-no_memory c = λ some.
    let names = map (λ n. n.now) c.args.names.now in
    let words = map string_bytes c.args.words.now in
    let cut = given_pieces (pieces_of names words) some in
    IfErr-weaker c.try_get_matches_from.result _ _ (λ e h. h (ap (λ a. takes a words) c.in_ok-told.ensures ∙ takes_words names c.requires words cut.0 cut.1))
    c.try_get_matches_from.ensures.passes

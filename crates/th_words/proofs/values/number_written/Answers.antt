use Rattle.th_words.proofs.Numbers.{number_parses}
use Rattle.th_words.proofs.values.number_written.Goals as goal

pub unreachable-requires : goal.unreachable-requires
unreachable-requires c = c.in_default.not-Ok _ (number_parses c.args.text.now c.parse.result c.requires c.parse.ensures.value.0)

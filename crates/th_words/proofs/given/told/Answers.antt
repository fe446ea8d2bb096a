use Rattle.std.proofs.Common.{◌∙◌, ap₂}
use Rattle.clap.specs.Words.{with_rule}
use Rattle.th_words.proofs.Arguments.{one_more}
use Rattle.th_words.proofs.given.told.Goals as goal

pub loop-name-preserved : goal.loop-name-preserved
loop-name-preserved c =
    c.in_ok-command.ensures.shape c.option_arg.ensures.local ∙ ap₂ with_rule c.loop-name.invariant c.option_arg.ensures.rule
    ∙ one_more c.args.names.now c.loop-name.name-index _ c.loop-name-test.true

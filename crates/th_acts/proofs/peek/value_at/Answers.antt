use Rattle.std.proofs.Common.{sym, ap, ◌∙◌, Some}
use Rattle.std.specs.Option.{option_copied}
use Rattle.th_acts.proofs.Peeking.{holds_here, long_here, half_here, half_last, nothing_here}
use Rattle.th_acts.proofs.peek.value_at.Goals as goal

pub returns-in-None-clause-value : goal.returns-in-None-clause-value
returns-in-None-clause-value c = nothing_here c.args.stack.now c.args.from (sym c.get.ensures.value ∙ ap option_copied c.in-None.is)

pub returns-in-Some-Holds-clause-value : goal.returns-in-Some-Holds-clause-value
returns-in-Some-Holds-clause-value c =
    holds_here c.args.stack.now c.args.from c.in-Some-Holds.value
    (sym c.get.ensures.value ∙ ap option_copied c.in-Some-Holds.is ∙ ap (λ s. Some s) c.in-Some-Holds.field-0-is)

pub returns-in-Some-Holds-get-clause-value : goal.returns-in-Some-Holds-get-clause-value
returns-in-Some-Holds-get-clause-value c =
    long_here c.args.stack.now c.args.from c.in-Some-Holds-get.value
    (sym c.get.ensures.value ∙ ap option_copied c.in-Some-SecondHalf.is ∙ ap (λ s. Some s) c.in-Some-SecondHalf.field-0-is)
    (sym c.get-in-Some-SecondHalf.ensures.value ∙ ap option_copied c.in-Some-Holds-get.is ∙ ap (λ s. Some s) c.in-Some-Holds-get.field-0-is)

pub returns-in-Some-SecondHalf-get-clause-value : goal.returns-in-Some-SecondHalf-get-clause-value
returns-in-Some-SecondHalf-get-clause-value c =
    half_here c.args.stack.now c.args.from
    (sym c.get.ensures.value ∙ ap option_copied c.in-Some-SecondHalf.is ∙ ap (λ s. Some s) c.in-Some-SecondHalf.field-0-is)
    (sym c.get-in-Some-SecondHalf.ensures.value ∙ ap option_copied c.in-Some-SecondHalf-get.is ∙ ap (λ s. Some s) c.in-Some-SecondHalf-get.field-0-is)

pub returns-in-None-get-clause-value : goal.returns-in-None-get-clause-value
returns-in-None-get-clause-value c =
    half_last c.args.stack.now c.args.from
    (sym c.get.ensures.value ∙ ap option_copied c.in-Some-SecondHalf.is ∙ ap (λ s. Some s) c.in-Some-SecondHalf.field-0-is)
    (sym c.get-in-Some-SecondHalf.ensures.value ∙ ap option_copied c.in-None-get.is)

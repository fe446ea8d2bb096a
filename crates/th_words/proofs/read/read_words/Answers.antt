use Rattle.std.proofs.Common.{◌≡◌, ◌∙◌, sym, refl, string_bytes}
use Rattle.th_words.specs.Table.{check_row, run_row}
use Rattle.th_words.specs.declared.command.UsageFault.TheVariants.{NoCommand, UnknownCommand, BadWords}
use Rattle.th_words.proofs.Commands.{known_fault}
use Rattle.th_words.proofs.read.read_words.Goals as goal

pub returns-then-eq-clause-no_command : goal.returns-then-eq-clause-no_command
returns-then-eq-clause-no_command c = λ e.
    let bad : NoCommand ≡ BadWords = known_fault string_bytes c.args.words.now c.in-Some.name.now c.in-Some.rest.now c.as_str.result.now check_row NoCommand
    c.in-Some.ensures.cases.0 c.as_str.ensures.value (sym c.eq.ensures ∙ c.if-eq.true) refl e in
    cc

pub returns-then-eq-clause-unknown_command : goal.returns-then-eq-clause-unknown_command
returns-then-eq-clause-unknown_command c = λ e.
    let bad : UnknownCommand ≡ BadWords = known_fault string_bytes c.args.words.now c.in-Some.name.now c.in-Some.rest.now c.as_str.result.now check_row UnknownCommand
    c.in-Some.ensures.cases.0 c.as_str.ensures.value (sym c.eq.ensures ∙ c.if-eq.true) refl e in
    cc

pub returns-then-eq-2-clause-no_command : goal.returns-then-eq-2-clause-no_command
returns-then-eq-2-clause-no_command c = λ e.
    let bad : NoCommand ≡ BadWords = known_fault string_bytes c.args.words.now c.in-Some.name.now c.in-Some.rest.now c.as_str-else-eq.result.now run_row NoCommand
    c.in-Some.ensures.cases.0 c.as_str-else-eq.ensures.value (sym c.eq-else-eq.ensures ∙ c.if-eq-2.true) refl e in
    cc

pub returns-then-eq-2-clause-unknown_command : goal.returns-then-eq-2-clause-unknown_command
returns-then-eq-2-clause-unknown_command c = λ e.
    let bad : UnknownCommand ≡ BadWords = known_fault string_bytes c.args.words.now c.in-Some.name.now c.in-Some.rest.now c.as_str-else-eq.result.now run_row UnknownCommand
    c.in-Some.ensures.cases.0 c.as_str-else-eq.ensures.value (sym c.eq-else-eq.ensures ∙ c.if-eq-2.true) refl e in
    cc

use Rattle.std.proofs.Common.{◌+◌, refl, sym, ap, ◌∙◌}
use Rattle.th_machine.specs.Happening.{begun}
use Rattle.th_machine.proofs.Happened.{led_full, led_made, begun_held}
use Rattle.th_machine.proofs.happening.begins_where.Goals as goal

pub returns-then-is_past_limit : goal.returns-then-is_past_limit
returns-then-is_past_limit c =
    let files = c.args.resolved.now in
    led_full files c.args.state (begun files c.args.state c.args.place c.args.launched c.args.makes_bundle c.args.frame) _ c.args.held c.in_ok-after.after c.requires.held
    (c.in_ok-after.ensures ∙ ap (λ n. n + c.code_size.result) c.in_ok-with_bundle.ensures
    ∙ begun_held files c.args.state c.args.place c.args.launched c.args.makes_bundle c.args.frame c.args.held c.code_size.result c.requires.idle c.requires.held (c.requires.size ∙ sym c.code_size.ensures))
    (sym c.if-is_past_limit.true ∙ c.is_past_limit.ensures) refl refl refl

pub returns : goal.returns
returns c =
    let files = c.args.resolved.now in
    led_made files c.args.state (begun files c.args.state c.args.place c.args.launched c.args.makes_bundle c.args.frame) _ c.args.held c.in_ok-after.after c.requires.held
    (c.in_ok-after.ensures ∙ ap (λ n. n + c.code_size.result) c.in_ok-with_bundle.ensures
    ∙ begun_held files c.args.state c.args.place c.args.launched c.args.makes_bundle c.args.frame c.args.held c.code_size.result c.requires.idle c.requires.held (c.requires.size ∙ sym c.code_size.ensures))
    (sym c.if-is_past_limit.false ∙ c.is_past_limit.ensures) refl c.in_ok-next.ensures refl

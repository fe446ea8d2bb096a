use Rattle.std.proofs.Common.{sym, ◌∙◌, ap, arith, ◌≡◌, ◌+◌, ◌*◌, ◌-◌, get_or, take}
use Rattle.std.specs.Char.{digit_value}
use Rattle.std.specs.Str.Parse.{digits_value}
use Rattle.std.proofs.lemmas.List.{take_more}
use Rattle.th_harness.proofs.Digits.{digit_more, digit_is, digit_at, grown_power}
use Rattle.th_harness.proofs.number_word.value_of.Goals as goal

pub loop-digit-preserved : goal.loop-digit-preserved
loop-digit-preserved c =
    let word = c.args.word.now in
    let i = c.loop-digit.digit-index in
    let x = get_or word i 0 in
    let digit = digit_is x (digit_at word i c.requires.digits c.loop-digit-test.true) in
    let next : digits_value 10 (take (i + 1) word) ≡ digits_value 10 (take i word) * 10 + digit_value x =
    ap (digits_value 10) (take_more word i 0 c.loop-digit-test.true) ∙ digit_more 0 (take i word) x in
    let value : c.loop-digit.value * 10 + (x - 48) ≡ digits_value 10 (take (i + 1) word) =
    ap (λ d. c.loop-digit.value * 10 + d) (sym digit.2) ∙ ap (λ n. n * 10 + digit_value x) c.loop-digit.invariant.value ∙ sym next in
    record { value = value; small = grown_power c.loop-digit.value i (x - 48) c.loop-digit.invariant.small (omega (arith, digit.0, digit.1)) }

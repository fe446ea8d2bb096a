use Rattle.std.proofs.Common.{◌≡◌, ◌∙◌, ◌+◌, ap, sym, drop, map, string_bytes, true, false, arith, Bool, not, refl, List, ℕ, String, Global, Bor, []}
use Rattle.std.proofs.Math.ListN.{drop_of_length-le}
use Rattle.th_words.specs.Pieces.{Word}
use Rattle.th_words.proofs.WellFormed.{passes, passes-pieces, option_here, option_twice, value_here, operand_here}
use Rattle.th_words.proofs.word_shape.is_well_formed.Goals as goal
use Rattle.th_words.proofs.word_shape.is_well_formed.Goals.{then-not-waits+then-is_option+else-stands_again, else-not-waits+then-may_be_value, else-not-waits-via-then-not-waits+else-is_option, else-not-waits-via-else-not-waits}

-- the names and the words as texts
abbrev known : List (Bor Word) → List Word
known = map (λ n. n.now)

abbrev texts : List (String Global) → List Word
texts = map string_bytes

walked : (names : List (Bor Word)) (words : List (String Global)) (i : ℕ) (waits b r : Bool) → passes (known names) false (texts words) ≡ passes (known names) waits (texts (drop i words)) → waits ≡ b
    → passes (known names) b (texts (drop i words)) ≡ r → passes (known names) false (texts words) ≡ r
walked names words i waits b r e z h = e ∙ ap (λ x. passes (known names) x (texts (drop i words))) z ∙ h

pub returns-then-stands_again : goal.returns-then-stands_again
returns-then-stands_again c =
    sym (walked c.args.names.now c.args.words.now c.loop-i.i c.loop-i.waits false false c.loop-i.invariant c.if-not-waits.true
    (option_twice string_bytes c.args.names.now c.args.words.now c.loop-i.i c.index-words-i.result c.loop-i-test.true c.index-words-i.is
    c.as_str.result.now c.as_str-then-is_option.result.now c.as_str.ensures.value c.as_str-then-is_option.ensures.value
    (sym c.is_option.ensures ∙ c.if-is_option.true) (sym c.stands_again.ensures ∙ c.if-stands_again.true)))
    ∙ passes-pieces (known c.args.names.now) (texts c.args.words.now)

pub returns-else-may_be_value : goal.returns-else-may_be_value
returns-else-may_be_value c =
    let plain = sym c.may_be_value.ensures ∙ c.if-may_be_value.false in
    let stops : passes (known c.args.names.now) false (texts c.args.words.now) ≡ false = elim c.else-not-waits.branch [
      | else-not-waits-via-then-not-waits+else-is_option w ↦
          walked c.args.names.now c.args.words.now c.loop-i.i c.loop-i.waits false false c.loop-i.invariant w.if-not-waits.true
          (operand_here string_bytes c.args.names.now c.args.words.now c.loop-i.i c.index-words-i.result c.loop-i-test.true c.index-words-i.is
          w.as_str.result.now c.as_str-else-not-waits.result.now false w.as_str.ensures.value c.as_str-else-not-waits.ensures.value
          (sym w.is_option.ensures ∙ w.if-is_option.false) plain)
      | else-not-waits-via-else-not-waits w ↦
          walked c.args.names.now c.args.words.now c.loop-i.i c.loop-i.waits true false c.loop-i.invariant w.if-not-waits.false
          (value_here string_bytes c.args.names.now c.args.words.now c.loop-i.i c.index-words-i.result c.loop-i-test.true c.index-words-i.is
          c.as_str-else-not-waits.result.now false c.as_str-else-not-waits.ensures.value plain)
    ] in
    sym stops ∙ passes-pieces (known c.args.names.now) (texts c.args.words.now)

pub loop-i-preserved : goal.loop-i-preserved
loop-i-preserved c =
    let next = λ (b : Bool). passes (known c.args.names.now) b (texts (drop (c.loop-i.i + 1) c.args.words.now)) in
    elim c.if-not-waits.branch [
      | then-not-waits+then-is_option+else-stands_again w ↦
          walked c.args.names.now c.args.words.now c.loop-i.i c.loop-i.waits false (next true) c.loop-i.invariant w.if-not-waits.true
          (option_here string_bytes c.args.names.now c.args.words.now c.loop-i.i c.index-words-i.result c.loop-i-test.true c.index-words-i.is
          w.as_str.result.now w.as_str-then-is_option.result.now w.as_str.ensures.value w.as_str-then-is_option.ensures.value
          (sym w.is_option.ensures ∙ w.if-is_option.true) (sym w.stands_again.ensures ∙ w.if-stands_again.false))
          ∙ ap next (sym w.waits-is)
      | else-not-waits+then-may_be_value w ↦
          let plain = sym w.may_be_value.ensures ∙ w.if-may_be_value.true in
          elim w.else-not-waits.branch [
            | else-not-waits-via-then-not-waits+else-is_option v ↦
                walked c.args.names.now c.args.words.now c.loop-i.i c.loop-i.waits false (next false) c.loop-i.invariant v.if-not-waits.true
                (operand_here string_bytes c.args.names.now c.args.words.now c.loop-i.i c.index-words-i.result c.loop-i-test.true c.index-words-i.is
                v.as_str.result.now w.as_str-else-not-waits.result.now true v.as_str.ensures.value w.as_str-else-not-waits.ensures.value
                (sym v.is_option.ensures ∙ v.if-is_option.false) plain)
                ∙ ap next (sym w.waits-is)
            | else-not-waits-via-else-not-waits v ↦
                walked c.args.names.now c.args.words.now c.loop-i.i c.loop-i.waits true (next false) c.loop-i.invariant v.if-not-waits.false
                (value_here string_bytes c.args.names.now c.args.words.now c.loop-i.i c.index-words-i.result c.loop-i-test.true c.index-words-i.is
                w.as_str-else-not-waits.result.now true w.as_str-else-not-waits.ensures.value plain)
                ∙ ap next (sym w.waits-is)
          ]
    ]

none_left : (names : List Word) (b : Bool) → passes names b [] ≡ not b
none_left names true = refl
none_left names false = refl

pub returns : goal.returns
returns c =
    let end = drop_of_length-le c.args.words.now {i = c.loop-i.i} (omega arith) in
    sym (none_left (known c.args.names.now) c.loop-i.waits) ∙ sym (ap (λ l. passes (known c.args.names.now) c.loop-i.waits (texts l)) end) ∙ sym c.loop-i.invariant
    ∙ passes-pieces (known c.args.names.now) (texts c.args.words.now)

-- `clap` takes each turn of the walk, and what the walk leaves.
use Rattle.std.proofs.Common.{◌≡◌, ℕ, ◌&&◌, ◌||◌, Bool, true, false, not, List, [], ◌∷◌, Option, Some, None, refl, ap, ◌∙◌, eqb}
use Rattle.std.specs.List.{list_all, list_any}
use Rattle.std.specs.Option.{option_map_or}
use Rattle.std.specs.Str.{bytes_eq}
use Rattle.clap.specs.Walk.{Rule, Row, Held, Waiting, Step, option, all_of, is_pending, subcommand_met, subcommand_or_other}
use Rattle.clap.specs.Lexer.{long_of}
use Rattle.clap.specs.Takes.{turn_passes, settle_passes, use_passes, flag_word_passes, other_passes, step_passes, long_passes, positional_passes, bundle_passes}
use Rattle.th_words.specs.Pieces.{Word, option_word}
use Rattle.th_words.specs.Told.{operands_name, is_option_name}
use Rattle.th_words.proofs.Arguments.{rules, shape, operands_built, by_name, by_long, operands_by_index, operands_by_name, long_of-option, listed_name}
use Rattle.th_words.proofs.Rows.{has_none}
use Rattle.th_words.proofs.Turns.{state, between, more_than_dashes, no_subcommand, plain_between, plain_met, option_met, value_met, no_long, no_short, not_dashes, or_true}

module _ (names : List Word) (ok : list_all is_option_name names ≡ true) where
  abbrev R : List Rule
  R = rules names

  abbrev held : List Row → Option (Word × List Word) → Held
  held rows p = record { rows = rows; pending = p; skip = 0 }

  -- what is pending may be used
  abbrev pub Settles : List Row → Option (Word × List Word) → Type 0
  Settles rows p = settle_passes R false (held rows p) ≡ true

  pub option_settles : (name : Word) → list_any (λ n. bytes_eq n name) names ≡ true → (v : Word) (rows : List Row) → all_of name rows ≡ None → Settles rows (Some (name, v ∷ []))
  option_settles name listed v rows none =
      ap (λ a. option_map_or (λ b. use_passes false b (v ∷ []) rows) a true) (by_name names name listed)
      ∙ ap (λ t. (not t || false) && true) (has_none name rows none)

  pub operand_settles : (v : Word) (rows : List Row) → Settles rows (Some (operands_name, v ∷ []))
  operand_settles v rows = ap (λ a. option_map_or (λ b. use_passes false b (v ∷ []) rows) a true) (operands_by_name names ok)

  -- a turn passes where the word and its step do
  turn : (rows : List Row) (p : Option (Word × List Word)) (w : Waiting) (word : Word) (met : Held × Step) → subcommand_met [] w word ≡ None
      → subcommand_or_other R None w 1 word (held rows p) ≡ met → other_passes (shape names) None word (held rows p) ≡ true → step_passes (shape names) 1 met.0 met.1 ≡ true
      → turn_passes (shape names) [] (state rows p w) word ≡ true
  turn rows p w word met none e f g =
      let s = shape names in
      let h = held rows p in
      let to = subcommand_or_other R None w 1 word h in
      ap (λ o. other_passes s o word h && step_passes s 1 (subcommand_or_other R o w 1 word h).0 (subcommand_or_other R o w 1 word h).1) none
      ∙ ap (λ t. t && step_passes s 1 to.0 to.1) f ∙ ap (λ (m : Held × Step). step_passes s 1 m.0 m.1) e ∙ g

  plain_passes : (rows : List Row) (p : Option (Word × List Word)) (x : ℕ) (xs : List ℕ) → eqb x 45 ≡ false → other_passes (shape names) None (x ∷ xs) (held rows p) ≡ true
  plain_passes rows p x xs e =
      ap (λ t. t || flag_word_passes R false (long_of (x ∷ xs)) (x ∷ xs) (held rows p)) (not_dashes x xs e)
      ∙ ap (λ o. flag_word_passes R false o (x ∷ xs) (held rows p)) (no_long x xs e)
      ∙ ap (λ o. option_map_or (λ flags. bundle_passes R false flags (held rows p)) o true) (no_short x xs e)

  module _ (name : Word) (listed : list_any (λ n. bytes_eq n name) names ≡ true) where
    pub option_passes : (b : Bool) (rows : List Row) (p : Option (Word × List Word)) → Settles rows p → turn_passes (shape names) [] (state rows p (between b)) (option_word name) ≡ true
    option_passes b rows p h =
        let good = listed_name names name ok listed in
        let word = option_word name in
        turn rows p (between b) word _ (no_subcommand b word) (option_met names ok name listed (between b) (held rows p))
        (ap (λ t. t || flag_word_passes R false (long_of word) word (held rows p)) (more_than_dashes name good)
        ∙ ap (λ o. flag_word_passes R false o word (held rows p)) (long_of-option name good)
        ∙ ap (λ a. long_passes R false a None (held rows p)) (by_long names name listed) ∙ h)
        refl

    pub value_passes : (rows : List Row) (x : ℕ) (xs : List ℕ) → eqb x 45 ≡ false → turn_passes (shape names) [] (state rows (Some (name, [])) (option name)) (x ∷ xs) ≡ true
    value_passes rows x xs e =
        let h = held rows (Some (name, [])) in
        turn rows (Some (name, [])) (option name) (x ∷ xs) _ refl (plain_met R (option name) h x xs e ∙ value_met names ok name listed rows (x ∷ xs))
        (plain_passes rows (Some (name, [])) x xs e) refl

  pub operand_passes : (b : Bool) (rows : List Row) (p : Option (Word × List Word)) (x : ℕ) (xs : List ℕ) → eqb x 45 ≡ false → Settles rows p
      → turn_passes (shape names) [] (state rows p (between b)) (x ∷ xs) ≡ true
  operand_passes b rows p x xs e h =
      turn rows p (between b) (x ∷ xs) _ (no_subcommand b (x ∷ xs)) (plain_met R (between b) (held rows p) x xs e ∙ plain_between R b (x ∷ xs) (held rows p))
      (plain_passes rows p x xs e)
      (ap (λ a. option_map_or (λ c. positional_passes R false c (held rows p)) a false) (operands_by_index names)
      ∙ ap (λ t. (is_pending operands_built p && false) || t) h ∙ or_true (is_pending operands_built p && false))

-- One turn of `clap`'s walk: at an option, at its value, and at an operand.
use Rattle.std.proofs.Common.{◌≡◌, ℕ, ◌&&◌, ◌||◌, Bool, true, false, cond, List, [], ◌∷◌, Option, Some, None, refl, ap, ◌∙◌, eqb, nat_lt}
use Rattle.std.specs.List.{list_all, list_any}
use Rattle.std.specs.Str.{bytes_eq}
use Rattle.clap.specs.Walk.{Rule, Row, Held, Walk, Waiting, Step, idle, option, positional, value, walked, settled, settled_rows, after_step, subcommand_met, subcommand_or_other, trailing, next, long_or_other, short_or_plain, after_flag, long_met, plain_word, option_word, to_positional, is_pending, pushed}
use Rattle.clap.specs.Lexer.{long_of, short_of}
use Rattle.th_words.specs.Pieces.{Word}
use Rattle.th_words.specs.Pieces as pieces
use Rattle.th_words.specs.Told.{operands_name, is_option_name}
use Rattle.th_words.proofs.Arguments.{same_text, rules, operands_built, by_name, by_long, operands_by_index, long_of-option, listed_name}

-- where the walk stands between two words
abbrev pub state : List Row → Option (Word × List Word) → Waiting → Walk
state rows pending waiting = record {
  held = record { rows = rows; pending = pending; skip = 0 };
  waiting = waiting;
  position = 1;
  is_trailing = false;
  stopped = None;
}

-- what waits for a word that is no option: nothing yet, or the operands
abbrev pub between : Bool → Waiting
between false = idle
between true = positional

and_false : (b : Bool) → (b && false) ≡ false
and_false true = refl
and_false false = refl

pub or_true : (b : Bool) → (b || true) ≡ true
or_true true = refl
or_true false = refl

-- a plain word is no flag
pub no_long : (x : ℕ) (xs : List ℕ) → eqb x 45 ≡ false → long_of (x ∷ xs) ≡ None
no_long x xs h = rw h refl

pub no_short : (x : ℕ) (xs : List ℕ) → eqb x 45 ≡ false → short_of (x ∷ xs) ≡ None
no_short x xs h = rw h refl

pub not_dashes : (x : ℕ) (xs : List ℕ) → eqb x 45 ≡ false → bytes_eq (x ∷ xs) (45 ∷ 45 ∷ []) ≡ false
not_dashes x xs h = rw h refl

pub more_than_dashes : (name : Word) → is_option_name name ≡ true → bytes_eq (pieces.option_word name) (45 ∷ 45 ∷ []) ≡ false
more_than_dashes [] h = cc
more_than_dashes (x ∷ xs) h = refl

pub no_subcommand : (b : Bool) (word : Word) → subcommand_met [] (between b) word ≡ None
no_subcommand false word = refl
no_subcommand true word = refl

pub plain_between : (c : List Rule) (b : Bool) (word : Word) (h : Held) → plain_word c (between b) word h ≡ (h, value)
plain_between c false word h = refl
plain_between c true word h = refl

-- the walk after what a word was
abbrev stepped : List Rule → Word → Walk → Held × Step → Walk
stepped c word w met = after_step c word w met.0 met.1

-- a plain word goes to what waits for it
pub plain_met : (c : List Rule) (w : Waiting) (h : Held) (x : ℕ) (xs : List ℕ) → eqb x 45 ≡ false → subcommand_or_other c None w 1 (x ∷ xs) h ≡ plain_word c w (x ∷ xs) h
plain_met c w h x xs e =
    ap (λ t. cond t (h, trailing 1) (long_or_other c w (x ∷ xs) (long_of (x ∷ xs)) h)) (not_dashes x xs e)
    ∙ ap (λ o. long_or_other c w (x ∷ xs) o h) (no_long x xs e)
    ∙ ap (λ o. short_or_plain c w (x ∷ xs) o h) (no_short x xs e)

module _ (names : List Word) (ok : list_all is_option_name names ≡ true) where
  abbrev R : List Rule
  R = rules names

  module _ (name : Word) (listed : list_any (λ n. bytes_eq n name) names ≡ true) where
    abbrev flag : Word
    flag = pieces.option_word name

    pub option_met : (w : Waiting) (h : Held) → subcommand_or_other R None w 1 flag h ≡ (record (settled R h) { pending = Some (name, []) }, next (option name))
    option_met w h =
        let good = listed_name names name ok listed in
        ap (λ t. cond t (h, trailing 1) (long_or_other R w flag (long_of flag) h)) (more_than_dashes name good)
        ∙ ap (λ o. long_or_other R w flag o h) (long_of-option name good)
        ∙ ap (λ r. after_flag R w flag (long_met R r None h).0 (long_met R r None h).1) (by_long names name listed)

    -- an option
    pub option_turn : (b : Bool) (rows : List Row) (p : Option (Word × List Word))
        → walked R [] (state rows p (between b)) flag ≡ state (settled_rows R p rows) (Some (name, [])) (option name)
    unfolding walked
    option_turn b rows p =
        let h : Held = record { rows = rows; pending = p; skip = 0 } in
        ap (λ o. stepped R flag (state rows p (between b)) (subcommand_or_other R o (between b) 1 flag h)) (no_subcommand b flag)
        ∙ ap (stepped R flag (state rows p (between b))) (option_met (between b) h)

    pub value_met : (rows : List Row) (word : Word) → let h : Held = record { rows = rows; pending = Some (name, []); skip = 0 } in
        plain_word R (option name) word h ≡ (record { rows = rows; pending = Some (name, word ∷ []); skip = 0 }, next idle)
    value_met rows word =
        let h : Held = record { rows = rows; pending = Some (name, []); skip = 0 } in
        ap (λ a. ((option_word a name word h).0, next (option_word a name word h).1)) (by_name names name listed)
        ∙ ap (λ t. (pushed name word h, next (cond (nat_lt (cond t 1 0) 1) (option name) idle))) (same_text name)

    -- its value
    pub value_turn : (rows : List Row) (x : ℕ) (xs : List ℕ) → eqb x 45 ≡ false
        → walked R [] (state rows (Some (name, [])) (option name)) (x ∷ xs) ≡ state rows (Some (name, (x ∷ xs) ∷ [])) idle
    unfolding walked
    value_turn rows x xs e =
        let h : Held = record { rows = rows; pending = Some (name, []); skip = 0 } in
        ap (stepped R (x ∷ xs) (state rows (Some (name, [])) (option name))) (plain_met R (option name) h x xs e ∙ value_met rows (x ∷ xs))

  -- an operand
  pub operand_turn : (b : Bool) (rows : List Row) (p : Option (Word × List Word)) (x : ℕ) (xs : List ℕ) → eqb x 45 ≡ false
      → walked R [] (state rows p (between b)) (x ∷ xs) ≡ state (settled_rows R p rows) (Some (operands_name, (x ∷ xs) ∷ [])) positional
  unfolding walked
  operand_turn b rows p x xs e =
      let word : Word = x ∷ xs in
      let h : Held = record { rows = rows; pending = p; skip = 0 } in
      let w = state rows p (between b) in
      ap (λ o. stepped R word w (subcommand_or_other R o (between b) 1 word h)) (no_subcommand b word)
      ∙ ap (stepped R word w) (plain_met R (between b) h x xs e ∙ plain_between R b word h)
      ∙ ap (λ a. to_positional R a word w h) (operands_by_index names)
      ∙ ap (λ t. let k : Walk = record {
        held = pushed operands_name word (cond t h (settled R h));
        waiting = positional;
        position = 1;
        is_trailing = false;
        stopped = None;
      } in k) (and_false (is_pending operands_built p))

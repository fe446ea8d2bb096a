-- What `clap` builds of the arguments that it is told of, for any list of options.
use Rattle.std.proofs.Common.{◌≡◌, ℕ, ◌&&◌, Bool, true, false, not, cond, List, [], ◌∷◌, ◌++◌, map, Option, Some, None, is_some, refl, ap, sym, ◌∙◌, eqb, ◌+◌, ◌<◌, ap₂, length, take, get_or, Bor, arith}
use Rattle.std.specs.Prelude.{find, count_by}
use Rattle.std.proofs.lemmas.List.{map_more, map-append}
use Rattle.std.specs.List.{list_any, list_all, before_first, after_first, position_or_len}
use Rattle.std.specs.Str.{bytes_eq}
use Rattle.std.proofs.lemmas.Slice.Eq.{bytes_eq-Decides}
use Rattle.clap.specs.Walk.{Rule, arg_by_id, arg_by_long, arg_by_index, is_early_multiple}
use Rattle.clap.specs.Words.{with_rule}
use Rattle.clap.specs.Simple.{App, Shape, built, filled, filled_from, with_index, is_simple}
use Rattle.clap.specs.Lexer.{long_of}
use Rattle.th_base.proofs.Booleans.{or_false}
use Rattle.th_words.specs.Pieces.{Word, option_word}
use Rattle.th_words.specs.Told.{operands_name, is_option_name, option_rule, operands_rule, app_with, app_told}
use Rattle.th_words.proofs.WellFormed.{by_test}

pub same_text : (text : Word) → bytes_eq text text ≡ true
same_text text = (bytes_eq-Decides text text).1 refl

pub equal_texts : (a b : Word) → bytes_eq a b ≡ true → a ≡ b
equal_texts a b = (bytes_eq-Decides a b).0

-- ---- lists of a rule for each name, and one more

module _ (p : Rule → Bool) (f : Word → Rule) (last : Rule) where
  pub all_pass : (names : List Word) → ((n : Word) → p (f n) ≡ true) → p last ≡ true → list_all p (map f names ++ last ∷ []) ≡ true
  all_pass [] each end = rw end refl
  all_pass (n ∷ names) each end = rw (each n) (all_pass names each end)

  pub none_pass : (names : List Word) → ((n : Word) → p (f n) ≡ false) → p last ≡ false → list_any p (map f names ++ last ∷ []) ≡ false
  none_pass [] each end = rw end refl
  none_pass (n ∷ names) each end = rw (each n) (none_pass names each end)

  pub find_last : (names : List Word) → ((n : Word) → p (f n) ≡ false) → p last ≡ true → find p (map f names ++ last ∷ []) ≡ Some last
  find_last [] each end = rw end refl
  find_last (n ∷ names) each end = rw (each n) (find_last names each end)

  pub find_named : (name : Word) (names : List Word) → ((n : Word) → p (f n) ≡ bytes_eq n name) → list_any (λ n. bytes_eq n name) names ≡ true → find p (map f names ++ last ∷ []) ≡ Some (f name)
  find_named name [] each h = cc
  find_named name (n ∷ names) each h = by_test (bytes_eq n name)
      (λ t. ap (λ b. cond b (Some (f n)) (find p (map f names ++ last ∷ []))) (each n ∙ t) ∙ ap (λ m. Some (f m)) (equal_texts n name t))
      (λ e. ap (λ b. cond b (Some (f n)) (find p (map f names ++ last ∷ []))) (each n ∙ e) ∙ find_named name names each (rw e at h))

-- ---- the arguments once they are built

abbrev pub option_built : Word → Rule
option_built name = with_index 1 (filled (option_rule name))

abbrev pub operands_built : Rule
operands_built = with_index 1 (filled operands_rule)

unfoldable pub rules : List Word → List Rule
rules names = map option_built names ++ operands_built ∷ []

filled_rules : (names : List Word) → filled_from 1 (map option_rule names ++ operands_rule ∷ []) ≡ rules names
unfolding rules
filled_rules [] = refl
filled_rules (n ∷ names) = ap (λ l. option_built n ∷ l) (filled_rules names)

abbrev pub shape : List Word → Shape
shape names = record (built (app_with [])).top { rules = rules names }

pub built_told : (names : List Word) → built (app_told names) ≡ record { top = shape names; subs = [] }
built_told names = ap (λ (r : List Rule). let a : App = record { top = record (built (app_with [])).top { rules = r }; subs = [] } in a) (filled_rules names)

one_index : (names : List Word) → count_by (λ (a : Rule). is_some a.index) (rules names) ≡ 1
unfolding rules
one_index [] = refl
one_index (n ∷ names) = one_index names

pub simple : (names : List Word) → is_simple (app_told names) ≡ true
unfolding rules
simple names =
    let plain = λ (a : Rule). a.is_simple in
    let placed = λ (a : Rule). is_some a.index in
    let before : list_all plain (map option_rule names ++ operands_rule ∷ []) ≡ true = all_pass plain option_rule operands_rule names (λ n. refl) refl in
    let after : list_all plain (filled_from 1 (map option_rule names ++ operands_rule ∷ [])) ≡ true =
    ap (list_all plain) (filled_rules names) ∙ all_pass plain option_built operands_built names (λ n. refl) refl in
    let last : list_any (is_early_multiple (count_by placed (filled_from 1 (map option_rule names ++ operands_rule ∷ [])))) (filled_from 1 (map option_rule names ++ operands_rule ∷ [])) ≡ false =
    ap (λ (r : List Rule). list_any (is_early_multiple (count_by placed r)) r) (filled_rules names)
    ∙ ap (λ n. list_any (is_early_multiple n) (rules names)) (one_index names)
    ∙ none_pass (is_early_multiple 1) option_built operands_built names (λ n. refl) refl in
    rw (before, after, last) refl

module _ (names : List Word) where
  pub by_name : (name : Word) → list_any (λ n. bytes_eq n name) names ≡ true → arg_by_id (rules names) name ≡ Some (option_built name)
  unfolding rules
  by_name name h = find_named (λ a. bytes_eq a.id name) option_built operands_built name names (λ n. refl) h

  pub by_long : (name : Word) → list_any (λ n. bytes_eq n name) names ≡ true → arg_by_long (rules names) name ≡ Some (option_built name)
  unfolding rules
  by_long name h = find_named _ option_built operands_built name names (λ n. or_false (bytes_eq n name)) h

  pub operands_by_index : arg_by_index (rules names) 1 ≡ Some operands_built
  unfolding rules
  operands_by_index = find_last _ option_built operands_built names (λ n. refl) refl

-- no option has the name of the operands
not_operands : (name : Word) → is_option_name name ≡ true → bytes_eq name operands_name ≡ false
not_operands [] h = cc
not_operands (x ∷ xs) h = by_test (bytes_eq (x ∷ xs) operands_name)
    (λ t. let k = rw t at h in absurd (no_both (list_any (λ y. eqb y 61) (x ∷ xs)) k))
    (λ f. f)
  where
    no_both : (b : Bool) → (not b && false) ≡ true → ⊥
    no_both true e = cc
    no_both false e = cc

both : (a b : Bool) → (a && b) ≡ true → (a ≡ true) × (b ≡ true)
both true b e = (refl, e)
both false b e = cc

operands_by_id : (names : List Word) → list_all is_option_name names ≡ true → find (λ (a : Rule). bytes_eq a.id operands_name) (map option_built names ++ operands_built ∷ []) ≡ Some operands_built
operands_by_id [] h = refl
operands_by_id (n ∷ names) h =
    let k = both (is_option_name n) (list_all is_option_name names) h in
    rw (not_operands n k.0) (operands_by_id names k.1)

pub operands_by_name : (names : List Word) → list_all is_option_name names ≡ true → arg_by_id (rules names) operands_name ≡ Some operands_built
unfolding rules
operands_by_name names h = operands_by_id names h

-- a listed name is one that an option may have
pub listed_name : (names : List Word) (name : Word) → list_all is_option_name names ≡ true → list_any (λ n. bytes_eq n name) names ≡ true → is_option_name name ≡ true
listed_name [] name h l = cc
listed_name (n ∷ names) name h l =
    let k = both (is_option_name n) (list_all is_option_name names) h in
    by_test (bytes_eq n name)
    (λ t. ap is_option_name (sym (equal_texts n name t)) ∙ k.0)
    (λ f. listed_name names name k.1 (rw f at l))

pub listed_apart : (names : List Word) (name : Word) → list_all is_option_name names ≡ true → list_any (λ n. bytes_eq n name) names ≡ true → bytes_eq name operands_name ≡ false
listed_apart names name h l = not_operands name (listed_name names name h l)

-- one more option is told
pub one_more : (names : List (Bor Word)) (i : ℕ) (d : Bor Word) → i < length names
    → with_rule (app_with (map option_rule (map (λ n. n.now) (take i names)))) (option_rule (get_or names i d).now) ≡ app_with (map option_rule (map (λ n. n.now) (take (i + 1) names)))
one_more names i d h =
    let more = map_more (λ (n : Bor Word). n.now) names i d h in
    ap app_with (sym (ap (map option_rule) more ∙ map-append option_rule (map (λ (n : Bor Word). n.now) (take i names)) ((get_or names i d).now ∷ [])))

-- ---- how `clap` reads an option's word

never : (xs : Word) → list_any (λ x. eqb x 61) xs ≡ false → position_or_len (λ x. eqb x 61) xs ≡ length xs
never [] h = refl
never (x ∷ xs) h = by_test (eqb x 61)
    (λ t. let k = rw t at h in cc)
    (λ f. let k = never xs (rw f at h) in rw f (omega arith))

take_all : (xs : Word) → take (length xs) xs ≡ xs
take_all [] = refl
take_all (x ∷ xs) = ap (λ l. x ∷ l) (take_all xs)

no_equals : (xs : Word) → list_any (λ x. eqb x 61) xs ≡ false → before_first (λ x. eqb x 61) xs ≡ xs
no_equals xs h = ap (λ n. take n xs) (never xs h) ∙ take_all xs

not_true : (b : Bool) → not b ≡ true → b ≡ false
not_true true e = cc
not_true false e = refl

pub long_of-option : (name : Word) → is_option_name name ≡ true → long_of (option_word name) ≡ Some (name, None)
long_of-option [] h = cc
long_of-option (x ∷ xs) h =
    let e = not_true (list_any (λ y. eqb y 61) (x ∷ xs)) (both _ (not (bytes_eq (x ∷ xs) operands_name)) h).0 in
    let s = no_equals (x ∷ xs) e in
    ap₂ (λ (n : Word) (b : Bool). let o : Option (Word × Option Word) = Some (n, cond b (Some (after_first (λ y. eqb y 61) (x ∷ xs))) None) in o) s e

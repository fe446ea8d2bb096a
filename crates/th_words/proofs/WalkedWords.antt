-- `clap` takes the words that have pieces, and keeps the values and the operands of these.
use Rattle.std.proofs.Common.{◌≡◌, ℕ, ◌&&◌, ◌||◌, Bool, true, false, not, cond, List, [], ◌∷◌, ◌++◌, map, Option, Some, None, refl, ap, sym, ◌∙◌, subst, eqb, unwrap_or, IsSome, is_some}
use Rattle.std.specs.Prelude.{option_map, option_and_then, find, slice_get}
use Rattle.std.specs.List.{list_all, list_any, fold}
use Rattle.std.specs.Str.{bytes_eq}
use Rattle.clap.specs.Walk.{Rule, Row, Walk, Waiting, idle, option, positional, walked, walk, settled_rows, all_of, first_of, reading_by, with_values, without, with_default, finished, nothing_held, has_row, rows_after, used_by_id}
use Rattle.clap.specs.Takes.{takes, turn_passes, walk_passes, settle_passes, level_passes, default_passes, is_valid, is_given, built_takes}
use Rattle.clap.specs.Simple.{App, built, matches_of, names_of}
use Rattle.clap.specs.declared.parser.matches.ValueSource.TheVariants.{CommandLine}
use Rattle.clap.proofs.TakesLemmas.{leaf_takes}
use Rattle.th_words.specs.Pieces.{Word, Piece, setting, operand, is_plain, option_word, option_named, pieces_from, pieces_of, is_set, sets_each_once, value_given, operands_of}
use Rattle.th_words.specs.Told.{operands_name, is_option_name, app_told}
use Rattle.th_words.proofs.WellFormed.{by_test, by_option, mapped_some, named_word}
use Rattle.th_words.proofs.Arguments.{same_text, equal_texts, rules, shape, built_told, simple, option_built, operands_built, by_name, operands_by_name, listed_apart, all_pass}
use Rattle.th_words.proofs.Rows.{and_then, and_then-nil, and_then-one, without_none, first_values, more_values, without_other, values_other}
use Rattle.th_words.proofs.Turns.{state, between, option_turn, value_turn, operand_turn}
use Rattle.th_words.proofs.Passes.{Settles, option_settles, operand_settles, option_passes, value_passes, operand_passes}

-- the value of an option, or what was kept before
abbrev pub or_kept : Option Word → Option (List Word) → Option (List Word)
or_kept None kept = kept
or_kept (Some v) kept = Some (v ∷ [])

pub given_pieces : (o : Option (List Piece)) → IsSome o → (ps : List Piece) × (o ≡ Some ps)
given_pieces None h = cc
given_pieces (Some ps) h = (ps, refl)

pub no_pieces : (o : Option (List Piece)) → is_some o ≡ false → o ≡ None
no_pieces None h = refl
no_pieces (Some ps) h = cc

-- the option that a word stands for is listed
pub named_listed : (names : List Word) (word name : Word) → option_named names word ≡ Some name → list_any (λ n. bytes_eq n name) names ≡ true
named_listed [] word name e = cc
named_listed (n ∷ names) word name e = by_test (bytes_eq word (option_word n))
    (λ t. let k = rw t at e in let same : n ≡ name = cc in ap (λ b. b || list_any (λ m. bytes_eq m name) names) (ap (λ m. bytes_eq m name) same ∙ same_text name))
    (λ f. let k = named_listed names word name (rw f at e) in ap (λ b. bytes_eq n name || b) k ∙ or_true (bytes_eq n name))
  where
    or_true : (b : Bool) → (b || true) ≡ true
    or_true true = refl
    or_true false = refl

-- what a plain word begins with
plain_first : (word : Word) → is_plain word ≡ true → (x : ℕ) × ((xs : List ℕ) × ((word ≡ x ∷ xs) × (eqb x 45 ≡ false)))
plain_first [] h = cc
plain_first (x ∷ xs) h = (x, (xs, (refl, by_test (eqb x 45) (λ e. let k = rw e at h in cc) (λ e. e))))

not_set : (b c : Bool) → (not b && c) ≡ true → (b ≡ false) × (c ≡ true)
not_set true c e = cc
not_set false c e = (refl, e)

unset_value : (name : Word) (ps : List Piece) → is_set name ps ≡ false → value_given name ps ≡ None
unset_value name [] h = refl
unset_value name (setting other v ∷ ps) h = by_test (bytes_eq other name)
    (λ t. let k = rw t at h in cc)
    (λ f. rw f (unset_value name ps (rw f at h)))
unset_value name (operand w ∷ ps) h = unset_value name ps h

pub from_pieces : (names : List Word) (words : List Word) (ps : List Piece) → pieces_of names words ≡ Some ps → (pieces_from names None words ≡ Some ps) × (sets_each_once ps ≡ true)
from_pieces names words ps e = by_option (pieces_from names None words)
    (λ q. let k = rw q at e in cc)
    (λ qs q. by_test (sets_each_once qs)
    (λ t. let k = rw (q, t) at e in let same : qs ≡ ps = cc in (q ∙ ap Some same, ap sets_each_once (sym same) ∙ t))
    (λ f. let k = rw (q, f) at e in cc))

module _ (names : List Word) (ok : list_all is_option_name names ≡ true) where
  abbrev R : List Rule
  R = rules names

  abbrev IsListed : Word → Type 0
  IsListed name = list_any (λ n. bytes_eq n name) names ≡ true

  -- the rows at the end of a walk
  abbrev end_rows : Walk → List Word → List Row
  end_rows w words = settled_rows R (fold (walked R []) w words).held.pending (fold (walked R []) w words).held.rows

  -- the walk over the words from w passes, and keeps the values of the pieces after those of the rows
  pub record Walks (w : Walk) (words : List Word) (rows : List Row) (ps : List Piece) : Type 0 where
    pub values : (name : Word) → IsListed name → all_of name (end_rows w words) ≡ or_kept (value_given name ps) (all_of name rows)
    pub operands : all_of operands_name (end_rows w words) ≡ and_then (all_of operands_name rows) (operands_of ps)
    pub turns : walk_passes (shape names) [] w words ≡ true
    pub rest : settle_passes R false (fold (walked R []) w words).held ≡ true

  -- no option of the pieces has a value yet
  abbrev IsFresh : List Row → List Piece → Type 0
  IsFresh rows ps = (name : Word) → IsListed name → is_set name ps ≡ true → all_of name rows ≡ None

  no_words : (rows : List Row) (p : Option (Word × List Word)) (w : Waiting) → Settles names ok rows p → Walks (state rows p w) [] (settled_rows R p rows) []
  unfolding walk_passes
  no_words rows p w h = record {
    values = λ name l. refl;
    operands = sym (and_then-nil (all_of operands_name (settled_rows R p rows)));
    turns = refl;
    rest = h;
  }

  one_turn : (w u : Walk) (word : Word) (words : List Word) (rows : List Row) (ps : List Piece) → turn_passes (shape names) [] w word ≡ true → walked R [] w word ≡ u → Walks u words rows ps → Walks w (word ∷ words) rows ps
  unfolding walk_passes
  one_turn w u word words rows ps t e h = subst (λ (k : Walk). Walks k words rows ps → Walks w (word ∷ words) rows ps) e (λ k. record {
    values = k.values;
    operands = k.operands;
    turns = ap (λ b. b && walk_passes (shape names) [] (walked R [] w word) words) t ∙ k.turns;
    rest = k.rest;
  }) h

  -- the rows once an option's value or an operand is used
  option_used : (name : Word) → IsListed name → (v : Word) (rows : List Row) → settled_rows R (Some (name, v ∷ [])) rows ≡ with_values name (reading_by (option_built name)) CommandLine (v ∷ []) (without name rows)
  option_used name l v rows = ap (λ a. used_by_id a (v ∷ []) rows) (by_name names name l)

  operand_used : (v : Word) (rows : List Row) → settled_rows R (Some (operands_name, v ∷ [])) rows ≡ with_values operands_name (reading_by operands_built) CommandLine (v ∷ []) rows
  operand_used v rows = ap (λ a. used_by_id a (v ∷ []) rows) (operands_by_name names ok)

  apart_sym : (a b : Word) → bytes_eq a b ≡ false → bytes_eq b a ≡ false
  apart_sym a b f = by_test (bytes_eq b a) (λ t. let k = ap (λ x. bytes_eq a x) (equal_texts b a t) in let s = same_text a in cc) (λ g. g)

  -- an operand leaves the options as they are
  operand_keeps : (name : Word) → IsListed name → (v : Word) (rows : List Row) → all_of name (settled_rows R (Some (operands_name, v ∷ [])) rows) ≡ all_of name rows
  operand_keeps name l v rows = ap (all_of name) (operand_used v rows) ∙ values_other operands_name name (apart_sym name operands_name (listed_apart names name ok l)) _ _ _ rows

  -- an option leaves the operands, and the other options, as they are
  option_keeps : (name other : Word) → IsListed name → bytes_eq name other ≡ false → (v : Word) (rows : List Row) → all_of other (settled_rows R (Some (name, v ∷ [])) rows) ≡ all_of other rows
  option_keeps name other l apart v rows =
      ap (all_of other) (option_used name l v rows) ∙ values_other name other apart _ _ _ (without name rows) ∙ without_other name other apart rows

  option_value : (name : Word) → IsListed name → (v : Word) (rows : List Row) → all_of name rows ≡ None → all_of name (settled_rows R (Some (name, v ∷ [])) rows) ≡ Some (v ∷ [])
  option_value name l v rows none =
      let same = without_none name rows none in
      ap (all_of name) (option_used name l v rows) ∙ ap (λ r. all_of name (with_values name (reading_by (option_built name)) CommandLine (v ∷ []) r)) same
      ∙ first_values name _ _ (v ∷ []) rows none

  after_operand : (w : Walk) (words : List Word) (rows : List Row) (v : Word) (ps : List Piece) → Walks w words (settled_rows R (Some (operands_name, v ∷ [])) rows) ps → Walks w words rows (operand v ∷ ps)
  after_operand w words rows v ps h = record {
    values = λ name l. h.values name l ∙ ap (or_kept (value_given name ps)) (operand_keeps name l v rows);
    operands = h.operands
        ∙ ap (λ k. and_then k (operands_of ps)) (ap (all_of operands_name) (operand_used v rows) ∙ more_values operands_name _ _ v rows)
        ∙ and_then-one (all_of operands_name rows) v (operands_of ps);
    turns = h.turns;
    rest = h.rest;
  }

  after_option : (w : Walk) (words : List Word) (rows : List Row) (name : Word) → IsListed name → (v : Word) (ps : List Piece) → is_set name ps ≡ false → all_of name rows ≡ None
      → Walks w words (settled_rows R (Some (name, v ∷ [])) rows) ps → Walks w words rows (setting name v ∷ ps)
  after_option w words rows name l v ps unset none h = record {
    values = λ other k. by_test (bytes_eq name other)
        (λ t.
        let same = equal_texts name other t in
        let m : all_of other (end_rows w words) ≡ Some (v ∷ []) =
        subst (λ (n : Word). all_of n (end_rows w words) ≡ Some (v ∷ [])) same
        (h.values name l ∙ ap (λ o. or_kept o (all_of name (settled_rows R (Some (name, v ∷ [])) rows))) (unset_value name ps unset) ∙ option_value name l v rows none) in
        rw t m)
        (λ f. rw f (h.values other k ∙ ap (or_kept (value_given other ps)) (option_keeps name other l f v rows)));
    operands = h.operands ∙ ap (λ k. and_then k (operands_of ps)) (option_keeps name operands_name l (listed_apart names name ok l) v rows);
    turns = h.turns;
    rest = h.rest;
  }

  mutual
    pub over_words : (words : List Word) (b : Bool) (rows : List Row) (p : Option (Word × List Word)) (ps : List Piece) → pieces_from names None words ≡ Some ps → sets_each_once ps ≡ true
        → Settles names ok rows p → IsFresh (settled_rows R p rows) ps → Walks (state rows p (between b)) words (settled_rows R p rows) ps
    over_words [] b rows p ps e once s fresh =
        let same : [] ≡ ps = cc in
        subst (λ (q : List Piece). Walks (state rows p (between b)) [] (settled_rows R p rows) q) same (no_words rows p (between b) s)
    over_words (word ∷ words) b rows p ps e once s fresh = by_option (option_named names word)
        (λ q. by_test (is_plain word)
        (λ t.
        let k = mapped_some (λ pieces. operand word ∷ pieces) (pieces_from names None words) ps (rw (q, t) at e) in
        let f = plain_first word t in
        let now = settled_rows R p rows in
        let once_more : sets_each_once k.0 ≡ true = ap sets_each_once k.1.1 ∙ once in
        let fresh_more : IsFresh (settled_rows R (Some (operands_name, word ∷ [])) now) k.0 = λ name l set. operand_keeps name l word now ∙ fresh name l (ap (is_set name) (sym k.1.1) ∙ set) in
        let rest = over_words words true now (Some (operands_name, word ∷ [])) k.0 k.1.0 once_more (operand_settles names ok word now) fresh_more in
        let turn : walked R [] (state rows p (between b)) word ≡ state now (Some (operands_name, word ∷ [])) positional =
        subst (λ (x : Word). walked R [] (state rows p (between b)) x ≡ state now (Some (operands_name, x ∷ [])) positional) (sym f.1.1.0) (operand_turn names ok b rows p f.0 f.1.0 f.1.1.1) in
        let passes : turn_passes (shape names) [] (state rows p (between b)) word ≡ true =
        subst (λ (x : Word). turn_passes (shape names) [] (state rows p (between b)) x ≡ true) (sym f.1.1.0) (operand_passes names ok b rows p f.0 f.1.0 f.1.1.1 s) in
        subst (λ (y : List Piece). Walks (state rows p (between b)) (word ∷ words) now y) k.1.1
        (one_turn (state rows p (between b)) (state now (Some (operands_name, word ∷ [])) positional) word words now (operand word ∷ k.0) passes turn
        (after_operand (state now (Some (operands_name, word ∷ [])) positional) words now word k.0 rest)))
        (λ t. let k = rw (q, t) at e in cc))
        (λ name q.
        let k = rw q at e in
        let same = named_word names word name q in
        let listed = named_listed names word name q in
        let now = settled_rows R p rows in
        let rest = over_value words name listed now ps k once fresh in
        subst (λ (x : Word). Walks (state rows p (between b)) (x ∷ words) now ps) (sym same)
        (one_turn (state rows p (between b)) (state now (Some (name, [])) (option name)) (option_word name) words now ps
        (option_passes names ok name listed b rows p s) (option_turn names ok name listed b rows p) rest))

    pub over_value : (words : List Word) (name : Word) → IsListed name → (rows : List Row) (ps : List Piece) → pieces_from names (Some name) words ≡ Some ps → sets_each_once ps ≡ true
        → IsFresh rows ps → Walks (state rows (Some (name, [])) (option name)) words rows ps
    over_value [] name l rows ps e once fresh = cc
    over_value (word ∷ words) name l rows ps e once fresh = by_test (is_plain word)
        (λ t.
        let k = mapped_some (λ pieces. setting name word ∷ pieces) (pieces_from names None words) ps (rw t at e) in
        let f = plain_first word t in
        let here : (not (is_set name k.0) && sets_each_once k.0) ≡ true = ap sets_each_once k.1.1 ∙ once in
        let m = not_set (is_set name k.0) (sets_each_once k.0) here in
        let none : all_of name rows ≡ None = fresh name l (ap (is_set name) (sym k.1.1) ∙ ap (λ b. b || is_set name k.0) (same_text name)) in
        let fresh_more : IsFresh (settled_rows R (Some (name, word ∷ [])) rows) k.0 = λ other lo set. by_test (bytes_eq name other)
        (λ g. let same = ap (λ n. is_set n k.0) (equal_texts name other g) in let no = m.0 in cc)
        (λ g. option_keeps name other l g word rows ∙ fresh other lo (ap (is_set other) (sym k.1.1) ∙ ap (λ b. b || is_set other k.0) g ∙ set)) in
        let rest = over_words words false rows (Some (name, word ∷ [])) k.0 k.1.0 m.1 (option_settles names ok name l word rows none) fresh_more in
        let turn : walked R [] (state rows (Some (name, [])) (option name)) word ≡ state rows (Some (name, word ∷ [])) idle =
        subst (λ (x : Word). walked R [] (state rows (Some (name, [])) (option name)) x ≡ state rows (Some (name, x ∷ [])) idle) (sym f.1.1.0) (value_turn names ok name l rows f.0 f.1.0 f.1.1.1) in
        let passes : turn_passes (shape names) [] (state rows (Some (name, [])) (option name)) word ≡ true =
        subst (λ (x : Word). turn_passes (shape names) [] (state rows (Some (name, [])) (option name)) x ≡ true) (sym f.1.1.0) (value_passes names ok name l rows f.0 f.1.0 f.1.1.1) in
        subst (λ (y : List Piece). Walks (state rows (Some (name, [])) (option name)) (word ∷ words) rows y) k.1.1
        (one_turn (state rows (Some (name, [])) (option name)) (state rows (Some (name, word ∷ [])) idle) word words rows (setting name word ∷ k.0) passes turn
        (after_option (state rows (Some (name, word ∷ [])) idle) words rows name l word k.0 m.0 none rest)))
        (λ t. let k = rw t at e in cc)

  -- ---- the whole of the words

  over_all : (words : List Word) (ps : List Piece) → pieces_of names words ≡ Some ps → Walks (state [] None idle) words [] ps
  over_all words ps e = let k = from_pieces names words ps e in over_words words false [] None ps k.0 k.1 refl (λ name l set. refl)

  same_both : (b : Bool) (rows : List Row) → cond b rows rows ≡ rows
  same_both true rows = refl
  same_both false rows = refl

  -- no argument has a default
  no_default : (ns : List Word) (rows : List Row) → fold with_default rows (map option_built ns ++ operands_built ∷ []) ≡ rows
  no_default [] rows = same_both (has_row operands_name rows) rows
  no_default (n ∷ ns) rows = ap (λ r. fold with_default r (map option_built ns ++ operands_built ∷ [])) (same_both (has_row n rows) rows) ∙ no_default ns rows

  finished_rows : (words : List Word) → finished R (walk R [] nothing_held words).held ≡ end_rows (state [] None idle) words
  unfolding rules
  finished_rows words = no_default names (end_rows (state [] None idle) words)

  matched : (words : List Word) → matches_of (app_told names) words ≡ end_rows (state [] None idle) words
  matched words = ap (λ (a : App). rows_after a.top.rules (names_of a) words) (built_told names) ∙ finished_rows words

  level : (words : List Word) → walk_passes (shape names) [] (state [] None idle) words ≡ true → settle_passes R false (walk R [] nothing_held words).held ≡ true
      → level_passes (shape names) [] nothing_held words false ≡ true
  unfolding rules
  level words t s =
      let defaults : list_all default_passes R ≡ true = all_pass default_passes option_built operands_built names (λ n. refl) refl in
      let free : list_all (λ (a : Rule). a.is_free) R ≡ true = all_pass (λ (a : Rule). a.is_free) option_built operands_built names (λ n. refl) refl in
      let wanted : (list : List Row) → list_all (λ (a : Rule). not a.required || is_given a.id list) R ≡ true =
      λ list. all_pass (λ (a : Rule). not a.required || is_given a.id list) option_built operands_built names (λ n. refl) refl in
      let end = finished R (walk R [] nothing_held words).held in
      ap (λ b. b && (settle_passes R false (walk R [] nothing_held words).held && (list_all default_passes R && is_valid (shape names) end false))) t
      ∙ ap (λ b. b && (list_all default_passes R && is_valid (shape names) end false)) s
      ∙ ap (λ b. b && is_valid (shape names) end false) defaults
      ∙ ap (λ b. b && list_all (λ (a : Rule). not a.required || is_given a.id end) R) free ∙ wanted end

  pub takes_words : (words : List Word) (ps : List Piece) → pieces_of names words ≡ Some ps → takes (app_told names) words ≡ true
  takes_words words ps e =
      let h = over_all words ps e in
      ap (λ b. b && built_takes (built (app_told names)) nothing_held words) (simple names)
      ∙ ap (λ (a : App). built_takes a nothing_held words) (built_told names)
      ∙ leaf_takes (record { top = shape names; subs = [] }) nothing_held words refl (level words h.turns h.rest)

  first_from_all : (name : Word) (rows : List Row) (o : Option Word) → all_of name rows ≡ or_kept o None → first_of name rows ≡ o
  first_from_all name rows o e = go (find (λ r. bytes_eq r.id name) rows) o e
    where
      go : (f : Option Row) (o : Option Word) → option_map (λ r. r.values) f ≡ or_kept o None → option_and_then (λ r. slice_get r.values 0) f ≡ o
      go None None h = refl
      go None (Some v) h = cc
      go (Some r) None h = cc
      go (Some r) (Some v) h = let vs : r.values ≡ v ∷ [] = cc in rw vs refl

  pub values_matched : (words : List Word) (ps : List Piece) → pieces_of names words ≡ Some ps → (name : Word) → IsListed name → first_of name (matches_of (app_told names) words) ≡ value_given name ps
  values_matched words ps e name l = ap (first_of name) (matched words) ∙ first_from_all name (end_rows (state [] None idle) words) (value_given name ps) ((over_all words ps e).values name l)

  pub operands_matched : (words : List Word) (ps : List Piece) → pieces_of names words ≡ Some ps → unwrap_or (all_of operands_name (matches_of (app_told names) words)) [] ≡ operands_of ps
  operands_matched words ps e = ap (λ rows. unwrap_or (all_of operands_name rows) []) (matched words) ∙ ap (λ o. unwrap_or o []) (over_all words ps e).operands ∙ those (operands_of ps)
    where
      those : (vs : List Word) → unwrap_or (and_then None vs) [] ≡ vs
      those [] = refl
      those (v ∷ vs) = refl

-- The words have pieces exactly where a walk over them passes.
use Rattle.std.proofs.Common.{◌≡◌, ℕ, ◌&&◌, ◌||◌, Bool, true, false, not, cond, List, [], ◌∷◌, map, Option, Some, None, is_some, refl, ap, sym, ◌∙◌, subst, eqb, Bor, ◌<◌, ◌+◌, suc, length, drop, get_or, arith}
use Rattle.std.specs.Prelude.{find, option_map, option_and_then}
use Rattle.std.specs.List.{list_any}
use Rattle.std.specs.Str.{bytes_eq}
use Rattle.std.proofs.lemmas.Slice.Eq.{bytes_eq-Decides}
use Rattle.std.proofs.Math.Seq.{drop-cons}
use Rattle.clap.proofs.WalkLemmas.{list_any-map}
use Rattle.th_words.specs.Pieces.{Word, Piece, setting, operand, is_plain, option_word, option_named, pieces_from, pieces_of, is_set, sets_each_once}

pub by_test : {P : Type 0} (b : Bool) → (b ≡ true → P) → (b ≡ false → P) → P
by_test true t f = t refl
by_test false t f = f refl

pub by_option : {X P : Type 0} (o : Option X) → (o ≡ None → P) → ((x : X) → o ≡ Some x → P) → P
by_option None n s = n refl
by_option (Some x) n s = s x refl

-- the word stands among these
abbrev pub is_among : List Word → Word → Bool
is_among words word = list_any (λ other. bytes_eq other word) words

-- the walk, where an option waits for its value or none does
abbrev pub passes : List Word → Bool → List Word → Bool
passes names false [] = true
passes names true [] = false
passes names true (word ∷ words) = is_plain word && passes names false words
passes names false (word ∷ words) =
    cond (is_some (option_named names word)) (not (is_among words word) && passes names true words) (is_plain word && passes names false words)

-- there are pieces, and they set each option once
abbrev pub are_good : Option (List Piece) → Bool
are_good None = false
are_good (Some pieces) = sets_each_once pieces

pub is_some-find : {X : Type 0} (p : X → Bool) (xs : List X) → list_any p xs ≡ is_some (find p xs)
is_some-find p [] = refl
is_some-find p (x ∷ xs) = by_test (p x) (λ e. rw e refl) (λ e. rw e (is_some-find p xs))

-- the option that was found is the word
pub named_word : (names : List Word) (word name : Word) → option_named names word ≡ Some name → word ≡ option_word name
named_word [] word name e = cc
named_word (n ∷ names) word name e = by_test (bytes_eq word (option_word n))
    (λ t. let k = rw t at e in let same : n ≡ name = cc in (bytes_eq-Decides word (option_word n)).0 t ∙ ap option_word same)
    (λ f. named_word names word name (rw f at e))

-- a plain word is no option
pub plain_not_option : (word name : Word) → is_plain word ≡ true → bytes_eq word (option_word name) ≡ false
plain_not_option [] name h = cc
plain_not_option (x ∷ xs) name h = by_test (eqb x 45)
    (λ e. let k = rw e at h in cc)
    (λ e. rw e refl)

false_last : (a : Bool) → (a && false) ≡ false
false_last true = refl
false_last false = refl

pub mapped_some : (f : List Piece → List Piece) (o : Option (List Piece)) (ps : List Piece) → option_map f o ≡ Some ps → (qs : List Piece) × ((o ≡ Some qs) × (f qs ≡ ps))
mapped_some f None ps e = cc
mapped_some f (Some qs) ps e = (qs, (refl, cc))

-- an option is set by the pieces exactly where its word stands among the words
module _ (names : List Word) (name : Word) where
  mutual
    pub set_among : (words : List Word) (ps : List Piece) → pieces_from names None words ≡ Some ps → is_set name ps ≡ is_among words (option_word name)
    set_among [] ps e = let same : [] ≡ ps = cc in subst (λ (q : List Piece). is_set name q ≡ false) same refl
    set_among (word ∷ words) ps e = by_option (option_named names word)
        (λ q. by_test (is_plain word)
        (λ t.
        let k = mapped_some (λ pieces. operand word ∷ pieces) (pieces_from names None words) ps (rw (q, t) at e) in
        ap (is_set name) (sym k.1.1) ∙ set_among words k.0 k.1.0
        ∙ ap (λ b. b || is_among words (option_word name)) (sym (plain_not_option word name t)))
        (λ f. let k = rw (q, f) at e in cc))
        (λ other q.
        let k = rw q at e in
        let same = named_word names word other q in
        set_after other words ps k ∙ ap (λ w. bytes_eq w (option_word name) || is_among words (option_word name)) (sym same))

    pub set_after : (other : Word) (words : List Word) (ps : List Piece) → pieces_from names (Some other) words ≡ Some ps → is_set name ps ≡ (bytes_eq other name || is_among words (option_word name))
    set_after other [] ps e = cc
    set_after other (value ∷ words) ps e = by_test (is_plain value)
        (λ t.
        let k = mapped_some (λ pieces. setting other value ∷ pieces) (pieces_from names None words) ps (rw t at e) in
        ap (is_set name) (sym k.1.1) ∙ ap (λ b. bytes_eq other name || b) (set_among words k.0 k.1.0
        ∙ ap (λ b. b || is_among words (option_word name)) (sym (plain_not_option value name t))))
        (λ f. let k = rw f at e in cc)

-- the walk passes where the pieces set each option once
module _ (names : List Word) where
  after_setting : (name value : Word) (words : List Word) (o : Option (List Piece)) → pieces_from names None words ≡ o
      → (not (is_among words (option_word name)) && are_good o) ≡ are_good (option_map (λ pieces. setting name value ∷ pieces) o)
  after_setting name value words None e = false_last (not (is_among words (option_word name)))
  after_setting name value words (Some ps) e = ap (λ b. not b && sets_each_once ps) (sym (set_among names name words ps e))

  after_operand : (word : Word) (o : Option (List Piece)) → are_good o ≡ are_good (option_map (λ pieces. operand word ∷ pieces) o)
  after_operand word None = refl
  after_operand word (Some ps) = refl

  mutual
    pub good_passes : (words : List Word) → passes names false words ≡ are_good (pieces_from names None words)
    good_passes [] = refl
    good_passes (word ∷ words) = by_option (option_named names word)
        (λ q. by_test (is_plain word)
        (λ t. rw (q, t) (good_passes words ∙ after_operand word (pieces_from names None words)))
        (λ f. rw (q, f) refl))
        (λ name q.
        let same = named_word names word name q in
        rw q (ap (λ w. not (is_among words w) && passes names true words) same ∙ good_after name words))

    good_after : (name : Word) (words : List Word) → (not (is_among words (option_word name)) && passes names true words) ≡ are_good (pieces_from names (Some name) words)
    good_after name [] = refl
    good_after name (value ∷ words) = by_test (is_plain value)
        (λ t. rw (t, plain_not_option value name t)
        (ap (λ b. not (is_among words (option_word name)) && b) (good_passes words) ∙ after_setting name value words (pieces_from names None words) refl))
        (λ f. rw f (false_last (not (is_among (value ∷ words) (option_word name)))))

  some_good : (o : Option (List Piece)) → are_good o ≡ is_some (option_and_then (λ pieces. cond (sets_each_once pieces) (Some pieces) None) o)
  some_good None = refl
  some_good (Some ps) = by_test (sets_each_once ps) (λ e. rw e refl) (λ e. rw e refl)

  pub passes-pieces : (words : List Word) → passes names false words ≡ is_some (pieces_of names words)
  passes-pieces words = good_passes words ∙ some_good (pieces_from names None words)

-- ---- one step of the walk, at place i of a list of words whose texts are t

module _ {S : Type 0} (t : S → Word) (names : List (Bor Word)) (words : List S) (i : ℕ) (word : S) (within : i < length words) (item : word ≡ get_or words i word) where
  abbrev known : List Word
  known = map (λ n. n.now) names

  abbrev after : List Word
  after = map t (drop (i + 1) words)

  -- the word stands again after it
  abbrev stands_again : Word → Bool
  stands_again text = list_any (λ other. bytes_eq (t other) text) (drop (i + 1) words)

  abbrev is_listed : Word → Bool
  is_listed text = list_any (λ name. bytes_eq text (option_word name.now)) names

  here : (waits : Bool) → passes known waits (map t (drop i words)) ≡ passes known waits (t word ∷ after)
  here waits =
      let next : suc i ≡ i + 1 = omega arith in
      ap (λ l. passes known waits (map t l)) (drop-cons words i word within ∙ ap (λ w. w ∷ drop (suc i) words) (sym item)) ∙ ap (λ k. passes known waits (t word ∷ map t (drop k words))) next

  listed : (text : Word) → text ≡ t word → is_listed text ≡ is_some (option_named known (t word))
  listed text e = ap is_listed e ∙ list_any-map (λ name. bytes_eq (t word) (option_word name)) (λ n. n.now) names ∙ is_some-find (λ name. bytes_eq (t word) (option_word name)) known

  again : (text : Word) → text ≡ t word → stands_again text ≡ is_among after (t word)
  again text e = ap stands_again e ∙ list_any-map (λ other. bytes_eq other (t word)) t (drop (i + 1) words)

  pub option_here : (text : Word) (again_text : Word) → text ≡ t word → again_text ≡ t word → is_listed text ≡ true → stands_again again_text ≡ false → passes known false (map t (drop i words)) ≡ passes known true after
  option_here text again_text e f l a =
      let is : is_some (option_named known (t word)) ≡ true = sym (listed text e) ∙ l in
      let alone : is_among after (t word) ≡ false = sym (again again_text f) ∙ a in
      here false ∙ rw (is, alone) refl

  pub option_twice : (text : Word) (again_text : Word) → text ≡ t word → again_text ≡ t word → is_listed text ≡ true → stands_again again_text ≡ true → passes known false (map t (drop i words)) ≡ false
  option_twice text again_text e f l a =
      let is : is_some (option_named known (t word)) ≡ true = sym (listed text e) ∙ l in
      let twice : is_among after (t word) ≡ true = sym (again again_text f) ∙ a in
      here false ∙ rw (is, twice) refl

  pub value_here : (text : Word) (b : Bool) → text ≡ t word → is_plain text ≡ b → passes known true (map t (drop i words)) ≡ (b && passes known false after)
  value_here text b e p = here true ∙ ap (λ x. x && passes known false after) (ap is_plain (sym e) ∙ p)

  pub operand_here : (text plain_text : Word) (b : Bool) → text ≡ t word → plain_text ≡ t word → is_listed text ≡ false → is_plain plain_text ≡ b → passes known false (map t (drop i words)) ≡ (b && passes known false after)
  operand_here text plain_text b e f l p =
      let is : is_some (option_named known (t word)) ≡ false = sym (listed text e) ∙ l in
      here false ∙ rw is (ap (λ x. x && passes known false after) (ap is_plain (sym f) ∙ p))

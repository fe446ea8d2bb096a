-- Reading pieces is the inverse of writing them.
use Rattle.std.proofs.Common.{◌≡◌, ◌&&◌, Bool, true, false, cond, List, [], ◌∷◌, Some, None, refl, ap, ap₂, sym, ◌∙◌, subst}
use Rattle.std.specs.Prelude.{option_map, option_and_then}
use Rattle.std.specs.List.{list_all, list_any}
use Rattle.std.specs.Str.{bytes_eq}
use Rattle.th_words.specs.Pieces.{Word, Piece, setting, operand, is_plain, option_word, option_named, pieces_from, pieces_of, sets_each_once, words_of, is_allowed, ArePieces}
use Rattle.th_words.proofs.WellFormed.{by_test, by_option, mapped_some, named_word, plain_not_option}
use Rattle.th_words.proofs.Arguments.{same_text, equal_texts}
use Rattle.th_words.proofs.WalkedWords.{named_listed, from_pieces}

both : (a b : Bool) → (a && b) ≡ true → (a ≡ true) × (b ≡ true)
both true b e = (refl, e)
both false b e = cc

-- a plain word is none of the options, and an option is the one that it names
plain_unnamed : (names : List Word) (word : Word) → is_plain word ≡ true → option_named names word ≡ None
plain_unnamed [] word h = refl
plain_unnamed (n ∷ names) word h = rw (plain_not_option word n h) (plain_unnamed names word h)

option_found : (names : List Word) (name : Word) → list_any (λ n. bytes_eq n name) names ≡ true → option_named names (option_word name) ≡ Some name
option_found [] name h = cc
option_found (n ∷ names) name h = by_test (bytes_eq name n)
    (λ t. let same = equal_texts name n t in rw t (ap Some (sym same)))
    (λ f. rw f (option_found names name (by_test (bytes_eq n name)
    (λ t. let same = ap (λ m. bytes_eq m n) (equal_texts n name t) in let k = same_text n in cc)
    (λ g. rw g at h))))

module _ (names : List Word) where
  abbrev are_allowed : List Piece → Bool
  are_allowed = list_all (is_allowed names)

  mutual
    written : (words : List Word) (ps : List Piece) → pieces_from names None words ≡ Some ps → (words_of ps ≡ words) × (are_allowed ps ≡ true)
    written [] ps e =
        let same : [] ≡ ps = cc in
        subst (λ (q : List Piece). (words_of q ≡ []) × (are_allowed q ≡ true)) same (refl, refl)
    written (word ∷ words) ps e = by_option (option_named names word)
        (λ q. by_test (is_plain word)
        (λ t.
        let k = mapped_some (λ pieces. operand word ∷ pieces) (pieces_from names None words) ps (rw (q, t) at e) in
        let h = written words k.0 k.1.0 in
        subst (λ (y : List Piece). (words_of y ≡ word ∷ words) × (are_allowed y ≡ true)) k.1.1 (ap (λ l. word ∷ l) h.0, ap (λ b. b && are_allowed k.0) t ∙ h.1))
        (λ f. let k = rw (q, f) at e in cc))
        (λ name q.
        let h = written_after words name (named_listed names word name q) ps (rw q at e) in
        (h.0 ∙ ap (λ w. w ∷ words) (sym (named_word names word name q)), h.1))

    written_after : (words : List Word) (name : Word) → list_any (λ n. bytes_eq n name) names ≡ true → (ps : List Piece) → pieces_from names (Some name) words ≡ Some ps
        → (words_of ps ≡ option_word name ∷ words) × (are_allowed ps ≡ true)
    written_after [] name l ps e = cc
    written_after (value ∷ words) name l ps e = by_test (is_plain value)
        (λ t.
        let k = mapped_some (λ pieces. setting name value ∷ pieces) (pieces_from names None words) ps (rw t at e) in
        let h = written words k.0 k.1.0 in
        subst (λ (y : List Piece). (words_of y ≡ option_word name ∷ value ∷ words) × (are_allowed y ≡ true)) k.1.1
        (ap (λ l. option_word name ∷ value ∷ l) h.0, ap₂ (λ a b. (a && b) && are_allowed k.0) l t ∙ h.1))
        (λ f. let k = rw f at e in cc)

  read_back : (ps : List Piece) → are_allowed ps ≡ true → pieces_from names None (words_of ps) ≡ Some ps
  read_back [] h = refl
  read_back (setting name value ∷ ps) h =
      let k = both (is_allowed names (setting name value)) (are_allowed ps) h in
      let m = both (list_any (λ n. bytes_eq n name) names) (is_plain value) k.0 in
      let found = option_found names name m.0 in
      rw (found, m.1) (ap (option_map (λ pieces. setting name value ∷ pieces)) (read_back ps k.1))
  read_back (operand word ∷ ps) h =
      let k = both (is_plain word) (are_allowed ps) h in
      rw (plain_unnamed names word k.0, k.0) (ap (option_map (λ pieces. operand word ∷ pieces)) (read_back ps k.1))

  pub pieces_written : (words : List Word) (ps : List Piece) → pieces_of names words ≡ Some ps → (words_of ps ≡ words) × ArePieces names ps
  pieces_written words ps e =
      let k = from_pieces names words ps e in
      let h = written words ps k.0 in
      (h.0, record { allowed = h.1; each_once = k.1 })

  pub pieces_read : (ps : List Piece) → ArePieces names ps → pieces_of names (words_of ps) ≡ Some ps
  pieces_read ps h = ap (option_and_then (λ pieces. cond (sets_each_once pieces) (Some pieces) None)) (read_back ps h.allowed) ∙ ap (λ b. cond b (Some ps) None) h.each_once

-- The values that `clap` keeps of a name, after a use of an argument.
use Rattle.std.proofs.Common.{◌≡◌, true, false, List, [], ◌∷◌, ◌++◌, Option, Some, None, refl, ap, ◌∙◌, append_assoc, append-nil}
use Rattle.std.specs.Str.{bytes_eq}
use Rattle.clap.specs.Walk.{Row, all_of, with_values, without, has_row}
use Rattle.clap.specs.declared.builder.value_parser.Reading.{Reading}
use Rattle.clap.specs.declared.parser.matches.ValueSource.{ValueSource}
use Rattle.th_words.specs.Pieces.{Word}
use Rattle.th_words.proofs.WellFormed.{by_test}
use Rattle.th_words.proofs.Arguments.{same_text, equal_texts}

-- what was kept, and these values after it
abbrev pub and_then : Option (List Word) → List Word → Option (List Word)
and_then None [] = None
and_then None (v ∷ vs) = Some (v ∷ vs)
and_then (Some us) vs = Some (us ++ vs)

pub and_then-nil : (kept : Option (List Word)) → and_then kept [] ≡ kept
and_then-nil None = refl
and_then-nil (Some us) = ap Some (append-nil us)

pub and_then-one : (kept : Option (List Word)) (v : Word) (vs : List Word) → and_then (and_then kept (v ∷ [])) vs ≡ and_then kept (v ∷ vs)
and_then-one None v vs = refl
and_then-one (Some us) v vs = ap Some (append_assoc us (v ∷ []) vs)

pub has_none : (id : Word) (rows : List Row) → all_of id rows ≡ None → has_row id rows ≡ false
has_none id [] h = refl
has_none id (r ∷ rs) h = by_test (bytes_eq r.id id)
    (λ t. let k = rw t at h in cc)
    (λ f. rw f (has_none id rs (rw f at h)))

pub without_none : (id : Word) (rows : List Row) → all_of id rows ≡ None → without id rows ≡ rows
without_none id [] h = refl
without_none id (r ∷ rs) h = by_test (bytes_eq r.id id)
    (λ t. let k = rw t at h in cc)
    (λ f. rw f (ap (λ l. r ∷ l) (without_none id rs (rw f at h))))

module _ (id : Word) (how : Reading) (source : ValueSource) where
  pub first_values : (vs : List Word) (rows : List Row) → all_of id rows ≡ None → all_of id (with_values id how source vs rows) ≡ Some vs
  first_values vs [] h = rw (same_text id) refl
  first_values vs (r ∷ rs) h = by_test (bytes_eq r.id id)
      (λ t. let k = rw t at h in cc)
      (λ f. rw (f, f) (first_values vs rs (rw f at h)))

  pub more_values : (v : Word) (rows : List Row) → all_of id (with_values id how source (v ∷ []) rows) ≡ and_then (all_of id rows) (v ∷ [])
  more_values v [] = rw (same_text id) refl
  more_values v (r ∷ rs) = by_test (bytes_eq r.id id)
      (λ t. rw (t, t) refl)
      (λ f. rw (f, f) (more_values v rs))

-- rows of another id
module _ (id other : Word) (apart : bytes_eq id other ≡ false) where
  other_row : (r : Row) → bytes_eq r.id id ≡ true → bytes_eq r.id other ≡ false
  other_row r t = ap (λ x. bytes_eq x other) (equal_texts r.id id t) ∙ apart

  pub without_other : (rows : List Row) → all_of other (without id rows) ≡ all_of other rows
  without_other [] = refl
  without_other (r ∷ rs) = by_test (bytes_eq r.id id)
      (λ t. rw (t, other_row r t) refl)
      (λ f. rw f (by_test (bytes_eq r.id other) (λ t. rw t refl) (λ g. rw g (without_other rs))))

  pub values_other : (how : Reading) (source : ValueSource) (vs : List Word) (rows : List Row) → all_of other (with_values id how source vs rows) ≡ all_of other rows
  values_other how source vs [] = rw apart refl
  values_other how source vs (r ∷ rs) = by_test (bytes_eq r.id id)
      (λ t. rw (t, other_row r t) refl)
      (λ f. rw f (by_test (bytes_eq r.id other) (λ t. rw t refl) (λ g. rw g (values_other how source vs rs))))

-- A table that is filled item by item holds the place of the first item of each key.
use Rattle.std.proofs.Common.{◌≡◌, ℕ, ◌+◌, ◌<◌, Bool, true, false, cond, List, [], ◌∷◌, ◌++◌, length, take, get_or, Option, Some, None, Bor, is_some, option_copied, refl, sym, ap, ◌∙◌, arith}
use Rattle.std.specs.List.{position_from}
use Rattle.std.proofs.lemmas.List.{take_more, length-take}

abbrev or_else : Option ℕ → Option ℕ → Option ℕ
or_else None o = o
or_else (Some i) o = Some i

or_else_none : (o : Option ℕ) → or_else o None ≡ o
or_else_none None = refl
or_else_none (Some i) = refl

or_else_cond : (b : Bool) (i : ℕ) (o r : Option ℕ) → or_else (cond b (Some i) o) r ≡ cond b (Some i) (or_else o r)
or_else_cond true i o r = refl
or_else_cond false i o r = refl

position_push : {X : Type 0} (p : X → Bool) (j : ℕ) (xs : List X) (x : X) → position_from p j (xs ++ x ∷ []) ≡ or_else (position_from p j xs) (cond (p x) (Some (j + length xs)) None)
position_push p j [] x = let e : j + 0 ≡ j = omega arith in rw e refl
position_push p j (y ∷ ys) x =
    let e : (j + 1) + length ys ≡ j + length (y ∷ ys) = omega arith in
    rw (position_push p (j + 1) ys x, e) (sym (or_else_cond (p y) j (position_from p (j + 1) ys) _))

module _ {N X : Type 0} (p : N → X → Bool) (key : X → N) (same : (n : N) (x : X) → p n x ≡ true → key x ≡ n) where
  place_more : (xs : List X) (i : ℕ) (x : X) (n : N) → i < length xs → x ≡ get_or xs i x → position_from (p n) 0 (take (i + 1) xs) ≡ or_else (position_from (p n) 0 (take i xs)) (cond (p n x) (Some i) None)
  place_more xs i x n h e =
      let len : 0 + length (take i xs) ≡ i = omega (arith, length-take i xs) in
      rw (take_more xs i x h, ← e) (position_push (p n) 0 (take i xs) x ∙ rw len refl)

  -- an item with a new key is added under its place
  pub added : (xs : List X) (i : ℕ) (x : X) (G H : N → Option ℕ) → i < length xs → x ≡ get_or xs i x → ((n : N) → G n ≡ position_from (p n) 0 (take i xs)) → G (key x) ≡ None
      → ((n : N) → H n ≡ cond (p n x) (Some i) (G n)) → (n : N) → H n ≡ position_from (p n) 0 (take (i + 1) xs)
  added xs i x G H h e g none put n = put n ∙ by (p n x) (same n x) ∙ sym (place_more xs i x n h e)
    where
      by : (b : Bool) → (b ≡ true → key x ≡ n) → cond b (Some i) (G n) ≡ or_else (position_from (p n) 0 (take i xs)) (cond b (Some i) None)
      by true q = let was : position_from (p n) 0 (take i xs) ≡ None = sym (g n) ∙ sym (ap G (q refl)) ∙ none in rw was refl
      by false q = g n ∙ sym (or_else_none (position_from (p n) 0 (take i xs)))

  -- an item whose key is there already changes nothing
  pub kept : (xs : List X) (i : ℕ) (x : X) (G : N → Option ℕ) (v : ℕ) → i < length xs → x ≡ get_or xs i x → ((n : N) → G n ≡ position_from (p n) 0 (take i xs)) → G (key x) ≡ Some v
      → (n : N) → G n ≡ position_from (p n) 0 (take (i + 1) xs)
  kept xs i x G v h e g some n = by (p n x) (same n x) ∙ sym (place_more xs i x n h e)
    where
      by : (b : Bool) → (b ≡ true → key x ≡ n) → G n ≡ or_else (position_from (p n) 0 (take i xs)) (cond b (Some i) None)
      by true q = let was : position_from (p n) 0 (take i xs) ≡ Some v = sym (g n) ∙ sym (ap G (q refl)) ∙ some in g n ∙ was ∙ rw was refl
      by false q = g n ∙ sym (or_else_none (position_from (p n) 0 (take i xs)))

pub none_of : (r : Option (Bor ℕ)) (o : Option ℕ) → option_copied r ≡ o → is_some r ≡ false → o ≡ None
none_of None o e h = sym e
none_of (Some x) o e h = cc

pub some_of : (r : Option (Bor ℕ)) (o : Option ℕ) → option_copied r ≡ o → is_some r ≡ true → (v : ℕ) × (o ≡ Some v)
some_of None o e h = cc
some_of (Some x) o e h = (x.now, sym e)

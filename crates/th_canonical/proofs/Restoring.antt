-- A match that is taken back leaves what there was.
use Rattle.std.proofs.Common.{◌≡◌, ℕ, ◌<◌, ◌==◌, zero, suc, Bool, true, false, cond, List, [], ◌∷◌, length, get_or, Option, None, Some, slice_get, slice_set, refl, sym, ap, ◌∙◌, arith}
use Rattle.std.specs.Option.{option_and_then}
use Rattle.th_ir.proofs.Plain.{some_is}
use Rattle.th_query.specs.declared.query.Query.{Query}
use Rattle.th_query.specs.Symbols.{symbol_at}
use Rattle.th_query.specs.Subsumed.{same_kind, matched_by, matched, matched_in_turn, matched_all}

pub pair_none : (q r : Query) (x y : ℕ × ℕ) (m n : List (Option ℕ)) → matched q r x m ≡ Some n → matched q r y n ≡ None → matched_all q r (x ∷ y ∷ []) m ≡ None
pair_none q r x y m n e f = ap (option_and_then (matched_in_turn (matched q r) (y ∷ []))) e ∙ ap (option_and_then (matched_in_turn (matched q r) [])) f

set_back : {X : Type 0} (xs : List X) (i : ℕ) (d : X) → i < length xs → slice_set xs i (get_or xs i d) ≡ xs
set_back [] i d h = absurd (omega (arith, h))
set_back (x ∷ xs) zero d h = refl
set_back (x ∷ xs) (suc i) d h = ap (λ ys. x ∷ ys) (set_back xs i d (omega (arith, h)))

set_twice : {X : Type 0} (xs : List X) (i : ℕ) (a b : X) → slice_set (slice_set xs i a) i b ≡ slice_set xs i b
set_twice [] i a b = refl
set_twice (x ∷ xs) zero a b = refl
set_twice (x ∷ xs) (suc i) a b = ap (λ ys. x ∷ ys) (set_twice xs i a b)

pub restored : (q r : Query) (s t : ℕ) (m n : List (Option ℕ)) → s < length m → matched q r (s, t) m ≡ Some n → slice_set n s (get_or m s None) ≡ m
restored q r s t m n h e = go (slice_get m s) e
  where
    newly : (b : Bool) → cond b (Some (slice_set m s (Some t))) None ≡ Some n → slice_set n s (get_or m s None) ≡ m
    newly true f = ap (λ k. slice_set k s (get_or m s None)) (sym (some_is _ n f)) ∙ set_twice m s (Some t) (get_or m s None) ∙ set_back m s None h
    newly false f = absurd cc

    again : (b : Bool) → cond b (Some m) None ≡ Some n → slice_set n s (get_or m s None) ≡ m
    again true f = ap (λ k. slice_set k s (get_or m s None)) (sym (some_is m n f)) ∙ set_back m s None h
    again false f = absurd cc

    go : (o : Option (Option ℕ)) → matched_by q r s t m o ≡ Some n → slice_set n s (get_or m s None) ≡ m
    go None f = absurd cc
    go (Some None) f = newly (same_kind (symbol_at q t) (symbol_at r s)) f
    go (Some (Some u)) f = again (u == t) f

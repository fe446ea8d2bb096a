-- Classes with ranks that never rise on the way up: a class from which they fall doesn't stand above itself.
use Rattle.std.proofs.Common.{◌≡◌, ℕ, zero, suc, ◌<◌, ◌≤◌, ◌==◌, ◌&&◌, ◌||◌, inl, inr, Bool, true, false, List, [], ◌∷◌, length, refl, sym, ap, ◌∙◌, arith}
use Rattle.std.specs.Prelude.{slice_index_or, nat_lt, nat_le}
use Rattle.std.specs.List.{list_all}
use borrow.Author.Tests.{ltb-true, leb-true}
use Rattle.std.proofs.lemmas.Bool.{eqb-true, eqb-false, cases_lt}
use Rattle.std.proofs.lemmas.Option.{slice_get_past}
use Rattle.th_base.specs.declared.class.ClassInfo.{ClassInfo}
use Rattle.th_base.specs.Hierarchy.{direct_supertypes, StandsAbove, directly, higher, IsAcyclic}
use Rattle.th_base.specs.IdSet.{has}
use Rattle.th_base.proofs.Membership.{has-from_Contains}
use Rattle.th_syntax.proofs.Inverting.{both}

-- the rank of a class
abbrev pub rank_in : List ℕ → ℕ → ℕ
rank_in ranks c = slice_index_or ranks c 0

-- a test of each number below n
abbrev pub all_below : ℕ → (ℕ → Bool) → Bool
all_below zero p = true
all_below (suc n) p = p n && all_below n p

-- the direct supertypes of a class are in range, and of no higher rank
abbrev pub keeps_at : List ClassInfo → List ℕ → ℕ → Bool
keeps_at classes ranks c = list_all (λ s. nat_lt s (length classes) && nat_le (rank_in ranks s) (rank_in ranks c)) (direct_supertypes classes c)

-- and of a lower rank
abbrev pub falls_at : List ClassInfo → List ℕ → ℕ → Bool
falls_at classes ranks c = list_all (λ s. nat_lt (rank_in ranks s) (rank_in ranks c)) (direct_supertypes classes c)

below_by : (n k : ℕ) (p : ℕ → Bool) (b : Bool) → (k == n) ≡ b → p n ≡ true → (k < n → p k ≡ true) → k < suc n → p k ≡ true
below_by n k p true is here rest h = ap p (eqb-true k n is) ∙ here
below_by n k p false is here rest h = let other : k ≡ n → ⊥ = eqb-false k n is in rest (omega arith)

pub at_below : (n k : ℕ) (p : ℕ → Bool) → all_below n p ≡ true → k < n → p k ≡ true
at_below zero k p e h = absurd (omega arith)
at_below (suc n) k p e h = let parts = both (p n) (all_below n p) e in below_by n k p (k == n) refl parts.0 (at_below n k p parts.1) h

found_by : (p : ℕ → Bool) (x y : ℕ) (xs : List ℕ) (b : Bool) → (x == y) ≡ b → p x ≡ true → (has xs y ≡ true → p y ≡ true) → (b || has xs y) ≡ true → p y ≡ true
found_by p x y xs true is here rest h = ap p (sym (eqb-true x y is)) ∙ here
found_by p x y xs false is here rest h = rest h

all_has : (p : ℕ → Bool) (xs : List ℕ) (y : ℕ) → list_all p xs ≡ true → has xs y ≡ true → p y ≡ true
all_has p [] y e h = absurd cc
all_has p (x ∷ xs) y e h = let parts = both (p x) (list_all p xs) e in found_by p x y xs (x == y) refl parts.0 (all_has p xs y parts.1) h

none_past : (classes : List ClassInfo) (c : ℕ) → length classes ≤ c → direct_supertypes classes c ≡ []
none_past classes c h = rw (slice_get_past classes c h) refl

module _ (classes : List ClassInfo) (ranks : List ℕ) where
  abbrev Keeps : Type 0
  Keeps = (c s : ℕ) → has (direct_supertypes classes c) s ≡ true → (s < length classes) × (rank_in ranks s ≤ rank_in ranks c)

  keeps : all_below (length classes) (keeps_at classes ranks) ≡ true → Keeps
  keeps e c s h =
      elim (cases_lt c (length classes)) [
        | inl inside ↦
            let parts = both (nat_lt s (length classes)) _ (all_has _ (direct_supertypes classes c) s (at_below (length classes) c (keeps_at classes ranks) e inside) h) in
            (ltb-true s (length classes) parts.0, leb-true (rank_in ranks s) (rank_in ranks c) parts.1)
        | inr past ↦ absurd (let none : has (direct_supertypes classes c) s ≡ false = ap (λ xs. has xs s) (none_past classes c past) in cc)
      ]

  above_no_higher : Keeps → (a c : ℕ) → StandsAbove classes a c → rank_in ranks a ≤ rank_in ranks c
  above_no_higher kept a c (directly up) = (kept c a (has-from_Contains (direct_supertypes classes c) a up)).1
  above_no_higher kept a c (higher {d = d} up rest) =
      let one = (kept c d (has-from_Contains (direct_supertypes classes c) d up)).1 in
      let more = above_no_higher kept a d rest in
      omega (arith, one, more)

  not_itself : Keeps → (c : ℕ) → falls_at classes ranks c ≡ true → (d : ℕ) → d ≡ c → StandsAbove classes d c → ⊥
  not_itself kept c e d same (directly up) =
      let less = ltb-true (rank_in ranks d) (rank_in ranks c) (all_has _ (direct_supertypes classes c) d e (has-from_Contains (direct_supertypes classes c) d up)) in
      let level : rank_in ranks d ≡ rank_in ranks c = ap (rank_in ranks) same in
      omega (arith, less, level)
  not_itself kept c e d same (higher {d = m} up rest) =
      let less = ltb-true (rank_in ranks m) (rank_in ranks c) (all_has _ (direct_supertypes classes c) m e (has-from_Contains (direct_supertypes classes c) m up)) in
      let more = above_no_higher kept d m rest in
      let level : rank_in ranks d ≡ rank_in ranks c = ap (rank_in ranks) same in
      omega (arith, less, more, level)

  -- ranks that never rise, and fall from a class
  pub falling : all_below (length classes) (keeps_at classes ranks) ≡ true → (c : ℕ) → falls_at classes ranks c ≡ true → StandsAbove classes c c → ⊥
  falling e c falls above = not_itself (keeps e) c falls c refl above

  -- ranks that fall from the first classes on
  pub falling_below : (n : ℕ) → all_below (length classes) (keeps_at classes ranks) ≡ true → all_below n (falls_at classes ranks) ≡ true → (c : ℕ) → c < n → StandsAbove classes c c → ⊥
  falling_below n e falls c h above = falling e c (at_below n c (falls_at classes ranks) falls h) above

  none_above_past : (c : ℕ) → length classes ≤ c → (d : ℕ) → StandsAbove classes d c → ⊥
  none_above_past c past d (directly up) = let h = has-from_Contains (direct_supertypes classes c) d up in absurd (let none : has (direct_supertypes classes c) d ≡ false = ap (λ xs. has xs d) (none_past classes c past) in cc)
  none_above_past c past d (higher {d = m} up rest) = let h = has-from_Contains (direct_supertypes classes c) m up in absurd (let none : has (direct_supertypes classes c) m ≡ false = ap (λ xs. has xs m) (none_past classes c past) in cc)

  -- ranks that fall from every class
  pub ranked : all_below (length classes) (keeps_at classes ranks) ≡ true → all_below (length classes) (falls_at classes ranks) ≡ true → IsAcyclic classes
  ranked e falls = record {
    in_range = λ c s up. (keeps e c s (has-from_Contains (direct_supertypes classes c) s up)).0;
    not_above_itself = λ c above. elim (cases_lt c (length classes)) [
      | inl inside ↦ falling_below (length classes) e falls c inside above
      | inr past ↦ none_above_past c past c above
    ];
  }

-- ranks of the built-in classes
abbrev pub built_in_ranks : List ℕ
built_in_ranks = 0 ∷ 2 ∷ 2 ∷ 3 ∷ 4 ∷ 3 ∷ 1 ∷ 1 ∷ 1 ∷ 1 ∷ 2 ∷ []

-- A visit of the code of a method finds the offsets to which paths lead, and no others.
use Rattle.std.proofs.Common.{◌≡◌, ℕ, zero, suc, ◌+◌, ◌≤◌, ◌==◌, ◌||◌, ◌⊎◌, inl, inr, Bool, true, false, not, cond, if◌then◌else◌, List, [], ◌∷◌, ◌++◌, length, Option, None, Some, refl, sym, ap, subst, ◌∙◌, arith, length-append}
use Rattle.std.specs.Prelude.{flat_map}
use Rattle.std.specs.Option.{option_map, option_map_or}
use Rattle.std.proofs.lemmas.Bool.{eq-eqb, eqb-true, eqb-false, or_left, or_right}
use Rattle.th_base.specs.IdSet.{has}
use Rattle.th_base.proofs.Membership.{has_append_cases, has_append_left, has_append_right, Contains-from_has, has-from_Contains}
use Rattle.th_syntax.specs.declared.instr.Instr.{Instr}
use Rattle.th_syntax.specs.Flow.{placed_at, instr_in, first_offset, offset_after, successors_of, IsReached, start, onward, without, visited, enough_looks, reached_offsets, is_reached}
use Rattle.th_syntax.proofs.Inverting.{some_is, map_some}

-- ---- the instructions that are left

same_number : (n : ℕ) → (n == n) ≡ true
same_number n = eq-eqb n n refl

head_or_rest : (x y : ℕ) (xs : List ℕ) (b : Bool) → (x == y) ≡ b → (b || has xs y) ≡ true → (x ≡ y) ⊎ (has xs y ≡ true)
head_or_rest x y xs true is e = inl (eqb-true x y is)
head_or_rest x y xs false is e = inr e

has_cases : (x y : ℕ) (xs : List ℕ) → has (x ∷ xs) y ≡ true → (x ≡ y) ⊎ (has xs y ≡ true)
has_cases x y xs e = head_or_rest x y xs (x == y) refl e

none_by : (offset : ℕ) (j : ℕ × Instr) (rest : List (ℕ × Instr)) (b : Bool) → (j.0 == offset) ≡ b → placed_at (without offset rest) offset ≡ None → placed_at (cond (not b) (j ∷ without offset rest) (without offset rest)) offset ≡ None
none_by offset j rest true is e = e
none_by offset j rest false is e = rw is e

-- what was taken out is no longer there
none_left : (offset : ℕ) (left : List (ℕ × Instr)) → placed_at (without offset left) offset ≡ None
none_left offset [] = refl
none_left offset (j ∷ rest) = none_by offset j rest (j.0 == offset) refl (none_left offset rest)

still_by : (offset other : ℕ) (j : ℕ × Instr) (rest : List (ℕ × Instr)) (b c : Bool) → (j.0 == offset) ≡ b → (j.0 == other) ≡ c → (offset ≡ other → ⊥) → placed_at (without offset rest) other ≡ placed_at rest other
    → placed_at (cond (not b) (j ∷ without offset rest) (without offset rest)) other ≡ cond c (Some j) (placed_at rest other)
still_by offset other j rest true true is too apart e = absurd (apart (sym (eqb-true j.0 offset is) ∙ eqb-true j.0 other too))
still_by offset other j rest true false is too apart e = e
still_by offset other j rest false true is too apart e = rw too refl
still_by offset other j rest false false is too apart e = rw too e

-- and all else is
still_there : (offset other : ℕ) (left : List (ℕ × Instr)) → (offset ≡ other → ⊥) → placed_at (without offset left) other ≡ placed_at left other
still_there offset other [] apart = refl
still_there offset other (j ∷ rest) apart = still_by offset other j rest (j.0 == offset) (j.0 == other) refl refl apart (still_there offset other rest apart)

in_whole : (offset other : ℕ) (left : List (ℕ × Instr)) (i : ℕ × Instr) (b : Bool) → (offset == other) ≡ b → placed_at (without offset left) other ≡ Some i → placed_at left other ≡ Some i
in_whole offset other left i true is e =
    absurd (let none : placed_at (without offset left) other ≡ None = ap (placed_at (without offset left)) (sym (eqb-true offset other is)) ∙ none_left offset left in let h : (let o : Option (ℕ × Instr) = None in o) ≡ Some i = sym none ∙ e in cc)
in_whole offset other left i false is e =
    sym (still_there offset other left (λ same. let h : false ≡ true = sym is ∙ eq-eqb offset other same in cc)) ∙ e

here_or : (offset : ℕ) (j i : ℕ × Instr) (rest : List (ℕ × Instr)) (b : Bool) → (j.0 == offset) ≡ b → cond b (Some j) (placed_at rest offset) ≡ Some i → (placed_at rest offset ≡ Some i → i.0 ≡ offset) → i.0 ≡ offset
here_or offset j i rest true is e more = ap (λ (x : ℕ × Instr). x.0) (sym (some_is j i e)) ∙ eqb-true j.0 offset is
here_or offset j i rest false is e more = more e

-- what is found at an offset stands there
found_here : (offset : ℕ) (instrs : List (ℕ × Instr)) (i : ℕ × Instr) → placed_at instrs offset ≡ Some i → i.0 ≡ offset
found_here offset [] i e = absurd cc
found_here offset (j ∷ rest) i e = here_or offset j i rest (j.0 == offset) refl e (found_here offset rest i)

-- ---- only what paths lead to

module _ (instrs : List (ℕ × Instr)) where
  ahead_reached : (offset : ℕ) (found : Option (ℕ × Instr)) (ahead : List ℕ) → placed_at instrs offset ≡ found ⊎ (found ≡ None) → IsReached instrs offset → ((x : ℕ) → has ahead x ≡ true → IsReached instrs x)
      → (x : ℕ) → has (option_map_or (successors_of instrs) found [] ++ ahead) x ≡ true → IsReached instrs x
  ahead_reached offset None ahead stands reached rest x e = rest x e
  ahead_reached offset (Some i) ahead (inr none) reached rest x e = absurd cc
  ahead_reached offset (Some i) ahead (inl stands) reached rest x e =
      elim (has_append_cases (successors_of instrs i) ahead x e) [
        | inl next ↦
            let same : i ≡ (offset, i.1) = ap (λ n. let y : ℕ × Instr = (n, i.1) in y) (found_here offset instrs i stands) in
            onward reached (ap (option_map (λ (y : ℕ × Instr). y.1)) stands) (Contains-from_has (successors_of instrs (offset, i.1)) x (ap (λ y. has (successors_of instrs y) x) (sym same) ∙ next))
        | inr more ↦ rest x more
      ]

  found_in : (offset : ℕ) (left : List (ℕ × Instr)) (found : Option (ℕ × Instr)) → placed_at left offset ≡ found → ((i : ℕ × Instr) → placed_at left offset ≡ Some i → placed_at instrs offset ≡ Some i) → placed_at instrs offset ≡ found ⊎ (found ≡ None)
  found_in offset left None is whole = inr refl
  found_in offset left (Some i) is whole = inl (whole i is)

  only_reached : (looks : ℕ) (left : List (ℕ × Instr)) (ahead : List ℕ) → ((offset : ℕ) (i : ℕ × Instr) → placed_at left offset ≡ Some i → placed_at instrs offset ≡ Some i) → ((x : ℕ) → has ahead x ≡ true → IsReached instrs x)
      → (x : ℕ) → has (visited (successors_of instrs) looks left ahead) x ≡ true → IsReached instrs x
  only_reached zero left ahead whole reached x e = absurd cc
  only_reached (suc looks) left [] whole reached x e = absurd cc
  only_reached (suc looks) left (offset ∷ ahead) whole reached x e =
      elim (has_cases offset x _ e) [
        | inl same ↦ subst (IsReached instrs) same (reached offset (or_left (offset == offset) (has ahead offset) (same_number offset)))
        | inr more ↦
            only_reached looks (without offset left) (option_map_or (successors_of instrs) (placed_at left offset) [] ++ ahead)
            (λ other i h. whole other i (in_whole offset other left i (offset == other) refl h))
            (ahead_reached offset (placed_at left offset) ahead (found_in offset left (placed_at left offset) refl (whole offset)) (reached offset (or_left (offset == offset) (has ahead offset) (same_number offset)))
            (λ y h. reached y (or_right (offset == y) (has ahead y) h)))
            x more
      ]

-- ---- all that paths lead to

-- as many looks as this are enough
room_by : (next : ℕ × Instr → List ℕ) (offset : ℕ) (j : ℕ × Instr) (rest : List (ℕ × Instr)) (b : Bool) → (j.0 == offset) ≡ b
    → length (option_map_or next (placed_at rest offset) []) + length (flat_map next (without offset rest)) ≤ length (flat_map next rest)
    → length (option_map_or next (cond b (Some j) (placed_at rest offset)) []) + length (flat_map next (cond (not b) (j ∷ without offset rest) (without offset rest))) ≤ length (flat_map next (j ∷ rest))
room_by next offset j rest true is e = rw length-append (omega arith)
room_by next offset j rest false is e = rw (length-append, length-append) (omega arith)

-- an instruction that is taken out leaves room for its successors
room : (next : ℕ × Instr → List ℕ) (offset : ℕ) (left : List (ℕ × Instr)) → length (option_map_or next (placed_at left offset) []) + length (flat_map next (without offset left)) ≤ length (flat_map next left)
room next offset [] = omega arith
room next offset (j ∷ rest) = room_by next offset j rest (j.0 == offset) refl (room next offset rest)

-- what is still to be looked at is visited, and so are the successors of what is
record AllVisited (next : ℕ × Instr → List ℕ) (left : List (ℕ × Instr)) (ahead found : List ℕ) : Type 0 where
  these : (x : ℕ) → has ahead x ≡ true → has found x ≡ true
  behind : (offset : ℕ) (i : ℕ × Instr) (x : ℕ) → has found offset ≡ true → placed_at left offset ≡ Some i → has (next i) x ≡ true → has found x ≡ true

behind_it : (next : ℕ × Instr → List ℕ) (offset other : ℕ) (left : List (ℕ × Instr)) (ahead found : List ℕ) (i : ℕ × Instr) (x : ℕ) (b : Bool) → (offset == other) ≡ b
    → AllVisited next (without offset left) (option_map_or next (placed_at left offset) [] ++ ahead) found → (b || has found other) ≡ true → placed_at left other ≡ Some i → has (next i) x ≡ true → has found x ≡ true
behind_it next offset other left ahead found i x true is all here stands e =
    let at : placed_at left offset ≡ Some i = ap (placed_at left) (eqb-true offset other is) ∙ stands in
    all.these x (has_append_left (option_map_or next (placed_at left offset) []) ahead x (ap (λ o. has (option_map_or next o []) x) at ∙ e))
behind_it next offset other left ahead found i x false is all here stands e =
    all.behind other i x here (still_there offset other left (eqb-false offset other is) ∙ stands) e

all_visited : (next : ℕ × Instr → List ℕ) (looks : ℕ) (left : List (ℕ × Instr)) (ahead : List ℕ) → length ahead + length (flat_map next left) ≤ looks → AllVisited next left ahead (visited next looks left ahead)
all_visited next zero left [] fits = record { these = λ x e. absurd cc; behind = λ offset i x e. absurd cc }
all_visited next zero left (offset ∷ ahead) fits = absurd (omega arith)
all_visited next (suc looks) left [] fits = record { these = λ x e. absurd cc; behind = λ offset i x e. absurd cc }
all_visited next (suc looks) left (offset ∷ ahead) fits =
    let more : List ℕ = option_map_or next (placed_at left offset) [] in
    let found : List ℕ = visited next looks (without offset left) (more ++ ahead) in
    let enough : length (more ++ ahead) + length (flat_map next (without offset left)) ≤ looks = omega (arith, room next offset left, length-append more ahead) in
    let all = all_visited next looks (without offset left) (more ++ ahead) enough in
    record {
      these = λ x e. elim (has_cases offset x ahead e) [
        | inl same ↦ or_left (offset == x) (has found x) (eq-eqb offset x same)
        | inr rest ↦ or_right (offset == x) (has found x) (all.these x (has_append_right more ahead x rest))
      ];
      behind = λ other i x here stands e. or_right (offset == x) (has found x) (behind_it next offset other left ahead found i x (offset == other) refl all here stands e);
    }

-- ---- both

pub placed_of : (instrs : List (ℕ × Instr)) (offset : ℕ) (i : Instr) → instr_in instrs offset ≡ Some i → placed_at instrs offset ≡ Some (offset, i)
placed_of instrs offset i e =
    let j = map_some (λ (j : ℕ × Instr). j.1) (placed_at instrs offset) i e in
    let here : j.0.0 ≡ offset = found_here offset instrs j.0 j.1 in
    let same : j.0 ≡ (offset, i) = ap (λ n. let y : ℕ × Instr = (n, j.0.1) in y) here ∙ ap (λ (k : Instr). let y : ℕ × Instr = (offset, k) in y) j.2 in
    j.1 ∙ ap (λ (y : ℕ × Instr). let o : Option (ℕ × Instr) = Some y in o) same

whole_visit : (instrs : List (ℕ × Instr)) → AllVisited (successors_of instrs) instrs (0 ∷ []) (reached_offsets instrs)
whole_visit instrs = all_visited (successors_of instrs) (enough_looks instrs) instrs (0 ∷ []) (omega arith)

pub found_from_path : (instrs : List (ℕ × Instr)) (offset : ℕ) → IsReached instrs offset → is_reached instrs offset ≡ true
found_from_path instrs _ start = (whole_visit instrs).these 0 refl
found_from_path instrs _ (onward {offset} {to} {i} before stands next) =
    (whole_visit instrs).behind offset (offset, i) to (found_from_path instrs offset before) (placed_of instrs offset i stands) (has-from_Contains (successors_of instrs (offset, i)) to next)

pub path_from_found : (instrs : List (ℕ × Instr)) (offset : ℕ) → is_reached instrs offset ≡ true → IsReached instrs offset
path_from_found instrs offset e =
    only_reached instrs (enough_looks instrs) instrs (0 ∷ []) (λ x i h. h)
    (λ x h. elim (has_cases 0 x [] h) [ inl same ↦ subst (IsReached instrs) same start | inr none ↦ absurd cc ]) offset e

-- ---- the instruction behind another

-- an instruction stands at the offset
pub record IsFound (instrs : List (ℕ × Instr)) (offset : ℕ) : Type 0 where
  pub at : ℕ × Instr
  pub found : placed_at instrs offset ≡ Some at

found_more : (i : ℕ × Instr) (rest : List (ℕ × Instr)) (offset : ℕ) (b : Bool) → (i.0 == offset) ≡ b → IsFound rest offset → IsFound (i ∷ rest) offset
found_more i rest offset true is found = record { at = i; found = ap (λ b. cond b (Some i) (placed_at rest offset)) is }
found_more i rest offset false is found = record { at = found.at; found = ap (λ b. cond b (Some i) (placed_at rest offset)) is ∙ found.found }

first_found : (rest : List (ℕ × Instr)) (offset : ℕ) → first_offset rest ≡ Some offset → IsFound rest offset
first_found [] offset e = absurd cc
first_found (i ∷ rest) offset e = record { at = i; found = ap (λ b. cond b (Some i) (placed_at rest offset)) (eq-eqb i.0 offset (some_is i.0 offset e)) }

after_by : (i : ℕ × Instr) (rest : List (ℕ × Instr)) (offset next : ℕ) (b : Bool) → (if b then first_offset rest else offset_after rest offset) ≡ Some next
    → (offset_after rest offset ≡ Some next → IsFound rest next) → IsFound (i ∷ rest) next
after_by i rest offset next true e behind = found_more i rest next (i.0 == next) refl (first_found rest next e)
after_by i rest offset next false e behind = found_more i rest next (i.0 == next) refl (behind e)

pub after_found : (instrs : List (ℕ × Instr)) (offset next : ℕ) → offset_after instrs offset ≡ Some next → IsFound instrs next
after_found [] offset next e = absurd cc
after_found (i ∷ rest) offset next e = after_by i rest offset next (i.0 == offset) e (after_found rest offset next)

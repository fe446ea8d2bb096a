-- When a query says no less than another: each fact of the other is matched, the first that fits.
use Rattle.std.specs.Prelude.{ℕ, ◌+◌, ◌==◌, ◌&&◌, ◌||◌, Bool, true, false, not, ℤ, List, [], ◌∷◌, Option, None, Some, slice_get, slice_set, if◌then◌else◌, map}
use Rattle.std.specs.List.{list_any, list_all}
use Rattle.std.specs.Option.{option_and_then, option_map, option_map_or}
use Rattle.std.specs.Ordering.{int_eq}
use Rattle.th_base.specs.declared.number.FieldId.{FieldId}
use Rattle.th_base.specs.declared.number.Reg.{Reg}
use Rattle.th_base.specs.IdSet.{has}
use Rattle.th_base.specs.Hierarchy.{first_some}
use Rattle.th_linear.specs.Forms.{Form}
use Rattle.th_pure.specs.Elimination.{same_relation}
use Rattle.th_query.specs.declared.query.Frame.{Frame}
use Rattle.th_query.specs.declared.query.Cell.{Cell}
use Rattle.th_query.specs.declared.query.Element.{Element}
use Rattle.th_query.specs.declared.query.Sym.{Sym}
use Rattle.th_query.specs.declared.query.Sym.TheVariants.{Ref, Int, Carry}
use Rattle.th_query.specs.declared.query.Query.{Query}
use Rattle.th_query.specs.Symbols.{symbol_at, sites_of, null_in}

-- ---- matchings

-- for each symbol of the weaker query the symbol of the stronger one that it is matched with, if any
abbrev pub same_kind : Option Sym → Option Sym → Bool
same_kind (Some (Ref null sites)) (Some (Ref flag others)) = true
same_kind (Some Int) (Some Int) = true
same_kind (Some Carry) (Some Carry) = true
same_kind _ _ = false

-- the symbol s of r, matched with this so far, is matched with t of q: newly where both are of one kind
abbrev pub matched_by : Query → Query → ℕ → ℕ → List (Option ℕ) → Option (Option ℕ) → Option (List (Option ℕ))
matched_by q r s t m None = None
matched_by q r s t m (Some None) =
    if same_kind (symbol_at q t) (symbol_at r s) then Some (slice_set m s (Some t)) else None
matched_by q r s t m (Some (Some u)) = if u == t then Some m else None

abbrev pub matched : Query → Query → ℕ × ℕ → List (Option ℕ) → Option (List (Option ℕ))
matched q r x m = matched_by q r x.0 x.1 m (slice_get m x.0)

-- one after the other
abbrev pub matched_in_turn : {X : Type 0} → (X → List (Option ℕ) → Option (List (Option ℕ))) → List X → List (Option ℕ) → Option (List (Option ℕ))
matched_in_turn match [] m = Some m
matched_in_turn match (x ∷ xs) m = option_and_then (matched_in_turn match xs) (match x m)

abbrev pub matched_all : Query → Query → List (ℕ × ℕ) → List (Option ℕ) → Option (List (Option ℕ))
matched_all q r pairs m = matched_in_turn (matched q r) pairs m

-- ---- facts

-- a register fact of r is matched with the fact of q that has its register
abbrev pub matched_register : Query → Query → List (Reg × ℕ) → Reg × ℕ → List (Option ℕ) → Option (List (Option ℕ))
matched_register q r facts x m =
    option_and_then (λ y. matched q r (x.1, y) m) (first_some (λ y. if y.0.0 == x.0.0 then Some y.1 else None) facts)

abbrev pub matched_frames : Query → Query → List Frame → List Frame → List (Option ℕ) → Option (List (Option ℕ))
matched_frames q r [] [] m = Some m
matched_frames q r [] (g ∷ gs) m = None
matched_frames q r (f ∷ fs) [] m = None
matched_frames q r (f ∷ fs) (g ∷ gs) m =
    if f.node.0 == g.node.0
    then option_and_then (matched_frames q r fs gs) (matched_in_turn (matched_register q r f.regs) g.regs m)
    else None

-- a fact of a static field of r with the fact of q that has its field
abbrev pub matched_static : Query → Query → FieldId × ℕ → List (Option ℕ) → Option (List (Option ℕ))
matched_static q r x m =
    option_and_then (λ y. matched q r (x.1, y) m) (first_some (λ y. if y.0.0 == x.0.0 then Some y.1 else None) q.statics)

-- a cell with the first of the same field that agrees with the matching so far
abbrev pub matched_cell : Query → Query → Cell → List (Option ℕ) → Option (List (Option ℕ))
matched_cell q r c m =
    first_some (λ d. if d.field.0 == c.field.0 then matched_all q r ((c.base, d.base) ∷ (c.value, d.value) ∷ []) m else None) q.cells

abbrev pub matched_element : Query → Query → Element → List (Option ℕ) → Option (List (Option ℕ))
matched_element q r e m = first_some (λ d. matched_all q r ((e.array, d.array) ∷ (e.value, d.value) ∷ []) m) q.elems

-- the variables of two lists of terms with the same coefficients, one by one
abbrev pub paired : List (ℕ × ℤ) → List (ℕ × ℤ) → Option (List (ℕ × ℕ))
paired [] [] = Some []
paired [] (u ∷ us) = None
paired (t ∷ ts) [] = None
paired (t ∷ ts) (u ∷ us) = if int_eq t.1 u.1 then option_map (λ pairs. (t.0, u.0) ∷ pairs) (paired ts us) else None

-- a linear fact with the first of the same relation, constant and coefficients that agrees
abbrev pub matched_with_fact : Query → Query → Form → Form → List (Option ℕ) → Option (List (Option ℕ))
matched_with_fact q r f g m =
    if same_relation g.rel f.rel && int_eq g.constant f.constant
    then option_and_then (λ pairs. matched_all q r pairs m) (paired f.coefs g.coefs)
    else None

abbrev pub matched_fact : Query → Query → Form → List (Option ℕ) → Option (List (Option ℕ))
matched_fact q r f m = first_some (λ g. matched_with_fact q r f g m) q.facts

-- the matching of r with q, where there is one: registers, static fields, cells, elements, linear facts
abbrev pub matching_of : Query → Query → Option (List (Option ℕ))
matching_of q r =
    option_and_then (matched_in_turn (matched_fact q r) r.facts)
    (option_and_then (matched_in_turn (matched_element q r) r.elems)
    (option_and_then (matched_in_turn (matched_cell q r) r.cells)
    (option_and_then (matched_in_turn (matched_static q r) r.statics)
    (matched_frames q r q.frames r.frames (map (λ x. None) r.syms)))))

-- ---- what symbols allow

-- the symbol t of q allows no more than s of r
abbrev pub is_narrower : Query → Query → ℕ → ℕ → Bool
is_narrower q r t s = list_all (has (sites_of r s)) (sites_of q t) && (not (null_in (symbol_at q t)) || null_in (symbol_at r s))

-- each matched symbol, from s on
abbrev pub are_narrower : Query → Query → ℕ → List (Option ℕ) → Bool
are_narrower q r s [] = true
are_narrower q r s (None ∷ ts) = are_narrower q r (s + 1) ts
are_narrower q r s (Some t ∷ ts) = is_narrower q r t s && are_narrower q r (s + 1) ts

-- no site is in both from-sets of q, and not both may be null
abbrev pub are_apart : Query → ℕ → ℕ → Bool
are_apart q s u = list_all (λ a. not (has (sites_of q u) a)) (sites_of q s) && not (null_in (symbol_at q s) && null_in (symbol_at q u))

abbrev pub has_difference : Query → ℕ → ℕ → Bool
has_difference q s u = list_any (λ d. ((d.0 == s) && (d.1 == u)) || ((d.0 == u) && (d.1 == s))) q.diffs

-- two symbols of q differ: by a difference, or by their from-sets
abbrev pub differ : Query → Option (Option ℕ) → Option (Option ℕ) → Bool
differ q (Some (Some s)) (Some (Some u)) = has_difference q s u || are_apart q s u
differ q _ _ = false

abbrev pub is_as_strong : Query → Query → List (Option ℕ) → Bool
is_as_strong q r m = are_narrower q r 0 m && list_all (λ d. differ q (slice_get m d.0) (slice_get m d.1)) r.diffs

-- all that r says, q says of the matched symbols
abbrev pub is_subsumed : Query → Query → Bool
is_subsumed q r = option_map_or (is_as_strong q r) (matching_of q r) false

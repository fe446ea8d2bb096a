-- Step 6 of the canonical form: symbols are numbered anew, in the order in which they are first
-- mentioned, and facts are kept by their keys.
use Rattle.std.specs.Prelude.{ℕ, zero, suc, ◌+◌, ◌==◌, nat_lt, nat_le, min, max, List, [], ◌∷◌, ◌++◌, length, map, slice_index_or, slice_get, if◌then◌else◌}
use Rattle.std.specs.List.{filter}
use Rattle.th_linear.specs.Gathered.{name_of, renamed_form}
use Rattle.th_query.specs.declared.query.Frame.{Frame}
use Rattle.th_query.specs.declared.query.Query.{Query}
use Rattle.th_query.specs.FromSets.{upto}
use Rattle.th_query.specs.Symbols.{register_symbols, static_symbols, is_left}
use Rattle.th_query.specs.Unified.{put_new, present, renamed, renamed_cell, renamed_element}

-- ---- sorting

-- before the first of a greater key
abbrev pub sorted_in : {X : Type 0} → (X → ℕ) → X → List X → List X
sorted_in key x [] = x ∷ []
sorted_in key x (y ∷ ys) = if nat_le (key x) (key y) then x ∷ y ∷ ys else y ∷ sorted_in key x ys

-- by the key, and what has one key as it stands
abbrev pub sorted_by : {X : Type 0} → (X → ℕ) → List X → List X
sorted_by key [] = []
sorted_by key (x ∷ xs) = sorted_in key x (sorted_by key xs)

abbrev pub sorted_frame : Frame → Frame
sorted_frame f = record { node = f.node; regs = sorted_by (λ x. x.0.0) f.regs }

-- registers of each frame by register, statics by field, cells by field
abbrev pub sorted_query : Query → Query
sorted_query q = record q {
  frames = map sorted_frame q.frames;
  statics = sorted_by (λ x. x.0.0) q.statics;
  cells = sorted_by (λ c. c.field.0) q.cells;
}

-- ---- the order of first mention

-- what a symbol leads to: the values of its cells by field, then of its elements in order
abbrev pub next_of : Query → ℕ → List ℕ
next_of q s = map (λ c. c.value) (filter (λ c. c.base == s) q.cells) ++ map (λ e. e.value) (filter (λ e. e.array == s) q.elems)

-- symbols put after others, but for those that are there
abbrev pub mentioned : List ℕ → List ℕ → List ℕ
mentioned order new = put_new (λ s u. s == u) order new

-- from the place k on, what each symbol leads to is mentioned; no more than n places
abbrev pub followed : Query → ℕ → ℕ → List ℕ → List ℕ
followed q zero k order = order
followed q (suc n) k order =
    if nat_lt k (length order) then followed q n (k + 1) (mentioned order (next_of q (slice_index_or order k 0))) else order

-- the symbols of registers by frame, and of static fields; what they lead to; then what is left
abbrev pub order_of : Query → List ℕ
order_of q =
    mentioned (followed q (length q.syms) 0 (mentioned [] (register_symbols q ++ static_symbols q)))
    (filter (is_left q) (upto (length q.syms)))

-- ---- the query with these numbers

-- the place of a number in a list; the list's length where it isn't there
abbrev pub place_in : List ℕ → ℕ → ℕ
place_in [] s = 0
place_in (x ∷ xs) s = if x == s then 0 else suc (place_in xs s)

-- the new number of each symbol
abbrev pub numbers_by : List ℕ → ℕ → List ℕ
numbers_by order n = map (place_in order) (upto n)

abbrev pub numbered_frame : List ℕ → Frame → Frame
numbered_frame names f = record { node = f.node; regs = map (renamed names) f.regs }

-- the lesser number first
abbrev pub numbered_pair : List ℕ → ℕ × ℕ → ℕ × ℕ
numbered_pair names d = (min (name_of names d.0) (name_of names d.1), max (name_of names d.0) (name_of names d.1))

abbrev pub numbered_by : List ℕ → List ℕ → Query → Query
numbered_by order names q = record {
  frames = map (numbered_frame names) q.frames;
  statics = map (renamed names) q.statics;
  cells = sorted_by (λ c. c.base) (map (renamed_cell names) q.cells);
  elems = map (renamed_element names) q.elems;
  syms = present (map (slice_get q.syms) order);
  diffs = map (numbered_pair names) q.diffs;
  facts = present (map (renamed_form names) q.facts);
}

-- cells are then by base and field
abbrev pub numbered : Query → Query
numbered q =
    let sorted = sorted_query q in
    let order = order_of sorted in
    numbered_by order (numbers_by order (length q.syms)) sorted

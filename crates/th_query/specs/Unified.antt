-- Step 1 of the canonical form: the symbols of two facts with one key become one.
use Rattle.std.specs.Prelude.{ℕ, ◌≡◌, ◌≤◌, ◌==◌, ◌&&◌, Bool, ◌+◌, List, [], ◌∷◌, ◌++◌, length, map, Option, None, Some, cond}
use Rattle.std.specs.List.{list_any, list_all, filter}
use Rattle.th_base.specs.declared.number.FieldId.{FieldId}
use Rattle.th_base.specs.declared.number.Reg.{Reg}
use Rattle.th_base.specs.IdSet.{has}
use Rattle.th_linear.specs.Gathered.{name_of, renamed_form}
use Rattle.th_ir.specs.Program.{Among}
use Rattle.th_ir.specs.WellFormed.{places_from}
use Rattle.th_query.specs.declared.query.Frame.{Frame}
use Rattle.th_query.specs.declared.query.Cell.{Cell}
use Rattle.th_query.specs.declared.query.Element.{Element}
use Rattle.th_query.specs.declared.query.Sym.{Sym}
use Rattle.th_query.specs.declared.query.Sym.TheVariants.{Ref, Int, Carry}
use Rattle.th_query.specs.declared.query.Query.{Query}
use Rattle.th_query.specs.Symbols.{symbol_at, sites_of, null_in}

-- ---- which symbols are one

-- two symbols stand for one value: the least equivalence that joins the symbols of two facts with one
-- key, which is a frame and a register, a static field, or a base and a field
pub data IsOne (q : Query) : ℕ → ℕ → Type 0 where
  itself : (s : ℕ) → IsOne q s s
  turned : (s t : ℕ) → IsOne q s t → IsOne q t s
  through : (s t u : ℕ) → IsOne q s t → IsOne q t u → IsOne q s u
  by_register : (f : Frame) (r : Reg) (s t : ℕ) → Among q.frames f → Among f.regs (r, s) → Among f.regs (r, t) → IsOne q s t
  by_static : (f : FieldId) (s t : ℕ) → Among q.statics (f, s) → Among q.statics (f, t) → IsOne q s t
  by_cell : (c d : Cell) → Among q.cells c → Among q.cells d → c.field ≡ d.field → IsOne q c.base d.base → IsOne q c.value d.value

-- the list names for each symbol the least of those that are one with it; a symbol past the list
-- stands for itself
pub record AreLeast (q : Query) (names : List ℕ) : Type 0 where
  pub count : length names ≡ length q.syms
  pub one : (s : ℕ) → IsOne q s (name_of names s)
  pub least : (s t : ℕ) → IsOne q s t → name_of names s ≤ t

-- ---- the query with these names

-- items put after others one by one, but for those that are like one that is there
abbrev pub put_new : {X : Type 0} → (X → X → Bool) → List X → List X → List X
put_new alike kept [] = kept
put_new alike kept (x ∷ xs) = put_new alike (cond (list_any (λ y. alike y x) kept) kept (kept ++ x ∷ [])) xs

-- of items that are alike the first
abbrev pub firsts : {X : Type 0} → (X → X → Bool) → List X → List X
firsts alike xs = put_new alike [] xs

-- the values that are there
abbrev pub present : {X : Type 0} → List (Option X) → List X
present [] = []
present (None ∷ xs) = present xs
present (Some x ∷ xs) = x ∷ present xs

abbrev pub renamed : {K : Type 0} → List ℕ → K × ℕ → K × ℕ
renamed names x = (x.0, name_of names x.1)

abbrev pub renamed_cell : List ℕ → Cell → Cell
renamed_cell names c = record { base = name_of names c.base; field = c.field; value = name_of names c.value }

abbrev pub renamed_element : List ℕ → Element → Element
renamed_element names e = record { array = name_of names e.array; value = name_of names e.value }

abbrev pub renamed_pair : List ℕ → ℕ × ℕ → ℕ × ℕ
renamed_pair names d = (name_of names d.0, name_of names d.1)

abbrev pub one_register : Reg × ℕ → Reg × ℕ → Bool
one_register x y = x.0.0 == y.0.0

abbrev pub one_static : FieldId × ℕ → FieldId × ℕ → Bool
one_static x y = x.0.0 == y.0.0

abbrev pub one_cell : Cell → Cell → Bool
one_cell c d = (c.base == d.base) && (c.field.0 == d.field.0)

abbrev pub unified_frame : List ℕ → Frame → Frame
unified_frame names f = record { node = f.node; regs = firsts one_register (map (renamed names) f.regs) }

-- the symbols that s stands for
abbrev pub class_of : List ℕ → ℕ → List ℕ
class_of names s = places_from (λ n. n == s) 0 names

-- a reference may be null where all that it stands for may, and has the sites that all of them have
abbrev pub common_symbol : List ℕ → Query → ℕ → Sym → Sym
common_symbol names q s (Ref null sites) =
    Ref (null && list_all (λ u. null_in (symbol_at q u)) (class_of names s))
    (filter (λ a. list_all (λ u. has (sites_of q u) a) (class_of names s)) sites)
common_symbol names q s Int = Int
common_symbol names q s Carry = Carry

abbrev pub common_symbols : List ℕ → Query → ℕ → List Sym → List Sym
common_symbols names q s [] = []
common_symbols names q s (x ∷ xs) = common_symbol names q s x ∷ common_symbols names q (s + 1) xs

-- the query with its symbols renamed, each key once, and each symbol narrowed by those that it stands
-- for; a linear fact in which a magnitude then reaches 2^62 goes
abbrev pub unified_by : List ℕ → Query → Query
unified_by names q = record {
  frames = map (unified_frame names) q.frames;
  statics = firsts one_static (map (renamed names) q.statics);
  cells = firsts one_cell (map (renamed_cell names) q.cells);
  elems = map (renamed_element names) q.elems;
  syms = common_symbols names q 0 q.syms;
  diffs = map (renamed_pair names) q.diffs;
  facts = present (map (renamed_form names) q.facts);
}

-- r is q with its symbols unified: the lesser number stays
pub record IsUnified (q r : Query) : Type 0 where
  pub names : List ℕ
  pub least : AreLeast q names
  pub is : r ≡ unified_by names q

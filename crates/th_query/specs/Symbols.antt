-- The symbols of a query: what names them, and what each may stand for.
use Rattle.std.specs.Prelude.{ℕ, ◌==◌, ◌||◌, Bool, true, false, not, List, [], ◌∷◌, ◌++◌, map, flat_map, Option, None, Some, slice_get}
use Rattle.std.specs.List.{list_any}
use Rattle.th_base.specs.IdSet.{has}
use Rattle.th_query.specs.declared.query.Cell.{Cell}
use Rattle.th_query.specs.declared.query.Element.{Element}
use Rattle.th_query.specs.declared.query.Slot.TheVariants.{Field, Elements}
use Rattle.th_query.specs.declared.query.Link.{Link}
use Rattle.th_query.specs.declared.query.Sym.{Sym}
use Rattle.th_query.specs.declared.query.Sym.TheVariants.{Ref, Int, Carry}
use Rattle.th_query.specs.declared.query.Query.{Query}

-- ---- what a query says of objects

abbrev pub cell_link : Cell → Link
cell_link c = record { base = c.base; slot = Field c.field; value = c.value }

abbrev pub element_link : Element → Link
element_link e = record { base = e.array; slot = Elements; value = e.value }

-- the cells, then the elements
abbrev pub links : Query → List Link
links q = map cell_link q.cells ++ map element_link q.elems

-- ---- what names symbols

abbrev pub register_symbols : Query → List ℕ
register_symbols q = flat_map (λ f. map (λ x. x.1) f.regs) q.frames

abbrev pub static_symbols : Query → List ℕ
static_symbols q = map (λ x. x.1) q.statics

abbrev pub link_symbols : Query → List ℕ
link_symbols q = flat_map (λ k. k.base ∷ k.value ∷ []) (links q)

-- a register, a static field, a cell or an element names the symbol
abbrev pub is_named : Query → ℕ → Bool
is_named q s = has (register_symbols q) s || (has (static_symbols q) s || has (link_symbols q) s)

-- a linear fact names the symbol
abbrev pub is_in_fact : Query → ℕ → Bool
is_in_fact q s = list_any (λ f. list_any (λ t. t.0 == s) f.coefs) q.facts

-- ---- what a symbol may stand for

abbrev pub symbol_at : Query → ℕ → Option Sym
symbol_at q s = slice_get q.syms s

-- the sites that a symbol's object may be from; none where it is a number
abbrev pub sites_in : Option Sym → List ℕ
sites_in None = []
sites_in (Some (Ref null sites)) = sites
sites_in (Some Int) = []
sites_in (Some Carry) = []

abbrev pub sites_of : Query → ℕ → List ℕ
sites_of q s = sites_in (symbol_at q s)

-- the symbol may be null
abbrev pub null_in : Option Sym → Bool
null_in None = false
null_in (Some (Ref null sites)) = null
null_in (Some Int) = false
null_in (Some Carry) = false

-- the symbol is a reference that can't be null
abbrev pub is_sure : Option Sym → Bool
is_sure None = false
is_sure (Some (Ref null sites)) = not null
is_sure (Some Int) = false
is_sure (Some Carry) = false

abbrev pub is_ref_symbol : Option Sym → Bool
is_ref_symbol None = false
is_ref_symbol (Some (Ref null sites)) = true
is_ref_symbol (Some Int) = false
is_ref_symbol (Some Carry) = false

abbrev pub is_int_symbol : Option Sym → Bool
is_int_symbol None = false
is_int_symbol (Some (Ref null sites)) = false
is_int_symbol (Some Int) = true
is_int_symbol (Some Carry) = false

-- an int or a carry
abbrev pub is_number_symbol : Option Sym → Bool
is_number_symbol None = false
is_number_symbol (Some (Ref null sites)) = false
is_number_symbol (Some Int) = true
is_number_symbol (Some Carry) = true

-- what counts of a query's symbols: references that are named, and numbers that are named or stand in
-- a linear fact
abbrev pub counts : Query → ℕ → Option Sym → Bool
counts q s None = false
counts q s (Some (Ref null sites)) = is_named q s
counts q s (Some Int) = is_named q s || is_in_fact q s
counts q s (Some Carry) = is_named q s || is_in_fact q s

abbrev pub is_left : Query → ℕ → Bool
is_left q s = counts q s (symbol_at q s)

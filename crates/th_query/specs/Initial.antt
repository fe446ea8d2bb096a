-- When a query may be met by the initial state, as far as it is looked for.
use Rattle.std.specs.Prelude.{ℕ, ◌==◌, ◌&&◌, Bool, true, false, not, ℤ, pos, neg_ℤ, List, [], ◌∷◌, ◌++◌, Option, None, Some, slice_set, if◌then◌else◌}
use Rattle.std.specs.List.{filter}
use Rattle.th_base.specs.Hierarchy.{first_some}
use Rattle.th_base.specs.declared.number.FieldId.{FieldId}
use Rattle.th_linear.specs.Forms.{Form}
use Rattle.th_linear.specs.declared.fact.Rel.TheVariants.{Eq}
use Rattle.th_ir.specs.declared.program.RegProgram.{RegProgram}
use Rattle.th_query.specs.declared.query.Sym.{Sym}
use Rattle.th_query.specs.declared.query.Sym.TheVariants.{Ref, Int, Carry}
use Rattle.th_query.specs.declared.query.Query.{Query}
use Rattle.th_query.specs.Symbols.{symbol_at}
use Rattle.th_query.specs.Contradiction.{is_contradiction_of}

-- the int that a static field holds from the start
abbrev pub int_constant : RegProgram → FieldId → Option ℤ
int_constant p f = first_some (λ i. if i.0.0 == f.0 then Some i.1 else None) p.ints

-- the site of the String constant that it holds from the start
abbrev pub string_constant : RegProgram → FieldId → Option ℕ
string_constant p f = first_some (λ i. if i.0.0 == f.0 then Some i.1.0 else None) p.strings

-- the symbol has the number: s - z = 0
abbrev pub number_fact : ℕ → ℤ → Form
number_fact s z = record { coefs = (s, pos 1) ∷ []; constant = neg_ℤ z; rel = Eq }

abbrev pub number_or : Option ℤ → ℤ
number_or None = pos 0
number_or (Some z) = z

-- the sites of the constant alone, and not null; without one only null
abbrev pub constant_symbol : Option ℕ → Bool → List ℕ → Sym
constant_symbol None null sites = Ref null []
constant_symbol (Some x) null sites = Ref false (filter (λ a. a == x) sites)

-- the symbol of a static field in the initial state: its constant, else 0 or null
abbrev pub with_value : RegProgram → FieldId → ℕ → Option Sym → Query → Query
with_value p f s None q = q
with_value p f s (Some (Ref null sites)) q = record q { syms = slice_set q.syms s (constant_symbol (string_constant p f) null sites) }
with_value p f s (Some Int) q = record q { facts = q.facts ++ number_fact s (number_or (int_constant p f)) ∷ [] }
with_value p f s (Some Carry) q = q

-- each static field with its value, in order
abbrev pub with_values : RegProgram → List (FieldId × ℕ) → Query → Query
with_values p [] q = q
with_values p (x ∷ xs) q = with_values p xs (with_value p x.0 x.1 (symbol_at q x.1) q)

abbrev pub is_none_listed : {X : Type 0} → List X → Bool
is_none_listed [] = true
is_none_listed (x ∷ xs) = false

-- the query is idle, says nothing of objects, and is no contradiction with the values of the start
abbrev pub admits_initial_of : RegProgram → Query → Bool
admits_initial_of p q =
    is_none_listed q.frames && (is_none_listed q.cells && (is_none_listed q.elems && not (is_contradiction_of (with_values p q.statics q))))

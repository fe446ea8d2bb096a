-- What the parts of a query name.
use Rattle.std.specs.Prelude.{ℕ, ◌≡◌, ◌<◌, ◌||◌, Bool, true, List, [], ◌∷◌, ◌++◌, length, map, flat_map}
use Rattle.th_base.specs.declared.number.FieldId.{FieldId}
use Rattle.th_base.specs.IdSet.{has}
use Rattle.th_query.specs.declared.query.Cell.{Cell}
use Rattle.th_query.specs.declared.query.Element.{Element}
use Rattle.th_query.specs.declared.query.Frame.{Frame}
use Rattle.th_query.specs.declared.query.Query.{Query}
use Rattle.th_query.specs.Symbols.{cell_link, element_link, is_named}

-- a register, a static field, a cell or an element of these names the symbol
abbrev pub named_in : List Frame → List (FieldId × ℕ) → List Cell → List Element → ℕ → Bool
named_in frames statics cells elems s =
    has (flat_map (λ f. map (λ x. x.1) f.regs) frames) s
    || (has (map (λ x. x.1) statics) s || has (flat_map (λ k. k.base ∷ k.value ∷ []) (map cell_link cells ++ map element_link elems)) s)

-- each symbol that the query names is one of its symbols
abbrev pub AreKnown : Query → Type 0
AreKnown q = (s : ℕ) → is_named q s ≡ true → s < length q.syms

-- A query has as many symbols once its static fields have their values.
use Rattle.std.proofs.Common.{◌≡◌, ◌∙◌, ℕ, List, [], ◌∷◌, length, slice_set, Option, None, Some, refl}
use Rattle.std.proofs.lemmas.List.{length-set}
use Rattle.th_base.specs.declared.number.FieldId.{FieldId}
use Rattle.th_ir.specs.declared.program.RegProgram.{RegProgram}
use Rattle.th_query.specs.declared.query.Sym.{Sym}
use Rattle.th_query.specs.declared.query.Sym.TheVariants.{Ref, Int, Carry}
use Rattle.th_query.specs.declared.query.Query.{Query}
use Rattle.th_query.specs.Initial.{constant_symbol, string_constant, with_value, with_values}
use Rattle.th_query.specs.Symbols.{symbol_at}

pub as_many_with_one : (p : RegProgram) (f : FieldId) (s : ℕ) (o : Option Sym) (q : Query) → length (with_value p f s o q).syms ≡ length q.syms
as_many_with_one p f s None q = refl
as_many_with_one p f s (Some (Ref null sites)) q = length-set q.syms s (constant_symbol (string_constant p f) null sites)
as_many_with_one p f s (Some Int) q = refl
as_many_with_one p f s (Some Carry) q = refl

pub as_many_with_all : (p : RegProgram) (xs : List (FieldId × ℕ)) (q : Query) → length (with_values p xs q).syms ≡ length q.syms
as_many_with_all p [] q = refl
as_many_with_all p (x ∷ xs) q =
    as_many_with_all p xs (with_value p x.0 x.1 (symbol_at q x.1) q) ∙ as_many_with_one p x.0 x.1 (symbol_at q x.1) q

-- What well-formed queries have: symbols of the kinds of their places.
use Rattle.std.proofs.Common.{◌≡◌, inl, inr, ℕ, Bool, true, false, cond, List, map, Option, None, Some, refl, sym, subst}
use Rattle.std.proofs.lemmas.Bool.{both_ways}
use Rattle.th_base.specs.declared.class.ClassInfo.{ClassInfo}
use Rattle.th_linear.specs.Forms.{Form}
use Rattle.th_linear.specs.Laws.{IsFact}
use Rattle.th_ir.specs.declared.program.RegProgram.{RegProgram}
use Rattle.th_ir.specs.Program.{Among, is_ref}
use Rattle.th_ir.specs.Fields.{is_ref_field}
use Rattle.th_ir.specs.FactSets.{FactSets}
use Rattle.th_query.specs.declared.query.Link.{Link}
use Rattle.th_query.specs.declared.query.Sym.{Sym}
use Rattle.th_query.specs.declared.query.Query.{Query}
use Rattle.th_query.specs.Symbols.{cell_link, element_link, links, is_named, symbol_at, is_ref_symbol, is_int_symbol}
use Rattle.th_query.specs.WellFormed.{IsRef, IsQueryOf}
use Rattle.th_query.proofs.InLists.{among_unmap, among_either}
use Rattle.th_query.proofs.Naming.{Names, by_register, by_static, by_base, by_value, names_of}

-- each symbol that a query names is there
abbrev pub AreThere : Query → Type 0
AreThere q = (s : ℕ) → is_named q s ≡ true → (x : Sym) × (symbol_at q s ≡ Some x)

abbrev pub AreFacts : Query → Type 0
AreFacts q = (f : Form) → Among q.facts f → IsFact f

ref_there : (o : Option Sym) → is_ref_symbol o ≡ true → (x : Sym) × (o ≡ Some x)
ref_there None e = absurd (both_ways _ refl e)
ref_there (Some x) e = (x, refl)

int_there : (o : Option Sym) → is_int_symbol o ≡ true → (x : Sym) × (o ≡ Some x)
int_there None e = absurd (both_ways _ refl e)
int_there (Some x) e = (x, refl)

fits_there : (o : Option Sym) (ref : Bool) → cond ref (is_ref_symbol o) (is_int_symbol o) ≡ true → (x : Sym) × (o ≡ Some x)
fits_there o true e = ref_there o e
fits_there o false e = int_there o e

-- the base of a link is a reference, and its value is there
link_there : (h : List ClassInfo) (p : RegProgram) (t : FactSets) (q : Query) → IsQueryOf h p t q → (k : Link) → Among (links q) k → IsRef q k.base × ((x : Sym) × (symbol_at q k.value ≡ Some x))
link_there h p t q f k a = elim (among_either k (map cell_link q.cells) (map element_link q.elems) a) [
  | inl left ↦
      let c = among_unmap cell_link k q.cells left in
      let is = f.cells c.0 c.1 in
      subst (λ (j : Link). IsRef q j.base × ((x : Sym) × (symbol_at q j.value ≡ Some x))) (sym c.2) (is.base, fits_there (symbol_at q c.0.value) (is_ref_field h c.0.field.0) is.kind)
  | inr right ↦
      let e = among_unmap element_link k q.elems right in
      subst (λ (j : Link). IsRef q j.base × ((x : Sym) × (symbol_at q j.value ≡ Some x))) (sym e.2) (f.arrays e.0 e.1, ref_there (symbol_at q e.0.value) (f.elements e.0 e.1))
]

pub are_there : (h : List ClassInfo) (p : RegProgram) (t : FactSets) (q : Query) → IsQueryOf h p t q → AreThere q
are_there h p t q f s n = go s (names_of q s n)
  where
    go : (s : ℕ) → Names q s → (x : Sym) × (symbol_at q s ≡ Some x)
    go _ (by_register g x a b) = fits_there (symbol_at q x.1) (is_ref p x.0.0) ((f.frames g a).kinds x b)
    go _ (by_static x a) = fits_there (symbol_at q x.1) (is_ref_field h x.0.0) (f.statics x a).kind
    go _ (by_base k a) = ref_there (symbol_at q k.base) (link_there h p t q f k a).0
    go _ (by_value k a) = (link_there h p t q f k a).1

pub are_facts : (h : List ClassInfo) (p : RegProgram) (t : FactSets) (q : Query) → IsQueryOf h p t q → AreFacts q
are_facts h p t q f g a = (f.facts g a).form

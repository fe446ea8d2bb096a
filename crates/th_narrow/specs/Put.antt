-- Sites put in the place of a symbol's.
use Rattle.std.specs.Prelude.{ℕ, zero, suc, ◌≡◌, ◌==◌, List, [], ◌∷◌, slice_get, if◌then◌else◌}
use Rattle.th_query.specs.declared.query.Sym.{Sym}
use Rattle.th_query.specs.declared.query.Sym.TheVariants.{Ref, Int, Carry}
use Rattle.th_query.specs.Symbols.{sites_in}

-- the symbol with these sites, where it is a reference
abbrev pub with_list : List ℕ → Sym → Sym
with_list new (Ref null sites) = Ref null new
with_list new Int = Int
with_list new Carry = Carry

-- the symbol at the place with these sites; nothing past the list
abbrev pub put_at : ℕ → List ℕ → List Sym → List Sym
put_at zero new [] = []
put_at (suc s) new [] = []
put_at zero new (x ∷ xs) = with_list new x ∷ xs
put_at (suc s) new (x ∷ xs) = x ∷ put_at s new xs

-- the sites of a symbol are lent while another's are narrowed: it is left without, where the two aren't one
pub record IsLent (s u : ℕ) (old new : List Sym) (set : List ℕ) : Type 0 where
  pub sites : set ≡ sites_in (slice_get old s)
  pub rest : new ≡ (if s == u then old else put_at s [] old)

-- and are given back
abbrev pub given_back : ℕ → ℕ → List ℕ → List Sym → List Sym
given_back s u set xs = if s == u then xs else put_at s set xs

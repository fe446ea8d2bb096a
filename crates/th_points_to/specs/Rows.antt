-- Rows of numbers, each found by a number.
use Rattle.std.specs.Prelude.{ℕ, ◌≡◌, ◌<◌, ◌+◌, ◌==◌, nat_lt, List, [], ◌∷◌, ◌++◌, length, map, filter, Option, None, Some, slice_set, option_to_list, if◌then◌else◌}
use Rattle.std.specs.Option.{option_map}
use Rattle.th_incl.specs.Least.{set_at}
use Rattle.th_ir.specs.declared.program.Node.{Node}
use Rattle.th_ir.specs.declared.program.Site.{Site}
use Rattle.th_ir.specs.declared.stmt.Stmt.{Stmt}
use Rattle.th_ir.specs.declared.stmt.Stmt.TheVariants.{Return}
use Rattle.th_ir.specs.Sites.{launched_at}
use Rattle.th_points_to.specs.Asked.{base_of}

-- the second numbers of the pairs whose first is this
abbrev pub row_of : ℕ → List (ℕ × ℕ) → List ℕ
row_of k pairs = map (λ pair. pair.1) (filter (λ pair. pair.0 == k) pairs)

pub record AreRows (count : ℕ) (pairs : List (ℕ × ℕ)) (rows : List (List ℕ)) : Type 0 where
  pub len : length rows ≡ count
  pub row : (k : ℕ) → k < count → set_at rows k ≡ row_of k pairs

-- a pair more
abbrev pub with_pair : List (List ℕ) → Option (ℕ × ℕ) → List (List ℕ)
with_pair rows None = rows
with_pair rows (Some pair) = if nat_lt pair.0 (length rows) then slice_set rows pair.0 (set_at rows pair.0 ++ pair.1 ∷ []) else rows

-- the pairs that items give with their places, counted from a number on
abbrev pub pairs_from : {A : Type 0} → (ℕ → A → Option (ℕ × ℕ)) → ℕ → List A → List (ℕ × ℕ)
pairs_from f i [] = []
pairs_from f i (x ∷ xs) = option_to_list (f i x) ++ pairs_from f (i + 1) xs

-- the method of a node, with the node
abbrev pub standing : ℕ → Node → Option (ℕ × ℕ)
standing n node = Some (node.method.0, n)

-- the base of a node, with the node
abbrev pub based : ℕ → Node → Option (ℕ × ℕ)
based n node = option_map (λ r. (r.0, n)) (base_of node.stmt)

abbrev pub result_of : Stmt → Option ℕ
result_of (Return (Some src)) = Some src.0
result_of (Return None) = None
result_of _ = None

-- the method of a node with the register that it returns
abbrev pub returned_by : ℕ → Node → Option (ℕ × ℕ)
returned_by n node = option_map (λ r. (node.method.0, r)) (result_of node.stmt)

-- the class whose launches make the objects of a site, with the site
abbrev pub launched_by : ℕ → Site → Option (ℕ × ℕ)
launched_by n site = option_map (λ c. (c, n)) (launched_at site.place)

-- The texts of a pool stand where its entries do.
use Rattle.std.proofs.Common.{◌≡◌, ℕ, zero, suc, List, [], ◌∷◌, refl, ap, ◌∙◌}
use Rattle.std.specs.Prelude.{Option, slice_get}
use Rattle.std.specs.Option.{option_flatten}
use Rattle.th_syntax.specs.ClassBytes.{Pool}
use Rattle.th_syntax.specs.PoolChecks.{utf8_of}
use Rattle.th_pool.specs.Texts.{texts_in}

in_place : (pool : Pool) (i : ℕ) → option_flatten (slice_get (texts_in pool) i) ≡ utf8_of pool i
in_place [] i = refl
in_place (slot ∷ pool) zero = refl
in_place (slot ∷ pool) (suc i) = in_place pool i

pub text_found : (texts : List (Option (List ℕ))) (pool : Pool) (i : ℕ) → texts ≡ texts_in pool → option_flatten (slice_get texts i) ≡ utf8_of pool i
text_found texts pool i e = ap (λ (ts : List (Option (List ℕ))). option_flatten (slice_get ts i)) e ∙ in_place pool i

pub ruleset texts_found = (text_found)

-- The opening state has the counted facts.
use Rattle.th_edge_table.specs.declared.state.TheConstants.{PARTS}
use Rattle.std.proofs.Common.{◌≡◌, ℕ, zero, suc, [], ◌∷◌, replicate, sym, refl, ap, subst, arith}
use mathlib.Core.Option.{some, some-injective, some-ne-none}
use lib.ListN.{get_elem?}
use Rattle.th_edge_table.specs.declared.word.Word.{Word}
use Rattle.th_edge_table.specs.declared.word.Word.TheVariants.{Free}
use Rattle.th_edge_table.specs.declared.state.CoreSeat.{CoreSeat}
use Rattle.th_edge_table.specs.Core.{newcomer, opening, word_at}
use Rattle.th_edge_table.proofs.Counts.{claims, decides, Own, Counted}

free_at : (n e : ℕ) → word_at (replicate n Free) e ≡ Free
free_at zero e = refl
free_at (suc n) zero = refl
free_at (suc n) (suc e) = free_at n e

pub opens : (w : ℕ → Word) → ((e : ℕ) → w e ≡ Free) → Counted w PARTS (newcomer PARTS ∷ [])
opens w free = record {
  claimed = λ e. sym (ap claims (free e.0));
  decided = λ e. sym (ap decides (free e.0));
  each = λ i v h. own i v h.0;
  parts = refl;
}
  where
    first : Own w (newcomer PARTS)
    first = record {
      done = λ e d h. absurd (omega (arith, h.1));
      seen = λ e x h. absurd (omega (arith, h.1));
      taken = λ e. omega arith;
      lengths = λ e k h. absurd (omega (arith, h.1));
      part = omega arith;
    }

    own : (i : ℕ) (v : CoreSeat) → get_elem? (newcomer PARTS ∷ []) i ≡ some v → Own w v
    own zero v h = subst (Own w) (some-injective _ _ h) first
    own (suc i) v h = absurd (some-ne-none v (sym h))

pub opened : (n : ℕ) → Counted (word_at (opening n).words) PARTS (opening n).seats
opened n = opens (word_at (replicate n Free)) (free_at n)

use Rattle.std.proofs.Common.{◌≡◌, ℕ, zero, suc, Bool, false, List, [], ◌∷◌, ◌++◌, get_or, refl, sym, ◌∙◌}
use Rattle.th_incl.proofs.grown.add_flags.Goals as goal

-- past the end of a list there is no flag, so one more that is false changes nothing
one_more : (flags : List Bool) (k : ℕ) → get_or (flags ++ false ∷ []) k false ≡ get_or flags k false
one_more [] zero = refl
one_more [] (suc k) = refl
one_more (f ∷ fs) zero = refl
one_more (f ∷ fs) (suc k) = one_more fs k

pub loop-preserved : goal.loop-preserved
loop-preserved c = λ k on. c.loop.invariant k (sym (one_more c.loop.flags.items k) ∙ (rw c.in_ok-push.ensures.items at on))

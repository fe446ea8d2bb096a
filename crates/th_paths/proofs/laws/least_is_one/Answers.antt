use Rattle.std.proofs.Common.{inl, inr, sym}
use Rattle.th_paths.proofs.Orders.{before_itself, before_trans}
use Rattle.th_paths.proofs.laws.least_is_one.Goals as goal

pub returns : goal.returns
returns c = λ edges f start cut p q one two.
    elim (one.least q two.way) [
      | inl same ↦ sym same
      | inr less ↦ elim (two.least p one.way) [ inl same ↦ same | inr more ↦ absurd (before_itself p (before_trans p q p less more)) ]
    ]

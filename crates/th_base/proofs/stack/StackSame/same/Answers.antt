use Rattle.std.proofs.Common.{◌≡◌, List, reverse, sym, ap, ◌∙◌}
use Rattle.std.proofs.lemmas.List.{reverse-reverse}
use Rattle.th_base.proofs.stack.StackSame.same.Goals as goal

unreversed : {X : Type 0} (xs ys : List X) → reverse xs ≡ reverse ys → xs ≡ ys
unreversed xs ys e = sym (reverse-reverse xs) ∙ ap reverse e ∙ reverse-reverse ys

pub returns : goal.returns
returns g c = (
  (λ t. sym c.self.view_is ∙ ap reverse (c.same.ensures.0 t) ∙ c.other.view_is),
  (λ e. c.same.ensures.1 (unreversed _ _ (c.self.view_is ∙ e ∙ sym c.other.view_is))),
)

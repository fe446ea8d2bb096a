use Rattle.std.proofs.Common.{inl, inr, [], ◌∷◌, refl, sym, subst, ◌∙◌}
use Rattle.std.specs.Prelude.{nat_eq}
use Rattle.std.specs.List.{Contains}
use Rattle.std.proofs.lemmas.Bool.{eqb-true}
use Rattle.std.proofs.lemmas.List.Elements.{Contains-push_cases}
use Rattle.indexmap.proofs.CallerLemmas.{Contains-insert_key}
use Rattle.th_points_to.proofs.Adding.{adds_reached, key_cases, nothing_after}
use Rattle.th_points_to.proofs.found.reach.Goals as goal

pub returns : goal.returns
returns c = λ p.
    let old = c.args.found.now.reached.keys in
    let new = c.insert.new.self.keys in
    let m = c.args.method.0 in
    let cases = key_cases nat_eq old new m c.in_ok-insert.ensures.keys in
    adds_reached c.args.layout p c.args.found.now _ m c.requires refl refl refl
    (elim cases [ inl same ↦ ([], same ∙ nothing_after old) | inr is ↦ (m ∷ [], is) ])
    (subst (λ l. Contains l m) (sym c.in_ok-insert.ensures.keys) (Contains-insert_key nat_eq (λ x y e. eqb-true x y e) old m))
    (λ k one. elim cases [
      | inl same ↦ inl (subst (λ l. Contains l k) same one)
      | inr is ↦ Contains-push_cases old m k (subst (λ l. Contains l k) is one)
    ])

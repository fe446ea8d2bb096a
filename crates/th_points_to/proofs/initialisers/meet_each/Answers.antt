use Rattle.std.proofs.Common.{◌≡◌, ◌⊎◌, inl, inr, ◌+◌, ℕ, List, [], ◌∷◌, ◌++◌, Bool, true, false, get_or, take, ap, subst, arith, ◌∙◌}
use Rattle.std.specs.Prelude.{nat_eq, ◌||◌}
use Rattle.std.specs.List.{Contains}
use Rattle.std.proofs.lemmas.Bool.{eq-eqb}
use Rattle.std.proofs.lemmas.List.{take_more}
use Rattle.std.proofs.lemmas.List.Elements.{Contains-push_cases}
use Rattle.th_base.specs.IdSet.{has}
use Rattle.th_base.proofs.Membership.{has_append_left, has_append_right}
use Rattle.th_points_to.proofs.Above.{whole_take}
use Rattle.th_points_to.proofs.Adding.{key_cases}
use Rattle.th_points_to.proofs.initialisers.meet_each.Goals as goal

pub loop-class-init : goal.loop-class-init
loop-class-init c = λ k one. inl one

pub loop-class-preserved : goal.loop-class-preserved
loop-class-preserved c = λ k one.
    let classes = c.args.classes.now in
    let i = c.loop-class.class-index in
    let m = get_or classes i 0 in
    let more : take (i + 1) classes ≡ take i classes ++ m ∷ [] = take_more classes i 0 c.loop-class-test.true in
    let before : Contains c.loop-class.met.keys k → Contains c.args.met.now.keys k ⊎ (has (take (i + 1) classes) k ≡ true) =
    λ old. elim (c.loop-class.invariant k old) [
      | inl first ↦ inl first
      | inr walked ↦ inr (ap (λ l. has l k) more ∙ has_append_left (take i classes) (m ∷ []) k walked)
    ] in
    elim (key_cases nat_eq c.loop-class.met.keys c.insert.new.self.keys m c.in_ok-insert.ensures.keys) [
      | inl same ↦ before (subst (λ (ks : List ℕ). Contains ks k) same one)
      | inr is ↦ elim (Contains-push_cases c.loop-class.met.keys m k (subst (λ (ks : List ℕ). Contains ks k) is one)) [
        | inl old ↦ before old
        | inr here ↦ inr (ap (λ l. has l k) more ∙ has_append_right (take i classes) (m ∷ []) k (ap (λ (b : Bool). b || false) (eq-eqb m k here)))
      ]
    ]

pub returns : goal.returns
returns c = λ k one.
    subst (λ (l : List ℕ). Contains c.args.met.now.keys k ⊎ (has l k ≡ true)) (whole_take c.args.classes.now c.loop-class.class-index (omega (arith, c.loop-class-test.false))) (c.loop-class.invariant k one)

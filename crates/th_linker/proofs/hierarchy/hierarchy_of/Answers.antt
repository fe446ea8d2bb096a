use Rattle.std.proofs.Common.{◌≡◌, ℕ, Option, Some, None, sym, subst, ◌∙◌}
use Rattle.std.specs.Prelude.{IfSome, IfNone}
use Rattle.th_base.specs.declared.cycle.Cycle.{Cycle}
use Rattle.th_base.specs.Cycles.{IsFirstCycle}
use Rattle.th_base.specs.Hierarchy.{IsAcyclic, StandsAbove}
use Rattle.th_linker.proofs.Known.{few_infos, acyclic_infos}
use Rattle.th_linker.proofs.hierarchy.hierarchy_of.Goals as goal

pub first_cycle-requires : goal.first_cycle-requires
first_cycle-requires c = few_infos c.args.classes.now c.as_slice.result.now (c.as_slice.ensures.value ∙ c.in_ok-infos.ensures) c.requires

pub new-requires-clause-acyclic : goal.new-requires-clause-acyclic
new-requires-clause-acyclic c =
    let none = subst (λ (o : Option Cycle). IfNone o ((k : ℕ) → StandsAbove c.as_slice.result.now k k → ⊥)) c.in-None.is c.in_ok-cycle.ensures.none in
    subst IsAcyclic (sym c.in_ok-infos.ensures) (acyclic_infos c.args.classes.now c.as_slice.result.now (c.as_slice.ensures.value ∙ c.in_ok-infos.ensures) none)

pub new-requires-clause-few : goal.new-requires-clause-few
new-requires-clause-few c = few_infos c.args.classes.now c.in_ok-infos.infos.items c.in_ok-infos.ensures c.requires

pub returns-in_ok-refusal_of_cycle-in-Some-clause-refused : goal.returns-in_ok-refusal_of_cycle-in-Some-clause-refused
returns-in_ok-refusal_of_cycle-in-Some-clause-refused c =
    let k = c.in-Some.cycle in
    let some = subst (λ (o : Option Cycle). IfSome o (λ x. IsFirstCycle c.as_slice.result.now x.class.0 x.supertype.0)) c.in-Some.is c.in_ok-cycle.ensures.some in
    let cycle = subst (λ h. IsFirstCycle h k.class.0 k.supertype.0) (c.as_slice.ensures.value ∙ c.in_ok-infos.ensures) some in
    (k.class.0, k.supertype.0, cycle, c.in_ok-refusal_of_cycle-in-Some.ensures)

pub returns-in_ok-new-in-None-clause-acyclic : goal.returns-in_ok-new-in-None-clause-acyclic
returns-in_ok-new-in-None-clause-acyclic c =
    let none = subst (λ (o : Option Cycle). IfNone o ((k : ℕ) → StandsAbove c.as_slice.result.now k k → ⊥)) c.in-None.is c.in_ok-cycle.ensures.none in
    acyclic_infos c.args.classes.now c.as_slice.result.now (c.as_slice.ensures.value ∙ c.in_ok-infos.ensures) none

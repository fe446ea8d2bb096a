use Rattle.std.proofs.Common.{rules, ◌≡◌, Some, None, slice_get, subst}
use Rattle.std.proofs.lemmas.Bool.{both_ways}
use Rattle.th_ir.specs.declared.program.Node.{Node}
use Rattle.th_ir.proofs.Plain.{same_found}
use Rattle.th_points_to.specs.Opening.{AsksOnAll, IsOpen, MeetsAt}
use Rattle.th_points_to.proofs.Adding.{adds_as, adds_none}
use Rattle.th_points_to.proofs.opening.meet_at.Goals as goal

pub ask_sites-requires-clause-node : goal.ask_sites-requires-clause-node
ask_sites-requires-clause-node c = search rules

pub returns-then-not-is_open-clause-adds : goal.returns-then-not-is_open-clause-adds
returns-then-not-is_open-clause-adds c = λ are go.
    let h = c.args.hierarchy.now in
    let l = c.args.layout in
    let p = c.args.program.now in
    let n = c.args.number in
    let node : Node = c.in-Some.node.now in
    let found : slice_get p.nodes n ≡ Some node = search rules in
    adds_none l p c.args.found.now (λ t. MeetsAt h l p c.args.entered.now c.args.sites.now t n) c.requires.laid
    (λ t range other at is.
    (let same : other ≡ node = same_found (slice_get p.nodes n) other node at found in
    absurd (both_ways _ c.if-not-is_open.true (c.is_open.ensures.1 (subst (λ (m : Node). IsOpen c.args.entered.now m.method.0) same is)))))

pub returns-in_ok-ask_sites-in-Some-clause-adds : goal.returns-in_ok-ask_sites-in-Some-clause-adds
returns-in_ok-ask_sites-in-Some-clause-adds c = λ are go.
    let h = c.args.hierarchy.now in
    let l = c.args.layout in
    let p = c.args.program.now in
    let n = c.args.number in
    let node : Node = c.in-Some.node.now in
    let found : slice_get p.nodes n ≡ Some node = search rules in
    adds_as l p c.args.found.now c.ask_sites.new.found (λ t. AsksOnAll h l p t n node.stmt c.args.sites.now) (λ t. MeetsAt h l p c.args.entered.now c.args.sites.now t n)
    (λ t meets. meets node found (c.is_open.ensures.0 c.if-not-is_open.false))
    (λ t range all other at is. subst (λ (m : Node). AsksOnAll h l p t n m.stmt c.args.sites.now) (same_found (slice_get p.nodes n) node other found at) all)
    (c.in_ok-ask_sites-in-Some.ensures.adds are go)

pub returns-in-None-clause-adds : goal.returns-in-None-clause-adds
returns-in-None-clause-adds c = λ are go.
    let p = c.args.program.now in
    let none : slice_get p.nodes c.args.number ≡ None = search rules in
    adds_none c.args.layout p c.args.found.now (λ t. MeetsAt c.args.hierarchy.now c.args.layout p c.args.entered.now c.args.sites.now t c.args.number) c.requires.laid (λ t range node at. absurd cc)

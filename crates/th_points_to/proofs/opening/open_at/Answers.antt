use Rattle.std.proofs.Common.{rules, ◌≡◌, Some, None, slice_get, subst}
use Rattle.th_ir.specs.declared.program.Node.{Node}
use Rattle.th_ir.proofs.Plain.{same_found}
use Rattle.th_points_to.specs.Opening.{Opens, OpensAt}
use Rattle.th_points_to.proofs.Adding.{adds_as, adds_none}
use Rattle.th_points_to.proofs.opening.open_at.Goals as goal

pub open_node-requires-clause-node : goal.open_node-requires-clause-node
open_node-requires-clause-node c = search rules

pub returns-in_ok-open_node-in-Some-clause-adds : goal.returns-in_ok-open_node-in-Some-clause-adds
returns-in_ok-open_node-in-Some-clause-adds c = λ are go inits.
    let h = c.args.hierarchy.now in
    let l = c.args.layout in
    let p = c.args.program.now in
    let n = c.args.number in
    let node : Node = c.in-Some.node.now in
    let found : slice_get p.nodes n ≡ Some node = search rules in
    adds_as l p c.args.found.now c.open_node.new.found (λ t. Opens h l p c.args.handled.now t n node.stmt) (λ t. OpensAt h l p c.args.handled.now t n)
    (λ t opens. opens node found)
    (λ t range opens other at. subst (λ (m : Node). Opens h l p c.args.handled.now t n m.stmt) (same_found (slice_get p.nodes n) node other found at) opens)
    (c.in_ok-open_node-in-Some.ensures.adds are go inits)

pub returns-in-None-clause-adds : goal.returns-in-None-clause-adds
returns-in-None-clause-adds c = λ are go inits.
    let p = c.args.program.now in
    let none : slice_get p.nodes c.args.number ≡ None = search rules in
    adds_none c.args.layout p c.args.found.now (λ t. OpensAt c.args.hierarchy.now c.args.layout p c.args.handled.now t c.args.number) c.requires.laid (λ t range node at. absurd cc)

pub returns-in_ok-open_node-in-Some-clause-inits : goal.returns-in_ok-open_node-in-Some-clause-inits
returns-in_ok-open_node-in-Some-clause-inits c = λ are go inits. c.in_ok-open_node-in-Some.ensures.inits are go inits

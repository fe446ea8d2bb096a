use Rattle.std.proofs.Common.{sym, ap, ◌∙◌, ◌++◌, map}
use Rattle.std.specs.Prelude.{filter}
use Rattle.std.proofs.lemmas.List.{append-nil, take_all}
use Rattle.th_base.specs.IdSet.{has}
use Rattle.th_coarse.proofs.Growing.{passes, passed_over}
use Rattle.th_coarse.proofs.reached.add_reached.Goals as goal
use Rattle.th_coarse.proofs.reached.add_reached.Goals.{then-contains+in_ok-push, else-contains}

pub loop-placed-init : goal.loop-placed-init
loop-placed-init c = sym (append-nil (map (λ i. i.now) c.args.instrs.now.items))

pub loop-placed-preserved : goal.loop-placed-preserved
loop-placed-preserved c =
    elim c.if-contains.branch [
      | then-contains+in_ok-push w ↦ rw w.instrs-is
          (passes (λ i. i.now) (λ i. i.1) (λ i. has c.args.reached.now i.0) c.args.code.now c.loop-placed.placed-index c.placed-item.result (map (λ i. i.now) c.args.instrs.now.items)
          c.loop-placed.instrs.items w.push.new.self.items _ c.loop-placed-test.true c.loop-placed.invariant
          (ap (λ x. has c.args.reached.now x.0) (sym c.placed-item.is) ∙ sym c.contains.ensures ∙ w.if-contains.true) (ap (λ x. x.1) c.placed-item.is) w.in_ok-push.ensures.items)
      | else-contains w ↦ rw w.instrs-is
          (passed_over (λ i. i.now) (λ i. i.1) (λ i. has c.args.reached.now i.0) c.args.code.now c.loop-placed.placed-index c.placed-item.result (map (λ i. i.now) c.args.instrs.now.items)
          c.loop-placed.instrs.items c.loop-placed-test.true c.loop-placed.invariant
          (ap (λ x. has c.args.reached.now x.0) (sym c.placed-item.is) ∙ sym c.contains.ensures ∙ w.if-contains.false))
    ]

pub returns : goal.returns
returns c =
    c.loop-placed.invariant
    ∙ ap (λ xs. map (λ i. i.now) c.args.instrs.now.items ++ map (λ i. i.1) (filter (λ i. has c.args.reached.now i.0) xs)) (take_all c.loop-placed.placed-index c.args.code.now c.loop-placed-test.false)

use Rattle.std.proofs.Common.{sym, ap, ◌∙◌, map}
use Rattle.std.specs.Prelude.{filter_map}
use Rattle.std.proofs.lemmas.List.{take_all}
use Rattle.th_coarse.specs.Coarse.{created_class}
use Rattle.th_coarse.proofs.Growing.{finds, finds_none}
use Rattle.th_coarse.proofs.made.created_classes.Goals as goal
use Rattle.th_coarse.proofs.made.created_classes.Goals.{in-Some+in_ok-push, in_default}

pub loop-instr-preserved : goal.loop-instr-preserved
loop-instr-preserved c =
    elim c.match-created_class.branch [
      | in-Some+in_ok-push w ↦ rw w.numbers-is
          (finds (λ i. i.now) (created_class c.args.program.now) c.args.instrs.now c.loop-instr.instr-index c.instr-item.result c.loop-instr.numbers.items w.push.new.self.items _
          c.loop-instr-test.true c.loop-instr.invariant (ap (λ i. created_class c.args.program.now i.now) (sym c.instr-item.is) ∙ sym c.created_class.ensures ∙ w.in-Some.is) w.in_ok-push.ensures.items)
      | in_default w ↦ rw w.numbers-is
          (finds_none (λ i. i.now) (created_class c.args.program.now) c.args.instrs.now c.loop-instr.instr-index c.instr-item.result c.loop-instr.numbers.items
          c.loop-instr-test.true c.loop-instr.invariant (ap (λ i. created_class c.args.program.now i.now) (sym c.instr-item.is) ∙ sym c.created_class.ensures ∙ w.in_default.is))
    ]

pub returns : goal.returns
returns c = c.loop-instr.invariant ∙ ap (λ xs. filter_map (created_class c.args.program.now) (map (λ i. i.now) xs)) (take_all c.loop-instr.instr-index c.args.instrs.now c.loop-instr-test.false)

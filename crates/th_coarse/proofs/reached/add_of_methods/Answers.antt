use Rattle.std.proofs.Common.{sym, ap, ◌∙◌, ◌++◌, map}
use Rattle.std.specs.Prelude.{flat_map}
use Rattle.std.proofs.lemmas.List.{append-nil, take_all}
use Rattle.th_coarse.specs.Coarse.{reached_in}
use Rattle.th_coarse.proofs.Growing.{given_on}
use Rattle.th_coarse.proofs.reached.add_of_methods.Goals as goal

pub loop-method-init : goal.loop-method-init
loop-method-init c = sym (append-nil (map (λ i. i.now) c.args.instrs.now.items))

pub loop-method-preserved : goal.loop-method-preserved
loop-method-preserved c =
    given_on reached_in c.args.methods.now c.loop-method.method-index c.method-item.result (map (λ i. i.now) c.args.instrs.now.items) (map (λ i. i.now) c.loop-method.instrs.items)
    (map (λ i. i.now) c.add_of_method.new.instrs.items) c.loop-method-test.true c.loop-method.invariant
    (c.in_ok-add_of_method.ensures ∙ ap (λ m. map (λ i. i.now) c.loop-method.instrs.items ++ reached_in m) c.method-item.is)

pub returns : goal.returns
returns c =
    c.loop-method.invariant ∙ ap (λ xs. map (λ i. i.now) c.args.instrs.now.items ++ flat_map reached_in xs) (take_all c.loop-method.method-index c.args.methods.now c.loop-method-test.false)

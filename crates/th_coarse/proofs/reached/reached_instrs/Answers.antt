use Rattle.std.proofs.Common.{[], ap, ◌∙◌, ◌++◌, map}
use Rattle.std.specs.Prelude.{flat_map}
use Rattle.std.proofs.lemmas.List.{take_all}
use Rattle.th_coarse.specs.Coarse.{reached_in, reached_instrs}
use Rattle.th_coarse.proofs.Growing.{given_on}
use Rattle.th_coarse.proofs.reached.reached_instrs.Goals as goal

pub loop-file-preserved : goal.loop-file-preserved
loop-file-preserved c =
    given_on (λ f. flat_map reached_in f.methods) c.args.files.now c.loop-file.file-index c.file-item.result [] (map (λ i. i.now) c.loop-file.instrs.items)
    (map (λ i. i.now) c.add_of_methods.new.instrs.items) c.loop-file-test.true c.loop-file.invariant
    (c.in_ok-add_of_methods.ensures ∙ ap (λ ms. map (λ i. i.now) c.loop-file.instrs.items ++ flat_map reached_in ms) c.as_slice.ensures
    ∙ ap (λ f. map (λ i. i.now) c.loop-file.instrs.items ++ flat_map reached_in f.methods) c.file-item.is)

pub returns : goal.returns
returns c = c.loop-file.invariant ∙ ap reached_instrs (take_all c.loop-file.file-index c.args.files.now c.loop-file-test.false)

use Rattle.std.proofs.Common.{refl, sym, ap, ◌∙◌, ◌++◌, map}
use Rattle.std.specs.Option.{option_copied}
use Rattle.std.proofs.lemmas.Result.{on_ok_weaker}
use Rattle.th_machine.specs.Reaching.{pair_of}
use Rattle.th_machine.proofs.Joinings.{held_added, none_added}
use Rattle.th_machine.proofs.reached.add_joined.Goals as goal

pub returns-in_ok-classes-in-Some : goal.returns-in_ok-classes-in-Some
returns-in_ok-classes-in-Some c =
    on_ok_weaker c.add_pairs.result (λ grown.
    held_added c.args.program.now c.args.state.now c.args.field.0 c.in-Some.value.now c.args.pairs.now.items c.add_pairs.new.pairs.items c.in_ok-classes-in-Some.classes.items
    c.hierarchy.result.now c.as_slice-heap.result.now (sym c.get.ensures.value ∙ ap option_copied c.in-Some.is) c.hierarchy.ensures c.as_slice-heap.ensures
    c.in_ok-classes-in-Some.ensures (grown ∙ ap (λ cs. c.args.pairs.now.items ++ map (pair_of c.args.field.0) cs) c.as_slice.ensures.value)
    ) c.add_pairs.ensures

pub returns-in-None : goal.returns-in-None
returns-in-None c =
    none_added c.args.program.now c.args.state.now c.args.field.0 c.args.pairs.now.items c.args.pairs.now.items (sym c.get.ensures.value ∙ ap option_copied c.in-None.is) refl

use Rattle.std.proofs.Common.{ap, ◌∙◌, ◌&&◌, map}
use Rattle.std.specs.BTreeSet.{contains}
use Rattle.std.specs.Ordering.{nat_cmp}
use Rattle.std.specs.Prelude.{filter, flat_map}
use Rattle.std.proofs.lemmas.List.{take_all}
use Rattle.th_coarse.specs.Coarse.{is_static_reference}
use Rattle.th_coarse.proofs.Growing.{passing_each}
use Rattle.th_coarse.proofs.fields.fields_in.Goals as goal

pub returns : goal.returns
returns c =
    c.loop-class.invariant
    ∙ ap (flat_map (λ k. map (λ f. f.id.0) (filter (λ f. is_static_reference f && contains nat_cmp c.args.stored.now f.id.0) k.fields))) (take_all c.loop-class.class-index c.args.classes.now c.loop-class-test.false)
    ∙ passing_each (λ f. f.id.0) (λ f. is_static_reference f && contains nat_cmp c.args.stored.now f.id.0) (λ k. k.fields) c.args.classes.now

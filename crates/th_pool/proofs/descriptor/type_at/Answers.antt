use Rattle.std.proofs.Common.{◌∙◌, ℕ, List, drop, sym, ap}
use Rattle.std.specs.Option.{option_map}
use Rattle.th_syntax.specs.Descriptors as types
use Rattle.th_pool.specs.Types.{summed}
use Rattle.th_pool.proofs.Spelling.{type_some}
use Rattle.th_pool.proofs.descriptor.type_at.Goals as goal

pub returns : goal.returns
returns c =
    let n = c.dimensions_at-dimensions.result in
    rw c.array_of.ensures
    (sym (type_some n c.args.bytes.now (drop n c.args.bytes.now) c.in_ok-element.element c.in_ok-element.rest.now c.dimensions_at-dimensions.ensures.element
    (c.in_ok-element.ensures ∙ ap (λ (bs : List ℕ). option_map summed (types.element_at bs)) c.split_at.ensures.back)))

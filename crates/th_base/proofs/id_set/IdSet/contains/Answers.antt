use Rattle.std.proofs.Common.{◌∙◌, ap}
use Rattle.th_base.specs.IdSet.{has}
use Rattle.th_base.proofs.Ascending.{found, is_ok_found}
use Rattle.th_base.proofs.id_set.IdSet.contains.Goals as goal

pub returns : goal.returns
returns c =
    let ascending = rw (← c.as_slice.ensures.value) at c.self.invariant in
    let place = found c.as_slice.result.now c.args.id c.binary_search.result c.binary_search.ensures.position ascending in
    c.is_ok.ensures.value ∙ is_ok_found c.as_slice.result.now c.args.id c.binary_search.result place
    ∙ ap (λ xs. has xs c.args.id) (c.as_slice.ensures.value ∙ c.self.view_is)

use Rattle.std.proofs.Common.{rules}
use Rattle.std.proofs.lemmas.Fn.{filter_same}
use Rattle.th_narrow.proofs.narrowing.owned.Goals as goal

pub returns : goal.returns
returns c numbers = filter_same _ _ _ (λ x b f k. search rules) _ _ c.keep.ensures

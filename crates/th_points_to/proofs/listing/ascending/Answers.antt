use Rattle.std.proofs.Common.{◌≡◌, ℕ, List, subst}
use Rattle.std.specs.BTreeSet.{IsFromIterResult}
use Rattle.std.proofs.lemmas.Result.{IfOk-weaker}
use Rattle.th_points_to.specs.Listing.{AreAscendingPairs, pair_cmp}
use Rattle.th_points_to.proofs.PairOrder.{in_order}
use Rattle.th_points_to.proofs.listing.ascending.Goals as goal

pub returns : goal.returns
returns c =
    let keys : List (ℕ × ℕ) = c.args.pairs.now.keys in
    let ordered = c.in_ok-ordered.ordered in
    let made : IsFromIterResult pair_cmp keys ordered = subst (λ (l : List (ℕ × ℕ)). IsFromIterResult pair_cmp l ordered) c.as_slice.ensures.keys c.in_ok-ordered.ensures in
    IfOk-weaker c.pairs_in.result (λ list. list.items ≡ ordered.keys) (λ list. AreAscendingPairs keys list.items) (λ list e. in_order keys ordered list.items made e) c.pairs_in.ensures

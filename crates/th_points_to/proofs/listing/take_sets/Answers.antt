use Rattle.std.proofs.Common.{◌≡◌, ◌<◌, ◌+◌, ℕ, List, [], ◌∷◌, ◌++◌, length, take, drop, sym, ap, arith, ◌∙◌}
use Rattle.std.proofs.lemmas.List.{length-set}
use Rattle.th_incl.specs.Least.{set_at}
use Rattle.th_points_to.proofs.ListingLemmas.{take_next, left_next}
use Rattle.th_points_to.proofs.listing.take_sets.Goals as goal

pub take_set-requires : goal.take_set-requires
take_set-requires c = omega (arith, c.loop-at-test.true, c.requires, c.loop-at.invariant.len)

pub loop-at-preserved : goal.loop-at-preserved
loop-at-preserved c =
    let v = c.loop-at.invariant in
    let old : List (List ℕ) = c.args.sets.now in
    let at = c.loop-at.at in
    let first = c.args.first in
    let less : first + at < length old = omega (arith, c.loop-at-test.true, c.requires) in
    let is : c.take_set.result ≡ set_at old (first + at) = c.take_set.ensures.taken ∙ v.left (first + at) (omega arith) in
    record {
      within = omega (arith, c.loop-at-test.true);
      taken = c.in_ok-push.ensures.ok ∙ ap (λ (l : List (List ℕ)). l ++ c.take_set.result ∷ []) v.taken ∙ sym (take_next first at old c.take_set.result less is);
      left = λ k past. left_next old c.loop-at.sets c.take_set.new.sets (first + at) v.left c.take_set.ensures.left k (omega (arith, past));
      len = ap length c.take_set.ensures.left ∙ length-set c.loop-at.sets (first + at) [] ∙ v.len;
    }

pub returns-clause-taken : goal.returns-clause-taken
returns-clause-taken c =
    let same : c.loop-at.at ≡ c.args.count = omega (arith, c.loop-at.invariant.within, c.loop-at-test.false) in
    c.loop-at.invariant.taken ∙ ap (λ (n : ℕ). take n (drop c.args.first c.args.sets.now)) same

pub returns-clause-left : goal.returns-clause-left
returns-clause-left c = λ k past. c.loop-at.invariant.left k (omega (arith, past, c.loop-at.invariant.within))

pub returns-clause-len : goal.returns-clause-len
returns-clause-len c = c.loop-at.invariant.len

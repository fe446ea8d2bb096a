use Rattle.std.proofs.Common.{◌≡◌, ◌<◌, ◌+◌, ℕ, List, [], ◌++◌, length, take, drop, sym, ap, arith, ◌∙◌}
use Rattle.std.proofs.lemmas.List.{length-set}
use Rattle.th_base.specs.declared.number.SiteId.{SiteId}
use Rattle.th_incl.specs.Least.{set_at}
use Rattle.th_points_to.specs.Listing.{elements_from, with_set}
use Rattle.th_points_to.proofs.ListingLemmas.{elements_push, length_drop, length_take, take_next, left_next}
use Rattle.th_points_to.proofs.listing.take_elements.Goals as goal

pub take_set-set-requires : goal.take_set-set-requires
take_set-set-requires c = omega (arith, c.loop-at-test.true, c.requires.within, c.loop-at.invariant.len)

pub loop-at-preserved : goal.loop-at-preserved
loop-at-preserved c =
    let v = c.loop-at.invariant in
    let old : List (List ℕ) = c.args.sets.now in
    let at = c.loop-at.at in
    let first = c.args.first in
    let less : first + at < length old = omega (arith, c.loop-at-test.true, c.requires.within) in
    let rest = length_drop first old (omega (arith, less)) in
    let is : c.take_set-set.result ≡ set_at old (first + at) = c.take_set-set.ensures.taken ∙ v.left (first + at) (omega arith) in
    let before : List (List ℕ) = take at (drop first old) in
    let count : at ≡ 0 + length before = omega (arith, length_take at (drop first old) (omega (arith, rest, less))) in
    record {
      within = omega (arith, c.loop-at-test.true);
      taken =
          c.in_ok-push_elements.ensures ∙ ap (λ (l : List (SiteId × List ℕ)). l ++ with_set (λ xs. (let s : SiteId = record { 0 = at } in s, xs)) c.take_set-set.result) v.taken
          ∙ ap (λ (n : ℕ). elements_from 0 before ++ with_set (λ xs. (let s : SiteId = record { 0 = n } in s, xs)) c.take_set-set.result) count
          ∙ sym (ap (elements_from 0) (take_next first at old c.take_set-set.result less is) ∙ elements_push 0 before c.take_set-set.result);
      left = λ k past. left_next old c.loop-at.sets c.take_set-set.new.sets (first + at) v.left c.take_set-set.ensures.left k (omega (arith, past));
      len = ap length c.take_set-set.ensures.left ∙ length-set c.loop-at.sets (first + at) [] ∙ v.len;
    }

pub returns-clause-taken : goal.returns-clause-taken
returns-clause-taken c =
    let same : c.loop-at.at ≡ c.args.count = omega (arith, c.loop-at.invariant.within, c.loop-at-test.false) in
    c.loop-at.invariant.taken ∙ ap (λ (n : ℕ). elements_from 0 (take n (drop c.args.first c.args.sets.now))) same

pub returns-clause-left : goal.returns-clause-left
returns-clause-left c = λ k past. c.loop-at.invariant.left k (omega (arith, past, c.loop-at.invariant.within))

pub returns-clause-len : goal.returns-clause-len
returns-clause-len c = c.loop-at.invariant.len

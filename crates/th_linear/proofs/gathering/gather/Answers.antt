use Rattle.std.proofs.Common.{◌∙◌, ℕ, ℤ, rules}
use Rattle.std.proofs.lemmas.List.Sorted.{All-permutation, IsNonDecreasingBy-from_sort_by_key}
use Rattle.th_linear.specs.Forms.{Small}
use Rattle.th_linear.proofs.Totals.{gathered_permuted, all_small_terms}
use Rattle.th_linear.proofs.gathering.gather.Goals as goal

pub add_up-requires-clause-small : goal.add_up-requires-clause-small
add_up-requires-clause-small c =
    All-permutation (λ (t : ℕ × ℤ). Small t.1) c.args.terms.items c.sort_unstable_by_key.new.self.items c.sort_unstable_by_key.ensures.permutation (all_small_terms c.args.terms.items c.requires)

pub add_up-requires-clause-ascending : goal.add_up-requires-clause-ascending
add_up-requires-clause-ascending c =
    IsNonDecreasingBy-from_sort_by_key (λ (t : ℕ × ℤ). t.0) _ c.sort_unstable_by_key.ensures.sorted (λ a r q k. search rules)

pub returns : goal.returns
returns c =
    c.add_up.ensures ∙ gathered_permuted c.args.terms.items c.sort_unstable_by_key.new.self.items c.sort_unstable_by_key.ensures.permutation

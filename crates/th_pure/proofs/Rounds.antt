-- One round, and then the others.
use Rattle.std.proofs.Common.{◌≡◌, ℕ, zero, suc, ◌-◌, ◌<◌, List, arith, ap, sym, ◌∙◌, Some}
use Rattle.th_linear.specs.Forms.{Form}
use Rattle.th_pure.specs.declared.range.Range.{Range}
use Rattle.th_pure.specs.declared.facts.Outcome.{Outcome}
use Rattle.th_pure.specs.Outcomes.{and_then}
use Rattle.th_pure.specs.Substitution.{Choice, choice_of, range_facts, taken_out, round_of, rounds, rounds_by}
use Rattle.th_pure.specs.Division.{divided_all}
use Rattle.std.specs.List.{remove}
use Rattle.std.specs.Prelude.{slice_index_or, ◌++◌}

pub one_round : (n : ℕ) (ranges : List Range) (fs : List Form) (c : Choice) → 0 < n → choice_of fs ≡ Some c
    → rounds n ranges fs ≡ and_then (round_of ranges c) (λ gs. rounds (n - 1) ranges gs)
one_round zero ranges fs c some e = absurd (omega arith)
one_round (suc n) ranges fs c some e =
    let less : n ≡ suc n - 1 = omega arith in
    ap (λ o. rounds_by ranges fs o (λ gs. rounds n ranges gs)) e ∙ ap (λ k. and_then (round_of ranges c) (λ gs. rounds k ranges gs)) less

-- one round as the code makes it: the equation removed, the range's facts put last
pub round_made : (n at v : ℕ) (ranges : List Range) (fs gs hs : List Form) (by : Form) (o : Outcome) → 0 < n
    → choice_of fs ≡ Some (record { by = slice_index_or fs at by; variable = v; others = remove fs at })
    → by ≡ slice_index_or fs at by → gs ≡ remove fs at → hs ≡ gs ++ range_facts ranges v → o ≡ and_then (taken_out by v hs) divided_all
    → rounds n ranges fs ≡ and_then o (λ ks. rounds (n - 1) ranges ks)
round_made n at v ranges fs gs hs by o some choice is rest all e =
    let c : Choice = record { by = by; variable = v; others = remove fs at } in
    let chosen : choice_of fs ≡ Some c = choice ∙ ap (λ (f : Form). Some (record { by = f; variable = v; others = remove fs at })) (sym is) in
    let made : round_of ranges c ≡ o = ap (λ ks. and_then (taken_out by v ks) divided_all) (sym (all ∙ ap (λ ks. ks ++ range_facts ranges v) rest)) ∙ sym e in
    one_round n ranges fs c some chosen ∙ ap (λ x. and_then x (λ ks. rounds (n - 1) ranges ks)) made

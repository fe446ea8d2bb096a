use Rattle.std.proofs.Common.{subst}
use Rattle.th_pure.specs.Early.{AreOpen}
use Rattle.th_pure.proofs.Parts.{uppers_are, lowers_are, others_are}
use Rattle.th_pure.proofs.Stopping.{eliminated_from}
use Rattle.th_pure.proofs.elimination.eliminate.Goals as goal

pub add_all-requires-clause-uppers : goal.add_all-requires-clause-uppers
add_all-requires-clause-uppers c = rw (c.as_slice-uppers.ensures, c.in_ok-parts.ensures.uppers) (uppers_are c.args.variable c.args.facts c.requires)

pub add_all-requires-clause-lowers : goal.add_all-requires-clause-lowers
add_all-requires-clause-lowers c = rw (c.as_slice-lowers.ensures, c.in_ok-parts.ensures.lowers) (lowers_are c.args.variable c.args.facts c.requires)

pub returns-in-TooLarge-clause-value : goal.returns-in-TooLarge-clause-value
returns-in-TooLarge-clause-value c =
    let all = rw (c.as_slice-uppers.ensures, c.as_slice-lowers.ensures, c.in_ok-parts.ensures.uppers, c.in_ok-parts.ensures.lowers) at c.in_ok-end.ensures.value in
    let kept = rw c.in_ok-parts.ensures.without at c.in_ok-kept.ensures.value in
    let after = eliminated_from c.args.variable c.args.facts c.in_ok-kept.kept c.in_ok-end.end kept all in
    rw c.in-TooLarge.is at after

pub returns-in-FoundFalse-clause-value : goal.returns-in-FoundFalse-clause-value
returns-in-FoundFalse-clause-value c =
    let all = rw (c.as_slice-uppers.ensures, c.as_slice-lowers.ensures, c.in_ok-parts.ensures.uppers, c.in_ok-parts.ensures.lowers) at c.in_ok-end.ensures.value in
    let kept = rw c.in_ok-parts.ensures.without at c.in_ok-kept.ensures.value in
    let after = eliminated_from c.args.variable c.args.facts c.in_ok-kept.kept c.in_ok-end.end kept all in
    rw c.in-FoundFalse.is at after

pub returns-clause-value : goal.returns-clause-value
returns-clause-value c =
    let all = rw (c.as_slice-uppers.ensures, c.as_slice-lowers.ensures, c.in_ok-parts.ensures.uppers, c.in_ok-parts.ensures.lowers) at c.in_ok-end.ensures.value in
    let kept = rw c.in_ok-parts.ensures.without at c.in_ok-kept.ensures.value in
    let after = eliminated_from c.args.variable c.args.facts c.in_ok-kept.kept c.in_ok-end.end kept all in
    rw c.into_list.ensures (rw c.in-Open.is at after)

pub returns-clause-inequalities : goal.returns-clause-inequalities
returns-clause-inequalities c =
    let others = rw (← c.in_ok-parts.ensures.without) at (others_are c.args.variable c.args.facts c.requires) in
    rw c.into_list.ensures (subst AreOpen c.in-Open.is (c.in_ok-end.ensures.inequalities (c.in_ok-kept.ensures.inequalities others)))

use Rattle.std.proofs.Common.{◌≡◌, ◌++◌}
use Rattle.th_accept.specs.Answers.{first_error, values_before}
use Rattle.th_accept.proofs.answers.gather.Given as goal

-- what is left of the answers has their first error, and its values come behind those so far
abbrev pub invariant-loop-answer : goal.invariant-loop-answer
invariant-loop-answer g l =
    record {
      first : first_error l.answer-iterator.rest.items ≡ first_error l.fn.answers.items;
      values : l.values.items ++ values_before l.answer-iterator.rest.items ≡ values_before l.fn.answers.items;
    }

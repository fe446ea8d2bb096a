use Rattle.th_accept.proofs.Once.{Laws, one_program, one_refusal, not_both}
use Rattle.th_accept.proofs.laws.one_outcome.Goals as goal

pub returns : goal.returns
returns c =
    let laws : Laws = record {
      one_value = c.one_reading.ensures.one_value;
      one_flaw = c.one_reading.ensures.one_flaw;
      value_or_flaw = c.one_reading.ensures.not_both;
      one_linking = c.one_first_refusal.ensures;
      linked_or_refused = c.linked_are_not_refused.ensures;
      kinds_or_conflict = c.one_outcome.ensures.apart;
      one_conflict = c.one_outcome.ensures.conflict;
    } in
    record { program = one_program laws; refusal = one_refusal laws; not_both = not_both laws }

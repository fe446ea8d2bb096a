use Rattle.th_top.proofs.Once.{same_outcome}
use Rattle.th_top.proofs.laws.one_outcome.Goals as goal

pub returns : goal.returns
returns c =
    let scripts = c.one_scripted_input.ensures in
    same_outcome (record { one = c.one_input.ensures.one; not_both = c.one_input.ensures.not_both; one_end = c.one_input.ensures.one_end })
    (record { one_script = scripts.one_script; one = scripts.one; not_both = scripts.not_both; one_end = scripts.one_end })
    (record { accepted = c.one_outcome.ensures.program; refused = c.one_outcome.ensures.refusal; not_both = c.one_outcome.ensures.not_both })
    c.one_script_run.ensures

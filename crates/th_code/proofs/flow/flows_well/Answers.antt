use Rattle.std.proofs.Common.{◌∙◌, List, ap, ℕ}
use Rattle.std.specs.Prelude.{ℤ}
use Rattle.std.specs.List.{list_all}
use Rattle.th_code.specs.Starts.{is_marked}
use Rattle.th_code.proofs.Leading.{all_ways, a_way_off}
use Rattle.th_code.proofs.flow.flows_well.Goals as goal

pub returns-then-lead_to_starts : goal.returns-then-lead_to_starts
returns-then-lead_to_starts c =
    let test = is_marked c.args.starts.now in
    rw c.in-LookupSwitch.is
    (all_ways test c.in-LookupSwitch.pairs c.in-LookupSwitch.other c.lead_to_starts.result _
    (c.lead_to_starts.ensures ∙ ap (λ (ps : List (ℤ × ℕ)). list_all (λ pair. is_marked c.args.starts.now pair.1) ps) c.as_slice-in-LookupSwitch.ensures) c.if-lead_to_starts.true c.is_start-then-lead_to_starts.ensures)

pub returns-else-lead_to_starts : goal.returns-else-lead_to_starts
returns-else-lead_to_starts c =
    let test = is_marked c.args.starts.now in
    rw (c.in-LookupSwitch.is, c.if-lead_to_starts.false)
    (a_way_off test c.in-LookupSwitch.pairs c.in-LookupSwitch.other c.lead_to_starts.result
    (c.lead_to_starts.ensures ∙ ap (λ (ps : List (ℤ × ℕ)). list_all (λ pair. is_marked c.args.starts.now pair.1) ps) c.as_slice-in-LookupSwitch.ensures) c.if-lead_to_starts.false)

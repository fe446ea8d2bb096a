use Rattle.std.proofs.Common.{sym, ◌∙◌}
use Rattle.th_ir.proofs.HarnessKinds.{kind_stands, kind_told, kind_none}
use Rattle.th_ir.proofs.harness.harness_kind.Goals as goal

pub returns : goal.returns
returns c =
    let is = c.kind_of_number.ensures in
    let p = c.args.program.now in
    let m = c.args.method.0 in
    record {
      exact = λ h kind wf. (λ e. kind_told h p m kind wf (sym is ∙ e), λ k. is ∙ kind_stands h p m kind wf k);
      none = λ h wf. let n = kind_none h p m wf in (λ e. n.0 (sym is ∙ e), λ own. is ∙ n.1 own);
    }

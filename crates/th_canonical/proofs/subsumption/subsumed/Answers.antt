use Rattle.std.proofs.Common.{◌∙◌, sym}
use Rattle.th_canonical.proofs.Pairing.{frames_differ}
use Rattle.th_canonical.proofs.subsumption.subsumed.Goals as goal

pub returns-then-len : goal.returns-then-len
returns-then-len c = sym (frames_differ c.args.query.now c.args.by.now (λ e. c.if-len.true (c.len.ensures ∙ e ∙ sym c.len-2.ensures)))

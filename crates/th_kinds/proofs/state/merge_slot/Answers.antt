use Rattle.std.proofs.Common.{◌∙◌}
use Rattle.std.proofs.lemmas.Bool.{false≢true}
use Rattle.th_kinds.proofs.Fronts.{room_set}
use Rattle.th_kinds.proofs.state.merge_slot.Goals as goal

pub returns-clause-less : goal.returns-clause-less
returns-clause-less c e =
    let k = c.merged_kind-kind.ensures in
    rw k (room_set c.args.at c.args.known.now c.args.brought _ c.requires (λ h. false≢true (c.if-same.ensures.1 (k ∙ h))))

use Rattle.std.proofs.Common.{pos, get_or, rules}
use Rattle.std.specs.Int.{w128}
use Rattle.std.specs.Int.RustNames.{FitsSigned}
use Rattle.std.proofs.lemmas.Int.{to_z-of_z}
use Rattle.th_pure.proofs.Turned.{small_at}
use Rattle.th_pure.proofs.bounds.turned_terms.Goals as goal

pub turned-requires : goal.turned-requires
turned-requires c =
    let t = get_or c.args.terms.now c.loop-term.term-index (0, pos 0) in
    let f : FitsSigned w128 t.1 = search rules in
    rw (to_z-of_z w128 t.1 f) (small_at 0 c.loop-term.term-index c.args.terms.now (0, pos 0) c.requires c.loop-term-test.true)

use Rattle.std.proofs.Common.{sym}
use Rattle.th_pool.proofs.Spelling.{class_some}
use Rattle.th_pool.proofs.descriptor.element_at.Goals as goal

pub returns-then-letter-eq76 : goal.returns-then-letter-eq76
returns-then-letter-eq76 c =
    sym (class_some c.args.bytes.now c.in_ok-letter.letter c.in_ok-letter.rest.now c.in_ok-name.name.now c.in_ok-name.rest.now c.is_class_name.result c.in_ok-letter.ensures c.if-letter-eq76.true c.in_ok-name.ensures c.is_class_name.ensures)

use Rattle.th_syntax.specs.Checks as checks
use Rattle.th_syntax.specs.ClassGrammar as grammar
use Rattle.th_reader.specs.RawView.{member_view}
use Rattle.th_reader.proofs.Making.{Progress}
use Rattle.th_reader.proofs.members.read_fields.Given as goal

abbrev pub invariant-loop-raw : goal.invariant-loop-raw
invariant-loop-raw l = Progress (checks.constant_flaws l.pool) (checks.member_index_flaws l.pool) (grammar.field_value l.pool) member_view l.fields l.raw-index l.read

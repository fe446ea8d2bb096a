use Rattle.th_syntax.specs.Checks as checks
use Rattle.th_syntax.specs.ClassGrammar as grammar
use Rattle.th_reader.specs.RawView.{class_view, member_view}
use Rattle.th_reader.proofs.Making.{Progress}
use Rattle.th_reader.proofs.members.read_methods.Given as goal

abbrev pub invariant-loop-raw : goal.invariant-loop-raw
invariant-loop-raw l = Progress (checks.method_flaws (class_view l.class)) (checks.member_index_flaws l.class.pool) (grammar.method_value l.class.pool) member_view l.methods l.raw-index l.read

use Rattle.std.proofs.Common.{ℕ, List, []}
use Rattle.th_syntax.specs.declared.tag.TheConstants as tag
use Rattle.th_syntax.specs.Checks as checks
use Rattle.th_syntax.specs.Forms.{Placed}
use Rattle.th_syntax.specs.PoolChecks.{class_of}
use Rattle.th_syntax.specs.declared.refusal.Flaw.{Flaw}
use Rattle.th_reader.specs.RawView.{index_view}
use Rattle.th_reader.proofs.Making.{Progress}
use Rattle.th_reader.proofs.value.class_names.Given as goal

abbrev pub invariant-loop-index : goal.invariant-loop-index
invariant-loop-index l = Progress (λ (i : Placed ℕ). let none : List Flaw = [] in none) (checks.index_flaws l.pool tag.CLASS) (λ (i : Placed ℕ). class_of l.pool i.value) index_view l.classes l.index-index l.names

use Rattle.std.proofs.Common.{ℕ, List, [], get_or, refl}
use Rattle.th_syntax.specs.declared.tag.TheConstants as tag
use Rattle.th_syntax.specs.Checks as checks
use Rattle.th_syntax.specs.Forms.{Placed}
use Rattle.th_syntax.specs.PoolChecks.{class_of}
use Rattle.th_syntax.specs.declared.refusal.Flaw.{Flaw}
use Rattle.th_reader.specs.RawView.{index_view}
use Rattle.th_reader.proofs.Making.{begin, here, on, done, same_item}
use Rattle.th_reader.proofs.value.class_names.Goals as goal

pub loop-index-init : goal.loop-index-init
loop-index-init c = rw c.new-names.ensures (begin (λ (i : Placed ℕ). let none : List Flaw = [] in none) (checks.index_flaws c.args.pool.now tag.CLASS) (λ (i : Placed ℕ). class_of c.args.pool.now i.value) index_view c.args.classes.now c.requires.classes)

pub class_name-requires-clause-class : goal.class_name-requires-clause-class
class_name-requires-clause-class c = here (λ (i : Placed ℕ). let none : List Flaw = [] in none) (checks.index_flaws c.args.pool.now tag.CLASS) (λ (i : Placed ℕ). class_of c.args.pool.now i.value) index_view c.args.classes.now c.loop-index.index-index c.loop-index.names (get_or c.args.classes.now c.loop-index.index-index record { at = 0; value = 0 }) c.loop-index-test.true (same_item c.args.classes.now c.loop-index.index-index record { at = 0; value = 0 } (get_or c.args.classes.now c.loop-index.index-index record { at = 0; value = 0 }) c.loop-index-test.true) c.loop-index.invariant

pub loop-index-preserved : goal.loop-index-preserved
loop-index-preserved c =
    rw c.in_ok-push.ensures.ok
    (on (λ (i : Placed ℕ). let none : List Flaw = [] in none) (checks.index_flaws c.args.pool.now tag.CLASS) (λ (i : Placed ℕ). class_of c.args.pool.now i.value) index_view c.args.classes.now c.loop-index.index-index c.loop-index.names (get_or c.args.classes.now c.loop-index.index-index record { at = 0; value = 0 }) c.in_ok-name.name c.loop-index-test.true (same_item c.args.classes.now c.loop-index.index-index record { at = 0; value = 0 } (get_or c.args.classes.now c.loop-index.index-index record { at = 0; value = 0 }) c.loop-index-test.true) refl c.in_ok-name.ensures c.loop-index.invariant)

pub returns : goal.returns
returns c = (done (λ (i : Placed ℕ). let none : List Flaw = [] in none) (checks.index_flaws c.args.pool.now tag.CLASS) (λ (i : Placed ℕ). class_of c.args.pool.now i.value) index_view c.args.classes.now c.loop-index.index-index c.loop-index.names c.loop-index-test.false c.loop-index.invariant).1

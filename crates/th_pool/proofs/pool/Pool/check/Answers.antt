use Rattle.std.proofs.Common.{◌≡◌, ◌∙◌, true, ap, sym, subst, Result, Ok, Err}
use Rattle.std.specs.Prelude.{IfErr}
use Rattle.th_syntax.specs.declared.refusal.Flaw.{Flaw}
use Rattle.th_syntax.specs.ClassBytes.{Pool}
use Rattle.th_syntax.specs.PoolChecks.{entries_ascend, entry_flaws}
use Rattle.th_syntax.specs.Flaws.{IsFirst}
use Rattle.th_pool.specs.First.{BeginsWith}
use Rattle.th_pool.specs.PoolView.{slots_view}
use Rattle.th_pool.proofs.Ascending.{is_first}
use Rattle.th_pool.proofs.pool.Pool.check.Goals as goal

first_of : (pool : Pool) (result : Result (Unit {0}) Flaw) → entries_ascend 0 pool ≡ true → BeginsWith (entry_flaws pool) result → IfErr result (IsFirst (entry_flaws pool))
first_of pool (Ok done) up begins = tt
first_of pool (Err flaw) up begins = is_first pool flaw begins.0 up begins.1

pub returns-clause-first : goal.returns-clause-first
returns-clause-first c =
    let pool_is : slots_view c.as_slice.result.now ≡ c.args.self.now = ap slots_view c.as_slice.ensures.value ∙ c.self.view_is in
    let up : entries_ascend 0 c.args.self.now ≡ true = ap (entries_ascend 0) (sym c.self.view_is) ∙ c.self.invariant.0 in
    first_of c.args.self.now c.check_entries.result up (subst (λ (p : Pool). BeginsWith (entry_flaws p) c.check_entries.result) pool_is c.check_entries.ensures)

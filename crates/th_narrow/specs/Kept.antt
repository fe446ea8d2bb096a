-- What narrowing keeps of a query.
use Rattle.std.specs.Prelude.{◌≡◌, length}
use Rattle.th_query.specs.declared.query.Query.{Query}

-- r is q but for its symbols, and has as many
pub record KeepsRest (q r : Query) : Type 0 where
  pub rest : r ≡ record q { syms = r.syms }
  pub count : length r.syms ≡ length q.syms

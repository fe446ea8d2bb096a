use Rattle.std.proofs.Common.{◌∙◌}
use Rattle.th_query.specs.Symbols.{sites_of}
use Rattle.th_unify.proofs.Narrowed.{none_had, none_past}
use Rattle.th_unify.proofs.narrowing.those_of.Goals as goal

pub returns-in-None : goal.returns-in-None
returns-in-None c =
    none_had (sites_of c.args.query.now c.args.symbol) c.args.sites.now c.of.result (c.of.ensures ∙ c.new.ensures)
    (none_past c.args.query.now c.args.symbol c.as_slice.result.now c.as_slice.ensures c.in-None.ensures.lookup.0)

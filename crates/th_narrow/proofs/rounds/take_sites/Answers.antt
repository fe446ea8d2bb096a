use Rattle.std.proofs.Common.{◌∙◌, slice_set, [], sym, ap}
use Rattle.th_query.specs.declared.query.Sym.TheVariants.{Carry}
use Rattle.th_narrow.proofs.Members.{past_put, past_sites, set_put, sites_there}
use Rattle.th_narrow.proofs.rounds.take_sites.Goals as goal

pub returns-then-place-syms : goal.returns-then-place-syms
returns-then-place-syms c = record {
  sites = c.new.ensures ∙ sym (past_sites c.args.symbol c.args.syms.now c.if-place-syms.true);
  rest = sym (past_put c.args.symbol [] c.args.syms.now c.if-place-syms.true);
}

pub returns : goal.returns
returns c =
    let x = c.take_symbol.result in
    let at = c.take_symbol.ensures.value x in
    record {
      sites = c.in_ok-set.ensures ∙ c.parted-empty.ensures.sites ∙ sym (sites_there c.args.syms.now c.args.symbol x c.if-place-syms.false at);
      rest = c.put_symbol.ensures ∙ ap (λ ys. slice_set ys c.args.symbol c.parted-empty.result.0) c.take_symbol.ensures.rest
          ∙ set_put c.args.symbol [] c.args.syms.now x c.parted-empty.result.0 Carry c.if-place-syms.false at c.parted-empty.ensures.empty;
    }

use Rattle.std.proofs.Common.{◌∙◌, slice_set, sym, ap}
use Rattle.th_query.specs.declared.query.Sym.TheVariants.{Carry}
use Rattle.th_narrow.proofs.Members.{past_put, set_put}
use Rattle.th_narrow.proofs.rounds.put_sites.Goals as goal

pub returns-then-place-syms : goal.returns-then-place-syms
returns-then-place-syms c = sym (past_put c.args.symbol c.args.sites c.args.syms.now c.if-place-syms.true)

pub returns : goal.returns
returns c =
    let x = c.take_symbol-sym.result in
    c.put_symbol.ensures ∙ ap (λ ys. slice_set ys c.args.symbol c.with_sites.result) c.take_symbol-sym.ensures.rest
    ∙ set_put c.args.symbol c.args.sites c.args.syms.now x c.with_sites.result Carry c.if-place-syms.false (c.take_symbol-sym.ensures.value x) c.with_sites.ensures

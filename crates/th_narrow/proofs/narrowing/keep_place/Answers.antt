use Rattle.std.proofs.Common.{◌∙◌, slice_set, sym, ap}
use Rattle.th_ir.specs.FactSets.{set_at}
use Rattle.th_query.specs.declared.query.Sym.TheVariants.{Carry}
use Rattle.th_narrow.proofs.Members.{past_kept, taken_kept}
use Rattle.th_narrow.proofs.narrowing.keep_place.Goals as goal

pub returns-then-at-syms : goal.returns-then-at-syms
returns-then-at-syms c = sym (past_kept c.args.symbol (set_at c.args.sets.now c.args.place) c.args.syms.now c.if-at-syms.true)

pub returns : goal.returns
returns c =
    let x = c.take_symbol-sym.result in
    c.put_symbol.ensures ∙ ap (λ ys. slice_set ys c.args.symbol c.in_ok-kept.kept) c.take_symbol-sym.ensures.rest
    ∙ taken_kept c.args.symbol (set_at c.args.sets.now c.args.place) c.args.syms.now x c.in_ok-kept.kept Carry c.if-at-syms.false (c.take_symbol-sym.ensures.value x) c.in_ok-kept.ensures

use Rattle.std.proofs.Common.{slice_get}
use Rattle.th_query.specs.declared.query.Sym.TheVariants.{Carry}
use Rattle.th_steps.proofs.Taking.{taken_one, present_end}
use Rattle.th_steps.proofs.numbering.take_in_order.Goals as goal

pub loop-symbol-preserved : goal.loop-symbol-preserved
loop-symbol-preserved c =
    taken_one c.loop-symbol.syms c.take_symbol-sym.new.syms Carry c.args.order.now c.loop-symbol.symbol-index c.take_symbol-sym.result c.loop-symbol.taken.items c.push_present.new.items.items _ c.loop-symbol-test.true
    c.loop-symbol.invariant.1 c.take_symbol-sym.ensures.value c.take_symbol-sym.ensures.left c.in_ok-push_present.ensures c.loop-symbol.invariant.0

pub returns : goal.returns
returns c = present_end (slice_get c.loop-symbol.syms) c.args.order.now c.loop-symbol.symbol-index c.loop-symbol.taken.items _ c.loop-symbol-test.false c.loop-symbol.invariant.0

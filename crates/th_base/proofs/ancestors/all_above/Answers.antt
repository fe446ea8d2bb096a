use Rattle.std.proofs.Common.{get_or, refl, sym, ap, ◌∙◌, arith}
use Rattle.std.specs.List.{flat_map}
use Rattle.th_base.specs.Ancestors.{all_listed, superclass_in}
use Rattle.th_base.specs.IdSet.{has}
use Rattle.th_base.proofs.Ascending.{has_at, has-union_of}
use Rattle.th_base.proofs.Rows.{row_all}
use Rattle.th_base.proofs.RowOf.{set_more, set_whole}
use Rattle.th_base.proofs.ancestors.all_above.Goals as goal

pub bounds-rows-interface : goal.bounds-rows-interface
bounds-rows-interface c =
    let n = get_or c.args.interfaces.now c.loop-interface.interface-index 0 in
    c.requires.interfaces n (has_at c.args.interfaces.now n c.loop-interface.interface-index c.loop-interface-test.true refl)

pub loop-interface-preserved : goal.loop-interface-preserved
loop-interface-preserved c =
    let rows = c.args.rows.now in
    let n = get_or c.args.interfaces.now c.loop-interface.interface-index 0 in
    let inside = c.requires.interfaces n (has_at c.args.interfaces.now n c.loop-interface.interface-index c.loop-interface-test.true refl) in
    let own = (get_or rows n c.index-rows-interface.result).all in
    set_more (all_listed rows) (flat_map (all_listed rows) (superclass_in c.args.class.now)) c.args.interfaces.now c.loop-interface.interface-index own c.loop-interface.all c.in_ok-all-2.all
    c.loop-interface-test.true (sym (row_all rows n c.index-rows-interface.result inside)) c.loop-interface.invariant
    (λ x. ap (λ l. has l x) c.in_ok-all-2.ensures ∙ has-union_of c.loop-interface.all own x)

pub returns : goal.returns
returns c =
    let rows = c.args.rows.now in
    set_whole (all_listed rows) (flat_map (all_listed rows) (superclass_in c.args.class.now)) c.args.interfaces.now c.loop-interface.interface-index c.args.number c.loop-interface.all c.insert.new.self
    (omega (arith, c.loop-interface-test.false)) c.loop-interface.invariant c.in_ok-insert.ensures.ok

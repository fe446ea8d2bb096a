use Rattle.std.proofs.Common.{map, get_or, [], ◌∷◌, sym, subst, arith}
use Rattle.th_base.specs.Ancestors.{Adds}
use Rattle.th_base.proofs.Alike.{adds_more}
use Rattle.th_base.proofs.Ascending.{has_at}
use Rattle.th_base.proofs.Rows.{interface_at}
use Rattle.th_base.proofs.ancestors.distinct_interfaces.Goals as goal

pub add-requires-clause-inside : goal.add-requires-clause-inside
add-requires-clause-inside c =
    let here = interface_at c.args.class.now c.as_slice-interface-items.result.now c.loop-interface.interface-index c.as_slice-interface-items.ensures c.loop-interface-test.true in
    let n = (get_or c.as_slice-interface-items.result.now c.loop-interface.interface-index record { 0 = 0 }).0 in
    let inside = c.requires.inside n (has_at (map (λ i. i.0) c.args.class.now.interfaces) n c.loop-interface.interface-index here.inside here.at) in
    omega (arith, c.loop-interface.invariant.room)

pub loop-interface-preserved : goal.loop-interface-preserved
loop-interface-preserved c =
    let here = interface_at c.args.class.now c.as_slice-interface-items.result.now c.loop-interface.interface-index c.as_slice-interface-items.ensures c.loop-interface-test.true in
    adds_more c.args.listing.now c.loop-interface.listing c.add.new.listing (map (λ i. i.0) c.args.class.now.interfaces) c.loop-interface.interface-index here.inside c.loop-interface.invariant
    (subst (λ i. Adds c.loop-interface.listing c.add.new.listing (i ∷ [])) (sym here.at) c.in_ok-add.ensures)

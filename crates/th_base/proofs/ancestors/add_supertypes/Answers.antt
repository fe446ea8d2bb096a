use Rattle.std.proofs.Common.{rules, get_or, arith, [], ◌∷◌, refl, sym, ap, subst, ◌∙◌}
use Rattle.std.specs.List.{flat_map}
use Rattle.th_base.specs.Ancestors.{Adds, supertypes_listed}
use Rattle.th_base.specs.IdSet.{has}
use Rattle.th_base.proofs.Ascending.{has_at}
use Rattle.th_base.proofs.Rows.{row_supertypes, adds_part, adds_parts, adds_superclass, superclass_at}
use Rattle.th_base.proofs.ancestors.add_supertypes.Goals as goal

pub offset_bounds-rows-interface : goal.offset_bounds-rows-interface
offset_bounds-rows-interface c =
    let n = get_or c.args.interfaces.now c.loop-interface.interface-index 0 in
    let inside = c.requires.interfaces n (has_at c.args.interfaces.now n c.loop-interface.interface-index c.loop-interface-test.true refl) in
    search rules

pub bounds-rows-interface : goal.bounds-rows-interface
bounds-rows-interface c =
    let n = get_or c.args.interfaces.now c.loop-interface.interface-index 0 in
    c.requires.interfaces n (has_at c.args.interfaces.now n c.loop-interface.interface-index c.loop-interface-test.true refl)

pub add_all-requires-clause-inside : goal.add_all-requires-clause-inside
add_all-requires-clause-inside c = λ x h.
    let n = get_or c.args.interfaces.now c.loop-interface.interface-index 0 in
    let inside = c.requires.interfaces n (has_at c.args.interfaces.now n c.loop-interface.interface-index c.loop-interface-test.true refl) in
    let row = row_supertypes c.args.rows.now n c.index-rows-interface.result inside in
    let within = c.requires.taken.classes.supertypes n x (ap (λ l. has l x) (row ∙ sym c.as_slice.ensures) ∙ h) in
    omega (arith, c.loop-interface.invariant.room)

pub loop-interface-preserved : goal.loop-interface-preserved
loop-interface-preserved c =
    let n = get_or c.args.interfaces.now c.loop-interface.interface-index 0 in
    let inside = c.requires.interfaces n (has_at c.args.interfaces.now n c.loop-interface.interface-index c.loop-interface-test.true refl) in
    let row = row_supertypes c.args.rows.now n c.index-rows-interface.result inside in
    adds_part c.args.listing.now c.loop-interface.listing c.add_all.new.listing (c.args.number ∷ []) (supertypes_listed c.args.rows.now) c.args.interfaces.now c.loop-interface.interface-index c.loop-interface-test.true
    c.loop-interface.invariant
    (subst (λ l. Adds c.loop-interface.listing c.add_all.new.listing l) (c.as_slice.ensures ∙ sym row) c.in_ok-add_all.ensures)

pub bounds-rows-above : goal.bounds-rows-above
bounds-rows-above c = c.requires.taken.rows_are c.in-Some.above.0 (superclass_at c.args.class.now c.in-Some.above c.in-Some.is)

pub add_all-requires-in-Some-clause-inside : goal.add_all-requires-in-Some-clause-inside
add_all-requires-in-Some-clause-inside c = λ x h.
    let n = c.in-Some.above.0 in
    let inside = c.requires.taken.rows_are n (superclass_at c.args.class.now c.in-Some.above c.in-Some.is) in
    let row = row_supertypes c.args.rows.now n c.index-rows-above.result inside in
    let within = c.requires.taken.classes.supertypes n x (ap (λ l. has l x) (row ∙ sym c.as_slice-in-Some.ensures) ∙ h) in
    omega (arith, c.loop-interface.invariant.room)

pub returns-in_ok-add_all-2 : goal.returns-in_ok-add_all-2
returns-in_ok-add_all-2 c =
    let n = c.in-Some.above.0 in
    let inside = c.requires.taken.rows_are n (superclass_at c.args.class.now c.in-Some.above c.in-Some.is) in
    let row = row_supertypes c.args.rows.now n c.index-rows-above.result inside in
    adds_superclass c.args.listing.now c.loop-interface.listing c.add_all-in-Some.new.listing (c.args.number ∷ flat_map (supertypes_listed c.args.rows.now) c.args.interfaces.now) (supertypes_listed c.args.rows.now) c.args.class.now c.in-Some.above c.in-Some.is
    (adds_parts c.args.listing.now c.loop-interface.listing (c.args.number ∷ []) (supertypes_listed c.args.rows.now) c.args.interfaces.now c.loop-interface.interface-index (omega (arith, c.loop-interface-test.false)) c.loop-interface.invariant)
    (subst (λ l. Adds c.loop-interface.listing c.add_all-in-Some.new.listing l) (c.as_slice-in-Some.ensures ∙ sym row) c.in_ok-add_all-2.ensures)

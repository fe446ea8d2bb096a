use Rattle.std.proofs.Common.{length, get_or, arith, rules, sym, ap, subst, ◌∙◌}
use Rattle.th_base.specs.Ancestors.{ListsClasses, IsListing, IsRowOf}
use Rattle.th_base.proofs.Built.{order_inside, next_of, built_more, built_all}
use Rattle.th_base.proofs.ancestors.ancestors_of.Goals as goal

pub offset_bounds-classes-class : goal.offset_bounds-classes-class
offset_bounds-classes-class c =
    let inside = order_inside c.args.classes.now c.args.order.now c.loop-class.class-index c.requires.order c.loop-class-test.true in
    search rules

pub bounds-classes-class : goal.bounds-classes-class
bounds-classes-class c = order_inside c.args.classes.now c.args.order.now c.loop-class.class-index c.requires.order c.loop-class-test.true

pub overflow_cast-class : goal.overflow_cast-class
overflow_cast-class c =
    let inside = order_inside c.args.classes.now c.args.order.now c.loop-class.class-index c.requires.order c.loop-class-test.true in
    search rules

pub row_of-requires-clause-inside : goal.row_of-requires-clause-inside
row_of-requires-clause-inside c =
    let inside = order_inside c.args.classes.now c.args.order.now c.loop-class.class-index c.requires.order c.loop-class-test.true in
    omega (arith, c.loop-class.invariant.seen_are)

pub row_of-requires-clause-taken : goal.row_of-requires-clause-taken
row_of-requires-clause-taken c =
    let next = next_of c.args.classes.now c.args.order.now c.loop-class.class-index c.index-classes-class.result c.requires.order c.loop-class-test.true c.index-classes-class.is in
    record {
      classes = subst (ListsClasses c.as_slice.result.now) (sym c.loop-class.invariant.seen_are) (subst (λ r. ListsClasses r (length c.args.classes.now)) (sym c.as_slice.ensures.value) c.loop-class.invariant.in_range);
      rows_are = λ s h. let inside = next.in_range s h in omega (arith, ap length c.as_slice.ensures.value, c.loop-class.invariant.rows_are);
    }

pub index_mut-requires : goal.index_mut-requires
index_mut-requires c =
    let inside = order_inside c.args.classes.now c.args.order.now c.loop-class.class-index c.requires.order c.loop-class-test.true in
    omega (arith, c.loop-class.rows.ok.0, c.loop-class.invariant.rows_are)

pub loop-class-preserved : goal.loop-class-preserved
loop-class-preserved c =
    let classes = c.args.classes.now in
    let rows = c.loop-class.rows.items in
    let info = c.index-classes-class.result in
    let n = get_or c.args.order.now c.loop-class.class-index 0 in
    let next = next_of classes c.args.order.now c.loop-class.class-index info c.requires.order c.loop-class-test.true c.index-classes-class.is in
    let row : IsRowOf info rows n (length rows) c.in_ok-rows-2.field-0 =
    subst (λ r. IsRowOf info r n (length r) c.in_ok-rows-2.field-0) c.as_slice.ensures.value c.in_ok-rows-2.ensures.row in
    let built = built_more classes c.args.order.now rows c.loop-class.class-index info c.in_ok-rows-2.field-0 c.requires.order c.loop-class-test.true next
    record { rows_are = c.loop-class.invariant.rows_are; in_range = c.loop-class.invariant.in_range; above = c.loop-class.invariant.above } row in
    record {
      rows_are = built.rows_are;
      seen_are = c.in_ok-rows-2.ensures.finished.room ∙ c.loop-class.invariant.seen_are;
      empty = c.in_ok-rows-2.ensures.finished.empty;
      listing = subst (IsListing c.row_of.new.listing.seen.items) (sym c.in_ok-rows-2.ensures.finished.empty) c.in_ok-rows-2.ensures.finished.listing;
      in_range = built.in_range;
      above = built.above;
    }

pub returns : goal.returns
returns c =
    built_all c.args.classes.now c.args.order.now c.loop-class.rows.items c.loop-class.class-index c.requires.order c.loop-class-test.false
    record { rows_are = c.loop-class.invariant.rows_are; in_range = c.loop-class.invariant.in_range; above = c.loop-class.invariant.above }

use Rattle.std.proofs.Common.{◌<◌, length, get_or, refl, arith}
use Rattle.th_base.proofs.Ascending.{has_at}
use Rattle.th_base.proofs.MemberPlaces.{indexed_at, indexed_length}
use Rattle.th_base.proofs.Upward.{method_found, method_missed}
use Rattle.th_base.proofs.members.method_along.Goals as goal

pub bounds-classes-at : goal.bounds-classes-at
bounds-classes-at c =
    let at = get_or c.args.order.now c.loop-class.class-index 0 in
    let inside : at < length c.args.classes.now = c.requires.inside at (has_at c.args.order.now at c.loop-class.class-index c.loop-class-test.true refl) in
    inside

pub bounds-members-at : goal.bounds-members-at
bounds-members-at c =
    let at = get_or c.args.order.now c.loop-class.class-index 0 in
    let inside : at < length c.args.classes.now = c.requires.inside at (has_at c.args.order.now at c.loop-class.class-index c.loop-class-test.true refl) in
    omega (arith, indexed_length c.args.classes.now c.args.members.now c.requires.indexed)

pub method_in-requires : goal.method_in-requires
method_in-requires c =
    let at = get_or c.args.order.now c.loop-class.class-index 0 in
    let inside : at < length c.args.classes.now = c.requires.inside at (has_at c.args.order.now at c.loop-class.class-index c.loop-class-test.true refl) in
    (indexed_at c.args.classes.now c.args.members.now at c.index-classes-at.result c.index-members-at.result c.requires.indexed inside c.index-classes-at.is c.index-members-at.is).methods

pub returns-in-Some : goal.returns-in-Some
returns-in-Some c =
    let at = get_or c.args.order.now c.loop-class.class-index 0 in
    let inside : at < length c.args.classes.now = c.requires.inside at (has_at c.args.order.now at c.loop-class.class-index c.loop-class-test.true refl) in
    method_found c.args.classes.now c.args.name.now c.args.descriptor.now c.args.order.now c.loop-class.class-index c.index-classes-at.result c.in-Some.method.now c.loop-class-test.true c.loop-class.invariant inside c.index-classes-at.is c.in-Some.ensures

pub loop-class-preserved : goal.loop-class-preserved
loop-class-preserved c =
    let at = get_or c.args.order.now c.loop-class.class-index 0 in
    let inside : at < length c.args.classes.now = c.requires.inside at (has_at c.args.order.now at c.loop-class.class-index c.loop-class-test.true refl) in
    method_missed c.args.classes.now c.args.name.now c.args.descriptor.now c.args.order.now c.loop-class.class-index c.index-classes-at.result c.loop-class-test.true c.loop-class.invariant inside c.index-classes-at.is c.in_default.ensures

use Rattle.std.proofs.Common.{◌≡◌, length, map, arith, sym, subst, ◌∙◌}
use Rattle.th_base.specs.Ancestors.{FindAlike}
use Rattle.th_base.proofs.Rows.{interface_named, superclass_named}
use Rattle.th_base.proofs.RowOf.{supertypes_made, superinterfaces_made, all_made, inside_of, interfaces_taken}
use Rattle.th_base.proofs.ancestors.row_of.Goals as goal

pub distinct_interfaces-requires-clause-inside : goal.distinct_interfaces-requires-clause-inside
distinct_interfaces-requires-clause-inside c = λ x h.
    let inside = c.requires.taken.rows_are x (interface_named c.args.class.now x h) in
    omega (arith, c.requires.seen)

pub add_supertypes-requires-clause-interfaces : goal.add_supertypes-requires-clause-interfaces
add_supertypes-requires-clause-interfaces c =
    let alike : FindAlike c.as_slice-direct.result.now (map (λ i. i.0) c.args.class.now.interfaces) =
    subst (λ l. FindAlike l (map (λ i. i.0) c.args.class.now.interfaces)) (sym c.as_slice-direct.ensures.value) c.in_ok-interfaces.ensures.list in
    interfaces_taken c.args.class.now c.args.rows.now _ c.as_slice-direct.result.now c.requires.taken alike

pub add_superinterfaces-requires-clause-interfaces : goal.add_superinterfaces-requires-clause-interfaces
add_superinterfaces-requires-clause-interfaces c =
    let alike : FindAlike c.as_slice-direct.result.now (map (λ i. i.0) c.args.class.now.interfaces) =
    subst (λ l. FindAlike l (map (λ i. i.0) c.args.class.now.interfaces)) (sym c.as_slice-direct.ensures.value) c.in_ok-interfaces.ensures.list in
    interfaces_taken c.args.class.now c.args.rows.now _ c.as_slice-direct.result.now c.requires.taken alike

pub all_above-requires-clause-interfaces : goal.all_above-requires-clause-interfaces
all_above-requires-clause-interfaces c =
    let alike : FindAlike c.as_slice-direct.result.now (map (λ i. i.0) c.args.class.now.interfaces) =
    subst (λ l. FindAlike l (map (λ i. i.0) c.args.class.now.interfaces)) (sym c.as_slice-direct.ensures.value) c.in_ok-interfaces.ensures.list in
    interfaces_taken c.args.class.now c.args.rows.now _ c.as_slice-direct.result.now c.requires.taken alike

pub line_above-requires : goal.line_above-requires
line_above-requires c = λ x h. c.requires.taken.rows_are x (superclass_named c.args.class.now x h)

pub all_above-requires-clause-superclass : goal.all_above-requires-clause-superclass
all_above-requires-clause-superclass c = λ x h. c.requires.taken.rows_are x (superclass_named c.args.class.now x h)

pub returns-clause-row : goal.returns-clause-row
returns-clause-row c =
    let k = c.args.class.now in
    let rows = c.args.rows.now in
    let direct = c.as_slice-direct.result.now in
    let alike : FindAlike c.as_slice-direct.result.now (map (λ i. i.0) c.args.class.now.interfaces) =
    subst (λ l. FindAlike l (map (λ i. i.0) c.args.class.now.interfaces)) (sym c.as_slice-direct.ensures.value) c.in_ok-interfaces.ensures.list in
    let supertypes = c.supertypes.view_is ∙ c.from_vec-supertypes.ensures ∙ c.finish.ensures.list in
    let superinterfaces = c.superinterfaces.view_is ∙ c.from_vec-superinterfaces.ensures ∙ c.finish-2.ensures.list in
    let room : length c.distinct_interfaces.new.listing.seen.items ≡ length rows = c.in_ok-interfaces.ensures.finished.room ∙ c.requires.seen in
    let room_behind : length c.finish.new.listing.seen.items ≡ length rows = c.finish.ensures.room ∙ c.in_ok-add_supertypes.ensures.room ∙ room in
    record {
      supertypes = supertypes_made c.distinct_interfaces.new.listing c.add_supertypes.new.listing k rows c.args.number direct _ c.in_ok-add_supertypes.ensures c.in_ok-interfaces.ensures.finished.empty supertypes alike;
      superinterfaces = superinterfaces_made c.finish.new.listing c.add_superinterfaces.new.listing k rows direct _ c.in_ok-add_superinterfaces.ensures c.finish.ensures.empty superinterfaces alike;
      supertypes_inside = inside_of c.distinct_interfaces.new.listing c.add_supertypes.new.listing _ _ (length rows) c.in_ok-add_supertypes.ensures supertypes room;
      superinterfaces_inside = inside_of c.finish.new.listing c.add_superinterfaces.new.listing _ _ (length rows) c.in_ok-add_superinterfaces.ensures superinterfaces room_behind;
      line = c.in_ok-line_above.ensures;
      all = all_made k rows c.args.number direct c.in_ok-all_above.field-0 c.in_ok-all_above.ensures alike;
    }

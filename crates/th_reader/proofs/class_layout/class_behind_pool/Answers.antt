use Rattle.std.proofs.Common.{map}
use Rattle.std.proofs.lemmas.Result.{err_from_is_err_and}
use Rattle.th_syntax.specs.ClassBytes as file
use Rattle.th_syntax.specs.ClassBytes.{attribute, member, code, class_file}
use Rattle.th_syntax.proofs.ReadingParts.{step_ok, read_whole}
use Rattle.th_reader.specs.RawView.{index_view, attributes_view, member_view, indices_of, attributes_of, members_of}
use Rattle.th_reader.specs.Reads.{found}
use Rattle.th_reader.proofs.Stopping.{stops_first, stops_later}
use Rattle.th_reader.proofs.class_layout.class_behind_pool.Goals as goal

pub returns-in_err-access : goal.returns-in_err-access
returns-in_err-access c =
    let p = err_from_is_err_and c.from_residual.result c.from_residual.ensures.1 in
    rw (p.1, p.2)
    (stops_first (found index_view) c.in_err-access.field-0.0 file.u2 _ c.args.place.at c.args.place.rest.now c.in_err-access.ensures)

pub returns-in_err-this_class : goal.returns-in_err-this_class
returns-in_err-this_class c =
    let p = err_from_is_err_and c.from_residual-in_err-this_class.result c.from_residual-in_err-this_class.ensures.1 in
    rw (p.1, p.2)
    (stops_later c.in_err-this_class.field-0.0 file.u2 _ c.args.place.at c.args.place.rest.now (index_view c.in_ok-access.access, c.in_ok-access.place.at, c.in_ok-access.place.rest.now) c.in_ok-access.ensures
    (stops_first (found index_view) c.in_err-this_class.field-0.0 file.u2 _ c.in_ok-access.place.at c.in_ok-access.place.rest.now c.in_err-this_class.ensures))

pub returns-in_err-super_class : goal.returns-in_err-super_class
returns-in_err-super_class c =
    let p = err_from_is_err_and c.from_residual-in_err-super_class.result c.from_residual-in_err-super_class.ensures.1 in
    rw (p.1, p.2)
    (stops_later c.in_err-super_class.field-0.0 file.u2 _ c.args.place.at c.args.place.rest.now (index_view c.in_ok-access.access, c.in_ok-access.place.at, c.in_ok-access.place.rest.now) c.in_ok-access.ensures
    (stops_later c.in_err-super_class.field-0.0 file.u2 _ c.in_ok-access.place.at c.in_ok-access.place.rest.now (index_view c.in_ok-this_class.this_class, c.in_ok-this_class.place.at, c.in_ok-this_class.place.rest.now) c.in_ok-this_class.ensures
    (stops_first (found index_view) c.in_err-super_class.field-0.0 file.u2 _ c.in_ok-this_class.place.at c.in_ok-this_class.place.rest.now c.in_err-super_class.ensures)))

pub returns-in_err-interfaces : goal.returns-in_err-interfaces
returns-in_err-interfaces c =
    let p = err_from_is_err_and c.from_residual-in_err-interfaces.result c.from_residual-in_err-interfaces.ensures.1 in
    rw (p.1, p.2)
    (stops_later c.in_err-interfaces.field-0.0 file.u2 _ c.args.place.at c.args.place.rest.now (index_view c.in_ok-access.access, c.in_ok-access.place.at, c.in_ok-access.place.rest.now) c.in_ok-access.ensures
    (stops_later c.in_err-interfaces.field-0.0 file.u2 _ c.in_ok-access.place.at c.in_ok-access.place.rest.now (index_view c.in_ok-this_class.this_class, c.in_ok-this_class.place.at, c.in_ok-this_class.place.rest.now) c.in_ok-this_class.ensures
    (stops_later c.in_err-interfaces.field-0.0 file.u2 _ c.in_ok-this_class.place.at c.in_ok-this_class.place.rest.now (index_view c.in_ok-super_class.super_class, c.in_ok-super_class.place.at, c.in_ok-super_class.place.rest.now) c.in_ok-super_class.ensures
    (stops_first (found indices_of) c.in_err-interfaces.field-0.0 (file.counted file.u2) _ c.in_ok-super_class.place.at c.in_ok-super_class.place.rest.now c.in_err-interfaces.ensures))))

pub returns-in_err-fields : goal.returns-in_err-fields
returns-in_err-fields c =
    let p = err_from_is_err_and c.from_residual-in_err-fields.result c.from_residual-in_err-fields.ensures.1 in
    rw (p.1, p.2)
    (stops_later c.in_err-fields.field-0.0 file.u2 _ c.args.place.at c.args.place.rest.now (index_view c.in_ok-access.access, c.in_ok-access.place.at, c.in_ok-access.place.rest.now) c.in_ok-access.ensures
    (stops_later c.in_err-fields.field-0.0 file.u2 _ c.in_ok-access.place.at c.in_ok-access.place.rest.now (index_view c.in_ok-this_class.this_class, c.in_ok-this_class.place.at, c.in_ok-this_class.place.rest.now) c.in_ok-this_class.ensures
    (stops_later c.in_err-fields.field-0.0 file.u2 _ c.in_ok-this_class.place.at c.in_ok-this_class.place.rest.now (index_view c.in_ok-super_class.super_class, c.in_ok-super_class.place.at, c.in_ok-super_class.place.rest.now) c.in_ok-super_class.ensures
    (stops_later c.in_err-fields.field-0.0 (file.counted file.u2) _ c.in_ok-super_class.place.at c.in_ok-super_class.place.rest.now (map index_view c.in_ok-interfaces.interfaces.items, c.in_ok-interfaces.place.at, c.in_ok-interfaces.place.rest.now) c.in_ok-interfaces.ensures
    (stops_first (found members_of) c.in_err-fields.field-0.0 (file.counted file.member) _ c.in_ok-interfaces.place.at c.in_ok-interfaces.place.rest.now c.in_err-fields.ensures)))))

pub returns-in_err-methods : goal.returns-in_err-methods
returns-in_err-methods c =
    let p = err_from_is_err_and c.from_residual-in_err-methods.result c.from_residual-in_err-methods.ensures.1 in
    rw (p.1, p.2)
    (stops_later c.in_err-methods.field-0.0 file.u2 _ c.args.place.at c.args.place.rest.now (index_view c.in_ok-access.access, c.in_ok-access.place.at, c.in_ok-access.place.rest.now) c.in_ok-access.ensures
    (stops_later c.in_err-methods.field-0.0 file.u2 _ c.in_ok-access.place.at c.in_ok-access.place.rest.now (index_view c.in_ok-this_class.this_class, c.in_ok-this_class.place.at, c.in_ok-this_class.place.rest.now) c.in_ok-this_class.ensures
    (stops_later c.in_err-methods.field-0.0 file.u2 _ c.in_ok-this_class.place.at c.in_ok-this_class.place.rest.now (index_view c.in_ok-super_class.super_class, c.in_ok-super_class.place.at, c.in_ok-super_class.place.rest.now) c.in_ok-super_class.ensures
    (stops_later c.in_err-methods.field-0.0 (file.counted file.u2) _ c.in_ok-super_class.place.at c.in_ok-super_class.place.rest.now (map index_view c.in_ok-interfaces.interfaces.items, c.in_ok-interfaces.place.at, c.in_ok-interfaces.place.rest.now) c.in_ok-interfaces.ensures
    (stops_later c.in_err-methods.field-0.0 (file.counted file.member) _ c.in_ok-interfaces.place.at c.in_ok-interfaces.place.rest.now (map member_view c.in_ok-fields.fields.items, c.in_ok-fields.place.at, c.in_ok-fields.place.rest.now) c.in_ok-fields.ensures
    (stops_first (found members_of) c.in_err-methods.field-0.0 (file.counted file.member) _ c.in_ok-fields.place.at c.in_ok-fields.place.rest.now c.in_err-methods.ensures))))))

pub returns-in_err-attributes : goal.returns-in_err-attributes
returns-in_err-attributes c =
    let p = err_from_is_err_and c.from_residual-in_err-attributes.result c.from_residual-in_err-attributes.ensures.1 in
    rw (p.1, p.2)
    (stops_later c.in_err-attributes.field-0.0 file.u2 _ c.args.place.at c.args.place.rest.now (index_view c.in_ok-access.access, c.in_ok-access.place.at, c.in_ok-access.place.rest.now) c.in_ok-access.ensures
    (stops_later c.in_err-attributes.field-0.0 file.u2 _ c.in_ok-access.place.at c.in_ok-access.place.rest.now (index_view c.in_ok-this_class.this_class, c.in_ok-this_class.place.at, c.in_ok-this_class.place.rest.now) c.in_ok-this_class.ensures
    (stops_later c.in_err-attributes.field-0.0 file.u2 _ c.in_ok-this_class.place.at c.in_ok-this_class.place.rest.now (index_view c.in_ok-super_class.super_class, c.in_ok-super_class.place.at, c.in_ok-super_class.place.rest.now) c.in_ok-super_class.ensures
    (stops_later c.in_err-attributes.field-0.0 (file.counted file.u2) _ c.in_ok-super_class.place.at c.in_ok-super_class.place.rest.now (map index_view c.in_ok-interfaces.interfaces.items, c.in_ok-interfaces.place.at, c.in_ok-interfaces.place.rest.now) c.in_ok-interfaces.ensures
    (stops_later c.in_err-attributes.field-0.0 (file.counted file.member) _ c.in_ok-interfaces.place.at c.in_ok-interfaces.place.rest.now (map member_view c.in_ok-fields.fields.items, c.in_ok-fields.place.at, c.in_ok-fields.place.rest.now) c.in_ok-fields.ensures
    (stops_later c.in_err-attributes.field-0.0 (file.counted file.member) _ c.in_ok-fields.place.at c.in_ok-fields.place.rest.now (map member_view c.in_ok-methods.methods.items, c.in_ok-methods.place.at, c.in_ok-methods.place.rest.now) c.in_ok-methods.ensures
    (stops_first (found attributes_of) c.in_err-attributes.field-0.0 (file.counted file.attribute) _ c.in_ok-methods.place.at c.in_ok-methods.place.rest.now c.in_err-attributes.ensures)))))))

pub returns : goal.returns
returns c =
    (step_ok file.u2 _ c.args.place.at c.args.place.rest.now (index_view c.in_ok-access.access, c.in_ok-access.place.at, c.in_ok-access.place.rest.now) _ c.in_ok-access.ensures
    (step_ok file.u2 _ c.in_ok-access.place.at c.in_ok-access.place.rest.now (index_view c.in_ok-this_class.this_class, c.in_ok-this_class.place.at, c.in_ok-this_class.place.rest.now) _ c.in_ok-this_class.ensures
    (step_ok file.u2 _ c.in_ok-this_class.place.at c.in_ok-this_class.place.rest.now (index_view c.in_ok-super_class.super_class, c.in_ok-super_class.place.at, c.in_ok-super_class.place.rest.now) _ c.in_ok-super_class.ensures
    (step_ok (file.counted file.u2) _ c.in_ok-super_class.place.at c.in_ok-super_class.place.rest.now (map index_view c.in_ok-interfaces.interfaces.items, c.in_ok-interfaces.place.at, c.in_ok-interfaces.place.rest.now) _ c.in_ok-interfaces.ensures
    (step_ok (file.counted file.member) _ c.in_ok-interfaces.place.at c.in_ok-interfaces.place.rest.now (map member_view c.in_ok-fields.fields.items, c.in_ok-fields.place.at, c.in_ok-fields.place.rest.now) _ c.in_ok-fields.ensures
    (step_ok (file.counted file.member) _ c.in_ok-fields.place.at c.in_ok-fields.place.rest.now (map member_view c.in_ok-methods.methods.items, c.in_ok-methods.place.at, c.in_ok-methods.place.rest.now) _ c.in_ok-methods.ensures
    (step_ok (file.counted file.attribute) _ c.in_ok-methods.place.at c.in_ok-methods.place.rest.now (attributes_view c.in_ok-attributes.attributes.items, c.in_ok-attributes.place.at, c.in_ok-attributes.place.rest.now) _ c.in_ok-attributes.ensures
    (read_whole _ c.in_ok-attributes.place.at c.in_ok-attributes.place.rest.now))))))))

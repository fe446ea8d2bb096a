use Rattle.std.proofs.lemmas.Result.{err_from_is_err_and}
use Rattle.th_syntax.specs.ClassBytes as file
use Rattle.th_syntax.specs.ClassBytes.{attribute, member, code, class_file}
use Rattle.th_syntax.proofs.ReadingParts.{step_ok, read_whole}
use Rattle.th_reader.specs.RawView.{index_view, attributes_view, attributes_of}
use Rattle.th_reader.specs.Reads.{found}
use Rattle.th_reader.proofs.Stopping.{stops_first, stops_later}
use Rattle.th_reader.proofs.layout.read_member.Goals as goal

pub returns-in_err-access : goal.returns-in_err-access
unfolding member
returns-in_err-access c =
    let p = err_from_is_err_and c.from_residual.result c.from_residual.ensures.1 in
    rw (p.1, p.2)
    (stops_first (found index_view) c.in_err-access.field-0.0 file.u2 _ c.args.place.at c.args.place.rest.now c.in_err-access.ensures)

pub returns-in_err-name : goal.returns-in_err-name
unfolding member
returns-in_err-name c =
    let p = err_from_is_err_and c.from_residual-in_err-name.result c.from_residual-in_err-name.ensures.1 in
    rw (p.1, p.2)
    (stops_later c.in_err-name.field-0.0 file.u2 _ c.args.place.at c.args.place.rest.now (index_view c.in_ok-access.access, c.in_ok-access.place.at, c.in_ok-access.place.rest.now) c.in_ok-access.ensures
    (stops_first (found index_view) c.in_err-name.field-0.0 file.u2 _ c.in_ok-access.place.at c.in_ok-access.place.rest.now c.in_err-name.ensures))

pub returns-in_err-descriptor : goal.returns-in_err-descriptor
unfolding member
returns-in_err-descriptor c =
    let p = err_from_is_err_and c.from_residual-in_err-descriptor.result c.from_residual-in_err-descriptor.ensures.1 in
    rw (p.1, p.2)
    (stops_later c.in_err-descriptor.field-0.0 file.u2 _ c.args.place.at c.args.place.rest.now (index_view c.in_ok-access.access, c.in_ok-access.place.at, c.in_ok-access.place.rest.now) c.in_ok-access.ensures
    (stops_later c.in_err-descriptor.field-0.0 file.u2 _ c.in_ok-access.place.at c.in_ok-access.place.rest.now (index_view c.in_ok-name.name, c.in_ok-name.place.at, c.in_ok-name.place.rest.now) c.in_ok-name.ensures
    (stops_first (found index_view) c.in_err-descriptor.field-0.0 file.u2 _ c.in_ok-name.place.at c.in_ok-name.place.rest.now c.in_err-descriptor.ensures)))

pub returns-in_err-attributes : goal.returns-in_err-attributes
unfolding member
returns-in_err-attributes c =
    let p = err_from_is_err_and c.from_residual-in_err-attributes.result c.from_residual-in_err-attributes.ensures.1 in
    rw (p.1, p.2)
    (stops_later c.in_err-attributes.field-0.0 file.u2 _ c.args.place.at c.args.place.rest.now (index_view c.in_ok-access.access, c.in_ok-access.place.at, c.in_ok-access.place.rest.now) c.in_ok-access.ensures
    (stops_later c.in_err-attributes.field-0.0 file.u2 _ c.in_ok-access.place.at c.in_ok-access.place.rest.now (index_view c.in_ok-name.name, c.in_ok-name.place.at, c.in_ok-name.place.rest.now) c.in_ok-name.ensures
    (stops_later c.in_err-attributes.field-0.0 file.u2 _ c.in_ok-name.place.at c.in_ok-name.place.rest.now (index_view c.in_ok-descriptor.descriptor, c.in_ok-descriptor.place.at, c.in_ok-descriptor.place.rest.now) c.in_ok-descriptor.ensures
    (stops_first (found attributes_of) c.in_err-attributes.field-0.0 (file.counted file.attribute) _ c.in_ok-descriptor.place.at c.in_ok-descriptor.place.rest.now c.in_err-attributes.ensures))))

pub returns : goal.returns
unfolding member
returns c =
    (step_ok file.u2 _ c.args.place.at c.args.place.rest.now (index_view c.in_ok-access.access, c.in_ok-access.place.at, c.in_ok-access.place.rest.now) _ c.in_ok-access.ensures
    (step_ok file.u2 _ c.in_ok-access.place.at c.in_ok-access.place.rest.now (index_view c.in_ok-name.name, c.in_ok-name.place.at, c.in_ok-name.place.rest.now) _ c.in_ok-name.ensures
    (step_ok file.u2 _ c.in_ok-name.place.at c.in_ok-name.place.rest.now (index_view c.in_ok-descriptor.descriptor, c.in_ok-descriptor.place.at, c.in_ok-descriptor.place.rest.now) _ c.in_ok-descriptor.ensures
    (step_ok (file.counted file.attribute) _ c.in_ok-descriptor.place.at c.in_ok-descriptor.place.rest.now (attributes_view c.in_ok-attributes.attributes.items, c.in_ok-attributes.place.at, c.in_ok-attributes.place.rest.now) _ c.in_ok-attributes.ensures
    (read_whole _ c.in_ok-attributes.place.at c.in_ok-attributes.place.rest.now)))))

use Rattle.std.proofs.Common.{◌*◌}
use Rattle.std.proofs.lemmas.Result.{err_from_is_err_and}
use Rattle.th_syntax.specs.ClassBytes as file
use Rattle.th_syntax.specs.ClassBytes.{attribute, member, code, class_file}
use Rattle.th_syntax.proofs.ReadingParts.{step_ok, read_whole}
use Rattle.th_reader.specs.RawView.{index_view, word_view, bytes_view, attributes_view, attributes_of}
use Rattle.th_reader.specs.Reads.{found}
use Rattle.th_reader.proofs.Stopping.{stops_first, stops_later}
use Rattle.th_reader.proofs.code_layout.code_items.Goals as goal

pub returns-in_err-max_stack : goal.returns-in_err-max_stack
unfolding code
returns-in_err-max_stack c =
    let p = err_from_is_err_and c.from_residual.result c.from_residual.ensures.1 in
    rw (p.1, p.2)
    (stops_first (found index_view) c.in_err-max_stack.field-0.0 file.u2 _ c.args.place.at c.args.place.rest.now c.in_err-max_stack.ensures)

pub returns-in_err-max_locals : goal.returns-in_err-max_locals
unfolding code
returns-in_err-max_locals c =
    let p = err_from_is_err_and c.from_residual-in_err-max_locals.result c.from_residual-in_err-max_locals.ensures.1 in
    rw (p.1, p.2)
    (stops_later c.in_err-max_locals.field-0.0 file.u2 _ c.args.place.at c.args.place.rest.now (index_view c.in_ok-max_stack.max_stack, c.in_ok-max_stack.place.at, c.in_ok-max_stack.place.rest.now) c.in_ok-max_stack.ensures
    (stops_first (found index_view) c.in_err-max_locals.field-0.0 file.u2 _ c.in_ok-max_stack.place.at c.in_ok-max_stack.place.rest.now c.in_err-max_locals.ensures))

pub returns-in_err-length : goal.returns-in_err-length
unfolding code
returns-in_err-length c =
    let p = err_from_is_err_and c.from_residual-in_err-length.result c.from_residual-in_err-length.ensures.1 in
    rw (p.1, p.2)
    (stops_later c.in_err-length.field-0.0 file.u2 _ c.args.place.at c.args.place.rest.now (index_view c.in_ok-max_stack.max_stack, c.in_ok-max_stack.place.at, c.in_ok-max_stack.place.rest.now) c.in_ok-max_stack.ensures
    (stops_later c.in_err-length.field-0.0 file.u2 _ c.in_ok-max_stack.place.at c.in_ok-max_stack.place.rest.now (index_view c.in_ok-max_locals.max_locals, c.in_ok-max_locals.place.at, c.in_ok-max_locals.place.rest.now) c.in_ok-max_locals.ensures
    (stops_first (found word_view) c.in_err-length.field-0.0 file.u4 _ c.in_ok-max_locals.place.at c.in_ok-max_locals.place.rest.now c.in_err-length.ensures)))

pub returns-in_err-bytes : goal.returns-in_err-bytes
unfolding code
returns-in_err-bytes c =
    let p = err_from_is_err_and c.from_residual-in_err-bytes.result c.from_residual-in_err-bytes.ensures.1 in
    rw (p.1, p.2)
    (stops_later c.in_err-bytes.field-0.0 file.u2 _ c.args.place.at c.args.place.rest.now (index_view c.in_ok-max_stack.max_stack, c.in_ok-max_stack.place.at, c.in_ok-max_stack.place.rest.now) c.in_ok-max_stack.ensures
    (stops_later c.in_err-bytes.field-0.0 file.u2 _ c.in_ok-max_stack.place.at c.in_ok-max_stack.place.rest.now (index_view c.in_ok-max_locals.max_locals, c.in_ok-max_locals.place.at, c.in_ok-max_locals.place.rest.now) c.in_ok-max_locals.ensures
    (stops_later c.in_err-bytes.field-0.0 file.u4 _ c.in_ok-max_locals.place.at c.in_ok-max_locals.place.rest.now (word_view c.in_ok-length.length, c.in_ok-length.place.at, c.in_ok-length.place.rest.now) c.in_ok-length.ensures
    (stops_first (found bytes_view) c.in_err-bytes.field-0.0 (file.run c.in_ok-length.length.value) _ c.in_ok-length.place.at c.in_ok-length.place.rest.now c.in_err-bytes.ensures))))

pub returns-in_err-handlers : goal.returns-in_err-handlers
unfolding code
returns-in_err-handlers c =
    let p = err_from_is_err_and c.from_residual-in_err-handlers.result c.from_residual-in_err-handlers.ensures.1 in
    rw (p.1, p.2)
    (stops_later c.in_err-handlers.field-0.0 file.u2 _ c.args.place.at c.args.place.rest.now (index_view c.in_ok-max_stack.max_stack, c.in_ok-max_stack.place.at, c.in_ok-max_stack.place.rest.now) c.in_ok-max_stack.ensures
    (stops_later c.in_err-handlers.field-0.0 file.u2 _ c.in_ok-max_stack.place.at c.in_ok-max_stack.place.rest.now (index_view c.in_ok-max_locals.max_locals, c.in_ok-max_locals.place.at, c.in_ok-max_locals.place.rest.now) c.in_ok-max_locals.ensures
    (stops_later c.in_err-handlers.field-0.0 file.u4 _ c.in_ok-max_locals.place.at c.in_ok-max_locals.place.rest.now (word_view c.in_ok-length.length, c.in_ok-length.place.at, c.in_ok-length.place.rest.now) c.in_ok-length.ensures
    (stops_later c.in_err-handlers.field-0.0 (file.run c.in_ok-length.length.value) _ c.in_ok-length.place.at c.in_ok-length.place.rest.now (bytes_view c.in_ok-bytes.bytes, c.in_ok-bytes.place.at, c.in_ok-bytes.place.rest.now) c.in_ok-bytes.ensures
    (stops_first (found index_view) c.in_err-handlers.field-0.0 file.u2 _ c.in_ok-bytes.place.at c.in_ok-bytes.place.rest.now c.in_err-handlers.ensures)))))

pub returns-in_err-_table : goal.returns-in_err-_table
unfolding code
returns-in_err-_table c =
    let p = err_from_is_err_and c.from_residual-in_err-_table.result c.from_residual-in_err-_table.ensures.1 in
    rw (p.1, p.2)
    (stops_later c.in_err-_table.field-0.0 file.u2 _ c.args.place.at c.args.place.rest.now (index_view c.in_ok-max_stack.max_stack, c.in_ok-max_stack.place.at, c.in_ok-max_stack.place.rest.now) c.in_ok-max_stack.ensures
    (stops_later c.in_err-_table.field-0.0 file.u2 _ c.in_ok-max_stack.place.at c.in_ok-max_stack.place.rest.now (index_view c.in_ok-max_locals.max_locals, c.in_ok-max_locals.place.at, c.in_ok-max_locals.place.rest.now) c.in_ok-max_locals.ensures
    (stops_later c.in_err-_table.field-0.0 file.u4 _ c.in_ok-max_locals.place.at c.in_ok-max_locals.place.rest.now (word_view c.in_ok-length.length, c.in_ok-length.place.at, c.in_ok-length.place.rest.now) c.in_ok-length.ensures
    (stops_later c.in_err-_table.field-0.0 (file.run c.in_ok-length.length.value) _ c.in_ok-length.place.at c.in_ok-length.place.rest.now (bytes_view c.in_ok-bytes.bytes, c.in_ok-bytes.place.at, c.in_ok-bytes.place.rest.now) c.in_ok-bytes.ensures
    (stops_later c.in_err-_table.field-0.0 file.u2 _ c.in_ok-bytes.place.at c.in_ok-bytes.place.rest.now (index_view c.in_ok-handlers.handlers, c.in_ok-handlers.place.at, c.in_ok-handlers.place.rest.now) c.in_ok-handlers.ensures
    (stops_first (found bytes_view) c.in_err-_table.field-0.0 (file.run (8 * c.in_ok-handlers.handlers.value)) _ c.in_ok-handlers.place.at c.in_ok-handlers.place.rest.now c.in_err-_table.ensures))))))

pub returns-in_err-_attributes : goal.returns-in_err-_attributes
unfolding code
returns-in_err-_attributes c =
    let p = err_from_is_err_and c.from_residual-in_err-_attributes.result c.from_residual-in_err-_attributes.ensures.1 in
    rw (p.1, p.2)
    (stops_later c.in_err-_attributes.field-0.0 file.u2 _ c.args.place.at c.args.place.rest.now (index_view c.in_ok-max_stack.max_stack, c.in_ok-max_stack.place.at, c.in_ok-max_stack.place.rest.now) c.in_ok-max_stack.ensures
    (stops_later c.in_err-_attributes.field-0.0 file.u2 _ c.in_ok-max_stack.place.at c.in_ok-max_stack.place.rest.now (index_view c.in_ok-max_locals.max_locals, c.in_ok-max_locals.place.at, c.in_ok-max_locals.place.rest.now) c.in_ok-max_locals.ensures
    (stops_later c.in_err-_attributes.field-0.0 file.u4 _ c.in_ok-max_locals.place.at c.in_ok-max_locals.place.rest.now (word_view c.in_ok-length.length, c.in_ok-length.place.at, c.in_ok-length.place.rest.now) c.in_ok-length.ensures
    (stops_later c.in_err-_attributes.field-0.0 (file.run c.in_ok-length.length.value) _ c.in_ok-length.place.at c.in_ok-length.place.rest.now (bytes_view c.in_ok-bytes.bytes, c.in_ok-bytes.place.at, c.in_ok-bytes.place.rest.now) c.in_ok-bytes.ensures
    (stops_later c.in_err-_attributes.field-0.0 file.u2 _ c.in_ok-bytes.place.at c.in_ok-bytes.place.rest.now (index_view c.in_ok-handlers.handlers, c.in_ok-handlers.place.at, c.in_ok-handlers.place.rest.now) c.in_ok-handlers.ensures
    (stops_later c.in_err-_attributes.field-0.0 (file.run (8 * c.in_ok-handlers.handlers.value)) _ c.in_ok-handlers.place.at c.in_ok-handlers.place.rest.now (bytes_view c.in_ok-_table._table, c.in_ok-_table.place.at, c.in_ok-_table.place.rest.now) c.in_ok-_table.ensures
    (stops_first (found attributes_of) c.in_err-_attributes.field-0.0 (file.counted file.attribute) _ c.in_ok-_table.place.at c.in_ok-_table.place.rest.now c.in_err-_attributes.ensures)))))))

pub returns : goal.returns
unfolding code
returns c =
    (step_ok file.u2 _ c.args.place.at c.args.place.rest.now (index_view c.in_ok-max_stack.max_stack, c.in_ok-max_stack.place.at, c.in_ok-max_stack.place.rest.now) _ c.in_ok-max_stack.ensures
    (step_ok file.u2 _ c.in_ok-max_stack.place.at c.in_ok-max_stack.place.rest.now (index_view c.in_ok-max_locals.max_locals, c.in_ok-max_locals.place.at, c.in_ok-max_locals.place.rest.now) _ c.in_ok-max_locals.ensures
    (step_ok file.u4 _ c.in_ok-max_locals.place.at c.in_ok-max_locals.place.rest.now (word_view c.in_ok-length.length, c.in_ok-length.place.at, c.in_ok-length.place.rest.now) _ c.in_ok-length.ensures
    (step_ok (file.run c.in_ok-length.length.value) _ c.in_ok-length.place.at c.in_ok-length.place.rest.now (bytes_view c.in_ok-bytes.bytes, c.in_ok-bytes.place.at, c.in_ok-bytes.place.rest.now) _ c.in_ok-bytes.ensures
    (step_ok file.u2 _ c.in_ok-bytes.place.at c.in_ok-bytes.place.rest.now (index_view c.in_ok-handlers.handlers, c.in_ok-handlers.place.at, c.in_ok-handlers.place.rest.now) _ c.in_ok-handlers.ensures
    (step_ok (file.run (8 * c.in_ok-handlers.handlers.value)) _ c.in_ok-handlers.place.at c.in_ok-handlers.place.rest.now (bytes_view c.in_ok-_table._table, c.in_ok-_table.place.at, c.in_ok-_table.place.rest.now) _ c.in_ok-_table.ensures
    (step_ok (file.counted file.attribute) _ c.in_ok-_table.place.at c.in_ok-_table.place.rest.now (attributes_view c.in_ok-_attributes._attributes.items, c.in_ok-_attributes.place.at, c.in_ok-_attributes.place.rest.now) _ c.in_ok-_attributes.ensures
    (read_whole _ c.in_ok-_attributes.place.at c.in_ok-_attributes.place.rest.now))))))))

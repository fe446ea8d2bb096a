use Rattle.std.proofs.lemmas.Result.{err_from_is_err_and}
use Rattle.th_syntax.specs.ClassBytes as file
use Rattle.th_syntax.specs.ClassBytes.{attribute, member, code, class_file}
use Rattle.th_syntax.proofs.ReadingParts.{step_ok, read_whole}
use Rattle.th_reader.specs.RawView.{index_view, word_view, bytes_view}
use Rattle.th_reader.specs.Reads.{found}
use Rattle.th_reader.proofs.Stopping.{stops_first, stops_later}
use Rattle.th_reader.proofs.layout.read_attribute.Goals as goal

pub returns-in_err-name : goal.returns-in_err-name
unfolding attribute
returns-in_err-name c =
    let p = err_from_is_err_and c.from_residual.result c.from_residual.ensures.1 in
    rw (p.1, p.2)
    (stops_first (found index_view) c.in_err-name.field-0.0 file.u2 _ c.args.place.at c.args.place.rest.now c.in_err-name.ensures)

pub returns-in_err-length : goal.returns-in_err-length
unfolding attribute
returns-in_err-length c =
    let p = err_from_is_err_and c.from_residual-in_err-length.result c.from_residual-in_err-length.ensures.1 in
    rw (p.1, p.2)
    (stops_later c.in_err-length.field-0.0 file.u2 _ c.args.place.at c.args.place.rest.now (index_view c.in_ok-name.name, c.in_ok-name.place.at, c.in_ok-name.place.rest.now) c.in_ok-name.ensures
    (stops_first (found word_view) c.in_err-length.field-0.0 file.u4 _ c.in_ok-name.place.at c.in_ok-name.place.rest.now c.in_err-length.ensures))

pub returns-in_err-content : goal.returns-in_err-content
unfolding attribute
returns-in_err-content c =
    let p = err_from_is_err_and c.from_residual-in_err-content.result c.from_residual-in_err-content.ensures.1 in
    rw (p.1, p.2)
    (stops_later c.in_err-content.field-0.0 file.u2 _ c.args.place.at c.args.place.rest.now (index_view c.in_ok-name.name, c.in_ok-name.place.at, c.in_ok-name.place.rest.now) c.in_ok-name.ensures
    (stops_later c.in_err-content.field-0.0 file.u4 _ c.in_ok-name.place.at c.in_ok-name.place.rest.now (word_view c.in_ok-length.length, c.in_ok-length.place.at, c.in_ok-length.place.rest.now) c.in_ok-length.ensures
    (stops_first (found bytes_view) c.in_err-content.field-0.0 (file.run c.in_ok-length.length.value) _ c.in_ok-length.place.at c.in_ok-length.place.rest.now c.in_err-content.ensures)))

pub returns : goal.returns
unfolding attribute
returns c =
    (step_ok file.u2 _ c.args.place.at c.args.place.rest.now (index_view c.in_ok-name.name, c.in_ok-name.place.at, c.in_ok-name.place.rest.now) _ c.in_ok-name.ensures
    (step_ok file.u4 _ c.in_ok-name.place.at c.in_ok-name.place.rest.now (word_view c.in_ok-length.length, c.in_ok-length.place.at, c.in_ok-length.place.rest.now) _ c.in_ok-length.ensures
    (step_ok (file.run c.in_ok-length.length.value) _ c.in_ok-length.place.at c.in_ok-length.place.rest.now (bytes_view c.in_ok-content.content, c.in_ok-content.place.at, c.in_ok-content.place.rest.now) _ c.in_ok-content.ensures
    (read_whole _ c.in_ok-content.place.at c.in_ok-content.place.rest.now))))
